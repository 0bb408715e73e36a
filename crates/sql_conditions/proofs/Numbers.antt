-- More digits never make a number smaller.
use Rattle.std.proofs.Common.{◌≡◌, ℕ, ◌+◌, ◌-◌, ◌*◌, ◌<◌, ◌≤◌, List, [], ◌∷◌, length, take, drop, get_or, sym, ap, ◌∙◌, arith}
use Rattle.std.specs.List.{fold}
use Rattle.std.proofs.lemmas.List.Sums.{fold-append, fold_more}
use Rattle.std.proofs.Math.ListN.{take-append-drop}
use Rattle.sql_grammar.specs.Grammar.{number_of}

abbrev next : ℕ → ℕ → ℕ
next n digit = 10 * n + (digit - 48)

grows : (n : ℕ) (digits : List ℕ) → n ≤ fold next n digits
grows n [] = omega arith
grows n (d ∷ digits) = omega (arith, grows (next n d) digits)

pub number_front : (digits : List ℕ) (i : ℕ) → number_of (take i digits) ≤ number_of digits
number_front digits i =
    let whole : fold next 0 digits ≡ fold next (fold next 0 (take i digits)) (drop i digits) = ap (fold next 0) (sym (take-append-drop i digits)) ∙ fold-append next 0 (take i digits) (drop i digits) in
    omega (arith, whole, grows (fold next 0 (take i digits)) (drop i digits))

pub number_more : (digits : List ℕ) (i d : ℕ) → i < length digits → number_of (take (i + 1) digits) ≡ 10 * number_of (take i digits) + (get_or digits i d - 48)
number_more digits i d h = fold_more next 0 digits i d h

pub ruleset numbers = (number_front, number_more)
