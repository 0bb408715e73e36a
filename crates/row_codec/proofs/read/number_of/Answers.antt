use Rattle.std.proofs.Common.{◌≡◌, ℕ, List, ◌++◌, length, take, ap, ◌∙◌, length-append, arith}
use Rattle.std.proofs.lemmas.List.{take_at}
use Rattle.key_codec.specs.Numbers.{u64_bytes}
use Rattle.key_codec.proofs.Lengths.{length-u64_bytes}
use Rattle.row_codec.proofs.Parts.{none_from}
use Rattle.row_codec.proofs.read.number_of.Goals as goal

pub returns-then-bytes-lt8-clause-none : goal.returns-then-bytes-lt8-clause-none
returns-then-bytes-lt8-clause-none c = λ n rest e. omega (arith, ap length e, length-append (u64_bytes n) rest, length-u64_bytes n)

pub returns-in_err-number-clause-none : goal.returns-in_err-number-clause-none
returns-in_err-number-clause-none c =
    let none : (n : ℕ) (rest : List ℕ) → c.args.bytes.now ≡ u64_bytes n ++ rest → ⊥ = λ n rest e. c.in_err-number.ensures.none n (c.split_at.ensures.front ∙ ap (take 8) e ∙ take_at (u64_bytes n) rest 8 (length-u64_bytes n)) in
    none_from c.from_residual.result _ none
