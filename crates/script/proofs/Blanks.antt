-- A blank takes at least one byte.
use Rattle.std.proofs.Common.{◌≡◌, ℕ, suc, ◌<◌, ◌≤◌, List, [], ◌∷◌, length, drop, Option, Some, IfSome, subst, arith, length-drop}
use Rattle.sql_grammar.specs.Tokens as spelled

line_step : (b : ℕ) (bytes : List ℕ) → length (spelled.after_line bytes) ≤ length bytes → length (spelled.after_line (b ∷ bytes)) ≤ suc (length bytes)
unfolding spelled.after_line
line_step b bytes h = grind arith

line_shorter : (bytes : List ℕ) → length (spelled.after_line bytes) ≤ length bytes
unfolding spelled.after_line
line_shorter [] = omega arith
line_shorter (b ∷ bytes) = line_step b bytes (line_shorter bytes)

comment_step : (b : ℕ) (bytes : List ℕ) → IfSome (spelled.after_comment bytes) (λ r. length r ≤ length bytes) → IfSome (spelled.after_comment (b ∷ bytes)) (λ r. length r ≤ suc (length bytes))
unfolding spelled.after_comment
comment_step b bytes h = grind (arith, length-drop)

comment_shorter : (bytes : List ℕ) → IfSome (spelled.after_comment bytes) (λ r. length r ≤ length bytes)
unfolding spelled.after_comment
comment_shorter [] = tt
comment_shorter (b ∷ bytes) = comment_step b bytes (comment_shorter bytes)

blank_within : (b : ℕ) (bytes : List ℕ) → IfSome (spelled.after_blank (b ∷ bytes)) (λ r. length r ≤ length bytes)
unfolding spelled.after_blank
blank_within b bytes =
    let line = line_shorter bytes in
    let comment = comment_shorter (drop 1 bytes) in
    grind (arith, length-drop)

no_blank : (rest : List ℕ) → spelled.after_blank [] ≡ Some rest → ⊥
unfolding spelled.after_blank
no_blank rest e = cc

pub blank_shorter : (bytes rest : List ℕ) → spelled.after_blank bytes ≡ Some rest → length rest < length bytes
blank_shorter [] rest e = absurd (no_blank rest e)
blank_shorter (b ∷ bytes) rest e =
    let h : length rest ≤ length bytes = subst (λ (r : Option (List ℕ)). IfSome r (λ r. length r ≤ length bytes)) e (blank_within b bytes) in
    omega arith
