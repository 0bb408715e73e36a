-- What follows from the answer of a call that appends.
use Rattle.std.proofs.Common.{◌≡◌, ◌∙◌, ℕ, ◌+◌, ◌<◌, cond, List, ◌++◌, ap, subst}
use Rattle.std.specs.Prelude.{Result, Ok, Err, is_ok, OnOk, OnErr}

-- what stands there after an append that went well
pub appended : {T E : Type 0} (result : Result T E) (now was more want : List ℕ) → now ≡ cond (is_ok result) (was ++ more) was → more ≡ want → OnOk result (now ≡ was ++ want)
appended (Ok x) now was more want is same = is ∙ ap (λ (l : List ℕ). was ++ l) same
appended (Err e) now was more want is same = tt

-- the same bytes by another name
pub renamed : {T E : Type 0} (result : Result T E) (now was more want : List ℕ) → OnOk result (now ≡ was ++ more) → more ≡ want → OnOk result (now ≡ was ++ want)
renamed result now was more want is same = subst (λ (l : List ℕ). OnOk result (now ≡ was ++ l)) same is

-- and the same number of them
pub as_many : {T E : Type 0} (result : Result T E) (room was n m : ℕ) → OnErr result (room < was + n) → n ≡ m → OnErr result (room < was + m)
as_many result room was n m is same = subst (λ (k : ℕ). OnErr result (room < was + k)) same is
