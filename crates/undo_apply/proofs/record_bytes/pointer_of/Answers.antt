use Rattle.std.proofs.Common.{arith, ◌≡◌, ℕ, ◌≤◌, Bool, List, ◌∷◌, ◌++◌, length, length-append, take, drop, sym, ap, ◌∙◌}
use Rattle.std.proofs.lemmas.List.{take_at, drop_at}
use Rattle.key_codec.specs.Numbers.{u64_bytes}
use Rattle.key_codec.proofs.{Lengths.length-u64_bytes, Once.same_u64}
use Rattle.row_codec.specs.Rows.{head_code, mark_code}
use Rattle.row_codec.proofs.Parts.{length-head_code, head_parts}
use Rattle.undo_apply.proofs.record_bytes.pointer_of.Goals as goal

head_long : (value : List ℕ) (marked : Bool) (writer pointer : ℕ) (fields : List ℕ) → value ≡ head_code marked writer pointer ++ fields → 17 ≤ length value
head_long value marked writer pointer fields is =
    omega (arith, ap length is, length-append (head_code marked writer pointer) fields, length-head_code marked writer pointer)

pointer_stands : (value : List ℕ) (marked : Bool) (writer pointer : ℕ) (fields : List ℕ) → value ≡ head_code marked writer pointer ++ fields
    → take 8 (drop 9 value) ≡ u64_bytes pointer
pointer_stands value marked writer pointer fields is =
    let front = mark_code marked ∷ u64_bytes writer in
    let rest = u64_bytes pointer ++ fields in
    let len : length front ≡ 9 = omega (arith, length-u64_bytes writer) in
    rw (is, head_parts marked writer pointer fields, drop_at front rest 9 len) (take_at (u64_bytes pointer) fields 8 (length-u64_bytes pointer))

pub returns-then-value-lt17 : goal.returns-then-value-lt17
returns-then-value-lt17 c = λ marked writer pointer fields small is. absurd (omega (arith, head_long c.args.value.now marked writer pointer fields is))

pub returns-in-Some : goal.returns-in-Some
returns-in-Some c = λ marked writer pointer fields small is.
    same_u64 c.in-Some.pointer pointer (omega arith) small
    (sym c.in-Some.ensures.found ∙ pointer_stands c.args.value.now marked writer pointer fields is)

pub returns-in-None : goal.returns-in-None
returns-in-None c = λ marked writer pointer fields small is.
    absurd (c.in-None.ensures.none pointer (pointer_stands c.args.value.now marked writer pointer fields is))
