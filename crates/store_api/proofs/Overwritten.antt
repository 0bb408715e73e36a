-- The bytes of an area after a write: how many they are, and those that it missed.
use Rattle.std.specs.Prelude.{◌≡◌, ℕ, ◌+◌, ◌-◌, ◌<◌, ◌≤◌, max, List, ◌++◌, length, take, drop, slice_index}
use Rattle.std.proofs.Common.{⊎_elim, ◌∙◌, ap, arith, get_or, length-append, length-drop, get_or-take, get_or-drop}
use Rattle.std.proofs.lemmas.List.{get_or_append_left, get_or-append_right, length-take-le}
use Rattle.store_api.specs.Areas.{Misses, Write, end_of, overwritten}

pub length-overwritten : (old : List ℕ) (w : Write) → w.at ≤ length old → length (overwritten old w) ≡ max (length old) (end_of w)
length-overwritten old w within =
    omega (arith, length-append (take w.at old ++ w.bytes) (drop (w.at + length w.bytes) old), length-append (take w.at old) w.bytes, length-take-le w.at old within, length-drop (w.at + length w.bytes) old)

-- other bytes stay
pub missed : (old : List ℕ) (w : Write) (i : ℕ) → w.at ≤ length old → i < length old → Misses i w → slice_index (overwritten old w) i ≡ slice_index old i
missed old w i within inside misses =
    let front = length-take-le w.at old within in
    let head = length-append (take w.at old) w.bytes in
    let rest = drop (w.at + length w.bytes) old in
    ⊎_elim
    (λ (before : i < w.at).
    get_or_append_left (take w.at old ++ w.bytes) rest 0 i (omega (arith, head, front)) ∙ get_or_append_left (take w.at old) w.bytes 0 i (omega (arith, front)) ∙ get_or-take w.at old i 0 before)
    (λ (behind : end_of w ≤ i).
    let place : w.at + length w.bytes + (i - (w.at + length w.bytes)) ≡ i = omega (arith, behind) in
    get_or-append_right (take w.at old ++ w.bytes) rest (w.at + length w.bytes) i 0 (omega (arith, head, front)) behind
    ∙ get_or-drop (w.at + length w.bytes) old (i - (w.at + length w.bytes)) 0 ∙ ap (λ (n : ℕ). get_or old n 0) place)
    misses
