-- Pages in an area by their bytes, and what a write makes of them.
use Rattle.std.proofs.Common.{◌≡◌, ◌⊎◌, inl, inr, ⊎_elim, ℕ, ◌+◌, ◌-◌, ◌*◌, ◌<◌, ◌≤◌, List, ◌++◌, length, take, drop, replicate, get_or, refl, sym, ◌∙◌, ap, arith, append_assoc, length-append, length-drop, get_or-take, get_or-drop}
use Rattle.std.proofs.lemmas.Bool.{cases_lt}
use Rattle.std.proofs.lemmas.List.{take_at, drop_at, take-append-le, length-take-le, length-replicate, get_or-replicate, get_or_past, get_or_append_left, get_or-append_right, ext_get_or}
use Rattle.store_api.proofs.Overwritten.{missed, length-overwritten}
use Rattle.store_api.specs.Areas.{piece, write_of, overwritten, end_of}
use Rattle.doublewrite.specs.Kept.{filled}

pub length-page : (k : ℕ) (xs : List ℕ) → 4096 * k + 4096 ≤ length xs → length (piece 4096 k xs) ≡ 4096
length-page k xs within = length-take-le 4096 (drop (4096 * k) xs) (omega (arith, length-drop (4096 * k) xs, within))

pub length-filled : (k : ℕ) (xs : List ℕ) → length (filled k xs) ≡ 4096
length-filled k xs =
    length-take-le 4096 (drop (4096 * k) xs ++ replicate 4096 0) (omega (arith, length-append (drop (4096 * k) xs) (replicate 4096 0), length-replicate {A = ℕ} 4096 0))

filled_at : (k i : ℕ) (xs : List ℕ) → i < 4096 → get_or (filled k xs) i 0 ≡ get_or xs (4096 * k + i) 0
filled_at k i xs below =
    let rest = drop (4096 * k) xs in
    let long = length-drop (4096 * k) xs in
    get_or-take 4096 (rest ++ replicate 4096 0) i 0 below
    ∙ ⊎_elim
    (λ (there : i < length rest). get_or_append_left rest (replicate 4096 0) 0 i there ∙ get_or-drop (4096 * k) xs i 0)
    (λ (past : length rest ≤ i).
    get_or-append_right rest (replicate 4096 0) (length rest) i 0 refl past ∙ get_or-replicate 4096 (i - length rest) 0 0 (omega (arith, below))
    ∙ sym (get_or_past xs (4096 * k + i) 0 (omega (arith, past, long))))
    (cases_lt i (length rest))

-- only the bytes of its place matter
pub filled_same : (k : ℕ) (xs ys : List ℕ) → ((i : ℕ) → 4096 * k ≤ i → i < 4096 * k + 4096 → get_or xs i 0 ≡ get_or ys i 0) → filled k xs ≡ filled k ys
filled_same k xs ys each =
    ext_get_or 0 (filled k xs) (filled k ys) (length-filled k xs ∙ sym (length-filled k ys))
    (λ i below.
    let lt : i < 4096 = omega (arith, below, length-filled k xs) in
    filled_at k i xs lt ∙ each (4096 * k + i) (omega arith) (omega (arith, lt)) ∙ sym (filled_at k i ys lt))

pub filled_whole : (k : ℕ) (xs : List ℕ) → 4096 * k + 4096 ≤ length xs → filled k xs ≡ piece 4096 k xs
filled_whole k xs within = take-append-le 4096 (drop (4096 * k) xs) (replicate 4096 0) (omega (arith, within, length-drop (4096 * k) xs))

-- ---- a write

pub length-gap : (at : ℕ) (seen : List ℕ) → length {A = ℕ} (replicate (at - length seen) 0) ≡ at - length seen
length-gap at seen = length-replicate (at - length seen) 0

pub end_is : (seen : List ℕ) (at : ℕ) (bytes : List ℕ) → end_of (write_of seen at bytes) ≡ at + length bytes
end_is seen at bytes = omega (arith, length-append (replicate (at - length seen) 0) bytes, length-gap at seen)

-- bytes that aren't written stay as they were, or zeros past the end
pub untouched : (seen : List ℕ) (at : ℕ) (bytes : List ℕ) (i : ℕ) → (i < at) ⊎ (at + length bytes ≤ i) → get_or (overwritten seen (write_of seen at bytes)) i 0 ≡ get_or seen i 0
untouched seen at bytes i misses =
    let w = write_of seen at bytes in
    let end = end_is seen at bytes in
    let long = length-overwritten seen w (omega arith) in
    let gap : List ℕ = replicate (at - length seen) 0 in
    let front = length-take-le w.at seen (omega arith) in
    let rest = drop (w.at + length w.bytes) seen in
    ⊎_elim
    (λ (there : i < length seen). missed seen w i (omega arith) there (⊎_elim (λ (before : i < at). inl (omega (arith, before, there))) (λ (behind : at + length bytes ≤ i). inr (omega (arith, behind, end))) misses))
    (λ (past : length seen ≤ i).
    ⊎_elim
    (λ (before : i < at).
    let start : w.at ≡ length seen = omega (arith, before, past) in
    let head = length-append (take w.at seen) w.bytes in
    let both = length-append gap bytes in
    get_or_append_left (take w.at seen ++ w.bytes) rest 0 i (omega (arith, head, front, both, length-gap at seen, before, past, start))
    ∙ get_or-append_right (take w.at seen) w.bytes (length seen) i 0 (omega (arith, front, start)) past
    ∙ get_or_append_left gap bytes 0 (i - length seen) (omega (arith, length-gap at seen, before, past))
    ∙ get_or-replicate (at - length seen) (i - length seen) 0 0 (omega (arith, before, past))
    ∙ sym (get_or_past seen i 0 past))
    (λ (behind : at + length bytes ≤ i). get_or_past (overwritten seen w) i 0 (omega (arith, long, end, behind, past)) ∙ sym (get_or_past seen i 0 past))
    misses)
    (cases_lt i (length seen))

-- what is written stands there then
pub written_there : (k : ℕ) (seen bytes : List ℕ) → length bytes ≡ 4096 → piece 4096 k (overwritten seen (write_of seen (4096 * k) bytes)) ≡ bytes
written_there k seen bytes size =
    let w = write_of seen (4096 * k) bytes in
    let gap : List ℕ = replicate (4096 * k - length seen) 0 in
    let rest = drop (w.at + length w.bytes) seen in
    let front = take w.at seen ++ gap in
    let long : length front ≡ 4096 * k = omega (arith, length-append (take w.at seen) gap, length-gap (4096 * k) seen, length-take-le w.at seen (omega arith)) in
    let whole : overwritten seen w ≡ front ++ (bytes ++ rest) =
    ap (λ (l : List ℕ). l ++ rest) (sym (append_assoc (take w.at seen) gap bytes)) ∙ append_assoc front bytes rest in
    ap (λ (l : List ℕ). take 4096 (drop (4096 * k) l)) whole ∙ ap (take 4096) (drop_at front (bytes ++ rest) (4096 * k) long) ∙ take_at bytes rest 4096 size

-- the area is no shorter then
pub length-written : (seen : List ℕ) (at : ℕ) (bytes : List ℕ) → length seen ≤ length (overwritten seen (write_of seen at bytes))
length-written seen at bytes = omega (arith, length-overwritten seen (write_of seen at bytes) (omega arith))
