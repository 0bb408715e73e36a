-- The record at a place of a page.
use Rattle.std.proofs.Common.{◌≡◌, ℕ, zero, suc, ◌+◌, ◌*◌, ◌<◌, ◌≤◌, List, [], take, drop, get_or, sym, ap, ◌∙◌, arith}
use Rattle.std.proofs.lemmas.List.{drop-drop, take-take}
use Rattle.page_format.specs.Words.{pieces, records_of, record_len_of, count_of}

get_or-pieces : (width n i : ℕ) (bytes : List ℕ) → i < n → get_or (pieces width n bytes) i [] ≡ take width (drop (i * width) bytes)
get_or-pieces width zero i bytes inside = absurd (omega (arith, inside))
get_or-pieces width (suc n) zero bytes inside = let none : 0 * width ≡ 0 = omega arith in ap (λ (k : ℕ). take width (drop k bytes)) (sym none)
get_or-pieces width (suc n) (suc i) bytes inside =
    get_or-pieces width n i (drop width bytes) (omega (arith, inside)) ∙ ap (take width) (drop-drop (i * width) width bytes) ∙ ap (λ (k : ℕ). take width (drop k bytes)) (omega arith)

-- a record, as it stands in the page
pub record_of : (bytes : List ℕ) (i : ℕ) → i < count_of bytes → take (record_len_of bytes) (drop (208 + i * record_len_of bytes) bytes) ≡ get_or (records_of bytes) i []
record_of bytes i inside =
    let width = record_len_of bytes in
    sym (get_or-pieces width (count_of bytes) i (drop 208 bytes) inside ∙ ap (take width) (drop-drop (i * width) 208 bytes))

-- the first bytes of a record, as they stand in the page
pub front_of : (bytes : List ℕ) (i n : ℕ) → i < count_of bytes → n ≤ record_len_of bytes → take n (drop (208 + i * record_len_of bytes) bytes) ≡ take n (get_or (records_of bytes) i [])
front_of bytes i n inside short =
    let here = get_or-pieces (record_len_of bytes) (count_of bytes) i (drop 208 bytes) inside in
    sym (ap (take n) here ∙ take-take n (record_len_of bytes) (drop (i * record_len_of bytes) (drop 208 bytes)) short ∙ ap (take n) (drop-drop (i * record_len_of bytes) 208 bytes))
