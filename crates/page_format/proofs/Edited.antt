-- A tree page whose records and their count are changed, and nothing else.
use Rattle.std.proofs.Common.{◌≡◌, ℕ, ◌+◌, ◌-◌, ◌*◌, ◌^◌, ◌<◌, ◌≤◌, List, [], ◌∷◌, ◌++◌, length, take, drop, get_or, set, refl, sym, ap, subst, ◌∙◌, length-append, arith}
use Rattle.std.specs.Prelude.{slice_index, if◌then◌else◌, ◌==◌}
use Rattle.std.specs.Int.{w16, to_be_bytes, from_be_bytes}
use Rattle.std.specs.List.{concat}
use Rattle.std.proofs.lemmas.List.{length-set, take_at, drop_at, take-take, drop-take, drop-drop, take-append-le, drop-append-le, get_or-take, get_or-drop, length-take-le, length-drop}
use Rattle.std.proofs.lemmas.Nat.{from_be_bytes-to_be_bytes_2}
use Rattle.page_format.specs.Words.{kind_of, level_of, count_of, record_len_of, records_of, pieces}
use Rattle.stored_pages.specs.Words.{u16_at}
use Rattle.page_format.specs.Changes.{KeepsFields, with_byte}
use Rattle.page_format.specs.Shape.{HasTreeFields}
use Rattle.std.specs.Prelude.{insert, remove, replicate}
use Rattle.std.proofs.Math.Nat.{le-mul_of_pos_right, mul-le-mul_right}
use Rattle.std.proofs.lemmas.List.Edits.{length-insert, length-remove}
use Rattle.page_format.proofs.Bodies.{insert_body, remove_body, marked_body, first_body, last_body}
use Rattle.page_format.proofs.Pieces.{IsBody, pieces-concat, length-pieces, wide-pieces, concat-pieces, length-concat}

-- parts of equal fronts are equal
pub same_part : (a b : List ℕ) (at size n : ℕ) → at + size ≤ n → take n a ≡ take n b → take size (drop at a) ≡ take size (drop at b)
same_part a b at size n inside e =
    let fronts : take (at + size) a ≡ take (at + size) b = sym (take-take (at + size) n a inside) ∙ ap (take (at + size)) e ∙ take-take (at + size) n b inside in
    sym (drop-take at size a) ∙ ap (drop at) fronts ∙ drop-take at size b

pub byte_is : (bytes : List ℕ) (at : ℕ) → get_or bytes at 0 ≡ get_or (take 1 (drop at bytes)) 0 0
byte_is bytes at =
    let here : at + 0 ≡ at = omega arith in
    sym (get_or-take 1 (drop at bytes) 0 0 (omega arith) ∙ get_or-drop at bytes 0 0 ∙ ap (λ (k : ℕ). get_or bytes k 0) here)

pub same_byte : (a b : List ℕ) (at n : ℕ) → at < n → take n a ≡ take n b → get_or a at 0 ≡ get_or b at 0
same_byte a b at n inside e = byte_is a at ∙ ap (λ (l : List ℕ). get_or l 0 0) (same_part a b at 1 n (omega (arith, inside)) e) ∙ sym (byte_is b at)

pub middle_part : (old new : List ℕ) (at size : ℕ) → at + size ≤ 184 → KeepsFields old new → take size (drop (24 + at) new) ≡ take size (drop (24 + at) old)
middle_part old new at size inside keeps =
    ap (take size) (sym (drop-drop at 24 new)) ∙ same_part (drop 24 new) (drop 24 old) at size 184 inside keeps.middle ∙ ap (take size) (drop-drop at 24 old)

pub middle_byte : (old new : List ℕ) (at : ℕ) → at < 184 → KeepsFields old new → get_or new (24 + at) 0 ≡ get_or old (24 + at) 0
middle_byte old new at inside keeps = byte_is new (24 + at) ∙ ap (λ (l : List ℕ). get_or l 0 0) (middle_part old new at 1 (omega (arith, inside)) keeps) ∙ sym (byte_is old (24 + at))

pub same_width : (old new : List ℕ) → KeepsFields old new → record_len_of new ≡ record_len_of old
unfolding u16_at
same_width old new keeps = ap (from_be_bytes w16) (middle_part old new 8 2 (omega arith) keeps)

pub body_of : (bytes : List ℕ) → length bytes ≡ 4096 → HasTreeFields bytes → IsBody (record_len_of bytes) (records_of bytes) (drop 208 bytes)
body_of bytes size fields =
    let width = record_len_of bytes in
    let count = count_of bytes in
    let room : count * width ≤ length (drop 208 bytes) = omega (arith, length-drop 208 bytes, fields.inside, size) in
    record {
      wide = wide-pieces width count (drop 208 bytes) room;
      rest = drop (count * width) (drop 208 bytes);
      whole = concat-pieces width count (drop 208 bytes) room;
      zeros = rw (drop-drop (count * width) 208 bytes) fields.rest;
    }

-- the page that has these records in place of the old ones
pub edited : (old new : List ℕ) (records : List (List ℕ)) → HasTreeFields old → KeepsFields old new → count_of new ≡ length records → 208 + length records * record_len_of old ≤ 4096 → IsBody (record_len_of old) records (drop 208 new)
    → HasTreeFields new × (records_of new ≡ records)
edited old new records fields keeps count_is room body =
    let width = same_width old new keeps in
    let kind : kind_of new ≡ kind_of old = same_byte new old 20 22 (omega arith) keeps.head in
    let level : level_of new ≡ level_of old = same_byte new old 21 22 (omega arith) keeps.head in
    let low_len : slice_index new 34 ≡ slice_index old 34 = middle_byte old new 10 (omega arith) keeps in
    let high_len : slice_index new 35 ≡ slice_index old 35 = middle_byte old new 11 (omega arith) keeps in
    let low : take 80 (drop 36 new) ≡ take 80 (drop 36 old) = middle_part old new 12 80 (omega arith) keeps in
    let high : take 80 (drop 116 new) ≡ take 80 (drop 116 old) = middle_part old new 92 80 (omega arith) keeps in
    let gap : take 12 (drop 196 new) ≡ take 12 (drop 196 old) = middle_part old new 172 12 (omega arith) keeps in
    let used : count_of new * record_len_of new ≡ length records * record_len_of old = λ i. count_is i * width i in
    let rest : drop (208 + count_of new * record_len_of new) new ≡ body.rest =
    ap (λ (k : ℕ). drop (208 + k) new) used ∙ sym (drop-drop (length records * record_len_of old) 208 new) ∙ ap (drop (length records * record_len_of old)) body.whole
    ∙ drop_at (concat records) body.rest (length records * record_len_of old) (length-concat (record_len_of old) records body.wide) in (
      record {
        level = kind ∙ fields.level ∙ ap (λ (l : ℕ). if l == 0 then 3 else 4) (sym level);
        depth = omega (arith, level, fields.depth);
        width = omega (arith, width, fields.width);
        inside = rw used room;
        low = rw (low_len, low) fields.low;
        high = rw (high_len, high) fields.high;
        gap = rw gap fields.gap;
        rest = rw rest body.zeros;
      },
      (λ i. pieces (width i) (count_is i) (body.whole i)) ∙ pieces-concat (record_len_of old) records body.rest body.wide,
    )

-- ---- a new count, and records from a place on

pub counted : (old new final tail : List ℕ) (k n : ℕ) → length old ≡ 4096 → 208 + k ≤ 4096 → n < 2 ^ 16 → new ≡ take (208 + k) old ++ tail → final ≡ take 22 new ++ (to_be_bytes w16 n ++ drop 24 new)
    → KeepsFields old final × (count_of final ≡ n) × (drop 208 final ≡ take k (drop 208 old) ++ tail)
unfolding u16_at
counted old new final tail k n size inside n_fits new_is final_is =
    let kept : length (take (208 + k) old) ≡ 208 + k = length-take-le (208 + k) old (omega (arith, size, inside)) in
    let front : take 208 new ≡ take 208 old = ap (take 208) new_is ∙ take-append-le 208 (take (208 + k) old) tail (omega (arith, kept)) ∙ take-take 208 (208 + k) old (omega arith) in
    let long : 208 ≤ length new = omega (arith, ap length new_is, length-append (take (208 + k) old) tail, kept) in
    let head_length : length (take 22 new) ≡ 22 = length-take-le 22 new (omega (arith, long)) in
    let number = to_be_bytes w16 n in
    let head : take 22 final ≡ take 22 new = ap (take 22) final_is ∙ take_at (take 22 new) (number ++ drop 24 new) 22 head_length in
    let behind : drop 22 final ≡ number ++ drop 24 new = ap (drop 22) final_is ∙ drop_at (take 22 new) (number ++ drop 24 new) 22 head_length in
    let rest : drop 24 final ≡ drop 24 new = sym (drop-drop 2 22 final) ∙ ap (drop 2) behind in
    let body : drop 208 final ≡ drop 208 new = sym (drop-drop 184 24 final) ∙ ap (drop 184) rest ∙ drop-drop 184 24 new in
    let old_head : take 22 new ≡ take 22 old = sym (take-take 22 208 new (omega arith)) ∙ ap (take 22) front ∙ take-take 22 208 old (omega arith) in (
      record { head = head ∙ old_head; middle = ap (take 184) rest ∙ same_part new old 24 184 208 (omega arith) front },
      ap (λ (l : List ℕ). from_be_bytes w16 (take 2 l)) behind ∙ from_be_bytes-to_be_bytes_2 n n_fits,
      body ∙ ap (drop 208) new_is ∙ drop-append-le 208 (take (208 + k) old) tail (omega (arith, kept)) ∙ ap (λ (l : List ℕ). l ++ tail) (drop-take 208 k old),
    )

-- ---- the edits of records

pub few : (count width : ℕ) → 0 < width → 208 + count * width ≤ 4096 → count ≤ 3888
few count width some room = let small : count ≤ count * width = le-mul_of_pos_right count some in omega (arith, small, room)

pub ordered : (i count width : ℕ) → i ≤ count → 208 + i * width ≤ 208 + count * width
ordered i count width below = let more : i * width ≤ count * width = mul-le-mul_right width below in omega (arith, more)

pub inserted_record : (old new final rec : List ℕ) (i : ℕ) → length old ≡ 4096 → HasTreeFields old → i ≤ count_of old → length rec ≡ record_len_of old → 208 + (count_of old + 1) * record_len_of old ≤ 4096
    → new ≡ take (208 + i * record_len_of old) old ++ (rec ++ (take (208 + count_of old * record_len_of old - (208 + i * record_len_of old)) (drop (208 + i * record_len_of old) old) ++ drop (208 + count_of old * record_len_of old + length rec) old))
    → final ≡ take 22 new ++ (to_be_bytes w16 (count_of old + 1) ++ drop 24 new) → HasTreeFields final × (records_of final ≡ insert (records_of old) i rec) × KeepsFields old final
inserted_record old new final rec i size fields place rec_wide room new_is final_is =
    let width = record_len_of old in
    let count = count_of old in
    let rs = records_of old in
    let body = drop 208 old in
    let rs_length : length rs ≡ count = length-pieces width count body in
    let moved = take (208 + count * width - (208 + i * width)) (drop (208 + i * width) old) in
    let end = drop (208 + count * width + length rec) old in
    let order = ordered i count width place in
    let done = counted old new final (rec ++ (moved ++ end)) (i * width) (count + 1) size (omega (arith, order, fields.inside)) (omega (arith, few (count + 1) width fields.width room)) new_is final_is in
    let moved_is : moved ≡ take (length rs * width - i * width) (drop (i * width) body) =
    (λ j. take (bytes_between j) (sym (drop-drop (i * width) 208 old) j)) in
    let end_is : end ≡ drop (length rs * width + width) body = ap (λ (k : ℕ). drop k old) end_place ∙ sym (drop-drop (length rs * width + width) 208 old) in
    let made = insert_body width i rs rec body moved end (body_of old size fields) (omega (arith, place, rs_length)) rec_wide moved_is end_is in
    let length_is : count + 1 ≡ length (insert rs i rec) = omega (arith, rs_length, length-insert rs i rec (omega (arith, place, rs_length))) in
    let new_room : 208 + length (insert rs i rec) * width ≤ 4096 = rw (← length_is) room in
    let result = edited old final (insert rs i rec) fields done.0 (done.1 ∙ length_is) new_room (subst (λ (l : List ℕ). IsBody width (insert rs i rec) l) (sym done.2) made) in
    (result.0, result.1, done.0)
  where
    bytes_between : 208 + count_of old * record_len_of old - (208 + i * record_len_of old) ≡ length (records_of old) * record_len_of old - i * record_len_of old
    bytes_between = let same : length (records_of old) * record_len_of old ≡ count_of old * record_len_of old = ap (λ (k : ℕ). k * record_len_of old) (length-pieces (record_len_of old) (count_of old) (drop 208 old)) in omega (arith, same)

    end_place : 208 + count_of old * record_len_of old + length rec ≡ 208 + (length (records_of old) * record_len_of old + record_len_of old)
    end_place = let same : length (records_of old) * record_len_of old ≡ count_of old * record_len_of old = ap (λ (k : ℕ). k * record_len_of old) (length-pieces (record_len_of old) (count_of old) (drop 208 old)) in omega (arith, same, rec_wide)

pub removed_record : (old new final : List ℕ) (i : ℕ) → length old ≡ 4096 → HasTreeFields old → i < count_of old
    → new ≡ take (208 + i * record_len_of old) old ++ (take (208 + count_of old * record_len_of old - (208 + i * record_len_of old + record_len_of old)) (drop (208 + i * record_len_of old + record_len_of old) old) ++ (replicate (record_len_of old) 0 ++ drop (208 + count_of old * record_len_of old) old))
    → final ≡ take 22 new ++ (to_be_bytes w16 (count_of old - 1) ++ drop 24 new) → HasTreeFields final × (records_of final ≡ remove (records_of old) i) × KeepsFields old final
removed_record old new final i size fields place new_is final_is =
    let width = record_len_of old in
    let count = count_of old in
    let rs = records_of old in
    let body = drop 208 old in
    let rs_length : length rs ≡ count = length-pieces width count body in
    let bytes : length rs * width ≡ count * width = ap (λ (k : ℕ). k * width) rs_length in
    let moved = take (208 + count * width - (208 + i * width + width)) (drop (208 + i * width + width) old) in
    let end = drop (208 + count * width) old in
    let order = ordered i count width (omega (arith, place)) in
    let done = counted old new final (moved ++ (replicate width 0 ++ end)) (i * width) (count - 1) size (omega (arith, order, fields.inside)) (omega (arith, few count width fields.width fields.inside)) new_is final_is in
    let between : 208 + count * width - (208 + i * width + width) ≡ length rs * width - (i * width + width) = omega (arith, bytes) in
    let start : 208 + i * width + width ≡ 208 + (i * width + width) = omega arith in
    let moved_is : moved ≡ take (length rs * width - (i * width + width)) (drop (i * width + width) body) =
    (λ j. take (between j) (drop (start j) old)) ∙ ap (take (length rs * width - (i * width + width))) (sym (drop-drop (i * width + width) 208 old)) in
    let end_is : end ≡ drop (length rs * width) body = ap (λ (k : ℕ). drop (208 + k) old) (sym bytes) ∙ sym (drop-drop (length rs * width) 208 old) in
    let made = remove_body width i rs body moved end (body_of old size fields) (omega (arith, place, rs_length)) moved_is end_is in
    let length_is : length (remove rs i) + 1 ≡ length rs = length-remove rs i (omega (arith, place, rs_length)) in
    let count_is : count - 1 ≡ length (remove rs i) = omega (arith, length_is, rs_length) in
    let fewer : length (remove rs i) * width ≤ count * width = mul-le-mul_right width (omega (arith, length_is, rs_length)) in
    let result = edited old final (remove rs i) fields done.0 (done.1 ∙ count_is) (omega (arith, fewer, fields.inside)) (subst (λ (l : List ℕ). IsBody width (remove rs i) l) (sym done.2) made) in
    (result.0, result.1, done.0)

-- a page that is changed from a place behind the fields on
kept_front : (old new tail : List ℕ) (k : ℕ) → length old ≡ 4096 → 208 + k ≤ 4096 → new ≡ take (208 + k) old ++ tail → KeepsFields old new × (count_of new ≡ count_of old) × (drop 208 new ≡ take k (drop 208 old) ++ tail)
unfolding u16_at
kept_front old new tail k size inside new_is =
    let kept : length (take (208 + k) old) ≡ 208 + k = length-take-le (208 + k) old (omega (arith, size, inside)) in
    let front : take 208 new ≡ take 208 old = ap (take 208) new_is ∙ take-append-le 208 (take (208 + k) old) tail (omega (arith, kept)) ∙ take-take 208 (208 + k) old (omega arith) in (
      record { head = sym (take-take 22 208 new (omega arith)) ∙ ap (take 22) front ∙ take-take 22 208 old (omega arith); middle = same_part new old 24 184 208 (omega arith) front },
      ap (from_be_bytes w16) (same_part new old 22 2 208 (omega arith) front),
      ap (drop 208) new_is ∙ drop-append-le 208 (take (208 + k) old) tail (omega (arith, kept)) ∙ ap (λ (l : List ℕ). l ++ tail) (drop-take 208 k old),
    )

pub marked_record : (old new : List ℕ) (i place byte : ℕ) → length old ≡ 4096 → HasTreeFields old → i < count_of old → place < record_len_of old
    → new ≡ take (208 + i * record_len_of old + place) old ++ ((byte ∷ []) ++ drop (208 + i * record_len_of old + place + 1) old)
    → HasTreeFields new × (records_of new ≡ with_byte i place byte (records_of old)) × KeepsFields old new
marked_record old new i place byte size fields inside key new_is =
    let width = record_len_of old in
    let count = count_of old in
    let rs = records_of old in
    let body = drop 208 old in
    let rs_length : length rs ≡ count = length-pieces width count body in
    let at : 208 + i * width + place ≡ 208 + (i * width + place) = omega arith in
    let next : 208 + i * width + place + 1 ≡ 208 + (i * width + place + 1) = omega arith in
    let order = ordered (i + 1) count width (omega (arith, inside)) in
    let tail_is : drop (208 + i * width + place + 1) old ≡ drop (i * width + place + 1) body = ap (λ (k : ℕ). drop k old) next ∙ sym (drop-drop (i * width + place + 1) 208 old) in
    let done = kept_front old new (byte ∷ drop (i * width + place + 1) body) (i * width + place) size (omega (arith, order, key, fields.inside)) (new_is ∙ (λ j. take (at j) old ++ (byte ∷ tail_is j))) in
    let made = marked_body width i place byte rs body (body_of old size fields) (omega (arith, inside, rs_length)) key in
    let length_is : length (with_byte i place byte rs) ≡ length rs = length-set rs i (set (get_or rs i []) place byte) in
    let count_is : count_of new ≡ length (with_byte i place byte rs) = done.1 ∙ sym rs_length ∙ sym length_is in
    let room : 208 + length (with_byte i place byte rs) * width ≤ 4096 = rw (length_is, rs_length) fields.inside in
    let result = edited old new (with_byte i place byte rs) fields done.0 count_is room (subst (λ (l : List ℕ). IsBody width (with_byte i place byte rs) l) (sym done.2) made) in
    (result.0, result.1, done.0)

pub first_records : (old new final : List ℕ) (i : ℕ) → length old ≡ 4096 → HasTreeFields old → i ≤ count_of old
    → new ≡ take (208 + i * record_len_of old) old ++ (replicate (208 + count_of old * record_len_of old - (208 + i * record_len_of old)) 0 ++ drop (208 + count_of old * record_len_of old) old)
    → final ≡ take 22 new ++ (to_be_bytes w16 i ++ drop 24 new) → HasTreeFields final × (records_of final ≡ take i (records_of old)) × KeepsFields old final
first_records old new final i size fields place new_is final_is =
    let width = record_len_of old in
    let count = count_of old in
    let rs = records_of old in
    let body = drop 208 old in
    let rs_length : length rs ≡ count = length-pieces width count body in
    let bytes : length rs * width ≡ count * width = ap (λ (k : ℕ). k * width) rs_length in
    let end = drop (208 + count * width) old in
    let order = ordered i count width place in
    let gap : 208 + count * width - (208 + i * width) ≡ length rs * width - i * width = omega (arith, bytes) in
    let done = counted old new final (replicate (length rs * width - i * width) 0 ++ end) (i * width) i size (omega (arith, order, fields.inside)) (omega (arith, place, few count width fields.width fields.inside)) (new_is ∙ ap (λ (k : ℕ). take (208 + i * width) old ++ (replicate k 0 ++ end)) gap) final_is in
    let end_is : end ≡ drop (length rs * width) body = ap (λ (k : ℕ). drop (208 + k) old) (sym bytes) ∙ sym (drop-drop (length rs * width) 208 old) in
    let made = first_body width i rs body end (body_of old size fields) (omega (arith, place, rs_length)) end_is in
    let length_is : length (take i rs) ≡ i = length-take-le i rs (omega (arith, place, rs_length)) in
    let room : 208 + length (take i rs) * width ≤ 4096 = rw length_is (omega (arith, order, fields.inside)) in
    let result = edited old final (take i rs) fields done.0 (done.1 ∙ sym length_is) room (subst (λ (l : List ℕ). IsBody width (take i rs) l) (sym done.2) made) in
    (result.0, result.1, done.0)

pub last_records : (old new final : List ℕ) (i : ℕ) → length old ≡ 4096 → HasTreeFields old → i ≤ count_of old
    → new ≡ take 208 old ++ (take (208 + count_of old * record_len_of old - (208 + (208 + i * record_len_of old - 208))) (drop (208 + (208 + i * record_len_of old - 208)) old) ++ (replicate (208 + i * record_len_of old - 208) 0 ++ drop (208 + count_of old * record_len_of old) old))
    → final ≡ take 22 new ++ (to_be_bytes w16 (count_of old - i) ++ drop 24 new) → HasTreeFields final × (records_of final ≡ drop i (records_of old)) × KeepsFields old final
last_records old new final i size fields place new_is final_is =
    let width = record_len_of old in
    let count = count_of old in
    let rs = records_of old in
    let body = drop 208 old in
    let rs_length : length rs ≡ count = length-pieces width count body in
    let bytes : length rs * width ≡ count * width = ap (λ (k : ℕ). k * width) rs_length in
    let end = drop (208 + count * width) old in
    let skip : 208 + i * width - 208 ≡ i * width = omega arith in
    let gap : 208 + count * width - (208 + i * width) ≡ length rs * width - i * width = omega (arith, bytes) in
    let moved = take (length rs * width - i * width) (drop (i * width) body) in
    let moved_at : take (208 + count * width - (208 + (208 + i * width - 208))) (drop (208 + (208 + i * width - 208)) old) ≡ moved =
    ap (λ (k : ℕ). take (208 + count * width - (208 + k)) (drop (208 + k) old)) skip ∙ ap (λ (k : ℕ). take k (drop (208 + i * width) old)) gap ∙ ap (take (length rs * width - i * width)) (sym (drop-drop (i * width) 208 old)) in
    let none : take 208 old ≡ take (208 + 0) old = refl in
    let new' : new ≡ take (208 + 0) old ++ (moved ++ (replicate (i * width) 0 ++ end)) = new_is ∙ (λ j. take 208 old ++ (moved_at j ++ (replicate (skip j) 0 ++ end))) in
    let done = counted old new final (moved ++ (replicate (i * width) 0 ++ end)) 0 (count - i) size (omega arith) (omega (arith, few count width fields.width fields.inside)) new' final_is in
    let end_is : end ≡ drop (length rs * width) body = ap (λ (k : ℕ). drop (208 + k) old) (sym bytes) ∙ sym (drop-drop (length rs * width) 208 old) in
    let made = last_body width i rs body moved end (body_of old size fields) (omega (arith, place, rs_length)) refl end_is in
    let length_is : length (drop i rs) ≡ count - i = length-drop i rs ∙ ap (λ (k : ℕ). k - i) rs_length in
    let fewer : length (drop i rs) * width ≤ count * width = mul-le-mul_right width (omega (arith, length_is)) in
    let result = edited old final (drop i rs) fields done.0 (done.1 ∙ sym length_is) (omega (arith, fewer, fields.inside)) (subst (λ (l : List ℕ). IsBody width (drop i rs) l) (sym done.2) made) in
    (result.0, result.1, done.0)
