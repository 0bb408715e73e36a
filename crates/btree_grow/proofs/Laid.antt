-- A root that was laid out above one page alone says of its place what the old one said.
use Rattle.std.proofs.Common.{◌≡◌, ◌≢◌, Bool, false, ℕ, ◌+◌, ◌-◌, ◌*◌, ◌<◌, ◌≤◌, List, [], ◌∷◌, ◌++◌, length, take, drop, get_or, refl, sym, ap, ◌∙◌}
use Rattle.std.proofs.Common.{append_assoc, length-append, arith}
use Rattle.std.specs.Prelude.{replicate, if◌then◌else◌, ◌==◌}
use Rattle.std.specs.Int.{w16, w32, to_be_bytes, from_be_bytes}
use Rattle.std.proofs.lemmas.List.{take_at, drop_at, take-take, drop-take, drop-drop, drop-append-le, length-take-le, length-replicate}
use Rattle.std.proofs.lemmas.List.{take-replicate, drop-replicate}
use Rattle.std.proofs.lemmas.List.Elements.{All-replicate}
use Rattle.std.proofs.lemmas.Bool.Decides.{nat_tests}
use Rattle.std.proofs.lemmas.Nat.{from_be_bytes-to_be_bytes_2}
use Rattle.page_format.specs.Words.{kind_of, level_of, count_of, index_of, right_of, record_len_of, records_of, pieces, fence}
use Rattle.stored_pages.specs.Words.{u16_at, u32_at}
use Rattle.page_format.specs.Shape.{HasTreeFields}
use Rattle.page_format.proofs.Edited.{same_part, same_byte, byte_is}
use Rattle.page_format.proofs.Headed.{back_more, Over, over}
use Rattle.stored_pages.proofs.Sealed.{back_part}
use Rattle.btree.proofs.Shown.{same_level, same_width, same_right, same_records}
use Rattle.btree_split.proofs.Laid.{Lays, laid_length}
use Rattle.btree_split.proofs.Put.{same_low, same_high, same_number, fields_shown}
use Rattle.btree_grow.specs.Raised.{lowest_record, IsRaised}

ne_false : (p q : ℕ) → p ≢ q → p == q ≡ false
ne_false p q ne = grind (arith, nat_tests)

module _ (bytes a b c d new : List ℕ) (n q m level : ℕ) (inner : 0 < level) (deep : level ≤ 7) (size : length bytes ≡ 4096)
    (fields : HasTreeFields bytes) (short : n ≤ 80) (many : m ≡ 4096)
    (first : Lays 0 (take 208 bytes) (replicate m 0) a) (kind : Lays 20 (4 ∷ level ∷ []) a b) (count : Lays 22 (to_be_bytes w16 1) b c)
    (width : Lays 32 (to_be_bytes w16 (n + 4)) c d) (leads : Lays (208 + n) (to_be_bytes w32 q) d new) where
  front_long : length (take 208 bytes) ≡ 208
  front_long = length-take-le 208 bytes (omega (arith, size))

  size_a : length a ≡ 4096
  size_a =
      laid_length 0 (take 208 bytes) (replicate m 0) a (omega (arith, front_long, length-replicate {A = ℕ} m 0, many)) first
      ∙ length-replicate {A = ℕ} m 0 ∙ many

  front_a : take 208 a ≡ take 208 bytes
  front_a = ap (take 208) first ∙ take_at (take 208 bytes) (drop (0 + length (take 208 bytes)) (replicate m 0)) 208 front_long

  zeros_a : drop 208 a ≡ replicate (m - 208) 0
  zeros_a =
      let begins : 0 + length (take 208 bytes) ≡ 208 = omega (arith, front_long) in
      ap (drop 208) first ∙ drop_at (take 208 bytes) (drop (0 + length (take 208 bytes)) (replicate m 0)) 208 front_long
      ∙ ap (λ k. drop k (replicate m 0)) begins ∙ drop-replicate 208 m 0

  one : Over 20 22 (4 ∷ level ∷ []) a b
  one = over 20 22 (4 ∷ level ∷ []) a b refl (omega (arith, size_a)) kind

  two : Over 22 24 (to_be_bytes w16 1) b c
  two = over 22 24 (to_be_bytes w16 1) b c refl (omega (arith, size_a, one.size)) count

  three : Over 32 34 (to_be_bytes w16 (n + 4)) c d
  three = over 32 34 (to_be_bytes w16 (n + 4)) c d refl (omega (arith, size_a, one.size, two.size)) width

  four : Over (208 + n) (208 + n + 4) (to_be_bytes w32 q) d new
  four = over (208 + n) (208 + n + 4) (to_be_bytes w32 q) d new refl (omega (arith, short, size_a, one.size, two.size, three.size)) leads

  front : take 208 new ≡ take 208 d
  front = sym (take-take 208 (208 + n) new (omega arith)) ∙ ap (take 208) four.front ∙ take-take 208 (208 + n) d (omega arith)

  -- what stands before the records' length and behind it
  before_width : (at size : ℕ) → 24 ≤ at → at + size ≤ 32 → take size (drop at new) ≡ take size (drop at bytes)
  before_width at k low high =
      same_part new d at k 208 (omega (arith, high)) front ∙ same_part d c at k 32 high three.front ∙ back_part c b 24 at k low two.back
      ∙ back_part b a 22 at k (omega (arith, low)) one.back ∙ same_part a bytes at k 208 (omega (arith, high)) front_a

  behind_width : (at size : ℕ) → 34 ≤ at → at + size ≤ 208 → take size (drop at new) ≡ take size (drop at bytes)
  behind_width at k low high =
      same_part new d at k 208 high front ∙ back_part d c 34 at k low three.back ∙ back_part c b 24 at k (omega (arith, low)) two.back
      ∙ back_part b a 22 at k (omega (arith, low)) one.back ∙ same_part a bytes at k 208 high front_a

  same_at : (at : ℕ) → 34 ≤ at → at + 1 ≤ 208 → get_or new at 0 ≡ get_or bytes at 0
  same_at at low high = byte_is new at ∙ ap (λ (l : List ℕ). get_or l 0 0) (behind_width at 1 low high) ∙ sym (byte_is bytes at)

  kind_is : kind_of new ≡ 4
  kind_is =
      same_byte new d 20 208 (omega arith) front ∙ same_byte d c 20 32 (omega arith) three.front ∙ same_byte c b 20 22 (omega arith) two.front
      ∙ byte_is b 20 ∙ ap (λ (l : List ℕ). get_or l 0 0) (sym (take-take 1 2 (drop 20 b) (omega arith)) ∙ ap (take 1) one.here)

  level_is : level_of new ≡ level
  level_is =
      same_byte new d 21 208 (omega arith) front ∙ same_byte d c 21 32 (omega arith) three.front ∙ same_byte c b 21 22 (omega arith) two.front
      ∙ byte_is b 21
      ∙ ap (λ (l : List ℕ). get_or l 0 0)
      (ap (take 1) (sym (drop-drop 1 20 b)) ∙ same_part (drop 20 b) (4 ∷ level ∷ []) 1 1 2 (omega arith) one.here)

  count_is : count_of new ≡ 1
  unfolding u16_at
  count_is =
      ap (from_be_bytes w16) (same_part new d 22 2 208 (omega arith) front ∙ same_part d c 22 2 32 (omega arith) three.front ∙ two.here)
      ∙ from_be_bytes-to_be_bytes_2 1 (omega arith)

  width_is : record_len_of new ≡ n + 4
  unfolding u16_at
  width_is =
      ap (from_be_bytes w16) (same_part new d 32 2 208 (omega arith) front ∙ three.here) ∙ from_be_bytes-to_be_bytes_2 (n + 4) (omega (arith, short))

  index_is : index_of new ≡ index_of bytes
  unfolding u32_at
  index_is = ap (from_be_bytes w32) (before_width 24 4 (omega arith) (omega arith))

  right_is : right_of new ≡ right_of bytes
  unfolding u32_at
  right_is = ap (from_be_bytes w32) (before_width 28 4 (omega arith) (omega arith))

  -- ---- the record, and zeros behind it

  zeros_d : drop 208 d ≡ replicate (m - 208) 0
  zeros_d =
      back_more d c 34 208 (omega arith) three.back ∙ back_more c b 24 208 (omega arith) two.back ∙ back_more b a 22 208 (omega arith) one.back ∙ zeros_a

  abbrev end : List ℕ
  end = drop (208 + n + 4) d

  body : drop 208 new ≡ replicate n 0 ++ (to_be_bytes w32 q ++ end)
  body =
      ap (drop 208) leads
      ∙ drop-append-le 208 (take (208 + n) d) (to_be_bytes w32 q ++ end)
      (omega (arith, length-take-le (208 + n) d (omega (arith, short, size_a, one.size, two.size, three.size))))
      ∙ ap (λ (l : List ℕ). l ++ (to_be_bytes w32 q ++ end))
      (drop-take 208 n d ∙ ap (take n) zeros_d ∙ take-replicate n (m - 208) 0 (omega (arith, short, many)))

  record_long : length (lowest_record n q) ≡ n + 4
  record_long =
      let number : length (to_be_bytes w32 q) ≡ 4 = refl in
      omega (arith, length-append (replicate n 0) (to_be_bytes w32 q), length-replicate {A = ℕ} n 0, number)

  records_are : records_of new ≡ lowest_record n q ∷ []
  records_are =
      (λ j. pieces (width_is j) (count_is j) (body j))
      ∙ ap (λ (l : List ℕ). l ∷ [])
      (ap (take (n + 4)) (sym (append_assoc (replicate n 0) (to_be_bytes w32 q) end)) ∙ take_at (lowest_record n q) end (n + 4) record_long)

  used : count_of new * record_len_of new ≡ n + 4
  used = (λ j. count_is j * width_is j) ∙ omega arith

  rest_is : drop (208 + count_of new * record_len_of new) new ≡ replicate (m - 208 - (n + 4)) 0
  rest_is =
      let place : 208 + (n + 4) ≡ 208 + n + 4 = omega arith in
      ap (λ k. drop (208 + k) new) used ∙ ap (λ k. drop k new) place ∙ four.back ∙ ap (λ k. drop k d) (sym place)
      ∙ sym (drop-drop (n + 4) 208 d) ∙ ap (drop (n + 4)) zeros_d ∙ drop-replicate (n + 4) (m - 208) 0

  new_fields : HasTreeFields new
  new_fields = record {
    level =
        kind_is ∙ ap (λ (b : Bool). if b then 3 else 4) (sym (ne_false level 0 (λ none. omega (arith, none, inner))))
        ∙ ap (λ (l : ℕ). if l == 0 then 3 else 4) (sym level_is);
    depth = omega (arith, level_is, deep);
    width = omega (arith, width_is);
    inside = rw used (omega (arith, short));
    low = rw (same_at 34 (omega arith) (omega arith), behind_width 36 80 (omega arith) (omega arith)) fields.low;
    high = rw (same_at 35 (omega arith) (omega arith), behind_width 116 80 (omega arith) (omega arith)) fields.high;
    gap = rw (behind_width 196 12 (omega arith) (omega arith)) fields.gap;
    rest = rw rest_is (All-replicate (λ (byte : ℕ). byte ≡ 0) (m - 208 - (n + 4)) 0 refl);
  }

  pub laid_root : IsRaised n q level bytes new
  laid_root = record {
    fields = new_fields;
    level_is = level_is;
    index = index_is;
    width = width_is;
    records = records_are;
    low = λ j. fence (same_at 34 (omega arith) (omega arith) j) (behind_width 36 80 (omega arith) (omega arith) j);
    high = λ j. fence (same_at 35 (omega arith) (omega arith) j) (behind_width 116 80 (omega arith) (omega arith) j);
    right = right_is;
  }

-- ---- put from byte 20 on

module _ (n q level : ℕ) (bytes page image new : List ℕ) (shown : drop 20 bytes ≡ drop 20 page) (put : drop 20 new ≡ drop 20 image) where
  pub root_put : IsRaised n q level bytes image → IsRaised n q level page new
  root_put is = record {
    fields = fields_shown new image put is.fields;
    level_is = same_level new image put ∙ is.level_is;
    index = same_number new image put ∙ is.index ∙ same_number bytes page shown;
    width = same_width new image put ∙ is.width;
    records = same_records new image put ∙ is.records;
    low = same_low new image put ∙ is.low ∙ same_low bytes page shown;
    high = same_high new image put ∙ is.high ∙ same_high bytes page shown;
    right = same_right new image put ∙ is.right ∙ same_right bytes page shown;
  }
