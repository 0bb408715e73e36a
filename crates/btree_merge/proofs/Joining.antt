-- The records of two pages in one of them: what its bytes say.
use Rattle.std.proofs.Common.{◌≡◌, inr, ℕ, ◌+◌, ◌-◌, ◌*◌, ◌≤◌, List, ◌++◌, length, take, drop, get_or, refl, sym, ap, subst, ◌∙◌}
use Rattle.std.proofs.Common.{append_assoc, length-append, arith}
use Rattle.std.specs.Prelude.{slice_index}
use Rattle.std.specs.Int.{w16, w32, to_be_bytes, from_be_bytes}
use Rattle.std.specs.List.{concat}
use Rattle.std.proofs.lemmas.List.{take_at, drop_at, drop-drop, length-take-le, length-drop}
use Rattle.std.proofs.lemmas.List.Elements.{All-drop}
use Rattle.page_format.specs.Words.{index_of, count_of, record_len_of, right_of, records_of, fence}
use Rattle.stored_pages.specs.Words.{u16_at, u32_at}
use Rattle.page_format.specs.Changes.{KeepsFields}
use Rattle.page_format.specs.Shape.{HasTreeFields}
use Rattle.page_format.proofs.Pieces.{AreWide, AreWide-append, IsBody, concat-append, length-concat, length-pieces}
use Rattle.page_format.proofs.Edited.{same_part, same_byte, byte_is, middle_part, middle_byte, same_width, body_of, edited, counted, few}
use Rattle.page_format.proofs.Headed.{Over, over, back_byte, back_more, tree_from, tree_over}
use Rattle.stored_pages.proofs.Sealed.{back_part}
use Rattle.btree_merge.specs.Merges.{IsJoined}
use Rattle.btree_merge.specs.Merged.{FitTogether}

-- a piece was written over
abbrev pub Lays : ℕ → List ℕ → List ℕ → List ℕ → Type 0
Lays at piece old new = new ≡ take at old ++ (piece ++ drop (at + length piece) old)

laid_over : (at to : ℕ) (piece old new : List ℕ) → at + length piece ≡ to → to ≤ length old → Lays at piece old new → Over at to piece old new
laid_over at to piece old new to_is inside is = over at to piece old new to_is inside (is ∙ ap (λ k. take at old ++ (piece ++ drop k old)) to_is)

-- ---- the records

append_body : (width : ℕ) (rs qs : List (List ℕ)) (body moved end : List ℕ) → IsBody width rs body → AreWide width qs → moved ≡ concat qs
    → end ≡ drop (length rs * width + length qs * width) body → IsBody width (rs ++ qs) (take (length rs * width) body ++ (moved ++ end))
append_body width rs qs body moved end is wide moved_is end_is =
    let n = length rs * width in
    let k = length qs * width in
    let front : take n body ≡ concat rs = ap (take n) is.whole ∙ take_at (concat rs) is.rest n (length-concat width rs is.wide) in
    let rest : drop n body ≡ is.rest = ap (drop n) is.whole ∙ drop_at (concat rs) is.rest n (length-concat width rs is.wide) in
    let end' : end ≡ drop k is.rest = end_is ∙ sym (drop-drop k n body) ∙ ap (drop k) rest in
    record {
      wide = AreWide-append width rs qs is.wide wide;
      rest = drop k is.rest;
      whole =
          (λ j. front j ++ (moved_is j ++ end' j))
          ∙ sym (append_assoc (concat rs) (concat qs) (drop k is.rest))
          ∙ ap (λ l. l ++ drop k is.rest) (sym (concat-append rs qs));
      zeros = All-drop (λ (b : ℕ). b ≡ 0) k is.rest is.zeros;
    }

module _ (old other moved : List ℕ) (size : length old ≡ 4096) (other_size : length other ≡ 4096) (fields : HasTreeFields old) (also : HasTreeFields other)
    (alike : record_len_of other ≡ record_len_of old) (fits : FitTogether old other)
    (moved_is : moved ≡ take (208 + count_of other * record_len_of other - 208) (drop 208 other)) where
  abbrev w : ℕ
  w = record_len_of old

  abbrev rs : List (List ℕ)
  rs = records_of old

  abbrev qs : List (List ℕ)
  qs = records_of other

  rs_length : length rs ≡ count_of old
  rs_length = length-pieces w (count_of old) (drop 208 old)

  qs_length : length qs ≡ count_of other
  qs_length = length-pieces (record_len_of other) (count_of other) (drop 208 other)

  rs_bytes : length rs * w ≡ count_of old * w
  rs_bytes = ap (λ k. k * w) rs_length

  sum : (count_of old + count_of other) * w ≡ count_of old * w + length qs * w
  sum = let more = ap (λ k. k * w) qs_length in omega (arith, more)

  body : IsBody (record_len_of other) qs (drop 208 other)
  body = body_of other other_size also

  pub moved_all : moved ≡ concat qs
  moved_all =
      let n = count_of other * record_len_of other in
      let skip : 208 + n - 208 ≡ n = omega arith in
      let long : length (concat qs) ≡ n = length-concat (record_len_of other) qs body.wide ∙ ap (λ k. k * record_len_of other) qs_length in
      moved_is ∙ ap (λ k. take k (drop 208 other)) skip ∙ ap (take n) body.whole ∙ take_at (concat qs) body.rest n long

  pub moved_length : length moved ≡ length qs * w
  moved_length = ap length moved_all ∙ length-concat (record_len_of other) qs body.wide ∙ ap (λ k. length qs * k) alike

  pub inside : 208 + count_of old * w + length moved ≤ 4096
  inside = omega (arith, fits, sum, moved_length)

  module _ (b1 b2 : List ℕ) (first : Lays (208 + count_of old * w) moved old b1)
      (second : Lays 22 (to_be_bytes w16 (count_of old + count_of other)) b1 b2) where
    records : HasTreeFields b2 × (records_of b2 ≡ rs ++ qs) × KeepsFields old b2
    records =
        let k = count_of old * w in
        let end = drop (208 + k + length moved) old in
        let done =
        counted old b1 b2 (moved ++ end) k (count_of old + count_of other) size (omega (arith, fits, sum))
        (omega (arith, few (count_of old + count_of other) w fields.width fits)) first second in
        let place : 208 + k + length moved ≡ 208 + (length rs * w + length qs * w) = omega (arith, rs_bytes, moved_length) in
        let end_is : end ≡ drop (length rs * w + length qs * w) (drop 208 old) =
        ap (λ n. drop n old) place ∙ sym (drop-drop (length rs * w + length qs * w) 208 old) in
        let made : IsBody w (rs ++ qs) (take (length rs * w) (drop 208 old) ++ (moved ++ end)) =
        append_body w rs qs (drop 208 old) moved end (body_of old size fields) (subst (λ v. AreWide v qs) alike body.wide) moved_all end_is in
        let total : count_of old + count_of other ≡ length (rs ++ qs) = omega (arith, length-append rs qs, rs_length, qs_length) in
        let room : 208 + length (rs ++ qs) * w ≤ 4096 = subst (λ n. 208 + n * w ≤ 4096) total fits in
        let whole : drop 208 b2 ≡ take (length rs * w) (drop 208 old) ++ (moved ++ end) =
        done.2 ∙ ap (λ n. take n (drop 208 old) ++ (moved ++ end)) (sym rs_bytes) in
        let result = edited old b2 (rs ++ qs) fields done.0 (done.1 ∙ total) room (subst (λ l. IsBody w (rs ++ qs) l) (sym whole) made) in
        (result.0, result.1, done.0)

    -- ---- the end of the place

    module _ (b3 b4 b5 : List ℕ) (third : Lays 28 (take 4 (drop 28 other)) b2 b3) (fourth : Lays 35 (take 1 (drop 35 other)) b3 b4)
        (fifth : Lays 116 (take 80 (drop 116 other)) b4 b5) where
      long : (n at : ℕ) → at + n ≤ 4096 → length (take n (drop at other)) ≡ n
      long n at within = length-take-le n (drop at other) (omega (arith, within, length-drop at other, other_size))

      size1 : length b1 ≡ 4096
      size1 = (laid_over (208 + count_of old * w) (208 + count_of old * w + length moved) moved old b1 refl (omega (arith, inside, size)) first).size ∙ size

      size2 : length b2 ≡ 4096
      size2 =
          (laid_over 22 24 (to_be_bytes w16 (count_of old + count_of other)) b1 b2 refl (omega (arith, size1)) second).size ∙ size1

      one : Over 28 32 (take 4 (drop 28 other)) b2 b3
      one = laid_over 28 32 (take 4 (drop 28 other)) b2 b3 (omega (arith, long 4 28 (omega arith))) (omega (arith, size2)) third

      two : Over 35 36 (take 1 (drop 35 other)) b3 b4
      two = laid_over 35 36 (take 1 (drop 35 other)) b3 b4 (omega (arith, long 1 35 (omega arith))) (omega (arith, size2, one.size)) fourth

      three : Over 116 196 (take 80 (drop 116 other)) b4 b5
      three = laid_over 116 196 (take 80 (drop 116 other)) b4 b5 (omega (arith, long 80 116 (omega arith))) (omega (arith, size2, one.size, two.size)) fifth

      -- what stands before the high fence's length, and between the fences
      front : take 35 b5 ≡ take 35 b3
      front =
          same_front 35 116 b5 b4 (omega arith) three.front ∙ two.front
        where
          same_front : (n m : ℕ) (a b : List ℕ) → n ≤ m → take m a ≡ take m b → take n a ≡ take n b
          same_front n m a b le same = same_part a b 0 n m (omega (arith, le)) same

      between : (p size' : ℕ) → 36 ≤ p → p + size' ≤ 116 → take size' (drop p b5) ≡ take size' (drop p b3)
      between p size' low high = same_part b5 b4 p size' 116 high three.front ∙ back_part b4 b3 36 p size' low two.back

      high_len : slice_index b5 35 ≡ slice_index other 35
      high_len =
          same_byte b5 b4 35 116 (omega arith) three.front ∙ byte_is b4 35
          ∙ ap (λ (l : List ℕ). get_or l 0 0)
          (ap (λ n. take n (drop 35 b4)) (sym (long 1 35 (omega arith))) ∙ two.here)
          ∙ sym (byte_is other 35)

      high_part : take 80 (drop 116 b5) ≡ take 80 (drop 116 other)
      high_part = ap (λ n. take n (drop 116 b5)) (sym (long 80 116 (omega arith))) ∙ three.here

      body_same : drop 196 b5 ≡ drop 196 b3
      body_same = three.back ∙ back_more b4 b3 36 196 (omega arith) two.back

      low_len : slice_index b5 34 ≡ slice_index b3 34
      low_len = same_byte b5 b3 34 35 (omega arith) front

      low_part : take 80 (drop 36 b5) ≡ take 80 (drop 36 b3)
      low_part = between 36 80 (omega arith) (omega arith)

      over_right : HasTreeFields b3 × (records_of b3 ≡ records_of b2)
      over_right = tree_over b2 b3 28 (inr refl) records.0 one.front one.back

      count_same : count_of b5 ≡ count_of b3
      unfolding u16_at
      count_same = ap (from_be_bytes w16) (same_part b5 b3 22 2 35 (omega arith) front)

      width_same : record_len_of b5 ≡ record_len_of b3
      unfolding u16_at
      width_same = ap (from_be_bytes w16) (same_part b5 b3 32 2 35 (omega arith) front)

      width_back : record_len_of b3 ≡ record_len_of b2
      unfolding u16_at
      width_back = ap (from_be_bytes w16) (back_part b3 b2 32 32 2 (omega arith) one.back)

      index_same : index_of b5 ≡ index_of old
      unfolding u32_at
      index_same =
          ap (from_be_bytes w32)
          (same_part b5 b3 24 4 35 (omega arith) front ∙ same_part b3 b2 24 4 28 (omega arith) one.front ∙ middle_part old b2 0 4 (omega arith) records.2)

      right_is : right_of b5 ≡ right_of other
      unfolding u32_at
      right_is =
          ap (from_be_bytes w32)
          (same_part b5 b3 28 4 35 (omega arith) front ∙ ap (λ n. take n (drop 28 b3)) (sym (long 4 28 (omega arith))) ∙ one.here)

      all : HasTreeFields b5 × (records_of b5 ≡ records_of b3)
      all =
          tree_from b3 b5 over_right.0 (record {
            kind = same_byte b5 b3 20 35 (omega arith) front;
            level = same_byte b5 b3 21 35 (omega arith) front;
            count = count_same;
            width = width_same;
            body = body_same;
          }) (rw (low_len, low_part) over_right.0.low) (rw (high_len, high_part) also.high)

      pub joins : IsJoined old other b5
      joins =
          let keeps = records.2 in
          let old_len : slice_index b5 34 ≡ slice_index old 34 =
          low_len ∙ back_byte b3 b2 32 34 (omega arith) one.back ∙ middle_byte old b2 10 (omega arith) keeps in
          let old_part : take 80 (drop 36 b5) ≡ take 80 (drop 36 old) =
          low_part ∙ back_part b3 b2 32 36 80 (omega arith) one.back ∙ middle_part old b2 12 80 (omega arith) keeps in
          record {
            fields = all.0;
            index = index_same;
            width = width_same ∙ width_back ∙ same_width old b2 keeps;
            level = same_byte b5 b3 21 35 (omega arith) front ∙ same_byte b3 b2 21 28 (omega arith) one.front ∙ same_byte b2 old 21 22 (omega arith) keeps.head;
            low = λ j. fence (old_len j) (old_part j);
            high = λ j. fence (high_len j) (high_part j);
            right = right_is;
            records = all.1 ∙ over_right.1 ∙ records.1;
          }

-- the same place, piece and bytes, spelled otherwise
pub spelled : (at place : ℕ) (piece other old bytes new : List ℕ) → at ≡ place → piece ≡ other → old ≡ bytes → Lays at piece old new
    → Lays place other bytes new
spelled at place piece other old bytes new at_is piece_is old_is is =
    is ∙ (λ j. take (at_is j) (old_is j) ++ (piece_is j ++ drop (at_is j + length (piece_is j)) (old_is j)))
