-- The records of both leaves are put on the left one's page, and the record of the right one is taken out of the parent.
use Rattle.std.proofs.Common.{◌≡◌, ◌≢◌, ℕ, suc, ◌+◌, ◌<◌, List, [], ◌++◌, length, take, drop, remove, true, sym, ◌∙◌, ap, subst, append-nil, arith}
use Rattle.std.specs.Prelude.{IsTrue, slice_index}
use Rattle.std.proofs.lemmas.List.{length-take-le, length-drop, drop_all}
use Rattle.std.proofs.Math.Seq.{drop-append_seam}
use Rattle.page_format.specs.Words.{index_of, low_of, high_of, count_of, records_of, fence}
use Rattle.stored_pages.specs.Words.{u32_at}
use Rattle.page_format.specs.Shape.{HasTreeFields}
use Rattle.page_format.proofs.Headed.{tree_from}
use Rattle.mtr.specs.Seen.{MtrState, is_in, IsWithin, with_bytes, capacity_of}
use Rattle.mtr.specs.Calls.{Puts}
use Rattle.mtr.proofs.Behind.{drop-behind, u32-behind, byte-behind}
use Rattle.btree.specs.declared.tree.Tree.{Tree}
use Rattle.btree.proofs.Shown.{same_level, same_count, same_width, same_right, same_records}
use Rattle.btree_change.specs.declared.edit.Edit.{Edit}
use Rattle.btree_change.specs.Edits.{edited, IsRemoval}
use Rattle.btree_change.specs.Calls.{Touches, Rewrites}
use Rattle.btree_change.proofs.Bytes.{HasRecords, removed_page, removal_shown}
use Rattle.btree_change.proofs.Steps.{put_rewrites}
use Rattle.btree_merge.specs.Merges.{IsJoined, MergesLeaves}
use Rattle.btree_merge.proofs.Merging as merging
use Rattle.btree_merge.specs.declared.look.Siblings.{Siblings}
use Rattle.btree_merge.specs.Going.{GoesOn}
use Rattle.btree_merge.specs.Siblings.{AreToMerge}
use Rattle.btree_merge.proofs.Going.{on_then, rewrote_on, touched_on}

-- ---- bytes that are the same from byte 20 on

module _ (a b : List ℕ) (same : drop 20 a ≡ drop 20 b) where
  low_part : take 80 (drop 36 a) ≡ take 80 (drop 36 b)
  low_part = ap (take 80) (drop-behind 36 a b (omega arith) same)

  high_part : take 80 (drop 116 a) ≡ take 80 (drop 116 b)
  high_part = ap (take 80) (drop-behind 116 a b (omega arith) same)

  low_len : slice_index a 34 ≡ slice_index b 34
  low_len = byte-behind 34 a b (omega arith) same

  high_len : slice_index a 35 ≡ slice_index b 35
  high_len = byte-behind 35 a b (omega arith) same

  pub same_low : low_of a ≡ low_of b
  same_low = λ j. fence (low_len j) (low_part j)

  pub same_high : high_of a ≡ high_of b
  same_high = λ j. fence (high_len j) (high_part j)

  pub same_number : index_of a ≡ index_of b
  same_number = u32-behind 24 a b (omega arith) same

  pub fields_shown : HasTreeFields b → HasTreeFields a
  fields_shown fields =
      (tree_from b a fields (record {
        kind = byte-behind 20 a b (omega arith) same;
        level = same_level a b same;
        count = same_count a b same;
        width = same_width a b same;
        body = drop-behind 196 a b (omega arith) same;
      }) (rw (low_len, low_part) fields.low) (rw (high_len, high_part) fields.high)).0

joined_put : (left right page other image new : List ℕ) → drop 20 left ≡ drop 20 page → drop 20 right ≡ drop 20 other → drop 20 new ≡ drop 20 image
    → IsJoined left right image → IsJoined page other new
joined_put left right page other image new one two put is = record {
  fields = fields_shown new image put is.fields;
  index = same_number new image put ∙ is.index ∙ same_number left page one;
  width = same_width new image put ∙ is.width ∙ same_width left page one;
  level = same_level new image put ∙ is.level ∙ same_level left page one;
  low = same_low new image put ∙ is.low ∙ same_low left page one;
  high = same_high new image put ∙ is.high ∙ same_high right other two;
  right = same_right new image put ∙ is.right ∙ same_right right other two;
  records = same_records new image put ∙ is.records ∙ (λ j. same_records left page one j ++ same_records right other two j);
}

-- what is put from byte 20 on stands there
put_from : (page image : List ℕ) → length page ≡ 4096 → length image ≡ 4096 → drop 20 (with_bytes 20 (drop 20 image) page) ≡ drop 20 image
put_from page image size long =
    let part = drop 20 image in
    let front : length (take 20 page) ≡ 20 = length-take-le 20 page (omega (arith, size)) in
    let none : drop (20 + length part) page ≡ [] = drop_all (20 + length part) page (omega (arith, size, long, length-drop 20 image)) in
    ap (λ k. drop k (take 20 page ++ (part ++ drop (20 + length part) page))) (sym front)
    ∙ drop-append_seam (take 20 page) (part ++ drop (20 + length part) page)
    ∙ ap (λ l. part ++ l) none ∙ append-nil part

module _ (tree : Tree) (u j : ℕ) (both : Siblings) (old : MtrState) (ready : IsTrue old.told → AreToMerge tree old.seen u j both) where
  abbrev p : ℕ
  p = both.couple.left

  abbrev q : ℕ
  q = both.couple.right

  some_left : IsTrue old.told → p ≢ 0
  some_left told none =
      let is = ready told in
      omega (arith, none, is.left_is, (merging.leaf_placed tree old.seen u is.placed is.above j (omega (arith, is.can.within))).beyond)

  some_parent : IsTrue old.told → u ≢ 0
  some_parent told none = let is = ready told in omega (arith, none, (merging.parent_placed tree old.seen u is.placed is.above).beyond)

  left_apart : IsTrue old.told → p ≢ u
  left_apart told same =
      let is = ready told in
      merging.leaf_apart tree old.seen u is.placed is.above j (omega (arith, is.can.within)) (sym is.left_is ∙ same)

  pub left_within : IsWithin p old
  left_within told =
      let is = ready told in
      subst (λ r. r < capacity_of old) (sym is.left_is) (merging.leaf_counted tree old.seen u is.placed is.above j (omega (arith, is.can.within)))

  module _ (image : List ℕ) (first : MtrState) (put : Puts p 20 (drop 20 image) old first) where
    one : Rewrites p (with_bytes 20 (drop 20 image) (old.seen p)) old first
    one = put_rewrites p 20 (drop 20 image) old first some_left put

    pub one_on : GoesOn 0 old first
    one_on = rewrote_on p (with_bytes 20 (drop 20 image) (old.seen p)) old first one

    pub parent_within : IsWithin u first
    parent_within told =
        let before = one.goes.told told in
        let is = ready before in
        subst (λ (l : List ℕ). u < u32_at 44 l) (sym ((one.pages told).elsewhere 0 (λ same. some_left before (sym same))))
        (merging.parent_counted tree old.seen u is.placed is.above)

    pub parent_some : IsTrue first.told → u ≢ 0
    parent_some told = some_parent (one.goes.told told)

    pub two_on : (new : MtrState) → is_in u old.visited ≡ true → Touches u first new → GoesOn 0 old new
    two_on new known touched = on_then 0 0 0 old first new (omega arith) one_on (touched_on u first new (one_on.stay u known) touched)

    module _ (new : MtrState) (entry : Edit) (put_entry : Rewrites u (edited entry (first.seen u)) first new) (size : length image ≡ 4096)
        (joins : HasTreeFields both.left → HasTreeFields both.right → IsJoined both.left both.right image)
        (entry_is : IsRemoval (j + 1) both.above entry) where
      pub merges : IsTrue new.told → MergesLeaves j u p q old.seen new.seen
      merges told =
          let told_first = put_entry.goes.told told in
          let told_old = one.goes.told told_first in
          let is = ready told_old in
          let apart = left_apart told_old in
          let put_first = one.pages told_first in
          let put_last = put_entry.pages told in
          let in_left : j < length (records_of (old.seen u)) = omega (arith, is.can.within) in
          let left_fields : HasTreeFields (old.seen p) =
          subst (λ r. HasTreeFields (old.seen r)) (sym is.left_is) (merging.leaf_page tree old.seen u is.placed is.above j in_left).fields in
          let right_fields : HasTreeFields (old.seen q) =
          subst (λ r. HasTreeFields (old.seen r)) (sym is.right_is) (merging.leaf_page tree old.seen u is.placed is.above (suc j) is.can.within).fields in
          let parent_fields = (merging.parent_page tree old.seen u is.placed is.above).fields in
          let new_left : new.seen p ≡ with_bytes 20 (drop 20 image) (old.seen p) = put_last.elsewhere p apart ∙ put_first.here in
          let parent_same : first.seen u ≡ old.seen u = put_first.elsewhere u (λ same. apart (sym same)) in
          let new_parent : new.seen u ≡ edited entry (old.seen u) = put_last.here ∙ ap (edited entry) parent_same in
          let next : j + 1 ≡ suc j = omega arith in
          let within : j + 1 < count_of (old.seen u) = omega (arith, is.can.within, merging.counted_records (old.seen u)) in
          let made : HasRecords (remove (records_of (old.seen u)) (j + 1)) (old.seen u) (edited entry (old.seen u)) =
          removed_page (old.seen u) (j + 1) entry is.above_shown.size parent_fields within
          (removal_shown both.above (old.seen u) is.above_shown.same (j + 1) entry entry_is) in
          let removed : HasRecords (remove (records_of (old.seen u)) (suc j)) (old.seen u) (new.seen u) =
          subst (λ b. HasRecords (remove (records_of (old.seen u)) (suc j)) (old.seen u) b) (sym new_parent)
          (subst (λ k. HasRecords (remove (records_of (old.seen u)) k) (old.seen u) (edited entry (old.seen u))) next made) in
          record {
            joined =
                joined_put both.left both.right (old.seen p) (old.seen q) image (new.seen p) is.left_shown.same is.right_shown.same
                (ap (drop 20) new_left ∙ put_from (old.seen p) image is.left_shown.size size)
                (joins (fields_shown both.left (old.seen p) is.left_shown.same left_fields)
                (fields_shown both.right (old.seen q) is.right_shown.same right_fields));
            parent_fields = removed.fields;
            parent_kept = removed.kept;
            parent_records = removed.records;
            others = λ r not_u not_p. put_last.elsewhere r not_u ∙ put_first.elsewhere r not_p;
          }
