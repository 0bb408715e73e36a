-- Both halves of a page and the parent's record are put.
use Rattle.std.proofs.Common.{◌≡◌, ◌≢◌, ℕ, suc, Bool, true, false, ◌==◌, ◌+◌, ◌*◌, ◌^◌, ◌<◌, ◌≤◌}
use Rattle.std.proofs.Common.{List, [], ◌++◌, length, take, drop, insert, get_or, sym, ◌∙◌, ap, subst, append-nil, arith}
use Rattle.std.specs.Prelude.{IsTrue, if◌then◌else◌}
use Rattle.std.specs.Int.{w32, to_be_bytes}
use Rattle.std.proofs.lemmas.List.{length-take-le, length-drop, drop_all}
use Rattle.std.proofs.lemmas.Bool.Decides.{nat_tests}
use Rattle.std.proofs.Math.Seq.{drop-append_seam}
use Rattle.page_format.specs.Words.{count_of, record_len_of, records_of}
use Rattle.page_format.specs.Shape.{HasTreeFields}
use Rattle.page_format.specs.Changes.{IsLowerHalf, IsUpperHalf}
use Rattle.page_format.proofs.Pieces.{length-pieces, wide-pieces}
use Rattle.mtr.specs.Seen.{MtrState, is_in, IsWithin, with_bytes, capacity_of}
use Rattle.mtr.specs.Calls.{Puts}
use Rattle.btree.specs.declared.tree.Tree.{Tree}
use Rattle.btree.specs.Layout.{IsLaidOut, width_of}
use Rattle.btree.proofs.Shown.{same_records, same_count, same_width}
use Rattle.btree_change.specs.declared.edit.Edit.{Edit}
use Rattle.btree_change.specs.Edits.{edited, HasRoom, IsInsertion}
use Rattle.btree_change.specs.Calls.{Rewrites, Touches}
use Rattle.btree_change.proofs.Bytes.{HasRecords, inserted_page, insertion_shown}
use Rattle.btree_change.proofs.Steps.{put_rewrites}
use Rattle.btree_split.specs.Halves.{IsLowerPut, IsUpperPut, SplitsChild}
use Rattle.btree_split.proofs.Records.{wide_at}
use Rattle.btree_split.proofs.Put.{fields_shown, lower_put, upper_put}
use Rattle.btree_grow.specs.declared.splits.Cut.{Cut}
use Rattle.btree_grow.specs.Cuts.{fence_at, IsCut}
use Rattle.btree_grow.specs.Going.{GoesOn}
use Rattle.btree_grow.proofs.Going.{on_then, rewrote_on, touched_known_on}

-- ---- lengths

pub ne_false : (p q : ℕ) → p ≢ q → p == q ≡ false
ne_false p q ne = grind (arith, nat_tests)

inner_of : (tree : Tree) (level : ℕ) → level ≢ 0 → width_of tree level ≡ tree.key_len + 4
inner_of tree level inner = ap (λ (b : Bool). tree.key_len + (if b then tree.value_len else 4)) (ne_false level 0 inner)

module _ (tree : Tree) (bytes : List ℕ) (i : ℕ) (size : length bytes ≡ 4096) (laid_out : IsLaidOut tree bytes) (within : i < count_of bytes) where
  pub fence_long : length (fence_at tree bytes i) ≡ tree.key_len
  fence_long =
      let w = record_len_of bytes in
      let count = count_of bytes in
      let long : length (get_or (records_of bytes) i []) ≡ w =
      wide_at w (records_of bytes) i (wide-pieces w count (drop 208 bytes) (omega (arith, length-drop 208 bytes, size, laid_out.inside)))
      (omega (arith, within, length-pieces w count (drop 208 bytes))) in
      length-take-le tree.key_len (get_or (records_of bytes) i []) (omega (arith, long, laid_out.width))

pub entry_width : (tree : Tree) (above : List ℕ) (level n k : ℕ) → record_len_of above ≡ width_of tree level → level ≢ 0 → n ≡ tree.key_len → k ≡ 4
    → n + k ≡ record_len_of above
entry_width tree above level n k laid inner n_is k_is = omega (arith, laid, inner_of tree level inner, n_is, k_is)

-- what is put from byte 20 on stands there
pub put_from : (page image : List ℕ) → length page ≡ 4096 → length image ≡ 4096 → drop 20 (with_bytes 20 (drop 20 image) page) ≡ drop 20 image
put_from page image size long =
    let part = drop 20 image in
    let front : length (take 20 page) ≡ 20 = length-take-le 20 page (omega (arith, size)) in
    let none : drop (20 + length part) page ≡ [] = drop_all (20 + length part) page (omega (arith, size, long, length-drop 20 image)) in
    ap (λ k. drop k (take 20 page ++ (part ++ drop (20 + length part) page))) (sym front)
    ∙ drop-append_seam (take 20 page) (part ++ drop (20 + length part) page)
    ∙ ap (λ l. part ++ l) none ∙ append-nil part

module _ (tree : Tree) (cut : Cut) (number : ℕ) (above bytes fence lower upper : List ℕ) (entry : Edit) (old first : MtrState)
    (good : IsTrue old.told → IsCut cut number above bytes old.seen) (put_upper : Puts number 20 (drop 20 upper) old first) where
  one : Rewrites number (with_bytes 20 (drop 20 upper) (old.seen number)) old first
  one = put_rewrites number 20 (drop 20 upper) old first (λ told. (good told).some_number) put_upper

  pub one_on : GoesOn 0 old first
  one_on = rewrote_on number (with_bytes 20 (drop 20 upper) (old.seen number)) old first one

  pub child_within : IsWithin cut.child first
  child_within told =
      let is = good (one.goes.told told) in
      subst (λ (l : List ℕ). cut.child < capacity_of (record first { seen = λ _. l }))
      (sym ((one.pages told).elsewhere 0 (λ same. is.some_number (sym same)))) is.child_counted

  module _ (second : MtrState) (put_lower : Puts cut.child 20 (drop 20 lower) first second) where
    two : Rewrites cut.child (with_bytes 20 (drop 20 lower) (first.seen cut.child)) first second
    two = put_rewrites cut.child 20 (drop 20 lower) first second (λ told. (good (one.goes.told told)).some_child) put_lower

    pub two_on : GoesOn 0 old second
    two_on = on_then 0 0 0 old first second (omega arith) one_on (rewrote_on cut.child (with_bytes 20 (drop 20 lower) (first.seen cut.child)) first second two)

    elsewhere : IsTrue second.told → (r : ℕ) → r ≢ cut.child → r ≢ number → second.seen r ≡ old.seen r
    elsewhere told r not_child not_number = (two.pages told).elsewhere r not_child ∙ (one.pages (two.goes.told told)).elsewhere r not_number

    pub parent_within : IsWithin cut.parent second
    parent_within told =
        let is = good (two_on.goes.told told) in
        subst (λ (l : List ℕ). cut.parent < capacity_of (record second { seen = λ _. l }))
        (sym (elsewhere told 0 (λ same. is.some_child (sym same)) (λ same. is.some_number (sym same)))) is.parent_counted

    pub parent_some : IsTrue second.told → cut.parent ≢ 0
    parent_some told = (good (two_on.goes.told told)).some_parent

    pub three_on : (new : MtrState) → is_in cut.parent old.visited ≡ true → Touches cut.parent second new → GoesOn 0 old new
    three_on new is touched =
        on_then 0 0 0 old second new (omega arith) two_on (touched_known_on cut.parent second new (two_on.stay cut.parent is) touched)

    module _ (new : MtrState) (put_entry : Rewrites cut.parent (edited entry (second.seen cut.parent)) second new)
        (upper_size : length upper ≡ 4096) (lower_size : length lower ≡ 4096) (size : length bytes ≡ 4096)
        (laid_out : IsLaidOut tree bytes) (middle : (0 < cut.middle) × (cut.middle < count_of bytes))
        (fence_is : fence ≡ fence_at tree bytes cut.middle)
        (lower_is : HasTreeFields bytes → IsLowerHalf bytes cut.middle fence number lower)
        (upper_is : HasTreeFields bytes → IsUpperHalf bytes cut.middle fence number upper)
        (small : number < 2 ^ 32) (laid : IsLaidOut tree above) (wide : length (fence ++ to_be_bytes w32 number) ≡ record_len_of above)
        (place : cut.place < count_of above) (room : HasRoom above)
        (entry_is : IsInsertion (cut.place + 1) (fence ++ to_be_bytes w32 number) above entry) where
      pub splits : IsTrue new.told → SplitsChild tree (fence_at tree bytes cut.middle) cut.middle cut.place cut.parent cut.child number old.seen new.seen
      splits told =
          let told_two = put_entry.goes.told told in
          let told_one = two.goes.told told_two in
          let is = good (one.goes.told told_one) in
          let last = put_entry.pages told in
          let shown = is.child_shown.same in
          let above_shown = is.parent_shown.same in
          let page = old.seen cut.child in
          let fields = fields_shown bytes page shown is.child_fields in
          let rec = fence ++ to_be_bytes w32 number in
          let next : cut.place + 1 ≡ suc cut.place = omega arith in
          let new_number : new.seen number ≡ with_bytes 20 (drop 20 upper) (old.seen number) =
          last.elsewhere number is.number_apart ∙ (two.pages told_two).elsewhere number is.halves_apart ∙ (one.pages told_one).here in
          let new_child : new.seen cut.child ≡ with_bytes 20 (drop 20 lower) page =
          last.elsewhere cut.child is.child_apart ∙ (two.pages told_two).here
          ∙ ap (with_bytes 20 (drop 20 lower)) ((one.pages told_one).elsewhere cut.child (λ same. is.halves_apart (sym same))) in
          let same_parent : second.seen cut.parent ≡ old.seen cut.parent =
          elsewhere told_two cut.parent (λ same. is.child_apart (sym same)) (λ same. is.number_apart (sym same)) in
          let new_parent : new.seen cut.parent ≡ edited entry (old.seen cut.parent) = last.here ∙ ap (edited entry) same_parent in
          let up : IsUpperPut page cut.middle fence (new.seen number) =
          upper_put bytes page upper (new.seen number) fence cut.middle number shown
          (ap (drop 20) new_number ∙ put_from (old.seen number) upper is.blank upper_size) (upper_is fields) in
          let low : IsLowerPut page cut.middle fence number (new.seen cut.child) =
          lower_put bytes page lower (new.seen cut.child) fence cut.middle number shown
          (ap (drop 20) new_child ∙ put_from page lower is.child_shown.size lower_size) (lower_is fields) in
          let above_count = same_count above (old.seen cut.parent) above_shown in
          let above_width = same_width above (old.seen cut.parent) above_shown in
          let made : HasRecords (insert (records_of (old.seen cut.parent)) (cut.place + 1) rec) (old.seen cut.parent) (edited entry (old.seen cut.parent)) =
          inserted_page (old.seen cut.parent) rec (cut.place + 1) entry is.parent_shown.size is.parent_fields (omega (arith, place, above_count))
          (wide ∙ above_width)
          (subst (λ k. 208 + (k + 1) * record_len_of (old.seen cut.parent) ≤ 4096) above_count
          (subst (λ k. 208 + (count_of above + 1) * k ≤ 4096) above_width room))
          (insertion_shown above (old.seen cut.parent) above_shown (cut.place + 1) rec entry entry_is) in
          let put : HasRecords (insert (records_of (old.seen cut.parent)) (suc cut.place) rec) (old.seen cut.parent) (new.seen cut.parent) =
          subst (λ b. HasRecords (insert (records_of (old.seen cut.parent)) (suc cut.place) rec) (old.seen cut.parent) b) (sym new_parent)
          (subst (λ k. HasRecords (insert (records_of (old.seen cut.parent)) k rec) (old.seen cut.parent) (edited entry (old.seen cut.parent))) next made) in
          let at_fence : SplitsChild tree fence cut.middle cut.place cut.parent cut.child number old.seen new.seen = record {
            size = is.child_shown.size;
            long = ap length fence_is ∙ fence_long tree bytes cut.middle size laid_out middle.1;
            some = middle.0;
            within = subst (λ (rs : List (List ℕ)). cut.middle < length rs) (same_records bytes page shown)
                (omega (arith, middle.1, length-pieces (record_len_of bytes) (count_of bytes) (drop 208 bytes)));
            key_is = fence_is ∙ ap (λ (rs : List (List ℕ)). take tree.key_len (get_or rs cut.middle [])) (same_records bytes page shown);
            lower = low;
            upper = up;
            fits = small;
            parent_fields = put.fields;
            parent_records = put.records;
            parent_kept = put.kept;
            others = λ r not_parent not_child not_number. last.elsewhere r not_parent ∙ elsewhere told_two r not_child not_number;
          } in
          subst (λ k. SplitsChild tree k cut.middle cut.place cut.parent cut.child number old.seen new.seen) fence_is at_fence
