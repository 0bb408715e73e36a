-- A change of the leaf of a key, from the bytes that were read on.
use Rattle.std.proofs.Common.{◌≡◌, ◌≢◌, ℕ, ◌+◌, ◌*◌, ◌<◌, ◌≤◌, List, [], ◌∷◌, ◌++◌}
use Rattle.std.proofs.Common.{length, take, drop, map, true, None, sym, ◌∙◌, ap, subst, length-append, arith}
use Rattle.std.specs.Prelude.{insert, remove, slice_set, IsTrue, IsSome}
use Rattle.store_api.specs.declared.visits.Visit.{Visit}
use Rattle.store_api.specs.declared.visits.Visit.TheVariants.{Bad}
use Rattle.entries.specs.Pairs.{value_of}
use Rattle.page_format.specs.declared.records.Found.{Found}
use Rattle.page_format.specs.declared.records.Found.TheVariants.{At, Before}
use Rattle.page_format.specs.Found.{IsFound}
use Rattle.page_format.specs.Shape.{HasTreeFields, AreRising}
use Rattle.page_format.specs.Words.{count_of, record_len_of, records_of}
use Rattle.mtr.specs.Seen.{MtrState, IsWithin, IsShown, with_bytes, capacity_of}
use Rattle.mtr.specs.Calls.{Consults}
use Rattle.btree.specs.declared.tree.Tree.{Tree}
use Rattle.btree.specs.Layout.{width_of}
use Rattle.btree.specs.Sound.{tree_pairs}
use Rattle.btree.specs.Walks.{IsReadableLeaf}
use Rattle.btree.proofs.Shown.{same_records, same_count, same_width, leaf_shown}
use Rattle.btree_change.specs.declared.edit.Edit.{Edit}
use Rattle.btree_change.specs.declared.leaf_changes.Insertion.TheVariants.{Added, Crowded}
use Rattle.btree_change.specs.Edits.{edited, begin_of, IsInsertion, IsRemoval, HasRoom}
use Rattle.btree_change.specs.Trees.{DoesInsert, DoesReplace, DoesRemove}
use Rattle.btree_change.specs.Calls.{Rewrites, IsLeafFor, IsLeafStop}
use Rattle.btree_change.proofs.Bytes.{HasRecords, inserted_page, removed_page, replaced_page, insertion_shown, removal_shown, begin_shown}
use Rattle.btree_change.proofs.Whole.{leaf_is, leaf_reads, leaf_counted, there, absent, inserted, replaced, removed}

-- the key is found there, where the keys of the page rise
abbrev pub Finds : Tree → List ℕ → List ℕ → Found → Type 0
Finds tree key bytes found = AreRising (map (take tree.key_len) (records_of bytes)) → IsFound (records_of bytes) key found

module _ (tree : Tree) (leaf : ℕ) (key bytes : List ℕ) (old between : MtrState) (long : length key ≡ tree.key_len)
    (good : IsTrue old.told → IsLeafFor tree key leaf old.seen) (looked : Consults (leaf ∷ []) old between)
    (shown : IsTrue old.told → IsShown (old.seen leaf) bytes) where
  before : IsTrue between.told → IsTrue old.told
  before told = looked.goes.told told

  same_seen : IsTrue between.told → between.seen ≡ old.seen
  same_seen told = (looked.same told).seen

  pub leaf_within : IsWithin leaf between
  leaf_within told =
      let is = good (before told) in
      subst (λ (f : ℕ → List ℕ). leaf < capacity_of (record between { seen = f })) (sym (same_seen told))
      (leaf_counted tree old.seen key leaf is.whole is.holds)

  pub leaf_some : IsTrue between.told → leaf ≢ 0
  leaf_some told = let is = good (before told) in (leaf_is tree old.seen key leaf is.whole is.holds).some

  pub not_refused : (why : Visit) → (why ≡ Bad leaf 1) × (IsReadableLeaf tree bytes → ⊥) → IsLeafStop leaf old between why
  not_refused why refused =
      subst (IsLeafStop leaf old between) (sym refused.0) (λ told.
      let is = good (before told) in
      absurd (refused.1 (leaf_shown bytes (old.seen leaf) (shown (before told)).same tree (leaf_reads tree old.seen key leaf is.whole is.holds))))

  module _ (told : IsTrue between.told) where
    is : IsLeafFor tree key leaf old.seen
    is = good (before told)

    abbrev page : List ℕ
    page = old.seen leaf

    same : drop 20 bytes ≡ drop 20 page
    same = (shown (before told)).same

    page_found : (found : Found) → Finds tree key bytes found
        → IsFound (records_of page) key found
    page_found found finds =
        subst (λ rs. IsFound rs key found) (same_records bytes page same)
        (finds (subst (λ rs. AreRising (map (take tree.key_len) rs)) (sym (same_records bytes page same))
        (leaf_is tree old.seen key leaf is.whole is.holds).rising))

    wide : IsReadableLeaf tree bytes → (value : List ℕ) → length value ≡ tree.value_len → length key + length value ≡ record_len_of page
    wide reads value short =
        let width : record_len_of bytes ≡ tree.key_len + tree.value_len = reads.laid_out.width ∙ ap (width_of tree) reads.leaf in
        omega (arith, width, long, short, same_width bytes page same)

    pub is_present : (i : ℕ) → Finds tree key bytes (At i)
        → IsSome (value_of key (tree_pairs tree old.seen))
    is_present i finds = there tree old.seen key leaf is.whole is.holds long i (page_found (At i) finds)

    pub is_absent : (i : ℕ) → Finds tree key bytes (Before i)
        → value_of key (tree_pairs tree old.seen) ≡ None
    is_absent i finds = absent tree old.seen key leaf is.whole is.holds long i (page_found (Before i) finds)

    pub lacks_room : (HasRoom bytes → ⊥) → HasRoom page → ⊥
    lacks_room full room =
        full (subst (λ n. 208 + (n + 1) * record_len_of bytes ≤ 4096) (sym (same_count bytes page same))
        (subst (λ n. 208 + (count_of page + 1) * n ≤ 4096) (sym (same_width bytes page same)) room))

    pub is_crowded : (i : ℕ) → Finds tree key bytes (Before i)
        → (HasRoom bytes → ⊥) → DoesInsert tree key [] old.seen between.seen Crowded
    is_crowded i finds full = (
      is_absent i finds,
      record {
        leaf = leaf;
        holds = is.holds;
        full = lacks_room full;
      },
      same_seen told,
    )

  -- ---- what was put

  module _ (new : MtrState) (told : IsTrue new.told) (now : List ℕ) (done : Rewrites leaf now between new) where
    told_before : IsTrue between.told
    told_before = done.goes.told told

    seen_here : new.seen leaf ≡ now
    seen_here = (done.pages told).here

    seen_elsewhere : (other : ℕ) → other ≢ leaf → new.seen other ≡ old.seen other
    seen_elsewhere other ne = (done.pages told).elsewhere other ne ∙ ap (λ (f : ℕ → List ℕ). f other) (same_seen told_before)

    leaf_before : between.seen leaf ≡ old.seen leaf
    leaf_before = ap (λ (f : ℕ → List ℕ). f leaf) (same_seen told_before)

    size : length (old.seen leaf) ≡ 4096
    size = (shown (before told_before)).size

    fields : HasTreeFields (old.seen leaf)
    fields = let is = good (before told_before) in (leaf_is tree old.seen key leaf is.whole is.holds).fields

    has : (rs : List (List ℕ)) (change : List ℕ → List ℕ) → now ≡ change (between.seen leaf) → HasRecords rs (old.seen leaf) (change (old.seen leaf))
        → HasRecords rs (old.seen leaf) (new.seen leaf)
    has rs change is made = subst (λ b. HasRecords rs (old.seen leaf) b) (sym (seen_here ∙ is ∙ ap change leaf_before)) made

    pub is_added : (value : List ℕ) (i : ℕ) (edit : Edit) → now ≡ edited edit (between.seen leaf) → IsReadableLeaf tree bytes
        → Finds tree key bytes (Before i) → i ≤ count_of bytes
        → length value ≡ tree.value_len → HasRoom bytes → IsInsertion i (key ++ value) bytes edit → DoesInsert tree key value old.seen new.seen Added
    is_added value i edit put reads finds place short room insertion =
        let is = good (before told_before) in
        let page = old.seen leaf in
        let same = (shown (before told_before)).same in
        let there : i ≤ count_of page = omega (arith, place, same_count bytes page same) in
        let fits : HasRoom page = subst (λ n. 208 + (n + 1) * record_len_of page ≤ 4096) (same_count bytes page same)
        (subst (λ n. 208 + (count_of bytes + 1) * n ≤ 4096) (same_width bytes page same) room) in
        let rs = insert (records_of page) i (key ++ value) in (
          is_absent told_before i finds,
          inserted tree old.seen key leaf is.whole is.holds long new.seen seen_elsewhere value i (page_found told_before (Before i) finds)
              (has rs (edited edit) put (inserted_page page (key ++ value) i edit size fields there
              (length-append key value ∙ wide told_before reads value short) fits (insertion_shown bytes page same i (key ++ value) edit insertion))),
        )

    pub is_replaced : (value : List ℕ) (i at : ℕ) → now ≡ with_bytes at value (between.seen leaf) → at ≡ begin_of i bytes + length key
        → IsReadableLeaf tree bytes → Finds tree key bytes (At i) → i < count_of bytes
        → length value ≡ tree.value_len → DoesReplace tree key value old.seen new.seen true
    is_replaced value i at put at_is reads finds place short =
        let is = good (before told_before) in
        let page = old.seen leaf in
        let same = (shown (before told_before)).same in
        let there : i < count_of page = omega (arith, place, same_count bytes page same) in
        let found = page_found told_before (At i) finds in
        let at_page : at ≡ begin_of i page + length key = at_is ∙ ap (λ k. k + length key) (begin_shown bytes page same i) in
        let rs = slice_set (records_of page) i (key ++ value) in (
          is_present told_before i finds,
          replaced tree old.seen key leaf is.whole is.holds long new.seen seen_elsewhere value i found
              (has rs (with_bytes (begin_of i page + length key) value) (put ∙ ap (λ k. with_bytes k value (between.seen leaf)) at_page)
              (replaced_page page key value i size fields there (wide told_before reads value short) found.2)),
        )

    pub is_removed : (i : ℕ) (edit : Edit) → now ≡ edited edit (between.seen leaf)
        → Finds tree key bytes (At i) → i < count_of bytes
        → IsRemoval i bytes edit → DoesRemove tree key old.seen new.seen true
    is_removed i edit put finds place removal =
        let is = good (before told_before) in
        let page = old.seen leaf in
        let same = (shown (before told_before)).same in
        let there : i < count_of page = omega (arith, place, same_count bytes page same) in
        let rs = remove (records_of page) i in (
          is_present told_before i finds,
          removed tree old.seen key leaf is.whole is.holds long new.seen seen_elsewhere i (page_found told_before (At i) finds)
              (has rs (edited edit) put (removed_page page i edit size fields there (removal_shown bytes page same i edit removal))),
        )
