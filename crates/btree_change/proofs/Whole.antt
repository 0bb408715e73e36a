-- A tree of which one leaf has other records is whole still.
use Rattle.std.proofs.Common.{◌≡◌, ◌≢◌, ◌⊎◌, inl, inr, ℕ, ◌<◌, List, [], ◌∷◌, ◌++◌}
use Rattle.std.proofs.Common.{length, take, map, true, false, eqb, None, sym, ◌∙◌, ap, subst, arith}
use Rattle.std.proofs.Common.{insert, remove, slice_set}
use Rattle.std.specs.Prelude.{is_some, IsSome}
use Rattle.std.specs.List.{AllByRecursion}
use Rattle.std.proofs.lemmas.Bool.Decides.{eqb_tells}
use Rattle.std.specs.Int.{w32, from_be_bytes}
use Rattle.entries.specs.Pairs.{Pair, AreRising, value_of, with_pair, without_key}
use Rattle.entries.proofs.Order.{key_cmp_is}
use Rattle.page_format.specs.Words.{level_of, index_of, record_len_of, records_of}
use Rattle.stored_pages.specs.Words.{u32_at}
use Rattle.page_format.specs.Shape.{HasTreeFields}
use Rattle.page_format.specs.Shape as shape
use Rattle.page_format.specs.Changes.{KeepsFields}
use Rattle.page_format.specs.Found.{IsFound}
use Rattle.page_format.specs.declared.records.Found.TheVariants.{At, Before}
use Rattle.page_format.proofs.Edited.{same_byte, same_width, middle_part}
use Rattle.law_flat_tree.specs.Leaves.{AreLeaves}
use Rattle.law_flat_tree.specs.Descents.{Holds, leaves_of}
use Rattle.law_flat_tree.specs.Pages.{pair_of}
use Rattle.law_flat_tree.specs.PageSplits.{StandsNowhere}
use Rattle.law_flat_tree.specs.Trees.{IsTree, nodes, levels_from, all_pairs, pairs_in}
use Rattle.law_flat_tree.proofs.PageSplits.{all_in}
use Rattle.law_flat_tree.proofs.Reading.{one_shape}
use Rattle.law_flat_tree.proofs.Trees.{leaf_in, inserts, removes, replaces, key_there, key_absent}
use Rattle.btree.specs.declared.tree.Tree.{Tree}
use Rattle.btree.specs.Layout.{width_of}
use Rattle.btree.specs.Sound.{lows_of, levels_of, IsTreePage, HoldsKey, tree_pairs}
use Rattle.btree.specs.Walks.{IsReadableLeaf}
use Rattle.btree.proofs.Passed.{leaves_each, leaf_sound, leaf_readable}
use Rattle.btree_change.specs.Trees.{IsWholeTree, Becomes}
use Rattle.btree_change.proofs.Bytes.{HasRecords}

-- ---- lists of levels

each_of : {A : Type 0} (P Q : A → Type 0) → ((x : A) → P x → Q x) → (xs : List A) → AllByRecursion P xs → AllByRecursion Q xs
each_of P Q on [] all = tt
each_of P Q on (x ∷ xs) all = (on x all.0, each_of P Q on xs all.1)

pub each_page : (P Q : ℕ → Type 0) → ((page : ℕ) → P page → Q page) → (levels : List (List ℕ)) → AllByRecursion (AllByRecursion P) levels
    → AllByRecursion (AllByRecursion Q) levels
each_page P Q on levels all = each_of (AllByRecursion P) (AllByRecursion Q) (λ level is. each_of P Q on level is) levels all

-- what holds of the changed page and of each other page holds of all
of_all : (P : ℕ → Type 0) (p : ℕ) → P p → ((q : ℕ) → q ≢ p → P q) → (q : ℕ) → P q
of_all P p here others q = go (eqb_tells q p) where
  go : ((eqb q p ≡ true) × (q ≡ p)) ⊎ ((eqb q p ≡ false) × (q ≢ p)) → P q
  go (inl same) = subst P (sym same.1) here
  go (inr other) = others q other.1

-- ---- keys of pairs that rise

first_rises : (n : ℕ) (r : List ℕ) (rs : List (List ℕ)) → AreRising (map (pair_of n) (r ∷ rs)) → shape.AreRising (map (take n) (r ∷ rs))
first_rises n r [] rising = tt
first_rises n r (s ∷ ss) rising = (sym (key_cmp_is (take n r) (take n s)) ∙ rising.0.0, first_rises n s ss rising.1)

pub keys_rise : (n : ℕ) (rs : List (List ℕ)) → AreRising (map (pair_of n) rs) → shape.AreRising (map (take n) rs)
keys_rise n [] rising = tt
keys_rise n (r ∷ rs) rising = first_rises n r rs rising

-- ---- a leaf whose records are changed

kept_index : (old new : List ℕ) → KeepsFields old new → index_of new ≡ index_of old
unfolding u32_at
kept_index old new keeps = ap (from_be_bytes w32) (middle_part old new 0 4 (omega arith) keeps)

module _ (tree : Tree) (old : ℕ → List ℕ) (key : List ℕ) (leaf : ℕ) (whole : IsWholeTree tree old) (holds : HoldsKey tree old key leaf) where
  pub leaf_is : IsTreePage tree old leaf
  leaf_is = leaf_sound tree old whole.sound holds.xs holds.ys leaf holds.whole

  pub leaf_reads : IsReadableLeaf tree (old leaf)
  leaf_reads = leaf_readable tree old whole.sound holds.xs holds.ys leaf holds.whole

  pub leaf_counted : leaf < u32_at 44 (old 0)
  leaf_counted =
      all_in (λ page. page < u32_at 44 (old 0)) holds.xs holds.ys leaf
      (subst (λ l. AllByRecursion (λ page. page < u32_at 44 (old 0)) l) holds.whole
      (leaves_each (λ page. page < u32_at 44 (old 0)) (tree.root ∷ []) (lows_of tree old) whole.counted))

  module _ (new : ℕ → List ℕ) (rs : List (List ℕ)) (made : HasRecords rs (old leaf) (new leaf))
      (others : (page : ℕ) → page ≢ leaf → new page ≡ old page) (stands : IsTree tree.key_len new tree.root (lows_of tree old)) where
    lows_same : lows_of tree new ≡ lows_of tree old
    lows_same = sym (one_shape tree.key_len new tree.root (lows_of tree old) stands)

    levels_same : levels_of tree new ≡ levels_of tree old
    levels_same = ap (levels_from tree.root) lows_same

    level_same : level_of (new leaf) ≡ level_of (old leaf)
    level_same = same_byte (new leaf) (old leaf) 21 22 (omega arith) made.kept.head

    leaf_rises : shape.AreRising (map (take tree.key_len) (records_of (new leaf)))
    leaf_rises =
        keys_rise tree.key_len (records_of (new leaf))
        (leaf_in (nodes tree.key_len new) (pairs_in tree.key_len new) holds.xs holds.ys leaf
        (subst (λ l. AreLeaves (nodes tree.key_len new) (pairs_in tree.key_len new) l) holds.whole stands.leaves)).rising

    page_same : (page : ℕ) → IsTreePage tree old page → new page ≡ old page → IsTreePage tree new page
    page_same page is same = record {
      some = is.some;
      within = is.within;
      fields = subst HasTreeFields (sym same) is.fields;
      index = ap index_of same ∙ is.index;
      width = subst (λ b. record_len_of b ≡ width_of tree (level_of b)) (sym same) is.width;
      rising = subst (λ b. shape.AreRising (map (take tree.key_len) (records_of b))) (sym same) is.rising;
    }

    leaf_new : IsTreePage tree old leaf → IsTreePage tree new leaf
    leaf_new is = record {
      some = is.some;
      within = is.within;
      fields = made.fields;
      index = kept_index (old leaf) (new leaf) made.kept ∙ is.index;
      width = same_width (old leaf) (new leaf) made.kept ∙ is.width ∙ ap (width_of tree) (sym level_same);
      rising = leaf_rises;
    }

    page_new : (page : ℕ) → IsTreePage tree old page → IsTreePage tree new page
    page_new = of_all (λ page. IsTreePage tree old page → IsTreePage tree new page) leaf leaf_new (λ page ne is. page_same page is (others page ne))

    first_same : new 0 ≡ old 0
    first_same = others 0 (λ same. leaf_is.some (sym same))

    not_of_tree : (page : ℕ) → StandsNowhere page (levels_of tree old) → page ≢ leaf
    not_of_tree page nowhere same =
        all_in (λ other. other ≢ page) holds.xs holds.ys leaf
        (subst (λ l. AllByRecursion (λ other. other ≢ page) l) holds.whole
        (leaves_each (λ other. other ≢ page) (tree.root ∷ []) (lows_of tree old) nowhere)) (sym same)

    pub becomes : (pairs : List Pair) → all_pairs tree.key_len new tree.root (lows_of tree old) ≡ pairs → Becomes tree pairs old new
    becomes pairs is = record {
      whole =
          record {
            sound =
                record {
                  stands = subst (λ l. IsTree tree.key_len new tree.root l) (sym lows_same) stands;
                  each =
                      subst (λ l. AllByRecursion (AllByRecursion (IsTreePage tree new)) l) (sym levels_same)
                      (each_page (IsTreePage tree old) (IsTreePage tree new) page_new (levels_of tree old) whole.sound.each);
                };
            counted =
                subst (λ l. AllByRecursion (AllByRecursion (λ page. page < u32_at 44 (new 0))) l) (sym levels_same)
                (subst (λ b. AllByRecursion (AllByRecursion (λ page. page < u32_at 44 b)) (levels_of tree old)) (sym first_same) whole.counted);
          };
      pairs_are = ap (all_pairs tree.key_len new tree.root) lows_same ∙ is;
      levels = levels_same;
      others = λ page nowhere. others page (not_of_tree page nowhere);
    }

  -- ---- the edits

  module _ (long : length key ≡ tree.key_len) where
    stands' : IsTree (length key) old tree.root (lows_of tree old)
    stands' = subst (λ n. IsTree n old tree.root (lows_of tree old)) (sym long) whole.sound.stands

    holds' : Holds (nodes (length key) old) (leaves_of (levels_from tree.root (lows_of tree old))) key leaf
    holds' = subst (λ n. Holds (nodes n old) (leaves_of (levels_from tree.root (lows_of tree old))) key leaf) (sym long) holds

    pub there : (i : ℕ) → IsFound (records_of (old leaf)) key (At i) → IsSome (value_of key (tree_pairs tree old))
    there i found =
        subst (λ n. is_some (value_of key (all_pairs n old tree.root (lows_of tree old))) ≡ true) long
        (key_there old tree.root (lows_of tree old) key leaf stands' holds' i found)

    pub absent : (i : ℕ) → IsFound (records_of (old leaf)) key (Before i) → value_of key (tree_pairs tree old) ≡ None
    absent i found =
        subst (λ n. value_of key (all_pairs n old tree.root (lows_of tree old)) ≡ None) long
        (key_absent old tree.root (lows_of tree old) key leaf stands' holds' i found)

    module _ (new : ℕ → List ℕ) (others : (page : ℕ) → page ≢ leaf → new page ≡ old page) where
      by_length : (edit : List Pair → List Pair) (rs : List (List ℕ)) → HasRecords rs (old leaf) (new leaf)
          → IsTree (length key) new tree.root (lows_of tree old)
          × (all_pairs (length key) new tree.root (lows_of tree old) ≡ edit (all_pairs (length key) old tree.root (lows_of tree old)))
          → Becomes tree (edit (tree_pairs tree old)) old new
      by_length edit rs made done =
          becomes new rs made others (subst (λ n. IsTree n new tree.root (lows_of tree old)) long done.0) (edit (tree_pairs tree old))
          (subst (λ n. all_pairs n new tree.root (lows_of tree old) ≡ edit (all_pairs n old tree.root (lows_of tree old))) long done.1)

      pub inserted : (value : List ℕ) (i : ℕ) → IsFound (records_of (old leaf)) key (Before i)
          → HasRecords (insert (records_of (old leaf)) i (key ++ value)) (old leaf) (new leaf)
          → Becomes tree (with_pair key value (tree_pairs tree old)) old new
      inserted value i found made =
          by_length (with_pair key value) (insert (records_of (old leaf)) i (key ++ value)) made
          (inserts old new tree.root (lows_of tree old) key value leaf i stands' holds' found made.records (record { kept = made.kept; others = others }))

      pub replaced : (value : List ℕ) (i : ℕ) → IsFound (records_of (old leaf)) key (At i)
          → HasRecords (slice_set (records_of (old leaf)) i (key ++ value)) (old leaf) (new leaf)
          → Becomes tree (with_pair key value (tree_pairs tree old)) old new
      replaced value i found made =
          by_length (with_pair key value) (slice_set (records_of (old leaf)) i (key ++ value)) made
          (replaces old new tree.root (lows_of tree old) key value leaf i stands' holds' found made.records (record { kept = made.kept; others = others }))

      pub removed : (i : ℕ) → IsFound (records_of (old leaf)) key (At i)
          → HasRecords (remove (records_of (old leaf)) i) (old leaf) (new leaf)
          → Becomes tree (without_key key (tree_pairs tree old)) old new
      removed i found made =
          by_length (without_key key) (remove (records_of (old leaf)) i) made
          (removes old new tree.root (lows_of tree old) key leaf i stands' holds' found made.records (record { kept = made.kept; others = others }))
