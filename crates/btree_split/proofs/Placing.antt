-- A placed tree of which a page was split is placed, and one of the halves holds the key.
use Rattle.std.proofs.Common.{◌≡◌, ◌≢◌, inl, inr, ℕ, suc, ◌+◌, ◌/◌, ◌%◌, ◌<◌, ◌≤◌, true, false, Bool, if◌then◌else◌, ◌==◌, List, [], ◌∷◌, ◌++◌}
use Rattle.std.proofs.Common.{length, take, drop, map, get_or, insert, refl, sym, ◌∙◌, ap, subst, append_assoc, arith}
use Rattle.std.specs.declared.cmp.Ordering.{Ordering}
use Rattle.std.specs.declared.cmp.Ordering.TheVariants.{Less, Equal, Greater}
use Rattle.std.specs.Int.{w32, to_be_bytes, bit_at}
use Rattle.std.specs.Ordering.{is_le}
use Rattle.std.specs.Prelude.{slice_index}
use Rattle.std.specs.List.{AllByRecursion}
use Rattle.std.proofs.lemmas.List.{length-take-le}
use Rattle.std.proofs.lemmas.Bool.{false≢true, cases_eq}
use Rattle.entries.specs.Pairs.{Pair, key_cmp}
use Rattle.entries.proofs.Order.{key_itself, lower_from}
use Rattle.page_format.specs.Words.{level_of, record_len_of, low_of, records_of}
use Rattle.stored_pages.specs.Words.{u32_at}
use Rattle.page_format.specs.Shape.{AreRising}
use Rattle.page_format.proofs.Edited.{same_byte, same_width, body_of}
use Rattle.std.proofs.Math.Seq.{take-append_seam}
use Rattle.law_flat_tree.specs.Levels.{Fence, IsAbove, AreLevels, children}
use Rattle.law_flat_tree.specs.Leaves.{IsLeaf, IsFrom, IsUnder, AreLeaves}
use Rattle.law_flat_tree.specs.Descents.{BeginsAt, AreInner, AreAllInner, Holds, leaves_of}
use Rattle.law_flat_tree.specs.Pages.{low_fence, high_fence, child_of, entries_of, pair_of, leaf_pairs}
use Rattle.law_flat_tree.specs.PageSplits.{IsChildAt, SplitsPage, IsSplitTree}
use Rattle.law_flat_tree.specs.Trees.{IsTree, nodes, pairs_in, AreNumbered}
use Rattle.law_flat_tree.proofs.Apart.{with_both, behind_of, numbers_from}
use Rattle.law_flat_tree.proofs.Descents.{child_place}
use Rattle.law_flat_tree.proofs.Grown.{leaves_last}
use Rattle.law_flat_tree.proofs.Pages.{kept_low}
use Rattle.law_flat_tree.proofs.PageSplits.{all_in}
use Rattle.law_flat_tree.proofs.Reading.{above_in, inner_in, page_inner}
use Rattle.law_flat_tree.proofs.Rows.{IsCut}
use Rattle.law_flat_tree.proofs.Trees.{leaf_in}
use Rattle.btree.specs.declared.tree.Tree.{Tree}
use Rattle.btree.specs.Layout.{width_of}
use Rattle.btree.specs.Sound.{lows_of, levels_of, IsTreePage, IsSoundTree}
use Rattle.space_map.specs.Map.{byte_of, mark_of}
use Rattle.law_tree_changes.specs.Splits.{IsSoundSplit, later}
use Rattle.law_tree_changes.proofs.Splitting.{of_all, with_page, sound_split, split}
use Rattle.law_tree_changes.proofs.Tails.{tail_rises}
use Rattle.btree_split.specs.Placed.{least_key, BeginsLow, IsPlacedPage, IsPlacedTree, IsParent}
use Rattle.btree_split.specs.Halves.{IsTakenFor, SplitsChild}
use Rattle.btree_split.proofs.Records.{wide_at, same_index, cut_at, length-entries, named_child, le_less, first_below}
use Rattle.btree_split.proofs.Records.{take_rise, drop_rise, first_stays, first_kept, first_dropped, parent_rises}
use Rattle.btree_split.proofs.Least.{least_low, same_least}

-- an inner page has records, and they are its entries
has_entries : (n : ℕ) (low : Fence) (leaf : Bool) (rs : List (List ℕ)) → BeginsAt low (if leaf then [] else entries_of n low rs)
    → ((if leaf then [] else entries_of n low rs) ≡ entries_of n low rs) × (0 < length rs)
has_entries n low true rs begins = absurd begins
has_entries n low false [] begins = absurd begins
has_entries n low false (r ∷ rs) begins = (refl, omega arith)

first_from : (P : List ℕ → Type 0) (n : ℕ) (rs : List (List ℕ)) → 0 < length rs → AllByRecursion (λ (pair : Pair). P pair.0) (map (pair_of n) rs)
    → P (take n (get_or rs 0 []))
first_from P n [] some all = absurd (omega (arith, some))
first_from P n (r ∷ rs) some all = all.0

module _ (tree : Tree) (old : ℕ → List ℕ) (key0 : List ℕ) (u : ℕ) (placed : IsPlacedTree tree old) (parent : IsParent tree old key0 u) where
  abbrev n : ℕ
  n = tree.key_len

  sound : IsSoundTree tree old
  sound = placed.whole.sound

  pub whole : levels_of tree old ≡ parent.tops ++ (parent.holds.xs ++ u ∷ parent.holds.ys) ∷ parent.lower ∷ parent.under
  whole = parent.at ∙ ap (λ l. parent.tops ++ l ∷ parent.lower ∷ parent.under) parent.holds.whole

  each_below : (P : ℕ → Type 0) → AllByRecursion (AllByRecursion P) (levels_of tree old)
      → AllByRecursion (AllByRecursion P) ((parent.holds.xs ++ u ∷ parent.holds.ys) ∷ parent.lower ∷ parent.under)
  each_below P all =
      behind_of (AllByRecursion P) parent.tops ((parent.holds.xs ++ u ∷ parent.holds.ys) ∷ parent.lower ∷ parent.under)
      (subst (λ l. AllByRecursion (AllByRecursion P) l) whole all)

  pub parent_page : IsTreePage tree old u
  parent_page = all_in (IsTreePage tree old) parent.holds.xs parent.holds.ys u (each_below (IsTreePage tree old) sound.each).0

  pub parent_placed : IsPlacedPage n old u
  parent_placed = all_in (IsPlacedPage n old) parent.holds.xs parent.holds.ys u (each_below (IsPlacedPage n old) placed.placed).0

  numbers : AreNumbered old ((parent.holds.xs ++ u ∷ parent.holds.ys) ∷ parent.lower ∷ parent.under)
  numbers =
      numbers_from old parent.tops ((parent.holds.xs ++ u ∷ parent.holds.ys) ∷ parent.lower ∷ parent.under)
      (subst (λ l. AreNumbered old l) whole sound.stands.numbered)

  pub parent_level : level_of (old u) ≡ suc (length parent.under)
  parent_level = all_in (λ r. level_of (old r) ≡ suc (length parent.under)) parent.holds.xs parent.holds.ys u numbers.0

  parent_entries : ((nodes n old u).entries ≡ entries_of n (low_fence (low_of (old u))) (records_of (old u))) × (0 < length (records_of (old u)))
  parent_entries =
      let inner : AreInner (nodes n old) (parent.holds.xs ++ u ∷ parent.holds.ys) =
      inner_in (nodes n old) parent.tops (parent.holds.xs ++ u ∷ parent.holds.ys) parent.lower parent.under
      (subst (λ l. AreAllInner (nodes n old) l) whole sound.stands.inner) in
      has_entries n (low_fence (low_of (old u))) (level_of (old u) == 0) (records_of (old u)) (page_inner (nodes n old) parent.holds.xs parent.holds.ys u inner)

  above : IsAbove (nodes n old) (parent.holds.xs ++ u ∷ parent.holds.ys) parent.lower
  above =
      above_in (nodes n old) parent.tops (parent.holds.xs ++ u ∷ parent.holds.ys) parent.lower parent.under
      (subst (λ l. AreLevels (nodes n old) l) whole sound.stands.levels)

  module _ (j : ℕ) (inside : j < length (records_of (old u))) where
    abbrev p : ℕ
    p = child_of n (get_or (records_of (old u)) j [])

    abbrev es : List (Fence × ℕ)
    es = entries_of n (low_fence (low_of (old u))) (records_of (old u))

    abbrev fence : Fence
    fence = (get_or es j (low_fence (low_of (old u)), 0)).0

    here : (nodes n old u).entries ≡ take j es ++ (fence, p) ∷ drop (suc j) es
    here =
        parent_entries.0
        ∙ cut_at es j (low_fence (low_of (old u)), 0) (omega (arith, inside, length-entries n (low_fence (low_of (old u))) (records_of (old u))))
        ∙ ap (λ (c : ℕ). take j es ++ (fence, c) ∷ drop (suc j) es) (named_child n (low_fence (low_of (old u))) (records_of (old u)) j inside)

    front : length (take j es) ≡ j
    front = length-take-le j es (omega (arith, inside, length-entries n (low_fence (low_of (old u))) (records_of (old u))))

    pub child : IsChildAt n old (levels_of tree old) parent.tops (parent.holds.xs ++ u ∷ parent.holds.ys) parent.lower parent.under u p (take j es)
        (drop (suc j) es)
    child = record { at = whole; cs = parent.holds.xs; ds = parent.holds.ys; parents = refl; fence = fence; entries = here }

    place : IsCut (nodes n old) parent.lower (children (nodes n old) parent.holds.xs ++ take j es) fence p
        (drop (suc j) es ++ children (nodes n old) parent.holds.ys)
    place = child_place (nodes n old) parent.holds.xs parent.holds.ys parent.lower u (take j es) (drop (suc j) es) fence p above here

    pub child_page : IsTreePage tree old p
    child_page =
        all_in (IsTreePage tree old) place.xs place.ys p
        (subst (λ l. AllByRecursion (IsTreePage tree old) l) place.whole (each_below (IsTreePage tree old) sound.each).1.0)

    pub child_placed : IsPlacedPage n old p
    child_placed =
        all_in (IsPlacedPage n old) place.xs place.ys p
        (subst (λ l. AllByRecursion (IsPlacedPage n old) l) place.whole (each_below (IsPlacedPage n old) placed.placed).1.0)

    pub child_level : level_of (old p) ≡ length parent.under
    child_level =
        all_in (λ r. level_of (old r) ≡ length parent.under) place.xs place.ys p
        (subst (λ l. AllByRecursion (λ r. level_of (old r) ≡ length parent.under) l) place.whole numbers.1.0)

    -- ---- the first keys of the parent and of its first child

    abbrev first : List ℕ → List ℕ
    first bytes = take n (get_or (records_of bytes) 0 [])

    parent_first : first (old u) ≡ least_key n (low_of (old u))
    parent_first = let level = parent_level in parent_placed.first (λ none. omega (arith, level, none))

    leaf_first : (under : List (List ℕ)) → levels_of tree old ≡ parent.tops ++ (parent.holds.xs ++ u ∷ parent.holds.ys) ∷ parent.lower ∷ under
        → length under ≡ 0 → length (first (old p)) ≡ n → 0 < length (records_of (old p)) → (nodes n old p).low ≡ low_fence (low_of (old u))
        → is_le (key_cmp (first (old u)) (first (old p))) ≡ true
    leaf_first (level ∷ under) at none long some low_is = absurd (omega (arith, none))
    leaf_first [] at none long some low_is =
        let bottom : leaves_of (levels_of tree old) ≡ parent.lower =
        ap leaves_of at ∙ leaves_last parent.tops (parent.holds.xs ++ u ∷ parent.holds.ys) parent.lower in
        let leaf : IsLeaf (nodes n old p) (leaf_pairs n (old p)) =
        leaf_in (nodes n old) (pairs_in n old) place.xs place.ys p
        (subst (λ l. AreLeaves (nodes n old) (pairs_in n old) l) (bottom ∙ place.whole) sound.stands.leaves) in
        let from : IsFrom (low_fence (low_of (old u))) (first (old p)) =
        subst (λ f. IsFrom f (first (old p))) low_is (first_from (IsFrom (nodes n old p).low) n (records_of (old p)) some leaf.from) in
        subst (λ k. is_le (key_cmp k (first (old p))) ≡ true) (sym parent_first) (least_low n (low_of (old u)) (first (old p)) long from)

    inner_first : level_of (old p) ≢ 0 → (nodes n old p).low ≡ low_fence (low_of (old u)) → is_le (key_cmp (first (old u)) (first (old p))) ≡ true
    inner_first inner low_is =
        let same : first (old p) ≡ first (old u) = child_placed.first inner ∙ same_least n (low_of (old p)) (low_of (old u)) low_is ∙ sym parent_first in
        subst (λ k. is_le (key_cmp (first (old u)) k) ≡ true) (sym same) (ap is_le (key_itself (first (old u))))

    child_first : length (first (old p)) ≡ n → 0 < length (records_of (old p)) → (nodes n old p).low ≡ low_fence (low_of (old u))
        → is_le (key_cmp (first (old u)) (first (old p))) ≡ true
    child_first long some low_is = elim (cases_eq (level_of (old p)) 0) [
      | inl leaf ↦ leaf_first parent.under whole (sym child_level ∙ leaf) long some low_is
      | inr inner ↦ inner_first inner low_is
    ]

    -- ---- once it is split

    first_fence : (low : Fence) (rs : List (List ℕ)) → 0 < length rs → (get_or (entries_of n low rs) 0 (low, 0)).0 ≡ low
    first_fence low [] some = absurd (omega (arith, some))
    first_fence low (r ∷ rs) some = refl

    module _ (new : ℕ → List ℕ) (key : List ℕ) (i q : ℕ) (halves : SplitsChild tree key i j u p q old new) (taken : IsTakenFor tree old q) where
      splits : SplitsPage key i (length (take j es)) u p q old new
      splits = record {
        some = halves.some;
        within = halves.within;
        key_is = halves.key_is ∙ ap (λ k. take k (get_or (records_of (old p)) i [])) (sym halves.long);
        lower = halves.lower.part;
        upper = halves.upper.part;
        fits = halves.fits;
        kept = halves.parent_kept;
        parent = halves.parent_records ∙ ap (λ k. insert (records_of (old u)) (suc k) (key ++ to_be_bytes w32 q)) (sym front);
        others = halves.others;
      }

      -- the parent's keys
      low_first : j ≡ 0 → key_cmp (first (old u)) (take n (key ++ to_be_bytes w32 q)) ≡ Less
      low_first none =
          let rs = records_of (old p) in
          let some : 0 < length rs = omega (arith, halves.within) in
          let key_at : take n (key ++ to_be_bytes w32 q) ≡ key =
          ap (λ k. take k (key ++ to_be_bytes w32 q)) (sym halves.long) ∙ take-append_seam key (to_be_bytes w32 q) in
          let low_is : (nodes n old p).low ≡ low_fence (low_of (old u)) =
          place.fence_is ∙ ap (λ k. (get_or es k (low_fence (low_of (old u)), 0)).0) none
          ∙ first_fence (low_fence (low_of (old u))) (records_of (old u)) parent_entries.1 in
          let width : n ≤ record_len_of (old p) = omega (arith, child_page.width) in
          let long : length (get_or rs 0 []) ≡ record_len_of (old p) =
          wide_at (record_len_of (old p)) rs 0 (body_of (old p) halves.size child_page.fields).wide some in
          let short : length (first (old p)) ≡ n = length-take-le n (get_or rs 0 []) (omega (arith, width, long)) in
          subst (λ k. key_cmp (first (old u)) k ≡ Less) (sym key_at)
          (subst (λ k. key_cmp (first (old u)) k ≡ Less) (sym halves.key_is)
          (le_less (first (old u)) (first (old p)) (take n (get_or rs i [])) (child_first short some low_is)
          (first_below n rs i child_page.rising halves.some halves.within)))

      cut : IsSplitTree (length key) old new tree.root (lows_of tree old) parent.tops (parent.holds.xs ++ u ∷ parent.holds.ys) parent.lower parent.under p q
      cut =
          split tree old new parent.tops (parent.holds.xs ++ u ∷ parent.holds.ys) parent.lower parent.under key u p q i (take j es) (drop (suc j) es)
          sound halves.long child taken.free splits

      tail : AreRising (map (take n) (later (records_of (new u))))
      tail =
          tail_rises n new tree.root cut.lows parent.tops parent.holds.xs parent.holds.ys (cut.xs ++ p ∷ q ∷ cut.ys) parent.under u
          (subst (λ k. IsTree k new tree.root cut.lows) halves.long cut.tree) cut.stands

      new_u : IsTreePage tree new u
      new_u = record {
        some = parent_page.some;
        within = parent_page.within;
        fields = halves.parent_fields;
        index = same_index (old u) (new u) halves.parent_kept ∙ parent_page.index;
        width =
            same_width (old u) (new u) halves.parent_kept ∙ parent_page.width
            ∙ ap (width_of tree) (sym (same_byte (new u) (old u) 21 22 (omega arith) halves.parent_kept.head));
        rising =
            subst (λ rs. AreRising (map (take n) rs)) (sym halves.parent_records)
            (parent_rises n j (records_of (old u)) (key ++ to_be_bytes w32 q) parent_page.rising inside
            (subst (λ rs. AreRising (map (take n) (later rs))) halves.parent_records tail) low_first);
      }

      new_p : IsTreePage tree new p
      new_p = record {
        some = child_page.some;
        within = child_page.within;
        fields = halves.lower.fields;
        index = halves.lower.index ∙ child_page.index;
        width = halves.lower.width ∙ child_page.width ∙ ap (width_of tree) (sym halves.lower.part.level);
        rising = subst (λ rs. AreRising (map (take n) rs)) (sym halves.lower.part.records) (take_rise n i (records_of (old p)) child_page.rising);
      }

      new_q : IsTreePage tree new q
      new_q = record {
        some = λ none. omega (arith, none, taken.beyond);
        within = taken.small;
        fields = halves.upper.fields;
        index = halves.upper.index ∙ child_page.index;
        width = halves.upper.width ∙ child_page.width ∙ ap (width_of tree) (sym halves.upper.part.level);
        rising = subst (λ rs. AreRising (map (take n) rs)) (sym halves.upper.part.records) (drop_rise n i (records_of (old p)) child_page.rising);
      }

      pub done : IsSoundSplit tree old new parent.tops (parent.holds.xs ++ u ∷ parent.holds.ys) parent.lower parent.under p q
      done =
          sound_split tree old new parent.tops (parent.holds.xs ++ u ∷ parent.holds.ys) parent.lower parent.under key u p q i (take j es) (drop (suc j) es)
          sound halves.long child taken.free splits new_u new_p new_q

      pub stands_split : IsSoundSplit tree old new parent.tops parent.upper parent.lower parent.under p q
      stands_split = subst (λ l. IsSoundSplit tree old new parent.tops l parent.lower parent.under p q) (sym parent.holds.whole) done

      -- ---- and its pages are placed

      zero_same : new 0 ≡ old 0
      zero_same = halves.others 0 (λ is. parent_page.some (sym is)) (λ is. child_page.some (sym is)) (λ is. omega (arith, is, taken.beyond))

      mark_same : (r : ℕ) → r < 65536 → mark_of new r ≡ mark_of old r
      mark_same r few =
          let map : 2 + r / 32512 ≤ 4 = omega arith in
          ap (λ (b : List ℕ). bit_at (slice_index b (byte_of r)) (r % 8))
          (halves.others (2 + r / 32512) (λ is. omega (arith, is, map, parent_placed.beyond)) (λ is. omega (arith, is, map, child_placed.beyond))
          (λ is. omega (arith, is, map, taken.beyond)))

      -- the lower half begins as the page did, and the upper one with the key, its low fence
      lower_first : BeginsLow n (old p) → BeginsLow n (new p)
      lower_first was inner =
          ap (λ rs. take n (get_or rs 0 [])) halves.lower.part.records
          ∙ ap (take n) (first_kept (records_of (old p)) i halves.some)
          ∙ was (λ leaf. inner (halves.lower.part.level ∙ leaf)) ∙ ap (least_key n) (sym halves.lower.part.low)

      upper_first : take n (get_or (records_of (new q)) 0 []) ≡ least_key n (low_of (new q))
      upper_first =
          ap (λ rs. take n (get_or rs 0 [])) halves.upper.part.records ∙ ap (take n) (first_dropped (records_of (old p)) i)
          ∙ sym halves.key_is ∙ ap (least_key n) (sym halves.upper.part.low)

      new_placed : (r : ℕ) → IsTreePage tree old r → IsPlacedPage n old r → IsPlacedPage n new r
      new_placed =
          let Q : ℕ → Type 0 = λ r. IsTreePage tree old r → IsPlacedPage n old r → IsPlacedPage n new r in
          let level_u : level_of (new u) ≡ level_of (old u) = same_byte (new u) (old u) 21 22 (omega arith) halves.parent_kept.head in
          of_all Q u (λ is was. record {
            beyond = was.beyond;
            used = mark_same u is.within ∙ was.used;
            first = λ inner.
                ap (λ rs. take n (get_or rs 0 [])) halves.parent_records
                ∙ ap (take n) (first_stays (records_of (old u)) j (key ++ to_be_bytes w32 q) parent_entries.1)
                ∙ was.first (λ leaf. inner (level_u ∙ leaf)) ∙ ap (least_key n) (sym (kept_low (old u) (new u) halves.parent_kept));
          })
          (λ r not_u. of_all (λ s. s ≢ u → Q s) p (λ _ is was. record {
            beyond = was.beyond;
            used = mark_same p is.within ∙ was.used;
            first = λ inner. lower_first was.first inner;
          })
          (λ s not_p not_u'. of_all (λ t. t ≢ u → t ≢ p → Q t) q (λ _ _ is was. record {
            beyond = taken.beyond;
            used = mark_same q taken.small ∙ taken.used;
            first = λ inner. upper_first;
          })
          (λ t not_q not_u'' not_p' is was. record {
            beyond = was.beyond;
            used = mark_same t is.within ∙ was.used;
            first = subst (λ b. BeginsLow n b) (sym (halves.others t not_u'' not_p' not_q)) was.first;
          }) s not_u' not_p) r not_u)

      pub placed_split : IsPlacedTree tree new
      placed_split =
          let upper = parent.holds.xs ++ u ∷ parent.holds.ys in
          let before : levels_of tree old ≡ parent.tops ++ upper ∷ (done.xs ++ p ∷ done.ys) ∷ parent.under =
          whole ∙ ap (λ l. parent.tops ++ upper ∷ l ∷ parent.under) done.stood in
          let all = λ (P : ℕ → Type 0) (each : AllByRecursion (AllByRecursion P) (levels_of tree old)).
          subst (λ l. AllByRecursion (AllByRecursion P) l) before each in
          let both : AllByRecursion (AllByRecursion (IsPlacedPage n new)) (parent.tops ++ upper ∷ (done.xs ++ p ∷ done.ys) ∷ parent.under) =
          with_both (AllByRecursion (IsTreePage tree old)) (AllByRecursion (IsPlacedPage n old)) (AllByRecursion (IsPlacedPage n new))
          (λ level pages places. with_both (IsTreePage tree old) (IsPlacedPage n old) (IsPlacedPage n new) new_placed level pages places)
          (parent.tops ++ upper ∷ (done.xs ++ p ∷ done.ys) ∷ parent.under) (all (IsTreePage tree old) sound.each) (all (IsPlacedPage n old) placed.placed) in
          record {
            whole =
                record {
                  sound = done.sound;
                  counted =
                      subst (λ b. AllByRecursion (AllByRecursion (λ r. r < u32_at 44 b)) (levels_of tree new)) (sym zero_same)
                      (subst (λ l. AllByRecursion (AllByRecursion (λ r. r < u32_at 44 (old 0))) l) (sym done.levels)
                      (with_page (λ r. r < u32_at 44 (old 0)) parent.tops upper done.xs done.ys parent.under p q taken.counted
                      (all (λ r. r < u32_at 44 (old 0)) placed.whole.counted)));
                };
            reserved = λ page few. mark_same page (omega (arith, few)) ∙ placed.reserved page few;
            placed =
                subst (λ l. AllByRecursion (AllByRecursion (IsPlacedPage n new)) l) (sym done.levels)
                (with_page (IsPlacedPage n new) parent.tops upper done.xs done.ys parent.under p q (record {
                  beyond = taken.beyond;
                  used = mark_same q taken.small ∙ taken.used;
                  first = λ inner. upper_first;
                }) both);
          }

-- ---- the half that holds the key

module _ (tree : Tree) (old new : ℕ → List ℕ) (sought key : List ℕ) (i j u p q : ℕ) (level other : List ℕ)
    (splits : SplitsChild tree key i j u p q old new) (held : Holds (nodes tree.key_len old) level sought p)
    (xs ys : List ℕ) (whole : other ≡ xs ++ p ∷ q ∷ ys) where
  lower_holds : is_le (key_cmp key sought) ≡ false → Holds (nodes tree.key_len new) other sought p
  lower_holds none = record {
    xs = xs;
    ys = q ∷ ys;
    whole = whole;
    from = subst (λ low. IsFrom (low_fence low) sought) (sym splits.lower.part.low) held.from;
    under = subst (λ high. IsUnder (high_fence high) sought) (sym splits.lower.part.high) (less (key_cmp key sought) refl);
  } where
    less : (o : Ordering) → o ≡ key_cmp key sought → key_cmp sought key ≡ Less
    less Less is = absurd (false≢true (sym none ∙ ap is_le (sym is)))
    less Equal is = absurd (false≢true (sym none ∙ ap is_le (sym is)))
    less Greater is = lower_from key sought (sym is)

  upper_holds : is_le (key_cmp key sought) ≡ true → Holds (nodes tree.key_len new) other sought q
  upper_holds le = record {
    xs = xs ++ p ∷ [];
    ys = ys;
    whole = whole ∙ sym (append_assoc xs (p ∷ []) (q ∷ ys));
    from = subst (λ low. IsFrom (low_fence low) sought) (sym splits.upper.part.low) le;
    under = subst (λ high. IsUnder (high_fence high) sought) (sym splits.upper.part.high) held.under;
  }

  pub half_holds : Holds (nodes tree.key_len new) other sought (if is_le (key_cmp key sought) then q else p)
  half_holds = go (is_le (key_cmp key sought)) refl where
    go : (b : Bool) → b ≡ is_le (key_cmp key sought) → Holds (nodes tree.key_len new) other sought (if b then q else p)
    go true is = upper_holds (sym is)
    go false is = lower_holds (sym is)
