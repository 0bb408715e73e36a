-- A placed tree of which two leaves under one parent became one is placed, with the same pairs.
use Rattle.std.proofs.Common.{◌≡◌, ◌≢◌, inl, ℕ, suc, ◌+◌, ◌/◌, ◌%◌, ◌<◌, ◌≤◌, ◌==◌, List, [], ◌∷◌, ◌++◌}
use Rattle.std.proofs.Common.{length, take, drop, map, get_or, remove, refl, sym, ◌∙◌, ap, subst, append_assoc, arith}
use Rattle.std.specs.Int.{bit_at}
use Rattle.std.specs.Prelude.{slice_index}
use Rattle.std.specs.List.{AllByRecursion}
use Rattle.std.proofs.lemmas.List.{length-take-le}
use Rattle.page_format.specs.Words.{level_of, low_of, count_of, record_len_of, records_of}
use Rattle.stored_pages.specs.Words.{u32_at}
use Rattle.page_format.specs.Shape.{AreRising}
use Rattle.page_format.proofs.Edited.{same_byte, same_width}
use Rattle.page_format.proofs.Orders.{rising_remove}
use Rattle.page_format.proofs.Pieces.{length-pieces}
use Rattle.law_flat_tree.specs.Levels.{Fence, IsAbove, IsRow, AreLevels, children}
use Rattle.law_flat_tree.specs.Levels.Fence.{First, Last}
use Rattle.law_flat_tree.specs.Leaves.{IsLeaf, HaveRoom, AreOthers, AreLeaves}
use Rattle.law_flat_tree.specs.Descents.{AreInner, AreAllInner, leaves_of}
use Rattle.law_flat_tree.specs.Pages.{low_fence, entries_of, leaf_pairs}
use Rattle.law_flat_tree.specs.PageMerges.{AreChildrenAt, MergesPages, IsMergedTree}
use Rattle.law_flat_tree.specs.PageSplits.{StandsNowhere}
use Rattle.law_flat_tree.specs.Trees.{IsTree, nodes, pairs_in, levels_from, AreNumbered, all_pairs}
use Rattle.law_flat_tree.proofs.Apart.{each_of, with_both, behind_of, numbers_from, numbers_above, other_by_number}
use Rattle.law_flat_tree.proofs.Descents.{child_place}
use Rattle.law_flat_tree.proofs.Fences.{others_before, others_behind, others_by_mark}
use Rattle.law_flat_tree.proofs.Grown.{leaves_last}
use Rattle.law_flat_tree.proofs.Pages.{kept_low, map-remove}
use Rattle.law_flat_tree.proofs.PageMerges.{pages_are_merged}
use Rattle.law_flat_tree.proofs.PageSplits.{all_in}
use Rattle.law_flat_tree.proofs.Reading.{one_shape, above_in, inner_in, page_inner}
use Rattle.law_flat_tree.proofs.Rooms.{all_rooms}
use Rattle.law_flat_tree.proofs.Rows.{IsCut}
use Rattle.law_flat_tree.proofs.Trees.{leaf_in}
use Rattle.btree.specs.declared.tree.Tree.{Tree}
use Rattle.btree.specs.Layout.{width_of}
use Rattle.btree.specs.Sound.{lows_of, levels_of, IsTreePage, IsSoundTree}
use Rattle.btree_change.proofs.Whole.{keys_rise}
use Rattle.space_map.specs.Map.{byte_of, mark_of}
use Rattle.law_tree_changes.proofs.Alike.{page_stays}
use Rattle.btree_split.specs.Placed.{least_key, BeginsLow, IsPlacedPage, IsPlacedTree}
use Rattle.btree_merge.specs.Merges.{IsAboveLeaves, MergesLeaves, LosesPage}
use Rattle.btree_split.specs.Halves.{child_under}
use Rattle.btree_merge.proofs.Lists.{of_all, cut_one, cut_two, length-entries, named_child, has_entries, first_left, same_index}
use Rattle.btree_merge.proofs.Lists.{with_page, without_page, both_sides, on_all}

-- how many records a page has
pub counted_records : (bytes : List ℕ) → length (records_of bytes) ≡ count_of bytes
counted_records bytes = length-pieces (record_len_of bytes) (count_of bytes) (drop 208 bytes)

module _ (tree : Tree) (old : ℕ → List ℕ) (u : ℕ) (placed : IsPlacedTree tree old) (above : IsAboveLeaves tree old u) where
  abbrev n : ℕ
  n = tree.key_len

  abbrev uppers : List ℕ
  uppers = above.cs ++ u ∷ above.ds

  sound : IsSoundTree tree old
  sound = placed.whole.sound

  each_below : (P : ℕ → Type 0) → AllByRecursion (AllByRecursion P) (levels_of tree old) → AllByRecursion (AllByRecursion P) (uppers ∷ above.leaves ∷ [])
  each_below P all =
      behind_of (AllByRecursion P) above.tops (uppers ∷ above.leaves ∷ []) (subst (λ l. AllByRecursion (AllByRecursion P) l) above.at all)

  pub parent_page : IsTreePage tree old u
  parent_page = all_in (IsTreePage tree old) above.cs above.ds u (each_below (IsTreePage tree old) sound.each).0

  pub parent_placed : IsPlacedPage n old u
  parent_placed = all_in (IsPlacedPage n old) above.cs above.ds u (each_below (IsPlacedPage n old) placed.placed).0

  pub parent_counted : u < u32_at 44 (old 0)
  parent_counted = all_in (λ r. r < u32_at 44 (old 0)) above.cs above.ds u (each_below (λ r. r < u32_at 44 (old 0)) placed.whole.counted).0

  stand : AreLevels (nodes n old) (above.tops ++ uppers ∷ above.leaves ∷ [])
  stand = subst (λ l. AreLevels (nodes n old) l) above.at sound.stands.levels

  numbered : AreNumbered old (above.tops ++ uppers ∷ above.leaves ∷ [])
  numbered = subst (λ l. AreNumbered old l) above.at sound.stands.numbered

  numbers : AreNumbered old (uppers ∷ above.leaves ∷ [])
  numbers = numbers_from old above.tops (uppers ∷ above.leaves ∷ []) numbered

  pub parent_level : level_of (old u) ≡ 1
  parent_level = all_in (λ r. level_of (old r) ≡ 1) above.cs above.ds u numbers.0

  parent_entries : ((nodes n old u).entries ≡ entries_of n (low_fence (low_of (old u))) (records_of (old u))) × (0 < length (records_of (old u)))
  parent_entries =
      let inner : AreInner (nodes n old) uppers =
      inner_in (nodes n old) above.tops uppers above.leaves [] (subst (λ l. AreAllInner (nodes n old) l) above.at sound.stands.inner) in
      has_entries n (low_fence (low_of (old u))) (level_of (old u) == 0) (records_of (old u)) (page_inner (nodes n old) above.cs above.ds u inner)

  pub some_records : 0 < length (records_of (old u))
  some_records = parent_entries.1

  over : IsAbove (nodes n old) uppers above.leaves
  over = above_in (nodes n old) above.tops uppers above.leaves [] stand

  abbrev es : List (Fence × ℕ)
  es = entries_of n (low_fence (low_of (old u))) (records_of (old u))

  abbrev end : Fence × ℕ
  end = (low_fence (low_of (old u)), 0)

  long : length es ≡ length (records_of (old u))
  long = length-entries n (low_fence (low_of (old u))) (records_of (old u))

  -- ---- a leaf below it

  module _ (k : ℕ) (inside : k < length (records_of (old u))) where
    abbrev leaf : ℕ
    leaf = child_under n old u k

    named : (get_or es k end).1 ≡ leaf
    named = named_child n (low_fence (low_of (old u))) (records_of (old u)) k inside

    place : IsCut (nodes n old) above.leaves (children (nodes n old) above.cs ++ take k es) (get_or es k end).0 leaf
        (drop (suc k) es ++ children (nodes n old) above.ds)
    place =
        child_place (nodes n old) above.cs above.ds above.leaves u (take k es) (drop (suc k) es) (get_or es k end).0 leaf over
        (parent_entries.0 ∙ cut_one es k end (omega (arith, inside, long))
        ∙ ap (λ (c : ℕ). take k es ++ ((get_or es k end).0, c) ∷ drop (suc k) es) named)

    pub of_leaf : (P : ℕ → Type 0) → AllByRecursion (AllByRecursion P) (levels_of tree old) → P leaf
    of_leaf P all = all_in P place.xs place.ys leaf (subst (λ l. AllByRecursion P l) place.whole (each_below P all).1.0)

    pub leaf_page : IsTreePage tree old leaf
    leaf_page = of_leaf (IsTreePage tree old) sound.each

    pub leaf_placed : IsPlacedPage n old leaf
    leaf_placed = of_leaf (IsPlacedPage n old) placed.placed

    pub leaf_counted : leaf < u32_at 44 (old 0)
    leaf_counted = of_leaf (λ r. r < u32_at 44 (old 0)) placed.whole.counted

    pub leaf_level : level_of (old leaf) ≡ 0
    leaf_level = all_in (λ r. level_of (old r) ≡ 0) place.xs place.ys leaf (subst (λ l. AllByRecursion (λ r. level_of (old r) ≡ 0) l) place.whole numbers.1.0)

    pub leaf_apart : leaf ≢ u
    leaf_apart same = omega (arith, leaf_level, parent_level, ap (λ r. level_of (old r)) same)

  -- ---- two leaves side by side

  module _ (j : ℕ) (inside : suc j < length (records_of (old u))) where
    abbrev p : ℕ
    p = child_under n old u j

    abbrev q : ℕ
    q = child_under n old u (suc j)

    first_in : j < length (records_of (old u))
    first_in = omega (arith, inside)

    front : length (take j es) ≡ j
    front = length-take-le j es (omega (arith, inside, long))

    abbrev one : Fence
    one = (get_or es j end).0

    abbrev other : Fence
    other = (get_or es (suc j) end).0

    here : (nodes n old u).entries ≡ take j es ++ (one, p) ∷ (other, q) ∷ drop (suc (suc j)) es
    here =
        parent_entries.0 ∙ cut_two es j end (omega (arith, inside, long))
        ∙ ap (λ (c : ℕ). take j es ++ (one, c) ∷ get_or es (suc j) end ∷ drop (suc (suc j)) es) (named j first_in)
        ∙ ap (λ (c : ℕ). take j es ++ (one, p) ∷ (other, c) ∷ drop (suc (suc j)) es) (named (suc j) inside)

    child : AreChildrenAt n old (levels_of tree old) above.tops uppers above.leaves [] u p q (take j es) (drop (suc (suc j)) es)
    child = record { at = above.at; cs = above.cs; ds = above.ds; parents = refl; one = one; other = other; entries = here }

    module _ (new : ℕ → List ℕ) (merges : MergesLeaves j u p q old new) where
      bytes : MergesPages n (length (take j es)) u p q old new
      bytes = record {
        low = merges.joined.low;
        high = merges.joined.high;
        right = merges.joined.right;
        level = merges.joined.level;
        records = merges.joined.records;
        begins = inl (leaf_level (suc j) inside);
        kept = merges.parent_kept;
        parent = merges.parent_records ∙ ap (λ k. remove (records_of (old u)) (suc k)) (sym front);
        others = λ r not_u not_p not_q. merges.others r not_u not_p;
      }

      done : IsMergedTree n old new tree.root (lows_of tree old) above.tops uppers above.leaves [] p q
      done =
          pages_are_merged n old new tree.root (lows_of tree old) above.tops uppers above.leaves [] u p q (take j es) (drop (suc (suc j)) es) sound.stands
          child bytes

      lows_are : lows_of tree new ≡ done.lows
      lows_are = sym (one_shape n new tree.root done.lows done.tree)

      merged_levels : levels_of tree new ≡ above.tops ++ uppers ∷ (done.xs ++ p ∷ done.ys) ∷ []
      merged_levels = ap (levels_from tree.root) lows_are ∙ done.stands

      before : levels_of tree old ≡ above.tops ++ uppers ∷ (done.xs ++ p ∷ q ∷ done.ys) ∷ []
      before = above.at ∙ ap (λ l. above.tops ++ uppers ∷ l ∷ []) done.stood

      -- what holds of all pages of the tree before
      fewer : (P : ℕ → Type 0) → AllByRecursion (AllByRecursion P) (levels_of tree old) → AllByRecursion (AllByRecursion P) (levels_of tree new)
      fewer P all =
          subst (λ l. AllByRecursion (AllByRecursion P) l) (sym merged_levels)
          (without_page P above.tops uppers done.xs done.ys [] p q (subst (λ l. AllByRecursion (AllByRecursion P) l) before all))

      -- ---- the three pages by themselves

      new_u : IsTreePage tree new u
      new_u = record {
        some = parent_page.some;
        within = parent_page.within;
        fields = merges.parent_fields;
        index = same_index (old u) (new u) merges.parent_kept ∙ parent_page.index;
        width =
            same_width (old u) (new u) merges.parent_kept ∙ parent_page.width
            ∙ ap (width_of tree) (sym (same_byte (new u) (old u) 21 22 (omega arith) merges.parent_kept.head));
        rising =
            subst (λ rs. AreRising (map (take n) rs)) (sym merges.parent_records)
            (subst (λ ks. AreRising ks) (sym (map-remove (take n) (records_of (old u)) (suc j)))
            (rising_remove (map (take n) (records_of (old u))) (suc j) parent_page.rising));
      }

      joined_leaf : IsLeaf (nodes n new p) (leaf_pairs n (new p))
      joined_leaf =
          leaf_in (nodes n new) (pairs_in n new) done.xs done.ys p
          (subst (λ l. AreLeaves (nodes n new) (pairs_in n new) l) (ap leaves_of done.stands ∙ leaves_last above.tops uppers (done.xs ++ p ∷ done.ys))
          done.tree.leaves)

      new_p : IsTreePage tree new p
      new_p =
          let was = leaf_page j first_in in
          record {
            some = was.some;
            within = was.within;
            fields = merges.joined.fields;
            index = merges.joined.index ∙ was.index;
            width = merges.joined.width ∙ was.width ∙ ap (width_of tree) (sym merges.joined.level);
            rising = keys_rise n (records_of (new p)) joined_leaf.rising;
          }

      page_new : (r : ℕ) → IsTreePage tree old r → IsTreePage tree new r
      page_new =
          let Q : ℕ → Type 0 = λ r. IsTreePage tree old r → IsTreePage tree new r in
          of_all Q u (λ _. new_u) (λ r not_u. of_all (λ s. s ≢ u → Q s) p (λ _ _. new_p)
          (λ s not_p not_u' is. page_stays tree old new s (merges.others s not_u' not_p) is) r not_u)

      merged_sound : IsSoundTree tree new
      merged_sound = record {
        stands = subst (λ l. IsTree n new tree.root l) (sym lows_are) done.tree;
        each = fewer (IsTreePage tree new)
            (each_of (AllByRecursion (IsTreePage tree old)) (AllByRecursion (IsTreePage tree new))
            (each_of (IsTreePage tree old) (IsTreePage tree new) page_new)
            (levels_of tree old) sound.each);
      }

      -- ---- and in the file

      zero_same : new 0 ≡ old 0
      zero_same = merges.others 0 (λ is. parent_page.some (sym is)) (λ is. (leaf_page j first_in).some (sym is))

      pub mark_same : (r : ℕ) → r < 65536 → mark_of new r ≡ mark_of old r
      mark_same r few =
          let map : 2 + r / 32512 ≤ 4 = omega arith in
          ap (λ (b : List ℕ). bit_at (slice_index b (byte_of r)) (r % 8))
          (merges.others (2 + r / 32512) (λ is. omega (arith, is, map, parent_placed.beyond)) (λ is. omega (arith, is, map, (leaf_placed j first_in).beyond)))

      -- an inner page whose first record and low fence are the same begins as it did
      begins_still : (a b : List ℕ) → level_of b ≡ level_of a → low_of b ≡ low_of a → get_or (records_of b) 0 [] ≡ get_or (records_of a) 0 []
          → BeginsLow n a → BeginsLow n b
      begins_still a b level low first begins inner =
          ap (take n) first ∙ (begins (λ leaf'. inner (level ∙ leaf')) ∙ ap (λ f. least_key n f) (sym low))

      placed_new : (r : ℕ) → IsTreePage tree old r → IsPlacedPage n old r → IsPlacedPage n new r
      placed_new =
          let Q : ℕ → Type 0 = λ r. IsTreePage tree old r → IsPlacedPage n old r → IsPlacedPage n new r in
          of_all Q u (λ is was. record {
            beyond = was.beyond;
            used = mark_same u is.within ∙ was.used;
            first = begins_still (old u) (new u) (same_byte (new u) (old u) 21 22 (omega arith) merges.parent_kept.head)
                (kept_low (old u) (new u) merges.parent_kept)
                (ap (λ rs. get_or rs 0 []) merges.parent_records ∙ first_left (records_of (old u)) j) was.first;
          })
          (λ r not_u. of_all (λ s. s ≢ u → Q s) p (λ _ is was. record {
            beyond = was.beyond;
            used = mark_same p is.within ∙ was.used;
            first = λ inner. absurd (inner (merges.joined.level ∙ leaf_level j first_in));
          })
          (λ s not_p not_u' is was. record {
            beyond = was.beyond;
            used = mark_same s is.within ∙ was.used;
            first = subst (λ b. BeginsLow n b) (sym (merges.others s not_u' not_p)) was.first;
          }) r not_u)

      merged_placed : IsPlacedTree tree new
      merged_placed = record {
        whole =
            record {
              sound = merged_sound;
              counted =
                  subst (λ b. AllByRecursion (AllByRecursion (λ r. r < u32_at 44 b)) (levels_of tree new)) (sym zero_same)
                  (fewer (λ r. r < u32_at 44 (old 0)) placed.whole.counted);
            };
        reserved = λ page few. mark_same page (omega (arith, few)) ∙ placed.reserved page few;
        placed = fewer (IsPlacedPage n new)
            (with_both (AllByRecursion (IsTreePage tree old)) (AllByRecursion (IsPlacedPage n old)) (AllByRecursion (IsPlacedPage n new))
            (λ level pages places. with_both (IsTreePage tree old) (IsPlacedPage n old) (IsPlacedPage n new) placed_new level pages places)
            (levels_of tree old) sound.each placed.placed);
      }

      -- ---- the page to the right

      row : IsRow (nodes n old) First ((done.xs ++ p ∷ []) ++ q ∷ done.ys) Last 0
      row =
          subst (λ l. IsRow (nodes n old) First l Last 0) (done.stood ∙ sym (append_assoc done.xs (p ∷ []) (q ∷ done.ys))) over.down

      rooms : HaveRoom (nodes n old) ((done.xs ++ p ∷ []) ++ q ∷ done.ys)
      rooms =
          let all : AllByRecursion (λ l. HaveRoom (nodes n old) l) (uppers ∷ above.leaves ∷ []) =
          behind_of (λ l. HaveRoom (nodes n old) l) above.tops (uppers ∷ above.leaves ∷ [])
          (subst (λ ls. AllByRecursion (λ l. HaveRoom (nodes n old) l) ls) above.at
          (all_rooms (nodes n old) (pairs_in n old) (tree.root ∷ []) (lows_of tree old) sound.stands.levels sound.stands.inner sound.stands.leaves)) in
          subst (λ l. HaveRoom (nodes n old) l) (done.stood ∙ sym (append_assoc done.xs (p ∷ []) (q ∷ done.ys))) all.1.0

      other_tops : AllByRecursion (AreOthers q) above.tops
      other_tops =
          each_of (λ level. AllByRecursion (λ x. 2 ≤ level_of (old x)) level) (AreOthers q)
          (λ level all. each_of (λ x. 2 ≤ level_of (old x)) (λ x. x ≢ q)
          (λ x is. other_by_number old x q (λ same. omega (arith, is, same, leaf_level (suc j) inside))) level all)
          above.tops (numbers_above old above.tops (uppers ∷ above.leaves ∷ []) numbered)

      other_uppers : AreOthers q uppers
      other_uppers = others_by_mark (λ x. level_of (old x)) 1 q uppers numbers.0 (λ is. omega (arith, is, leaf_level (suc j) inside))

      other_leaves : AreOthers q (done.xs ++ p ∷ done.ys)
      other_leaves =
          both_sides (λ r. r ≢ q) done.xs done.ys p (others_before (nodes n old) First Last 0 (done.xs ++ p ∷ []) done.ys q row rooms)
          (others_behind (nodes n old) First Last 0 (done.xs ++ p ∷ []) done.ys q row rooms)

      gone : StandsNowhere q (levels_of tree new)
      gone =
          subst (λ l. StandsNowhere q l) (sym merged_levels)
          (on_all (AreOthers q) above.tops (uppers ∷ (done.xs ++ p ∷ done.ys) ∷ []) other_tops (other_uppers, (other_leaves, tt)))

      stood : StandsNowhere q (levels_of tree old) → ⊥
      stood nowhere =
          let rest : AllByRecursion (AreOthers q) (uppers ∷ (done.xs ++ p ∷ q ∷ done.ys) ∷ []) =
          behind_of (AreOthers q) above.tops (uppers ∷ (done.xs ++ p ∷ q ∷ done.ys) ∷ []) (subst (λ l. AllByRecursion (AreOthers q) l) before nowhere) in
          (behind_of (λ r. r ≢ q) done.xs (p ∷ q ∷ done.ys) rest.1.0).1.0 refl

      pub loses : LosesPage tree q old new
      loses = record {
        placed = merged_placed;
        same_pairs = ap (all_pairs n new tree.root) lows_are ∙ done.pairs;
        stood = stood;
        gone = gone;
        keep = λ page apart nowhere.
            subst (λ l. StandsNowhere page l) (sym before)
            (with_page (λ r. r ≢ page) above.tops uppers done.xs done.ys [] p q (λ same. apart (sym same))
            (subst (λ l. StandsNowhere page l) merged_levels nowhere));
        rest = λ page nowhere. fewer (λ r. r ≢ page) nowhere;
      }
