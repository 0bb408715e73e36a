-- A placed tree whose root got a level below it is placed.
use Rattle.std.proofs.Common.{◌≡◌, ◌≢◌, ℕ, suc, ◌+◌, ◌/◌, ◌%◌, ◌<◌, ◌≤◌, ◌==◌, Bool, false, List, [], ◌∷◌, take, map, get_or}
use Rattle.std.proofs.Common.{refl, sym, ◌∙◌, ap, subst, arith}
use Rattle.std.specs.Prelude.{slice_index, replicate, None, if◌then◌else◌}
use Rattle.std.proofs.lemmas.Bool.Decides.{nat_tests}
use Rattle.std.specs.Int.{w32, to_be_bytes, from_be_bytes, bit_at}
use Rattle.std.specs.List.{AllByRecursion}
use Rattle.std.proofs.lemmas.List.{take_at, drop_at, length-replicate}
use Rattle.std.proofs.lemmas.Nat.{from_be_bytes-to_be_bytes_4}
use Rattle.page_format.specs.Words.{level_of, low_of, records_of}
use Rattle.stored_pages.specs.Words.{u32_at}
use Rattle.page_format.specs.Shape.{AreRising}
use Rattle.law_flat_tree.specs.Levels.{Node, IsRow, IsAbove, AreLevels}
use Rattle.law_flat_tree.specs.Levels.Fence.{First, Last}
use Rattle.law_flat_tree.specs.Leaves.{IsFrom, IsUnder}
use Rattle.law_flat_tree.specs.Descents.{Holds}
use Rattle.law_flat_tree.specs.Pages.{low_fence, child_of}
use Rattle.law_flat_tree.specs.PageRaises.{RaisesRoot}
use Rattle.law_flat_tree.specs.Trees.{nodes}
use Rattle.law_flat_tree.proofs.Apart.{with_both}
use Rattle.law_tree_changes.proofs.Raising.{raised_levels, raised_same_pairs, sound_raised}
use Rattle.law_tree_changes.proofs.Splitting.{of_all}
use Rattle.space_map.specs.Map.{byte_of, mark_of}
use Rattle.btree.specs.declared.tree.Tree.{Tree}
use Rattle.btree.specs.Sound.{lows_of, levels_of, IsTreePage, IsSoundTree, tree_pairs}
use Rattle.btree.proofs.Shown.{same_level, same_width, same_right, same_records}
use Rattle.btree.specs.Layout.{width_of}
use Rattle.btree_split.specs.Halves.{IsTakenFor}
use Rattle.btree_split.specs.Placed.{least_key, BeginsLow, IsPlacedPage, IsPlacedTree}
use Rattle.btree_split.proofs.Least.{same_least}
use Rattle.btree_split.proofs.Put.{same_low, same_high, same_number, fields_shown}
use Rattle.btree_grow.specs.Raised.{lowest_record, RaisesTree}

above_none : (k m : ℕ) → k ≡ suc m → k == 0 ≡ false
above_none k m is = grind (arith, nat_tests)

-- the first of some levels is a row
row_of : (node : ℕ → Node) (level : List ℕ) (lows : List (List ℕ)) → AreLevels node (level ∷ lows) → IsRow node First level Last 0
row_of node level [] stand = stand
row_of node level (lower ∷ lows) stand = stand.0.up

module _ (tree : Tree) (old new : ℕ → List ℕ) (q : ℕ) (placed : IsPlacedTree tree old) (taken : IsTakenFor tree old q)
    (raises : RaisesTree tree q old new) where
  abbrev n : ℕ
  n = tree.key_len

  root_page : IsTreePage tree old tree.root
  root_page = placed.whole.sound.each.0.0

  root_placed : IsPlacedPage n old tree.root
  root_placed = placed.placed.0.0

  leads : child_of n (lowest_record n q) ≡ q
  leads =
      ap (from_be_bytes w32) (drop_at (replicate n 0) (to_be_bytes w32 q) n (length-replicate {A = ℕ} n 0))
      ∙ from_be_bytes-to_be_bytes_4 q (omega (arith, taken.small))

  raised : RaisesRoot n tree.root q old new
  raised = record {
    moved_low = same_low (new q) (old tree.root) raises.moved;
    moved_high = same_high (new q) (old tree.root) raises.moved;
    moved_right = same_right (new q) (old tree.root) raises.moved;
    moved_level = same_level (new q) (old tree.root) raises.moved;
    moved_records = same_records (new q) (old tree.root) raises.moved;
    low = raises.root.low;
    high = raises.root.high;
    right = raises.root.right;
    level = raises.root.level_is;
    one = lowest_record n q;
    records = raises.root.records;
    leads = leads;
    others = raises.others;
  }

  new_root : IsTreePage tree new tree.root
  new_root = record {
    some = root_page.some;
    within = root_page.within;
    fields = raises.root.fields;
    index = raises.root.index ∙ root_page.index;
    width =
        raises.root.width
        ∙ sym (ap (λ (b : Bool). n + (if b then tree.value_len else 4))
        (above_none (level_of (new tree.root)) (level_of (old tree.root)) raises.root.level_is));
    rising = subst (λ rs. AreRising (map (take n) rs)) (sym raises.root.records) tt;
  }

  new_page : IsTreePage tree new q
  new_page = record {
    some = λ none. omega (arith, none, taken.beyond);
    within = taken.small;
    fields = fields_shown (new q) (old tree.root) raises.moved root_page.fields;
    index = same_number (new q) (old tree.root) raises.moved ∙ root_page.index;
    width = same_width (new q) (old tree.root) raises.moved ∙ root_page.width ∙ ap (width_of tree) (sym raised.moved_level);
    rising = subst (λ rs. AreRising (map (take n) rs)) (sym raised.moved_records) root_page.rising;
  }

  sound : IsSoundTree tree new
  sound = sound_raised tree old new q placed.whole.sound taken.free raised new_root new_page

  pub raised_to : levels_of tree new ≡ (tree.root ∷ []) ∷ (q ∷ []) ∷ lows_of tree old
  raised_to = raised_levels tree old new q placed.whole.sound taken.free raised

  pub raised_pairs : tree_pairs tree new ≡ tree_pairs tree old
  raised_pairs = raised_same_pairs tree old new q placed.whole.sound taken.free raised

  -- ---- its pages are placed

  zero_same : new 0 ≡ old 0
  zero_same = raises.others 0 (λ is. root_page.some (sym is)) (λ is. omega (arith, is, taken.beyond))

  pub raised_mark : (r : ℕ) → r < 65536 → mark_of new r ≡ mark_of old r
  raised_mark r few =
      let map : 2 + r / 32512 ≤ 4 = omega (arith, few) in
      ap (λ (b : List ℕ). bit_at (slice_index b (byte_of r)) (r % 8))
      (raises.others (2 + r / 32512) (λ is. omega (arith, is, map, root_placed.beyond)) (λ is. omega (arith, is, map, taken.beyond)))

  -- the root has no low fence
  row : IsRow (nodes n old) First (tree.root ∷ []) Last 0
  row = row_of (nodes n old) (tree.root ∷ []) (lows_of tree old) placed.whole.sound.stands.levels

  begins : take n (get_or (records_of (new tree.root)) 0 []) ≡ least_key n (low_of (new tree.root))
  begins =
      ap (λ (rs : List (List ℕ)). take n (get_or rs 0 [])) raises.root.records
      ∙ take_at (replicate n 0) (to_be_bytes w32 q) n (length-replicate {A = ℕ} n 0)
      ∙ same_least n None (low_of (new tree.root)) (sym (ap low_fence raises.root.low ∙ row.0))

  root_stays : IsPlacedPage n new tree.root
  root_stays =
      record { beyond = root_placed.beyond; used = raised_mark tree.root root_page.within ∙ root_placed.used; first = λ inner. begins }

  page_placed : IsPlacedPage n new q
  page_placed = record {
    beyond = taken.beyond;
    used = raised_mark q taken.small ∙ taken.used;
    first = λ inner.
        ap (λ (rs : List (List ℕ)). take n (get_or rs 0 [])) raised.moved_records
        ∙ root_placed.first (λ leaf. inner (raised.moved_level ∙ leaf)) ∙ ap (least_key n) (sym raised.moved_low);
  }

  stays : (r : ℕ) → IsTreePage tree old r → IsPlacedPage n old r → IsPlacedPage n new r
  stays =
      let Q : ℕ → Type 0 = λ r. IsTreePage tree old r → IsPlacedPage n old r → IsPlacedPage n new r in
      of_all Q tree.root (λ is was. root_stays) (λ r not_root. of_all (λ s. s ≢ tree.root → Q s) q (λ _ is was. page_placed)
      (λ s not_page not_root' is was. record {
        beyond = was.beyond;
        used = raised_mark s is.within ∙ was.used;
        first = subst (λ b. BeginsLow n b) (sym (raises.others s not_root' not_page)) was.first;
      }) r not_root)

  pub raised_placed : IsPlacedTree tree new
  raised_placed = record {
    whole =
        record {
          sound = sound;
          counted =
              subst (λ b. AllByRecursion (AllByRecursion (λ r. r < u32_at 44 b)) (levels_of tree new)) (sym zero_same)
              (subst (λ l. AllByRecursion (AllByRecursion (λ r. r < u32_at 44 (old 0))) l) (sym raised_to)
              ((placed.whole.counted.0.0, tt), ((taken.counted, tt), placed.whole.counted.1)));
        };
    reserved = λ page few. raised_mark page (omega (arith, few)) ∙ placed.reserved page few;
    placed =
        subst (λ l. AllByRecursion (AllByRecursion (IsPlacedPage n new)) l) (sym raised_to) (
          (root_stays, tt),
          (
            (page_placed, tt),
            with_both (AllByRecursion (IsTreePage tree old)) (AllByRecursion (IsPlacedPage n old)) (AllByRecursion (IsPlacedPage n new))
                (λ level pages places. with_both (IsTreePage tree old) (IsPlacedPage n old) (IsPlacedPage n new) stays level pages places)
                (lows_of tree old) placed.whole.sound.each.1 placed.placed.1,
          ),
        );
  }

  -- ---- the root and the page below it hold every key

  top : IsAbove (nodes n new) (tree.root ∷ []) (q ∷ [])
  top = (subst (λ l. AreLevels (nodes n new) l) raised_to sound.stands.levels).0

  alone : (r : ℕ) (key : List ℕ) → IsRow (nodes n new) First (r ∷ []) Last 0 → Holds (nodes n new) (r ∷ []) key r
  alone r key stands = record {
    xs = [];
    ys = [];
    whole = refl;
    from = subst (λ f. IsFrom f key) (sym stands.0) tt;
    under = subst (λ f. IsUnder f key) (sym stands.2) tt;
  }

  pub raised_held : (key : List ℕ) → Holds (nodes n new) (tree.root ∷ []) key tree.root × Holds (nodes n new) (q ∷ []) key q
  raised_held key = (alone tree.root key top.up, alone q key top.down)
