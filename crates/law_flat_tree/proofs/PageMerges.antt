-- Two neighbours below one parent that become one page leave a tree with the same pairs.
use Rattle.std.proofs.Common.{◌≡◌, ◌≢◌, ◌⊎◌, inl, inr, ℕ, suc, ◌<◌, ◌≤◌, false, if◌then◌else◌, ◌==◌, List, [], ◌∷◌, ◌++◌}
use Rattle.std.proofs.Common.{length, take, map, remove, Some, slice_index_or, refl, sym, ◌∙◌, ap, subst, arith, append_assoc}
use Rattle.std.specs.List.{AllByRecursion}
use Rattle.std.proofs.lemmas.Bool.{false≢true}
use Rattle.std.proofs.lemmas.List.{map-append}
use Rattle.entries.specs.Pairs.{Pair}
use Rattle.page_format.specs.Words.{level_of, low_of, records_of}
use Rattle.page_format.proofs.Edited.{same_byte}
use Rattle.law_flat_tree.specs.Levels.{Fence, Node, IsRow, heads, children, AreAlike, IsAbove, Merges, AreLevels, AreLevelsAlike}
use Rattle.law_flat_tree.specs.Levels.Fence.{First, Key, Last}
use Rattle.law_flat_tree.specs.Leaves.{IsLeaf, HaveRoom, AreOthers, AreLeaves, pairs_of}
use Rattle.law_flat_tree.specs.Descents.{BeginsAt, AreInner, AreAllInner, leaves_of}
use Rattle.law_flat_tree.specs.Pages.{low_fence, high_fence, child_of, entry_of, entries_of, pair_of, node_of, leaf_pairs}
use Rattle.law_flat_tree.specs.Trees.{nodes, pairs_in, levels_from, AreNumbered, IsTree, all_pairs}
use Rattle.law_flat_tree.specs.PageMerges.{AreChildrenAt, MergesPages, IsMergedTree}
use Rattle.law_flat_tree.proofs.Rows.{cut, IsCut, IsNothing, first_of, rest_of, alike_back}
use Rattle.law_flat_tree.proofs.Fences.{others_before, others_behind, others_by_mark}
use Rattle.law_flat_tree.proofs.Leaves.{both}
use Rattle.law_flat_tree.proofs.Splits.{merge_levels}
use Rattle.law_flat_tree.proofs.Descents.{child_place}
use Rattle.law_flat_tree.proofs.Halves.{merged_leaf}
use Rattle.law_flat_tree.proofs.Grown.{merge_all_inner, merge_leaf_level, inner_level, leaves_last}
use Rattle.law_flat_tree.proofs.Pages.{kept_right, kept_low, kept_high, map-remove}
use Rattle.law_flat_tree.proofs.Reading.{above_in, inner_in, page_inner}
use Rattle.law_flat_tree.proofs.Rooms.{all_rooms}
use Rattle.law_flat_tree.proofs.Apart.{each_of, with_both, left_of, behind_of, numbers_above, numbers_from, numbers_below, other_by_number, alike_by}
use Rattle.law_flat_tree.proofs.Apart.{levels_alike_by}
use Rattle.law_flat_tree.proofs.PageSplits.{Stays, stays_of, not_leaf, all_in, rest_levels, renamed, as_long}

-- ---- entries of two pages, one behind the other

joined_entries : (n : ℕ) (low : Fence) (rs qs : List (List ℕ)) (key : List ℕ) → BeginsAt low (entries_of n low rs)
    → BeginsAt (Key key) (entries_of n (Key key) qs)
    → key ≡ take n (slice_index_or qs 0 []) → entries_of n low rs ++ entries_of n (Key key) qs ≡ entries_of n low (rs ++ qs)
joined_entries n low [] qs key begins other is = absurd begins
joined_entries n low (r ∷ rs) [] key begins other is = absurd other
joined_entries n low (r ∷ rs) (s ∷ qs) key begins other is =
    ap (λ k. (low, child_of n r) ∷ (map (entry_of n) rs ++ (Key k, child_of n s) ∷ map (entry_of n) qs)) is
    ∙ ap (λ l. (low, child_of n r) ∷ l) (sym (map-append (entry_of n) rs (s ∷ qs)))

no_entries : (n : ℕ) (bytes : List ℕ) → level_of bytes ≡ 0 → (node_of n bytes).entries ≡ []
no_entries n bytes zero_is = rw zero_is refl

entries_are : (n : ℕ) (bytes : List ℕ) → (level_of bytes == 0) ≡ false → (node_of n bytes).entries ≡ entries_of n (low_fence (low_of bytes)) (records_of bytes)
entries_are n bytes inner = ap (λ b. if b then [] else entries_of n (low_fence (low_of bytes)) (records_of bytes)) inner

joined_inner : (n : ℕ) (one other new : List ℕ) → low_of new ≡ low_of one → level_of new ≡ level_of one → records_of new ≡ records_of one ++ records_of other
    → BeginsAt (node_of n one).low (node_of n one).entries → BeginsAt (node_of n other).low (node_of n other).entries
    → (level_of other ≡ 0) ⊎ (low_of other ≡ Some (take n (slice_index_or (records_of other) 0 [])))
    → (node_of n one).entries ++ (node_of n other).entries ≡ (node_of n new).entries
joined_inner n one other new low level records first second (inl zero_is) =
    absurd (false≢true (sym (not_leaf n (low_fence (low_of other)) (level_of other == 0) (records_of other) second) ∙ ap (λ l. l == 0) zero_is))
joined_inner n one other new low level records first second (inr fence) =
    let key = take n (slice_index_or (records_of other) 0 []) in
    let one_inner = not_leaf n (low_fence (low_of one)) (level_of one == 0) (records_of one) first in
    let other_inner = not_leaf n (low_fence (low_of other)) (level_of other == 0) (records_of other) second in
    let one_is = entries_are n one one_inner in
    let other_is = entries_are n other other_inner in
    let begins = subst (λ l. BeginsAt (low_fence (low_of one)) l) one_is first in
    let begins' : BeginsAt (Key key) (entries_of n (Key key) (records_of other)) =
    subst (λ low. BeginsAt (low_fence low) (entries_of n (low_fence low) (records_of other))) fence
    (subst (λ l. BeginsAt (low_fence (low_of other)) l) other_is second) in
    ap (λ l. l ++ (node_of n other).entries) one_is
    ∙ ap (λ l. entries_of n (low_fence (low_of one)) (records_of one) ++ l) (other_is ∙ ap (λ low. entries_of n (low_fence low) (records_of other)) fence)
    ∙ joined_entries n (low_fence (low_of one)) (records_of one) (records_of other) key begins begins' refl
    ∙ sym (entries_are n new (ap (λ l. l == 0) level ∙ one_inner)
    ∙ ap (λ low. entries_of n (low_fence low) (records_of new)) low
    ∙ ap (λ rs. entries_of n (low_fence (low_of one)) rs) records)

joined_leaves : (n : ℕ) (one other new : List ℕ) → level_of one ≡ 0 → level_of other ≡ 0 → level_of new ≡ 0
    → (node_of n one).entries ++ (node_of n other).entries ≡ (node_of n new).entries
joined_leaves n one other new a b c =
    ap (λ l. l ++ (node_of n other).entries) (no_entries n one a) ∙ no_entries n other b ∙ sym (no_entries n new c)

-- ---- a parent that loses an entry

entry_removed : (n : ℕ) (low : Fence) (rs : List (List ℕ)) (i : ℕ) → entries_of n low (remove rs (suc i)) ≡ remove (entries_of n low rs) (suc i)
entry_removed n low [] i = refl
entry_removed n low (r ∷ rs) i = ap (λ l. (low, child_of n r) ∷ l) (map-remove (entry_of n) rs i)

removed_behind : {A : Type 0} (e f : List A) (a b : A) → remove (e ++ a ∷ b ∷ f) (suc (length e)) ≡ e ++ a ∷ f
removed_behind [] f a b = refl
removed_behind (x ∷ e) f a b = ap (λ l. x ∷ l) (removed_behind e f a b)

-- ---- levels

either_two : (node : ℕ → Node) (tops : List (List ℕ)) (upper xs ys : List ℕ) (p q : ℕ) (under : List (List ℕ))
    → AreAllInner node (tops ++ upper ∷ (xs ++ p ∷ q ∷ ys) ∷ under)
    → (BeginsAt (node p).low (node p).entries × BeginsAt (node q).low (node q).entries) ⊎ (under ≡ [])
either_two node [] upper xs ys p q [] inner = inr refl
either_two node [] upper xs ys p q (low ∷ lows) inner = inl (two xs inner.1.0) where
  two : (xs : List ℕ) → AreInner node (xs ++ p ∷ q ∷ ys) → BeginsAt (node p).low (node p).entries × BeginsAt (node q).low (node q).entries
  two [] inner' = (inner'.0, inner'.1.0)
  two (x ∷ xs) inner' = two xs inner'.1
either_two node (top ∷ []) upper xs ys p q under inner = either_two node [] upper xs ys p q under inner.1
either_two node (top ∷ next ∷ tops) upper xs ys p q under inner = either_two node (next ∷ tops) upper xs ys p q under inner.1

two_leaves : (node : ℕ → Node) (held : ℕ → List Pair) (xs ys : List ℕ) (p q : ℕ) → AreLeaves node held (xs ++ p ∷ q ∷ ys)
    → IsLeaf (node p) (held p) × IsLeaf (node q) (held q)
two_leaves node held [] ys p q leaves = (leaves.0, leaves.1.0)
two_leaves node held (x ∷ xs) ys p q leaves = two_leaves node held xs ys p q leaves.1

fewer_leaves : (old new : ℕ → Node) (held kept : ℕ → List Pair) (tops : List (List ℕ)) (upper xs ys : List ℕ) (under : List (List ℕ)) (p q : ℕ)
    → AreAlike old new xs → AreAlike held kept xs → AreAlike old new ys → AreAlike held kept ys → AreLevelsAlike old new under → AreLevelsAlike held kept under
    → (IsLeaf (old p) (held p) → IsLeaf (old q) (held q) → IsLeaf (new p) (kept p)) → held p ++ held q ≡ kept p
    → AreLeaves old held (leaves_of (tops ++ upper ∷ (xs ++ p ∷ q ∷ ys) ∷ under))
    → AreLeaves new kept (leaves_of (tops ++ upper ∷ (xs ++ p ∷ ys) ∷ under))
    × (pairs_of kept (leaves_of (tops ++ upper ∷ (xs ++ p ∷ ys) ∷ under)) ≡ pairs_of held (leaves_of (tops ++ upper ∷ (xs ++ p ∷ q ∷ ys) ∷ under)))
fewer_leaves old new held kept tops upper xs ys [] p q left left' right right' below below' merged shared leaves =
    let two = two_leaves old held xs ys p q (subst (λ l. AreLeaves old held l) (leaves_last tops upper (xs ++ p ∷ q ∷ ys)) leaves) in
    merge_leaf_level old new held kept tops upper xs ys p q left left' right right' (merged two.0 two.1) shared leaves
fewer_leaves old new held kept tops upper xs ys (low ∷ lows) p q left left' right right' below below' merged shared leaves =
    inner_level old new held kept tops upper (xs ++ p ∷ q ∷ ys) (xs ++ p ∷ ys) low lows below below' leaves

drop_one : {A : Type 0} (P : A → Type 0) (xs ys : List A) (p q : A) → AllByRecursion P (xs ++ p ∷ q ∷ ys) → AllByRecursion P (xs ++ p ∷ ys)
drop_one P [] ys p q all = (all.0, all.1.1)
drop_one P (x ∷ xs) ys p q all = (all.0, drop_one P xs ys p q all.1)

numbers_on : (old new : ℕ → List ℕ) (levels : List (List ℕ)) → AllByRecursion (λ level. AllByRecursion (λ x. level_of (new x) ≡ level_of (old x)) level) levels
    → AreNumbered old levels → AreNumbered new levels
numbers_on old new [] all numbered = tt
numbers_on old new (level ∷ levels) all numbered = (
  with_both (λ x. level_of (new x) ≡ level_of (old x)) (λ x. level_of (old x) ≡ length levels) (λ x. level_of (new x) ≡ length levels)
      (λ x same is. same ∙ is) level all.0 numbered.0,
  numbers_on old new levels all.1 numbered.1,
)

fewer_numbered : (pages : ℕ → List ℕ) (over : List (List ℕ)) (upper xs ys : List ℕ) (p q : ℕ) (under : List (List ℕ))
    → AreNumbered pages (over ++ upper ∷ (xs ++ p ∷ q ∷ ys) ∷ under) → AreNumbered pages (over ++ upper ∷ (xs ++ p ∷ ys) ∷ under)
fewer_numbered pages [] upper xs ys p q under numbered = (numbered.0, (drop_one (λ r. level_of (pages r) ≡ length under) xs ys p q numbered.1.0, numbered.1.1))
fewer_numbered pages (top ∷ over) upper xs ys p q under numbered = (
  each_of (λ r. level_of (pages r) ≡ length (over ++ upper ∷ (xs ++ p ∷ q ∷ ys) ∷ under))
      (λ r. level_of (pages r) ≡ length (over ++ upper ∷ (xs ++ p ∷ ys) ∷ under))
      (λ r is. is ∙ as_long over upper (xs ++ p ∷ q ∷ ys) (xs ++ p ∷ ys) under) top numbered.0,
  fewer_numbered pages over upper xs ys p q under numbered.1,
)

module _ (n : ℕ) (old new : ℕ → List ℕ) (root : ℕ) (lows tops : List (List ℕ)) (cs ds xs ys : List ℕ) (under : List (List ℕ)) (u p q : ℕ)
    (e f : List (Fence × ℕ))
    (tree : IsTree n old root lows) (whole : levels_from root lows ≡ tops ++ (cs ++ u ∷ ds) ∷ (xs ++ p ∷ q ∷ ys) ∷ under)
    (entries : (nodes n old u).entries ≡ e ++ ((nodes n old p).low, p) ∷ ((nodes n old q).low, q) ∷ f)
    (before : heads (nodes n old) xs ≡ children (nodes n old) cs ++ e)
    (behind : heads (nodes n old) ys ≡ f ++ children (nodes n old) ds)
    (merges : MergesPages n (length e) u p q old new) where
  stand : AreLevels (nodes n old) (tops ++ (cs ++ u ∷ ds) ∷ (xs ++ p ∷ q ∷ ys) ∷ under)
  stand = subst (λ l. AreLevels (nodes n old) l) whole tree.levels

  inner : AreAllInner (nodes n old) (tops ++ (cs ++ u ∷ ds) ∷ (xs ++ p ∷ q ∷ ys) ∷ under)
  inner = subst (λ l. AreAllInner (nodes n old) l) whole tree.inner

  numbered : AreNumbered old (tops ++ (cs ++ u ∷ ds) ∷ (xs ++ p ∷ q ∷ ys) ∷ under)
  numbered = subst (λ l. AreNumbered old l) whole tree.numbered

  rooms : AllByRecursion (λ l. HaveRoom (nodes n old) l) ((cs ++ u ∷ ds) ∷ (xs ++ p ∷ q ∷ ys) ∷ under)
  rooms = behind_of (λ l. HaveRoom (nodes n old) l) tops ((cs ++ u ∷ ds) ∷ (xs ++ p ∷ q ∷ ys) ∷ under)
      (subst (λ ls. AllByRecursion (λ l. HaveRoom (nodes n old) l) ls) whole
      (all_rooms (nodes n old) (pairs_in n old) (root ∷ []) lows tree.levels tree.inner tree.leaves))

  above : IsAbove (nodes n old) (cs ++ u ∷ ds) (xs ++ p ∷ q ∷ ys)
  above = above_in (nodes n old) tops (cs ++ u ∷ ds) (xs ++ p ∷ q ∷ ys) under stand

  here : AreNumbered old ((cs ++ u ∷ ds) ∷ (xs ++ p ∷ q ∷ ys) ∷ under)
  here = numbers_from old tops ((cs ++ u ∷ ds) ∷ (xs ++ p ∷ q ∷ ys) ∷ under) numbered

  u_level : level_of (old u) ≡ suc (length under)
  u_level = all_in (λ r. level_of (old r) ≡ suc (length under)) cs ds u here.0

  two_levels : AllByRecursion (λ r. level_of (old r) ≡ length under) (p ∷ q ∷ ys)
  two_levels = behind_of (λ r. level_of (old r) ≡ length under) xs (p ∷ q ∷ ys) here.1.0

  kept_page : (r : ℕ) → Stays u p q r → new r ≡ old r
  kept_page r stays = merges.others r stays.0 stays.1 stays.2

  tops_stay : AllByRecursion (λ level. AllByRecursion (Stays u p q) level) tops
  tops_stay =
      each_of (λ level. AllByRecursion (λ x. suc (suc (length under)) ≤ level_of (old x)) level) (λ level. AllByRecursion (Stays u p q) level)
      (λ level numbers. each_of (λ x. suc (suc (length under)) ≤ level_of (old x)) (Stays u p q)
      (λ x is. (
        other_by_number old x u (λ same. omega (arith, is, same, u_level)),
        other_by_number old x p (λ same. omega (arith, is, same, two_levels.0)),
        other_by_number old x q (λ same. omega (arith, is, same, two_levels.1.0)),
      )) level numbers)
      tops (numbers_above old tops ((cs ++ u ∷ ds) ∷ (xs ++ p ∷ q ∷ ys) ∷ under) numbered)

  under_stay : AllByRecursion (λ level. AllByRecursion (Stays u p q) level) under
  under_stay =
      each_of (λ level. AllByRecursion (λ x. level_of (old x) < length under) level) (λ level. AllByRecursion (Stays u p q) level)
      (λ level numbers. each_of (λ x. level_of (old x) < length under) (Stays u p q)
      (λ x is. (
        other_by_number old x u (λ same. omega (arith, is, same, u_level)),
        other_by_number old x p (λ same. omega (arith, is, same, two_levels.0)),
        other_by_number old x q (λ same. omega (arith, is, same, two_levels.1.0)),
      )) level numbers)
      under (numbers_below old (length under) under (omega arith) here.1.1)

  others_p : (zs : List ℕ) → AllByRecursion (λ x. level_of (old x) ≡ suc (length under)) zs → AreOthers p zs
  others_p zs all = others_by_mark (λ x. level_of (old x)) (suc (length under)) p zs all (λ is. omega (arith, is, two_levels.0))

  others_q : (zs : List ℕ) → AllByRecursion (λ x. level_of (old x) ≡ suc (length under)) zs → AreOthers q zs
  others_q zs all = others_by_mark (λ x. level_of (old x)) (suc (length under)) q zs all (λ is. omega (arith, is, two_levels.1.0))

  others_u : (zs : List ℕ) → AllByRecursion (λ x. level_of (old x) ≡ length under) zs → AreOthers u zs
  others_u zs all = others_by_mark (λ x. level_of (old x)) (length under) u zs all (λ is. omega (arith, is, u_level))

  cs_level : AllByRecursion (λ x. level_of (old x) ≡ suc (length under)) cs
  cs_level = left_of (λ x. level_of (old x) ≡ suc (length under)) cs (u ∷ ds) here.0

  ds_level : AllByRecursion (λ x. level_of (old x) ≡ suc (length under)) ds
  ds_level = (behind_of (λ x. level_of (old x) ≡ suc (length under)) cs (u ∷ ds) here.0).1

  cs_stay : AllByRecursion (Stays u p q) cs
  cs_stay = stays_of u p q cs (others_before (nodes n old) First Last 0 cs ds u above.up rooms.0) (others_p cs cs_level) (others_q cs cs_level)

  ds_stay : AllByRecursion (Stays u p q) ds
  ds_stay = stays_of u p q ds (others_behind (nodes n old) First Last 0 cs ds u above.up rooms.0) (others_p ds ds_level) (others_q ds ds_level)

  apart : (xs ++ p ∷ []) ++ q ∷ ys ≡ xs ++ p ∷ q ∷ ys
  apart = append_assoc xs (p ∷ []) (q ∷ ys)

  q_row : IsRow (nodes n old) First ((xs ++ p ∷ []) ++ q ∷ ys) Last 0
  q_row = subst (λ l. IsRow (nodes n old) First l Last 0) (sym apart) above.down

  q_rooms : HaveRoom (nodes n old) ((xs ++ p ∷ []) ++ q ∷ ys)
  q_rooms = subst (λ l. HaveRoom (nodes n old) l) (sym apart) rooms.1.0

  xs_stay : AllByRecursion (Stays u p q) xs
  xs_stay = stays_of u p q xs (others_u xs (left_of (λ x. level_of (old x) ≡ length under) xs (p ∷ q ∷ ys) here.1.0))
      (others_before (nodes n old) First Last 0 xs (q ∷ ys) p above.down rooms.1.0)
      (left_of (λ x. x ≢ q) xs (p ∷ []) (others_before (nodes n old) First Last 0 (xs ++ p ∷ []) ys q q_row q_rooms))

  ys_stay : AllByRecursion (Stays u p q) ys
  ys_stay = stays_of u p q ys (others_u ys two_levels.1.1)
      (others_behind (nodes n old) First Last 0 xs (q ∷ ys) p above.down rooms.1.0).1
      (others_behind (nodes n old) First Last 0 (xs ++ p ∷ []) ys q q_row q_rooms)

  -- ---- the parent

  u_same_level : level_of (new u) ≡ level_of (old u)
  u_same_level = same_byte (new u) (old u) 21 22 (omega arith) merges.kept.head

  u_begins : BeginsAt (nodes n old u).low (nodes n old u).entries
  u_begins = page_inner (nodes n old) cs ds u (inner_in (nodes n old) tops (cs ++ u ∷ ds) (xs ++ p ∷ q ∷ ys) under inner)

  u_inner : (level_of (old u) == 0) ≡ false
  u_inner = not_leaf n (low_fence (low_of (old u))) (level_of (old u) == 0) (records_of (old u)) u_begins

  p_low : (nodes n new p).low ≡ (nodes n old p).low
  p_low = ap low_fence merges.low

  new_entries : (nodes n new u).entries ≡ e ++ ((nodes n new p).low, p) ∷ f
  new_entries =
      entries_are n (new u) (ap (λ l. l == 0) u_same_level ∙ u_inner)
      ∙ ap (λ low. entries_of n (low_fence low) (records_of (new u))) (kept_low (old u) (new u) merges.kept)
      ∙ ap (λ rs. entries_of n (low_fence (low_of (old u))) rs) merges.parent
      ∙ entry_removed n (low_fence (low_of (old u))) (records_of (old u)) (length e)
      ∙ ap (λ l. remove l (suc (length e))) (sym (entries_are n (old u) u_inner) ∙ entries)
      ∙ removed_behind e f ((nodes n old p).low, p) ((nodes n old q).low, q)
      ∙ ap (λ low. e ++ (low, p) ∷ f) (sym p_low)

  u_low : (nodes n old u).low ≡ (nodes n new u).low
  u_low = ap low_fence (sym (kept_low (old u) (new u) merges.kept))

  u_high : (nodes n old u).high ≡ (nodes n new u).high
  u_high = ap high_fence (sym (kept_high (old u) (new u) merges.kept))

  u_right : (nodes n old u).right ≡ (nodes n new u).right
  u_right = sym (kept_right (old u) (new u) merges.kept)

  u_entries : (nodes n old u).entries ≡ e ++ ((nodes n new p).low, p) ∷ ((nodes n old q).low, q) ∷ f
  u_entries = entries ∙ ap (λ low. e ++ (low, p) ∷ ((nodes n old q).low, q) ∷ f) (sym p_low)

  parent_is : nodes n old u ≡ record (nodes n new u) { entries = e ++ ((nodes n new p).low, p) ∷ ((nodes n old q).low, q) ∷ f }
  parent_is = λ j. record { low = u_low j; high = u_high j; right = u_right j; entries = u_entries j }

  shared : (nodes n old p).entries ++ (nodes n old q).entries ≡ (nodes n new p).entries
  shared = go (either_two (nodes n old) tops (cs ++ u ∷ ds) xs ys p q under inner) where
    go : (BeginsAt (nodes n old p).low (nodes n old p).entries × BeginsAt (nodes n old q).low (nodes n old q).entries) ⊎ (under ≡ [])
        → (nodes n old p).entries ++ (nodes n old q).entries ≡ (nodes n new p).entries
    go (inl two) = joined_inner n (old p) (old q) (new p) merges.low merges.level merges.records two.0 two.1 merges.begins
    go (inr none) =
        let zero_is : length under ≡ 0 = ap (λ (l : List (List ℕ)). length l) none in
        joined_leaves n (old p) (old q) (new p) (two_levels.0 ∙ zero_is) (two_levels.1.0 ∙ zero_is) (merges.level ∙ two_levels.0 ∙ zero_is)

  node_alike : (zs : List ℕ) → AllByRecursion (Stays u p q) zs → AreAlike (nodes n old) (nodes n new) zs
  node_alike zs stay = alike_by (Stays u p q) (nodes n old) (nodes n new) (λ x is. ap (node_of n) (kept_page x is)) zs stay

  pairs_alike : (zs : List ℕ) → AllByRecursion (Stays u p q) zs → AreAlike (pairs_in n old) (pairs_in n new) zs
  pairs_alike zs stay = alike_by (Stays u p q) (pairs_in n old) (pairs_in n new) (λ x is. ap (leaf_pairs n) (kept_page x is)) zs stay

  back : (zs : List ℕ) → AllByRecursion (Stays u p q) zs → AreAlike (nodes n new) (nodes n old) zs
  back zs stay = alike_back (nodes n old) (nodes n new) zs (node_alike zs stay)

  levels_alike : (levels : List (List ℕ)) → AllByRecursion (λ level. AllByRecursion (Stays u p q) level) levels
      → AreLevelsAlike (nodes n old) (nodes n new) levels
  levels_alike levels stay = levels_alike_by (Stays u p q) (nodes n old) (nodes n new) (λ x is. ap (node_of n) (kept_page x is)) levels stay

  node_merges : Merges (nodes n old) (nodes n new) cs ds xs ys u p q (nodes n old q).low e f
  node_merges =
      let parts = cut (nodes n old) First Last 0 xs (p ∷ q ∷ ys) above.down in
      record {
        entries = new_entries;
        parent = parent_is;
        halves = record {
          lower_low = sym p_low;
          lower_high = sym parts.2.2.0;
          lower_right = parts.2.1;
          upper_low = refl;
          upper_high = sym (ap high_fence merges.high);
          upper_right = sym merges.right;
          shared = shared;
        };
        left_parents = back cs cs_stay;
        right_parents = back ds ds_stay;
        left_pages = back xs xs_stay;
        right_pages = back ys ys_stay;
      }

  -- ---- the tree afterwards

  new_levels : AreLevels (nodes n new) (tops ++ (cs ++ u ∷ ds) ∷ (xs ++ p ∷ ys) ∷ under)
  new_levels = merge_levels (nodes n old) (nodes n new) cs ds xs ys u p q (nodes n old q).low e f node_merges before behind tops under
      (levels_alike tops tops_stay) (levels_alike under under_stay) stand

  new_inner : AreAllInner (nodes n new) (tops ++ (cs ++ u ∷ ds) ∷ (xs ++ p ∷ ys) ∷ under)
  new_inner = merge_all_inner (nodes n old) (nodes n new) cs ds xs ys u p q (nodes n old q).low e f node_merges tops under
      (levels_alike tops tops_stay) (levels_alike under under_stay) inner

  one_leaf : pairs_in n old p ++ pairs_in n old q ≡ pairs_in n new p
  one_leaf = sym (ap (map (pair_of n)) merges.records ∙ map-append (pair_of n) (records_of (old p)) (records_of (old q)))

  new_leaf : IsLeaf (nodes n old p) (pairs_in n old p) → IsLeaf (nodes n old q) (pairs_in n old q) → IsLeaf (nodes n new p) (pairs_in n new p)
  new_leaf first second =
      let parts = cut (nodes n old) First Last 0 xs (p ∷ q ∷ ys) above.down in
      subst (λ l. IsLeaf (nodes n new p) l) one_leaf
      (merged_leaf (nodes n old p) (nodes n old q) (nodes n new p) (pairs_in n old p) (pairs_in n old q) first second parts.2.2.0 p_low
      (ap high_fence merges.high))

  new_leaves : AreLeaves (nodes n new) (pairs_in n new) (leaves_of (tops ++ (cs ++ u ∷ ds) ∷ (xs ++ p ∷ ys) ∷ under))
      × (pairs_of (pairs_in n new) (leaves_of (tops ++ (cs ++ u ∷ ds) ∷ (xs ++ p ∷ ys) ∷ under))
      ≡ pairs_of (pairs_in n old) (leaves_of (tops ++ (cs ++ u ∷ ds) ∷ (xs ++ p ∷ q ∷ ys) ∷ under)))
  new_leaves =
      fewer_leaves (nodes n old) (nodes n new) (pairs_in n old) (pairs_in n new) tops (cs ++ u ∷ ds) xs ys under p q
      (node_alike xs xs_stay) (pairs_alike xs xs_stay) (node_alike ys ys_stay) (pairs_alike ys ys_stay) (levels_alike under under_stay)
      (levels_alike_by (Stays u p q) (pairs_in n old) (pairs_in n new) (λ x is. ap (leaf_pairs n) (kept_page x is)) under under_stay)
      new_leaf one_leaf (subst (λ l. AreLeaves (nodes n old) (pairs_in n old) (leaves_of l)) whole tree.leaves)

  kept_levels : (zs : List ℕ) → AllByRecursion (Stays u p q) zs → AllByRecursion (λ x. level_of (new x) ≡ level_of (old x)) zs
  kept_levels zs stay = each_of (Stays u p q) (λ x. level_of (new x) ≡ level_of (old x)) (λ x is. ap level_of (kept_page x is)) zs stay

  all_kept : (levels : List (List ℕ)) → AllByRecursion (λ level. AllByRecursion (Stays u p q) level) levels
      → AllByRecursion (λ level. AllByRecursion (λ x. level_of (new x) ≡ level_of (old x)) level) levels
  all_kept levels stay =
      each_of (λ level. AllByRecursion (Stays u p q) level) (λ level. AllByRecursion (λ x. level_of (new x) ≡ level_of (old x)) level) kept_levels levels stay

  new_numbered : AreNumbered new (tops ++ (cs ++ u ∷ ds) ∷ (xs ++ p ∷ ys) ∷ under)
  new_numbered = numbers_on old new (tops ++ (cs ++ u ∷ ds) ∷ (xs ++ p ∷ ys) ∷ under)
      (both (λ level. AllByRecursion (λ x. level_of (new x) ≡ level_of (old x)) level) tops ((cs ++ u ∷ ds) ∷ (xs ++ p ∷ ys) ∷ under)
      (all_kept tops tops_stay) (
        both (λ x. level_of (new x) ≡ level_of (old x)) cs (u ∷ ds) (kept_levels cs cs_stay) (u_same_level, kept_levels ds ds_stay),
        (
          both (λ x. level_of (new x) ≡ level_of (old x)) xs (p ∷ ys) (kept_levels xs xs_stay)
              (merges.level, kept_levels ys ys_stay),
          all_kept under under_stay,
        ),
      ))
      (fewer_numbered old tops (cs ++ u ∷ ds) xs ys p q under numbered)

  merged_whole : levels_from root (rest_levels (tops ++ (cs ++ u ∷ ds) ∷ (xs ++ p ∷ ys) ∷ under)) ≡ tops ++ (cs ++ u ∷ ds) ∷ (xs ++ p ∷ ys) ∷ under
  merged_whole = renamed root lows tops (cs ++ u ∷ ds) (xs ++ p ∷ q ∷ ys) (xs ++ p ∷ ys) under whole

  new_tree : IsTree n new root (rest_levels (tops ++ (cs ++ u ∷ ds) ∷ (xs ++ p ∷ ys) ∷ under))
  new_tree = record {
    levels = subst (λ l. AreLevels (nodes n new) l) (sym merged_whole) new_levels;
    inner = subst (λ l. AreAllInner (nodes n new) l) (sym merged_whole) new_inner;
    leaves = subst (λ l. AreLeaves (nodes n new) (pairs_in n new) (leaves_of l)) (sym merged_whole) new_leaves.0;
    numbered = subst (λ l. AreNumbered new l) (sym merged_whole) new_numbered;
  }

  new_pairs : all_pairs n new root (rest_levels (tops ++ (cs ++ u ∷ ds) ∷ (xs ++ p ∷ ys) ∷ under)) ≡ all_pairs n old root lows
  new_pairs =
      ap (λ l. pairs_of (pairs_in n new) (leaves_of l)) merged_whole ∙ new_leaves.1
      ∙ ap (λ l. pairs_of (pairs_in n old) (leaves_of l)) (sym whole)

-- the page behind, which the next entry names
record IsNext (node : ℕ → Node) (zs : List ℕ) (fence : Fence) (q : ℕ) (rest : List (Fence × ℕ)) : Type 0 where
  ys : List ℕ
  stood : zs ≡ q ∷ ys
  fence_is : (node q).low ≡ fence
  behind_is : heads node ys ≡ rest

next_page : (node : ℕ → Node) (zs : List ℕ) (fence : Fence) (q : ℕ) (rest : List (Fence × ℕ)) → heads node zs ≡ (fence, q) ∷ rest → IsNext node zs fence q rest
next_page node [] fence q rest same = absurd (subst (λ l. IsNothing l) same tt)
next_page node (z ∷ zs) fence q rest same =
    let here = first_of ((node z).low, z) (fence, q) (heads node zs) rest same in
    let page_is : z ≡ q = ap (λ (h : Fence × ℕ). h.1) here in
    record {
      ys = zs;
      stood = ap (λ x. x ∷ zs) page_is;
      fence_is = subst (λ x. (node x).low ≡ fence) page_is (ap (λ (h : Fence × ℕ). h.0) here);
      behind_is = rest_of ((node z).low, z) (fence, q) (heads node zs) rest same;
    }

pub pages_are_merged : (n : ℕ) (old new : ℕ → List ℕ) (root : ℕ) (lows tops : List (List ℕ)) (upper lower : List ℕ) (under : List (List ℕ)) (u p q : ℕ)
    (e f : List (Fence × ℕ))
    → IsTree n old root lows → AreChildrenAt n old (levels_from root lows) tops upper lower under u p q e f
    → MergesPages n (length e) u p q old new → IsMergedTree n old new root lows tops upper lower under p q
pages_are_merged n old new root lows tops upper lower under u p q e f tree child merges =
    let node = nodes n old in
    let at : levels_from root lows ≡ tops ++ (child.cs ++ u ∷ child.ds) ∷ lower ∷ under =
    subst (λ l. levels_from root lows ≡ tops ++ l ∷ lower ∷ under) child.parents child.at in
    let above : IsAbove node (child.cs ++ u ∷ child.ds) lower =
    above_in node tops (child.cs ++ u ∷ child.ds) lower under (subst (λ l. AreLevels node l) at tree.levels) in
    let place : IsCut node lower (children node child.cs ++ e) child.one p ((child.other, q) ∷ (f ++ children node child.ds)) =
    child_place node child.cs child.ds lower u e ((child.other, q) ∷ f) child.one p above child.entries in
    let next : IsNext node place.ys child.other q (f ++ children node child.ds) =
    next_page node place.ys child.other q (f ++ children node child.ds) place.behind_is in
    let stood : lower ≡ place.xs ++ p ∷ q ∷ next.ys = place.whole ∙ ap (λ l. place.xs ++ p ∷ l) next.stood in
    let whole : levels_from root lows ≡ tops ++ (child.cs ++ u ∷ child.ds) ∷ (place.xs ++ p ∷ q ∷ next.ys) ∷ under =
    subst (λ l. levels_from root lows ≡ tops ++ (child.cs ++ u ∷ child.ds) ∷ l ∷ under) stood at in
    let entries : (node u).entries ≡ e ++ ((node p).low, p) ∷ ((node q).low, q) ∷ f =
    subst (λ fence. (node u).entries ≡ e ++ ((node p).low, p) ∷ (fence, q) ∷ f) (sym next.fence_is)
    (subst (λ fence. (node u).entries ≡ e ++ (fence, p) ∷ (child.other, q) ∷ f) (sym place.fence_is) child.entries) in
    record {
      xs = place.xs;
      ys = next.ys;
      stood = stood;
      lows = rest_levels (tops ++ (child.cs ++ u ∷ child.ds) ∷ (place.xs ++ p ∷ next.ys) ∷ under);
      stands =
          subst (λ l. levels_from root (rest_levels (tops ++ (child.cs ++ u ∷ child.ds) ∷ (place.xs ++ p ∷ next.ys) ∷ under)) ≡ tops ++ l ∷
          (place.xs ++ p ∷ next.ys) ∷ under)
          (sym child.parents) (renamed root lows tops (child.cs ++ u ∷ child.ds) lower (place.xs ++ p ∷ next.ys) under at);
      tree = new_tree n old new root lows tops child.cs child.ds place.xs next.ys under u p q e f tree whole entries place.before_is next.behind_is merges;
      pairs = new_pairs n old new root lows tops child.cs child.ds place.xs next.ys under u p q e f tree whole entries place.before_is next.behind_is merges;
    }
