-- A page of a tree that is split, with the entry in its parent, leaves a tree with the same pairs.
use Rattle.std.proofs.Common.{◌≡◌, ◌≢◌, ◌⊎◌, inl, inr, ℕ, zero, suc, ◌<◌, ◌≤◌, Bool, true, false, eqb, if◌then◌else◌, ◌==◌, List, [], ◌∷◌, ◌++◌, length}
use Rattle.std.proofs.Common.{take, drop, map, slice_index_or, refl, sym, ◌∙◌, ap, subst, arith}
use Rattle.std.specs.List.{AllByRecursion}
use Rattle.std.proofs.lemmas.Bool.Decides.{eqb_tells}
use Rattle.std.proofs.lemmas.List.{map-append, take-append-drop}
use Rattle.entries.specs.Pairs.{Pair}
use Rattle.page_format.specs.Words.{level_of, low_of, records_of}
use Rattle.page_format.proofs.Edited.{same_byte}
use Rattle.law_flat_tree.specs.Levels.{Fence, Node, heads, children, AreAlike, IsAbove, Splits, AreLevels, AreLevelsAlike}
use Rattle.law_flat_tree.specs.Levels.Fence.{First, Key, Last}
use Rattle.law_flat_tree.specs.Leaves.{IsLeaf, HaveRoom, AreOthers, AreLeaves, pairs_of}
use Rattle.law_flat_tree.specs.Descents.{BeginsAt, AreAllInner, leaves_of}
use Rattle.law_flat_tree.specs.Pages.{low_fence, high_fence, entries_of, pair_of, node_of, leaf_pairs}
use Rattle.law_flat_tree.specs.Trees.{nodes, pairs_in, levels_from, AreNumbered, IsTree, all_pairs}
use Rattle.law_flat_tree.specs.PageSplits.{StandsNowhere, IsChildAt, IsLowerPart, IsUpperPart, SplitsPage, IsSplitTree}
use Rattle.law_flat_tree.proofs.Rows.{IsCut, first_of}
use Rattle.law_flat_tree.proofs.Fences.{others_before, others_behind, others_by_mark}
use Rattle.law_flat_tree.proofs.Splits.{split_levels}
use Rattle.law_flat_tree.proofs.Descents.{child_place}
use Rattle.law_flat_tree.proofs.Halves.{lower_leaf, upper_leaf}
use Rattle.law_flat_tree.proofs.Grown.{split_all_inner, split_leaf_level, inner_level, leaves_last}
use Rattle.law_flat_tree.proofs.Pages.{kept_right, kept_low, kept_high, halves_of, shared_pairs, lower_entries, upper_entries}
use Rattle.law_flat_tree.proofs.Parents.{parent_entries}
use Rattle.law_flat_tree.proofs.Reading.{above_in, inner_in, page_inner}
use Rattle.law_flat_tree.proofs.Rooms.{all_rooms}
use Rattle.law_flat_tree.proofs.Apart.{each_of, with_both, left_of, behind_of, one_more, numbers_above, numbers_from, numbers_below, other_by_number}
use Rattle.law_flat_tree.proofs.Apart.{alike_by, levels_alike_by}

-- ---- records that are cut in two

drop_cut : (rs : List (List ℕ)) (i : ℕ) → i < length rs → drop i rs ≡ slice_index_or rs i [] ∷ drop (suc i) rs
drop_cut [] i within = absurd (omega (arith, within))
drop_cut (r ∷ rs) zero within = refl
drop_cut (r ∷ rs) (suc i) within = drop_cut rs i (omega (arith, within))

pairs_cut : (n : ℕ) (rs : List (List ℕ)) (i : ℕ) → i < length rs
    → map (pair_of n) rs ≡ map (pair_of n) (take i rs) ++ pair_of n (slice_index_or rs i []) ∷ map (pair_of n) (drop (suc i) rs)
pairs_cut n rs i within =
    ap (map (pair_of n)) (sym (take-append-drop i rs))
    ∙ map-append (pair_of n) (take i rs) (drop i rs)
    ∙ ap (λ l. map (pair_of n) (take i rs) ++ map (pair_of n) l) (drop_cut rs i within)

lower_is_leaf : (n : ℕ) (node lower : Node) (rs : List (List ℕ)) (i : ℕ) (key : List ℕ) → IsLeaf node (map (pair_of n) rs) → 0 < i → i < length rs
    → key ≡ take n (slice_index_or rs i [])
    → lower.low ≡ node.low → lower.high ≡ Key key → IsLeaf lower (map (pair_of n) (take i rs))
lower_is_leaf n node lower [] i key leaf some within is low high = absurd (omega (arith, within))
lower_is_leaf n node lower (r ∷ rs) zero key leaf some within is low high = absurd (omega (arith, some))
lower_is_leaf n node lower (r ∷ rs) (suc i) key leaf some within is low high =
    lower_leaf node lower (pair_of n r) (map (pair_of n) (take i rs)) (pair_of n (slice_index_or rs i [])) (map (pair_of n) (drop (suc i) rs))
    (subst (λ l. IsLeaf node (pair_of n r ∷ l)) (pairs_cut n rs i (omega (arith, within))) leaf) low (high ∙ ap Key is)

upper_is_leaf : (n : ℕ) (node upper : Node) (rs : List (List ℕ)) (i : ℕ) (key : List ℕ) → IsLeaf node (map (pair_of n) rs) → i < length rs
    → key ≡ take n (slice_index_or rs i [])
    → upper.low ≡ Key key → upper.high ≡ node.high → IsLeaf upper (map (pair_of n) (drop i rs))
upper_is_leaf n node upper rs i key leaf within is low high =
    subst (λ l. IsLeaf upper (map (pair_of n) l)) (sym (drop_cut rs i within))
    (upper_leaf node upper (map (pair_of n) (take i rs)) (pair_of n (slice_index_or rs i [])) (map (pair_of n) (drop (suc i) rs))
    (subst (λ l. IsLeaf node l) (pairs_cut n rs i within) leaf) (low ∙ ap Key is) high)

begins_take : (n : ℕ) (low : Fence) (rs : List (List ℕ)) (i : ℕ) → 0 < i → i < length rs → BeginsAt low (entries_of n low (take i rs))
begins_take n low [] i some within = absurd (omega (arith, within))
begins_take n low (r ∷ rs) zero some within = absurd (omega (arith, some))
begins_take n low (r ∷ rs) (suc i) some within = refl

begins_drop : (n : ℕ) (low : Fence) (rs : List (List ℕ)) (i : ℕ) → i < length rs → BeginsAt low (entries_of n low (drop i rs))
begins_drop n low [] i within = absurd (omega (arith, within))
begins_drop n low (r ∷ rs) zero within = refl
begins_drop n low (r ∷ rs) (suc i) within = begins_drop n low rs i (omega (arith, within))

leaf_in : (node : ℕ → Node) (held : ℕ → List Pair) (xs ys : List ℕ) (p : ℕ) → AreLeaves node held (xs ++ p ∷ ys) → IsLeaf (node p) (held p)
leaf_in node held [] ys p leaves = leaves.0
leaf_in node held (x ∷ xs) ys p leaves = leaf_in node held xs ys p leaves.1

pub all_in : (P : ℕ → Type 0) (xs ys : List ℕ) (p : ℕ) → AllByRecursion P (xs ++ p ∷ ys) → P p
all_in P xs ys p all = (behind_of P xs (p ∷ ys) all).0

abbrev pub rest_levels : List (List ℕ) → List (List ℕ)
rest_levels [] = []
rest_levels (level ∷ levels) = levels

-- the levels with another one in place of one
pub renamed : (root : ℕ) (lows tops : List (List ℕ)) (upper lower other : List ℕ) (under : List (List ℕ))
    → levels_from root lows ≡ tops ++ upper ∷ lower ∷ under
    → levels_from root (rest_levels (tops ++ upper ∷ other ∷ under)) ≡ tops ++ upper ∷ other ∷ under
renamed root lows [] upper lower other under at = ap (λ l. l ∷ other ∷ under) (first_of (root ∷ []) upper lows (lower ∷ under) at)
renamed root lows (top ∷ tops) upper lower other under at =
    ap (λ l. l ∷ tops ++ upper ∷ other ∷ under) (first_of (root ∷ []) top lows (tops ++ upper ∷ lower ∷ under) at)

pub as_long : (tops : List (List ℕ)) (upper lower other : List ℕ) (under : List (List ℕ))
    → length (tops ++ upper ∷ lower ∷ under) ≡ length (tops ++ upper ∷ other ∷ under)
as_long [] upper lower other under = refl
as_long (top ∷ tops) upper lower other under = ap suc (as_long tops upper lower other under)

pub not_leaf : (n : ℕ) (low : Fence) (leaf : Bool) (rs : List (List ℕ)) → BeginsAt low (if leaf then [] else entries_of n low rs) → leaf ≡ false
not_leaf n low true rs begins = absurd begins
not_leaf n low false rs begins = refl

-- both halves of an inner page begin with a child
begin_halves : (n : ℕ) (old lower upper : List ℕ) (i : ℕ) (key : List ℕ) (q : ℕ) → IsLowerPart old i key q lower → IsUpperPart old i key upper → 0 < i
    → i < length (records_of old)
    → BeginsAt (node_of n old).low (node_of n old).entries
    → BeginsAt (node_of n lower).low (node_of n lower).entries × BeginsAt (node_of n upper).low (node_of n upper).entries
begin_halves n old lower upper i key q below above some within begins =
    let inner = not_leaf n (low_fence (low_of old)) (level_of old == 0) (records_of old) begins in
    let lower_is =
    lower_entries n old lower upper i key q below above ∙ ap
    (λ b. if b then [] else entries_of n (low_fence (low_of old)) (take i (records_of old))) inner in
    let upper_is = upper_entries n old lower upper i key q below above ∙ ap (λ b. if b then [] else entries_of n (Key key) (drop i (records_of old))) inner in (
      subst (λ low. BeginsAt low (node_of n lower).entries) (sym (ap low_fence below.low))
          (subst (λ l. BeginsAt (low_fence (low_of old)) l) (sym lower_is) (begins_take n (low_fence (low_of old)) (records_of old) i some within)),
      subst (λ low. BeginsAt low (node_of n upper).entries) (sym (ap low_fence above.low))
          (subst (λ l. BeginsAt (Key key) l) (sym upper_is) (begins_drop n (Key key) (records_of old) i within)),
    )

-- a page with levels below its own is an inner page
either : (node : ℕ → Node) (tops : List (List ℕ)) (upper xs ys : List ℕ) (p : ℕ) (under : List (List ℕ))
    → AreAllInner node (tops ++ upper ∷ (xs ++ p ∷ ys) ∷ under)
    → BeginsAt (node p).low (node p).entries ⊎ (under ≡ [])
either node [] upper xs ys p [] inner = inr refl
either node [] upper xs ys p (low ∷ lows) inner = inl (page_inner node xs ys p inner.1.0)
either node (top ∷ []) upper xs ys p under inner = either node [] upper xs ys p under inner.1
either node (top ∷ next ∷ tops) upper xs ys p under inner = either node (next ∷ tops) upper xs ys p under inner.1

grown_leaves : (old new : ℕ → Node) (held kept : ℕ → List Pair) (tops : List (List ℕ)) (upper xs ys : List ℕ) (under : List (List ℕ)) (p q : ℕ)
    → AreAlike old new xs → AreAlike held kept xs → AreAlike old new ys → AreAlike held kept ys → AreLevelsAlike old new under → AreLevelsAlike held kept under
    → (IsLeaf (old p) (held p) → IsLeaf (new p) (kept p) × IsLeaf (new q) (kept q)) → kept p ++ kept q ≡ held p
    → AreLeaves old held (leaves_of (tops ++ upper ∷ (xs ++ p ∷ ys) ∷ under))
    → AreLeaves new kept (leaves_of (tops ++ upper ∷ (xs ++ p ∷ q ∷ ys) ∷ under))
    × (pairs_of kept (leaves_of (tops ++ upper ∷ (xs ++ p ∷ q ∷ ys) ∷ under)) ≡ pairs_of held (leaves_of (tops ++ upper ∷ (xs ++ p ∷ ys) ∷ under)))
grown_leaves old new held kept tops upper xs ys [] p q left left' right right' below below' halves shared leaves =
    let both = halves (leaf_in old held xs ys p (subst (λ l. AreLeaves old held l) (leaves_last tops upper (xs ++ p ∷ ys)) leaves)) in
    split_leaf_level old new held kept tops upper xs ys p q left left' right right' both.0 both.1 shared leaves
grown_leaves old new held kept tops upper xs ys (low ∷ lows) p q left left' right right' below below' halves shared leaves =
    inner_level old new held kept tops upper (xs ++ p ∷ ys) (xs ++ p ∷ q ∷ ys) low lows below below' leaves

-- neither parent nor halves
abbrev pub Stays : ℕ → ℕ → ℕ → ℕ → Type 0
Stays u p q r = (r ≢ u) × (r ≢ p) × (r ≢ q)

pub stays_of : (u p q : ℕ) (xs : List ℕ) → AreOthers u xs → AreOthers p xs → AreOthers q xs → AllByRecursion (Stays u p q) xs
stays_of u p q [] one two three = tt
stays_of u p q (x ∷ xs) one two three = ((one.0, two.0, three.0), stays_of u p q xs one.1 two.1 three.1)

module _ (old new : ℕ → List ℕ) (root : ℕ) (lows tops : List (List ℕ)) (cs ds xs ys : List ℕ) (under : List (List ℕ)) (key : List ℕ) (u p q i : ℕ)
    (e f : List (Fence × ℕ))
    (tree : IsTree (length key) old root lows) (whole : levels_from root lows ≡ tops ++ (cs ++ u ∷ ds) ∷ (xs ++ p ∷ ys) ∷ under)
    (entries : (nodes (length key) old u).entries ≡ e ++ ((nodes (length key) old p).low, p) ∷ f)
    (before : heads (nodes (length key) old) xs ≡ children (nodes (length key) old) cs ++ e)
    (behind : heads (nodes (length key) old) ys ≡ f ++ children (nodes (length key) old) ds)
    (free : StandsNowhere q (levels_from root lows)) (splits : SplitsPage key i (length e) u p q old new) where
  stand : AreLevels (nodes (length key) old) (tops ++ (cs ++ u ∷ ds) ∷ (xs ++ p ∷ ys) ∷ under)
  stand = subst (λ l. AreLevels (nodes (length key) old) l) whole tree.levels

  inner : AreAllInner (nodes (length key) old) (tops ++ (cs ++ u ∷ ds) ∷ (xs ++ p ∷ ys) ∷ under)
  inner = subst (λ l. AreAllInner (nodes (length key) old) l) whole tree.inner

  leaves : AreLeaves (nodes (length key) old) (pairs_in (length key) old) (leaves_of (tops ++ (cs ++ u ∷ ds) ∷ (xs ++ p ∷ ys) ∷ under))
  leaves = subst (λ l. AreLeaves (nodes (length key) old) (pairs_in (length key) old) (leaves_of l)) whole tree.leaves

  numbered : AreNumbered old (tops ++ (cs ++ u ∷ ds) ∷ (xs ++ p ∷ ys) ∷ under)
  numbered = subst (λ l. AreNumbered old l) whole tree.numbered

  nowhere : StandsNowhere q (tops ++ (cs ++ u ∷ ds) ∷ (xs ++ p ∷ ys) ∷ under)
  nowhere = subst (λ l. StandsNowhere q l) whole free

  rooms : AllByRecursion (λ l. HaveRoom (nodes (length key) old) l) ((cs ++ u ∷ ds) ∷ (xs ++ p ∷ ys) ∷ under)
  rooms = behind_of (λ l. HaveRoom (nodes (length key) old) l) tops ((cs ++ u ∷ ds) ∷ (xs ++ p ∷ ys) ∷ under)
      (subst (λ ls. AllByRecursion (λ l. HaveRoom (nodes (length key) old) l) ls) whole
      (all_rooms (nodes (length key) old) (pairs_in (length key) old) (root ∷ []) lows tree.levels tree.inner tree.leaves))

  above : IsAbove (nodes (length key) old) (cs ++ u ∷ ds) (xs ++ p ∷ ys)
  above = above_in (nodes (length key) old) tops (cs ++ u ∷ ds) (xs ++ p ∷ ys) under stand

  here : AreNumbered old ((cs ++ u ∷ ds) ∷ (xs ++ p ∷ ys) ∷ under)
  here = numbers_from old tops ((cs ++ u ∷ ds) ∷ (xs ++ p ∷ ys) ∷ under) numbered

  free_here : StandsNowhere q ((cs ++ u ∷ ds) ∷ (xs ++ p ∷ ys) ∷ under)
  free_here = behind_of (λ level. AreOthers q level) tops ((cs ++ u ∷ ds) ∷ (xs ++ p ∷ ys) ∷ under) nowhere

  u_level : level_of (old u) ≡ suc (length under)
  u_level = all_in (λ r. level_of (old r) ≡ suc (length under)) cs ds u here.0

  p_level : level_of (old p) ≡ length under
  p_level = all_in (λ r. level_of (old r) ≡ length under) xs ys p here.1.0

  kept_page : (r : ℕ) → Stays u p q r → new r ≡ old r
  kept_page r stays = splits.others r stays.0 stays.1 stays.2

  tops_stay : AllByRecursion (λ level. AllByRecursion (Stays u p q) level) tops
  tops_stay =
      with_both (λ level. AllByRecursion (λ x. suc (suc (length under)) ≤ level_of (old x)) level) (λ level. AreOthers q level)
      (λ level. AllByRecursion (Stays u p q) level)
      (λ level numbers free'. with_both (λ x. suc (suc (length under)) ≤ level_of (old x)) (λ x. x ≢ q) (Stays u p q)
      (λ x is ne. (
        other_by_number old x u (λ same. omega (arith, is, same, u_level)),
        other_by_number old x p
            (λ same. omega (arith, is, same, p_level)),
        ne,
      )) level numbers free')
      tops (numbers_above old tops ((cs ++ u ∷ ds) ∷ (xs ++ p ∷ ys) ∷ under) numbered)
      (left_of (λ level. AreOthers q level) tops ((cs ++ u ∷ ds) ∷ (xs ++ p ∷ ys) ∷ under) nowhere)

  under_stay : AllByRecursion (λ level. AllByRecursion (Stays u p q) level) under
  under_stay =
      with_both (λ level. AllByRecursion (λ x. level_of (old x) < length under) level) (λ level. AreOthers q level)
      (λ level. AllByRecursion (Stays u p q) level)
      (λ level numbers free'. with_both (λ x. level_of (old x) < length under) (λ x. x ≢ q) (Stays u p q)
      (λ x is ne. (
        other_by_number old x u (λ same. omega (arith, is, same, u_level)),
        other_by_number old x p
            (λ same. omega (arith, is, same, p_level)),
        ne,
      )) level numbers free')
      under (numbers_below old (length under) under (omega arith) here.1.1) free_here.1.1

  others_p : (zs : List ℕ) → AllByRecursion (λ x. level_of (old x) ≡ suc (length under)) zs → AreOthers p zs
  others_p zs all = others_by_mark (λ x. level_of (old x)) (suc (length under)) p zs all (λ is. omega (arith, is, p_level))

  others_u : (zs : List ℕ) → AllByRecursion (λ x. level_of (old x) ≡ length under) zs → AreOthers u zs
  others_u zs all = others_by_mark (λ x. level_of (old x)) (length under) u zs all (λ is. omega (arith, is, u_level))

  cs_stay : AllByRecursion (Stays u p q) cs
  cs_stay = stays_of u p q cs (others_before (nodes (length key) old) First Last 0 cs ds u above.up rooms.0)
      (others_p cs (left_of (λ x. level_of (old x) ≡ suc (length under)) cs (u ∷ ds) here.0)) (left_of (λ x. x ≢ q) cs (u ∷ ds) free_here.0)

  ds_stay : AllByRecursion (Stays u p q) ds
  ds_stay = stays_of u p q ds (others_behind (nodes (length key) old) First Last 0 cs ds u above.up rooms.0)
      (others_p ds (behind_of (λ x. level_of (old x) ≡ suc (length under)) cs (u ∷ ds) here.0).1) (behind_of (λ x. x ≢ q) cs (u ∷ ds) free_here.0).1

  xs_stay : AllByRecursion (Stays u p q) xs
  xs_stay = stays_of u p q xs (others_u xs (left_of (λ x. level_of (old x) ≡ length under) xs (p ∷ ys) here.1.0))
      (others_before (nodes (length key) old) First Last 0 xs ys p above.down rooms.1.0) (left_of (λ x. x ≢ q) xs (p ∷ ys) free_here.1.0)

  ys_stay : AllByRecursion (Stays u p q) ys
  ys_stay = stays_of u p q ys (others_u ys (behind_of (λ x. level_of (old x) ≡ length under) xs (p ∷ ys) here.1.0).1)
      (others_behind (nodes (length key) old) First Last 0 xs ys p above.down rooms.1.0) (behind_of (λ x. x ≢ q) xs (p ∷ ys) free_here.1.0).1

  -- ---- the parent

  u_same_level : level_of (new u) ≡ level_of (old u)
  u_same_level = same_byte (new u) (old u) 21 22 (omega arith) splits.kept.head

  u_begins : BeginsAt (nodes (length key) old u).low (nodes (length key) old u).entries
  u_begins = page_inner (nodes (length key) old) cs ds u (inner_in (nodes (length key) old) tops (cs ++ u ∷ ds) (xs ++ p ∷ ys) under inner)

  u_inner : (level_of (old u) == 0) ≡ false
  u_inner = not_leaf (length key) (low_fence (low_of (old u))) (level_of (old u) == 0) (records_of (old u)) u_begins

  old_entries : entries_of (length key) (low_fence (low_of (old u))) (records_of (old u)) ≡ e ++ ((nodes (length key) old p).low, p) ∷ f
  old_entries = sym (ap (λ b. if b then [] else entries_of (length key) (low_fence (low_of (old u))) (records_of (old u))) u_inner) ∙ entries

  new_entries : (nodes (length key) new u).entries ≡ e ++ ((nodes (length key) old p).low, p) ∷ (Key key, q) ∷ f
  new_entries =
      ap (λ l. if l == 0 then [] else entries_of (length key) (low_fence (low_of (new u))) (records_of (new u))) u_same_level
      ∙ ap (λ b. if b then [] else entries_of (length key) (low_fence (low_of (new u))) (records_of (new u))) u_inner
      ∙ ap (λ low. entries_of (length key) (low_fence low) (records_of (new u))) (kept_low (old u) (new u) splits.kept)
      ∙ ap (λ rs. entries_of (length key) (low_fence (low_of (old u))) rs) splits.parent
      ∙ parent_entries (low_fence (low_of (old u))) (records_of (old u)) e f ((nodes (length key) old p).low, p) key q splits.fits old_entries

  parent_is : nodes (length key) new u ≡ record (nodes (length key) old u) { entries = e ++ ((nodes (length key) old p).low, p) ∷ (Key key, q) ∷ f }
  parent_is = λ j. record {
    low = low_fence (kept_low (old u) (new u) splits.kept j);
    high = high_fence (kept_high (old u) (new u) splits.kept j);
    right = kept_right (old u) (new u) splits.kept j;
    entries = new_entries j;
  }

  node_alike : (zs : List ℕ) → AllByRecursion (Stays u p q) zs → AreAlike (nodes (length key) old) (nodes (length key) new) zs
  node_alike zs stay = alike_by (Stays u p q) (nodes (length key) old) (nodes (length key) new) (λ x is. ap (node_of (length key)) (kept_page x is)) zs stay

  pairs_alike : (zs : List ℕ) → AllByRecursion (Stays u p q) zs → AreAlike (pairs_in (length key) old) (pairs_in (length key) new) zs
  pairs_alike zs stay =
      alike_by (Stays u p q) (pairs_in (length key) old) (pairs_in (length key) new) (λ x is. ap (leaf_pairs (length key)) (kept_page x is)) zs stay

  levels_alike : (levels : List (List ℕ)) → AllByRecursion (λ level. AllByRecursion (Stays u p q) level) levels
      → AreLevelsAlike (nodes (length key) old) (nodes (length key) new) levels
  levels_alike levels stay =
      levels_alike_by (Stays u p q) (nodes (length key) old) (nodes (length key) new) (λ x is. ap (node_of (length key)) (kept_page x is)) levels stay

  node_splits : Splits (nodes (length key) old) (nodes (length key) new) cs ds xs ys u p q (Key key) e f
  node_splits = record {
    entries = entries;
    parent = parent_is;
    halves = halves_of (length key) (old p) (new p) (new q) i key q splits.lower splits.upper splits.some splits.within splits.key_is;
    left_parents = node_alike cs cs_stay;
    right_parents = node_alike ds ds_stay;
    left_pages = node_alike xs xs_stay;
    right_pages = node_alike ys ys_stay;
  }

  -- ---- the tree afterwards

  new_levels : AreLevels (nodes (length key) new) (tops ++ (cs ++ u ∷ ds) ∷ (xs ++ p ∷ q ∷ ys) ∷ under)
  new_levels = split_levels (nodes (length key) old) (nodes (length key) new) cs ds xs ys u p q (Key key) e f node_splits before behind tops under
      (levels_alike tops tops_stay) (levels_alike under under_stay) stand

  new_inner : AreAllInner (nodes (length key) new) (tops ++ (cs ++ u ∷ ds) ∷ (xs ++ p ∷ q ∷ ys) ∷ under)
  new_inner = go (either (nodes (length key) old) tops (cs ++ u ∷ ds) xs ys p under inner) where
    go : BeginsAt (nodes (length key) old p).low (nodes (length key) old p).entries ⊎ (under ≡ [])
        → AreAllInner (nodes (length key) new) (tops ++ (cs ++ u ∷ ds) ∷ (xs ++ p ∷ q ∷ ys) ∷ under)
    go (inl begins) =
        let both = begin_halves (length key) (old p) (new p) (new q) i key q splits.lower splits.upper splits.some splits.within begins in
        split_all_inner (nodes (length key) old) (nodes (length key) new) cs ds xs ys u p q (Key key) e f node_splits tops under
        (levels_alike tops tops_stay) (levels_alike under under_stay) (inl both.0) (inl both.1) inner
    go (inr none) =
        split_all_inner (nodes (length key) old) (nodes (length key) new) cs ds xs ys u p q (Key key) e f node_splits tops under
        (levels_alike tops tops_stay) (levels_alike under under_stay) (inr none) (inr none) inner

  halves_leaf : IsLeaf (nodes (length key) old p) (pairs_in (length key) old p)
      → IsLeaf (nodes (length key) new p) (pairs_in (length key) new p) × IsLeaf (nodes (length key) new q) (pairs_in (length key) new q)
  halves_leaf leaf = (
    subst (λ l. IsLeaf (nodes (length key) new p) l) (sym (ap (map (pair_of (length key))) splits.lower.records))
        (lower_is_leaf (length key) (nodes (length key) old p) (nodes (length key) new p)
        (records_of (old p)) i key leaf splits.some splits.within splits.key_is (ap low_fence splits.lower.low) (ap high_fence splits.lower.high)),
    subst (λ l. IsLeaf (nodes (length key) new q) l) (sym (ap (map (pair_of (length key))) splits.upper.records))
        (upper_is_leaf (length key) (nodes (length key) old p) (nodes (length key) new q) (records_of (old p)) i key leaf splits.within splits.key_is
        (ap low_fence splits.upper.low) (ap high_fence splits.upper.high)),
  )

  new_leaves : AreLeaves (nodes (length key) new) (pairs_in (length key) new) (leaves_of (tops ++ (cs ++ u ∷ ds) ∷ (xs ++ p ∷ q ∷ ys) ∷ under))
      × (pairs_of (pairs_in (length key) new) (leaves_of (tops ++ (cs ++ u ∷ ds) ∷ (xs ++ p ∷ q ∷ ys) ∷ under))
      ≡ pairs_of (pairs_in (length key) old) (leaves_of (tops ++ (cs ++ u ∷ ds) ∷ (xs ++ p ∷ ys) ∷ under)))
  new_leaves =
      grown_leaves (nodes (length key) old) (nodes (length key) new) (pairs_in (length key) old) (pairs_in (length key) new) tops (cs ++ u ∷ ds) xs ys under p q
      (node_alike xs xs_stay) (pairs_alike xs xs_stay) (node_alike ys ys_stay) (pairs_alike ys ys_stay) (levels_alike under under_stay)
      (levels_alike_by (Stays u p q) (pairs_in (length key) old) (pairs_in (length key) new)
      (λ x is. ap (leaf_pairs (length key)) (kept_page x is)) under under_stay)
      halves_leaf (shared_pairs (length key) (old p) (new p) (new q) i key q splits.lower splits.upper) leaves

  same_level : (r : ℕ) → r ≢ q → level_of (new r) ≡ level_of (old r)
  same_level r ne = go (eqb_tells r u) (eqb_tells r p) where
    go : ((eqb r u ≡ true) × (r ≡ u)) ⊎ ((eqb r u ≡ false) × (r ≢ u)) → ((eqb r p ≡ true) × (r ≡ p)) ⊎ ((eqb r p ≡ false) × (r ≢ p))
        → level_of (new r) ≡ level_of (old r)
    go (inl same) other = subst (λ x. level_of (new x) ≡ level_of (old x)) (sym same.1) u_same_level
    go (inr one) (inl same) = subst (λ x. level_of (new x) ≡ level_of (old x)) (sym same.1) splits.lower.level
    go (inr one) (inr other) = ap level_of (splits.others r one.1 other.1 ne)

  numbered_on : (levels : List (List ℕ)) → StandsNowhere q levels → AreNumbered old levels → AreNumbered new levels
  numbered_on [] nowhere' numbered' = tt
  numbered_on (level ∷ levels) nowhere' numbered' = (
    with_both (λ x. x ≢ q) (λ x. level_of (old x) ≡ length levels) (λ x. level_of (new x) ≡ length levels)
        (λ x ne is. same_level x ne ∙ is) level nowhere'.0 numbered'.0,
    numbered_on levels nowhere'.1 numbered'.1,
  )

  with_half : (over : List (List ℕ)) → AreNumbered new (over ++ (cs ++ u ∷ ds) ∷ (xs ++ p ∷ ys) ∷ under)
      → AreNumbered new (over ++ (cs ++ u ∷ ds) ∷ (xs ++ p ∷ q ∷ ys) ∷ under)
  with_half [] numbered' =
      (numbered'.0, (one_more (λ r. level_of (new r) ≡ length under) xs ys p q (splits.upper.level ∙ p_level) numbered'.1.0, numbered'.1.1))
  with_half (top ∷ over) numbered' = (
    each_of (λ r. level_of (new r) ≡ length (over ++ (cs ++ u ∷ ds) ∷ (xs ++ p ∷ ys) ∷ under))
        (λ r. level_of (new r) ≡ length (over ++ (cs ++ u ∷ ds) ∷ (xs ++ p ∷ q ∷ ys) ∷ under))
        (λ r is. is ∙ as_long over (cs ++ u ∷ ds) (xs ++ p ∷ ys) (xs ++ p ∷ q ∷ ys) under) top numbered'.0,
    with_half over numbered'.1,
  )

  split_whole : levels_from root (rest_levels (tops ++ (cs ++ u ∷ ds) ∷ (xs ++ p ∷ q ∷ ys) ∷ under)) ≡ tops ++ (cs ++ u ∷ ds) ∷ (xs ++ p ∷ q ∷ ys) ∷ under
  split_whole = renamed root lows tops (cs ++ u ∷ ds) (xs ++ p ∷ ys) (xs ++ p ∷ q ∷ ys) under whole

  new_tree : IsTree (length key) new root (rest_levels (tops ++ (cs ++ u ∷ ds) ∷ (xs ++ p ∷ q ∷ ys) ∷ under))
  new_tree = record {
    levels = subst (λ l. AreLevels (nodes (length key) new) l) (sym split_whole) new_levels;
    inner = subst (λ l. AreAllInner (nodes (length key) new) l) (sym split_whole) new_inner;
    leaves = subst (λ l. AreLeaves (nodes (length key) new) (pairs_in (length key) new) (leaves_of l)) (sym split_whole) new_leaves.0;
    numbered =
        subst (λ l. AreNumbered new l) (sym split_whole) (with_half tops (numbered_on (tops ++ (cs ++ u ∷ ds) ∷ (xs ++ p ∷ ys) ∷ under) nowhere numbered));
  }

  new_pairs : all_pairs (length key) new root (rest_levels (tops ++ (cs ++ u ∷ ds) ∷ (xs ++ p ∷ q ∷ ys) ∷ under)) ≡ all_pairs (length key) old root lows
  new_pairs =
      ap (λ l. pairs_of (pairs_in (length key) new) (leaves_of l)) split_whole ∙ new_leaves.1
      ∙ ap (λ l. pairs_of (pairs_in (length key) old) (leaves_of l)) (sym whole)

pub page_is_split : (old new : ℕ → List ℕ) (root : ℕ) (lows tops : List (List ℕ)) (upper lower : List ℕ) (under : List (List ℕ)) (key : List ℕ) (u p q i : ℕ)
    (e f : List (Fence × ℕ))
    → IsTree (length key) old root lows → IsChildAt (length key) old (levels_from root lows) tops upper lower under u p e f
    → StandsNowhere q (levels_from root lows)
    → SplitsPage key i (length e) u p q old new → IsSplitTree (length key) old new root lows tops upper lower under p q
page_is_split old new root lows tops upper lower under key u p q i e f tree child free splits =
    let node = nodes (length key) old in
    let at : levels_from root lows ≡ tops ++ (child.cs ++ u ∷ child.ds) ∷ lower ∷ under =
    subst (λ l. levels_from root lows ≡ tops ++ l ∷ lower ∷ under) child.parents child.at in
    let above : IsAbove node (child.cs ++ u ∷ child.ds) lower =
    above_in node tops (child.cs ++ u ∷ child.ds) lower under (subst (λ l. AreLevels node l) at tree.levels) in
    let place : IsCut node lower (children node child.cs ++ e) child.fence p (f ++ children node child.ds) =
    child_place node child.cs child.ds lower u e f child.fence p above child.entries in
    let whole : levels_from root lows ≡ tops ++ (child.cs ++ u ∷ child.ds) ∷ (place.xs ++ p ∷ place.ys) ∷ under =
    subst (λ l. levels_from root lows ≡ tops ++ (child.cs ++ u ∷ child.ds) ∷ l ∷ under) place.whole at in
    let entries : (node u).entries ≡ e ++ ((node p).low, p) ∷ f = subst (λ fence. (node u).entries ≡ e ++ (fence, p) ∷ f) (sym place.fence_is) child.entries in
    record {
      xs = place.xs;
      ys = place.ys;
      stood = place.whole;
      lows = rest_levels (tops ++ (child.cs ++ u ∷ child.ds) ∷ (place.xs ++ p ∷ q ∷ place.ys) ∷ under);
      stands =
          subst (λ l. levels_from root (rest_levels (tops ++ (child.cs ++ u ∷ child.ds) ∷ (place.xs ++ p ∷ q ∷ place.ys) ∷ under)) ≡ tops ++ l ∷
          (place.xs ++ p ∷ q ∷ place.ys) ∷ under)
          (sym child.parents) (renamed root lows tops (child.cs ++ u ∷ child.ds) lower (place.xs ++ p ∷ q ∷ place.ys) under at);
      tree =
          new_tree old new root lows tops child.cs child.ds place.xs place.ys under key u p q i e f tree whole entries
          place.before_is place.behind_is free splits;
      pairs =
          new_pairs old new root lows tops child.cs child.ds place.xs place.ys under key u p q i e f tree whole entries
          place.before_is place.behind_is free splits;
    }
