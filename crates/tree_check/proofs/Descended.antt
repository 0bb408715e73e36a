-- Rows that were checked, from the root down, are a sound tree.
use Rattle.std.proofs.Common.{◌≡◌, ◌≢◌, ℕ, suc, ◌+◌, ◌-◌, ◌<◌, ◌==◌, Bool, true, false, if◌then◌else◌}
use Rattle.std.proofs.Common.{List, [], ◌∷◌, ◌++◌, length, drop, refl, sym, ◌∙◌, ap, subst, length-append, arith}
use Rattle.std.specs.List.{AllByRecursion}
use Rattle.std.proofs.lemmas.Bool.{ne_eqb}
use Rattle.page_format.specs.Words.{level_of, count_of, record_len_of, low_of, records_of}
use Rattle.stored_pages.specs.Words.{u32_at}
use Rattle.page_format.proofs.Pieces.{length-pieces}
use Rattle.law_flat_tree.specs.Levels.{Fence, IsRow, AreLevels, heads, children}
use Rattle.law_flat_tree.specs.Levels.Fence.{First, Key, Last}
use Rattle.law_flat_tree.specs.Leaves.{AreLeaves}
use Rattle.law_flat_tree.specs.Descents.{BeginsAt, AreInner, AreAllInner, leaves_of}
use Rattle.law_flat_tree.specs.Pages.{low_fence, entries_of}
use Rattle.law_flat_tree.specs.Trees.{IsTree, AreNumbered, pairs_in, levels_from}
use Rattle.law_flat_tree.proofs.Apart.{each_of}
use Rattle.law_flat_tree.proofs.Reading.{one_shape}
use Rattle.btree.specs.declared.tree.Tree.{Tree}
use Rattle.btree.specs.Layout.{IsLaidOut}
use Rattle.btree.specs.Sound.{levels_of, IsTreePage, IsSoundTree}
use Rattle.btree_split.specs.Placed.{IsPlacedPage, IsPlacedTree}
use Rattle.tree_check.specs.Space.{HasFirstPages}
use Rattle.tree_check.proofs.Nodes.{not_header}
use Rattle.tree_check.specs.Rows.{page_in, node_in, IsNodeAt, IsCheckedRow, HasRowBelow}
use Rattle.tree_check.proofs.Leaf.{tree_page, leaf_page}
use Rattle.tree_check.proofs.Walking.{tree_fields}

-- only the beginning of a row
abbrev IsFirst : Fence → Type 0
IsFirst First = Unit {0}
IsFirst (Key key) = ⊥
IsFirst Last = ⊥

-- a row of that level
pub record Stands (tree : Tree) (pages : List (List ℕ)) (level : ℕ) (us : List ℕ) : Type 0 where
  pub row : IsRow (node_in tree pages) First us Last 0
  pub each : AllByRecursion (IsNodeAt tree pages level) us

-- rows of levels that fall by one, each the children of the one above
abbrev pub AreChecked : Tree → List (List ℕ) → ℕ → List (List ℕ) → Type 0
AreChecked tree pages k [] = Unit {0}
AreChecked tree pages k (us ∷ []) = Stands tree pages k us
AreChecked tree pages k (us ∷ ls ∷ more) =
    Stands tree pages k us × (children (node_in tree pages) us ≡ heads (node_in tree pages) ls) × AreChecked tree pages (k - 1) (ls ∷ more)

module _ (tree : Tree) (pages : List (List ℕ)) where
  pub first_stands : (k : ℕ) (ls : List ℕ) (more : List (List ℕ)) → AreChecked tree pages k (ls ∷ more) → Stands tree pages k ls
  first_stands k ls [] checked = checked
  first_stands k ls (next ∷ more) checked = checked.0

  one_level_more : (k j : ℕ) (tops : List (List ℕ)) (us ls : List ℕ) → k ≡ length tops + suc j → AreChecked tree pages k (tops ++ us ∷ [])
      → Stands tree pages j ls → children (node_in tree pages) us ≡ heads (node_in tree pages) ls → AreChecked tree pages k ((tops ++ us ∷ []) ++ ls ∷ [])
  one_level_more k j [] us ls k_is checked stands are =
      (checked, are, subst (λ m. Stands tree pages m ls) (omega (arith, k_is)) stands)
  one_level_more k j (top ∷ []) us ls k_is checked stands are =
      (checked.0, checked.1, one_level_more (k - 1) j [] us ls (omega (arith, k_is)) checked.2 stands are)
  one_level_more k j (top ∷ next ∷ tops) us ls k_is checked stands are =
      (checked.0, checked.1, one_level_more (k - 1) j (next ∷ tops) us ls (omega (arith, k_is)) checked.2 stands are)

  -- ---- what such rows are

  levels_stand : (k : ℕ) (rows : List (List ℕ)) → AreChecked tree pages k rows → AreLevels (node_in tree pages) rows
  levels_stand k [] checked = tt
  levels_stand k (us ∷ []) checked = checked.row
  levels_stand k (us ∷ ls ∷ more) checked = (
    record { up = checked.0.row; down = (first_stands (k - 1) ls more checked.2).row; are_children = checked.1 },
    levels_stand (k - 1) (ls ∷ more) checked.2,
  )

  begins_by : (b : Bool) (n : ℕ) (low : Fence) (rs : List (List ℕ)) → b ≡ false → 0 < length rs → BeginsAt low (if b then [] else entries_of n low rs)
  begins_by true n low rs inner some = absurd cc
  begins_by false n low [] inner some = absurd (omega (arith, some))
  begins_by false n low (r ∷ rs) inner some = refl

  begins : (k page : ℕ) → k ≢ 0 → IsNodeAt tree pages k page → BeginsAt (node_in tree pages page).low (node_in tree pages page).entries
  begins k page inner is =
      let bytes = page_in pages page in
      begins_by (level_of bytes == 0) tree.key_len (low_fence (low_of bytes)) (records_of bytes)
      (ne_eqb (level_of bytes) 0 (λ none. inner (sym is.node.stands.level_is ∙ none)))
      (omega (arith, is.node.stands.some inner, length-pieces (record_len_of bytes) (count_of bytes) (drop 208 bytes)))

  all_begin : (k : ℕ) (us : List ℕ) → k ≢ 0 → AllByRecursion (IsNodeAt tree pages k) us → AreInner (node_in tree pages) us
  all_begin k [] inner all = tt
  all_begin k (u ∷ us) inner all = (begins k u inner all.0, all_begin k us inner all.1)

  inner_stand : (k : ℕ) (rows : List (List ℕ)) → k + 1 ≡ length rows → AreChecked tree pages k rows → AreAllInner (node_in tree pages) rows
  inner_stand k [] long checked = tt
  inner_stand k (us ∷ []) long checked = tt
  inner_stand k (us ∷ ls ∷ more) long checked = (
    all_begin k us (λ none. omega (arith, none, long)) checked.0.each,
    inner_stand (k - 1) (ls ∷ more) (omega (arith, long)) checked.2,
  )

  numbers_stand : (k : ℕ) (rows : List (List ℕ)) → k + 1 ≡ length rows → AreChecked tree pages k rows → AreNumbered (page_in pages) rows
  numbers_stand k [] long checked = tt
  numbers_stand k (us ∷ []) long checked = (
    each_of (IsNodeAt tree pages k) (λ r. level_of (page_in pages r) ≡ 0) (λ r is. is.node.stands.level_is ∙ omega (arith, long)) us checked.each,
    tt,
  )
  numbers_stand k (us ∷ ls ∷ more) long checked = (
    each_of (IsNodeAt tree pages k) (λ r. level_of (page_in pages r) ≡ length (ls ∷ more))
        (λ r is. is.node.stands.level_is ∙ omega (arith, long)) us checked.0.each,
    numbers_stand (k - 1) (ls ∷ more) (omega (arith, long)) checked.2,
  )

  all_leaves : 0 < tree.key_len → (us : List ℕ) → AllByRecursion (IsNodeAt tree pages 0) us
      → AreLeaves (node_in tree pages) (pairs_in tree.key_len (page_in pages)) us
  all_leaves some [] all = tt
  all_leaves some (u ∷ us) all = (leaf_page tree (page_in pages u) some all.0.page.order all.0.node, all_leaves some us all.1)

  leaves_stand : 0 < tree.key_len → (k : ℕ) (rows : List (List ℕ)) → k + 1 ≡ length rows → AreChecked tree pages k rows
      → AreLeaves (node_in tree pages) (pairs_in tree.key_len (page_in pages)) (leaves_of rows)
  leaves_stand some k [] long checked = tt
  leaves_stand some k (us ∷ []) long checked =
      all_leaves some us (subst (λ m. AllByRecursion (IsNodeAt tree pages m) us) (omega (arith, long)) checked.each)
  leaves_stand some k (us ∷ ls ∷ more) long checked = leaves_stand some (k - 1) (ls ∷ more) (omega (arith, long)) checked.2

  one_page : HasFirstPages pages → (k page : ℕ) → IsNodeAt tree pages k page → IsTreePage tree (page_in pages) page
  one_page file k page is =
      tree_page tree (page_in pages) page k (not_header is.beyond) (omega (arith, is.counted, file.count.counted.1)) is.page.fields is.node

  -- what holds of a page that was checked holds of all
  on_pages : (P : ℕ → Type 0) → ((k page : ℕ) → IsNodeAt tree pages k page → P page) → (k : ℕ) (rows : List (List ℕ)) → AreChecked tree pages k rows
      → AllByRecursion (AllByRecursion P) rows
  on_pages P on k [] checked = tt
  on_pages P on k (us ∷ []) checked = (each_of (IsNodeAt tree pages k) P (on k) us checked.each, tt)
  on_pages P on k (us ∷ ls ∷ more) checked = (
    each_of (IsNodeAt tree pages k) P (on k) us checked.0.each,
    on_pages P on (k - 1) (ls ∷ more) checked.2,
  )

  -- ---- the descent

  pub record Descended (height down top : ℕ) : Type 0 where
    pub lows : List (List ℕ)
    pub tops : List (List ℕ)
    pub us : List ℕ
    pub whole : levels_from tree.root lows ≡ tops ++ us ∷ []
    pub depth : length tops ≡ down
    pub row : IsCheckedRow tree pages (height - down) top us
    pub checked : AreChecked tree pages height (tops ++ us ∷ [])
    pub some : us ≢ []

  pub descent_begins : (height : ℕ) → IsCheckedRow tree pages height tree.root (tree.root ∷ []) → Descended height 0 tree.root
  descent_begins height row = record {
    lows = [];
    tops = [];
    us = tree.root ∷ [];
    whole = refl;
    depth = refl;
    row =
        let all : height ≡ height - 0 = omega arith in
        subst (λ k. IsCheckedRow tree pages k tree.root (tree.root ∷ [])) all row;
    checked = record { row = row.row; each = row.each };
    some = λ none. omega (arith, ap (λ (l : List ℕ). length l) none);
  }

  no_empty_row : (ls : List ℕ) → IsRow (node_in tree pages) First ls Last 0 → ls ≢ []
  no_empty_row [] row none = absurd (subst (λ f. IsFirst f) row tt)
  no_empty_row (l ∷ ls) row none = omega (arith, ap (λ (l : List ℕ). length l) none)

  pub goes_down : (height down top first level : ℕ) → down < height → level + 1 ≡ height - down → (came : Descended height down top)
      → HasRowBelow tree pages level first came.us → Descended height (down + 1) first
  goes_down height down top first level within level_is came below =
      record {
        lows = came.lows ++ below.ls ∷ [];
        tops = came.tops ++ came.us ∷ [];
        us = below.ls;
        whole = ap (λ l. l ++ below.ls ∷ []) came.whole;
        depth = length-append came.tops (came.us ∷ []) ∙ ap (λ k. k + 1) came.depth;
        row = subst (λ k. IsCheckedRow tree pages k first below.ls) (omega (arith, level_is)) below.checked;
        checked =
            one_level_more height level came.tops came.us below.ls (omega (arith, within, level_is, came.depth)) came.checked
            (record { row = below.checked.row; each = below.checked.each }) below.are_children;
        some = no_empty_row below.ls below.checked.row;
      }

  module _ (some : 0 < tree.key_len) (height down top : ℕ) (end : down ≡ height) (came : Descended height down top) where
    abbrev rows : List (List ℕ)
    rows = levels_from tree.root came.lows

    checked : AreChecked tree pages height rows
    checked = subst (λ l. AreChecked tree pages height l) (sym came.whole) came.checked

    long : height + 1 ≡ length rows
    long = omega (arith, end, came.depth, length-append came.tops (came.us ∷ []), ap (λ (l : List (List ℕ)). length l) came.whole)

    stands : IsTree tree.key_len (page_in pages) tree.root came.lows
    stands = record {
      levels = levels_stand height rows checked;
      inner = inner_stand height rows long checked;
      leaves = leaves_stand some height rows long checked;
      numbered = numbers_stand height rows long checked;
    }

    on_levels : (P : ℕ → Type 0) → ((k page : ℕ) → IsNodeAt tree pages k page → P page)
        → AllByRecursion (AllByRecursion P) (levels_of tree (page_in pages))
    on_levels P on =
        subst (λ l. AllByRecursion (AllByRecursion P) (levels_from tree.root l))
        (one_shape tree.key_len (page_in pages) tree.root came.lows stands) (on_pages P on height rows checked)

    sound : HasFirstPages pages → IsSoundTree tree (page_in pages)
    sound file = record {
      stands =
          subst (λ l. IsTree tree.key_len (page_in pages) tree.root l) (one_shape tree.key_len (page_in pages) tree.root came.lows stands) stands;
      each = on_levels (IsTreePage tree (page_in pages)) (one_page file);
    }

    pub descent_ends : HasFirstPages pages → IsPlacedTree tree (page_in pages)
    descent_ends file = record {
      whole = record {
        sound = sound file;
        counted = on_levels (λ page. page < u32_at 44 (page_in pages 0)) (λ k page is. is.counted);
      };
      reserved = file.reserved;
      placed = on_levels (IsPlacedPage tree.key_len (page_in pages))
          (λ k page is. record { beyond = is.beyond; used = is.used; first = is.node.first });
    }

  -- the first page of the lowest row so far
  top_is : (k top : ℕ) (us : List ℕ) → us ≢ [] → IsCheckedRow tree pages k top us → IsNodeAt tree pages k top
  top_is k top [] some row = absurd (some refl)
  top_is k top (u ∷ us) some row = subst (IsNodeAt tree pages k) row.first_is row.each.0

  pub top_node : (height down top : ℕ) → Descended height down top → IsNodeAt tree pages (height - down) top
  top_node height down top came = top_is (height - down) top came.us came.some came.row

  pub top_laid_out : (height down top : ℕ) → Descended height down top → IsLaidOut tree (page_in pages top)
  top_laid_out height down top came =
      let is = top_node height down top came in
      record { width = is.node.lengths.width; inside = (tree_fields tree pages (height - down) top is).inside }

  pub row_above : (height down top level : ℕ) → level + 1 ≡ height - down → (came : Descended height down top)
      → IsCheckedRow tree pages (suc level) top came.us
  row_above height down top level level_is came = subst (λ k. IsCheckedRow tree pages k top came.us) (omega (arith, level_is)) came.row
