-- A sound tree over pages of the file is rows as a check walks them, and below each but the last stands another.
use Rattle.std.proofs.Common.{◌≡◌, ◌≢◌, ℕ, suc, ◌+◌, ◌-◌, ◌<◌, ◌≤◌, ◌==◌, Bool, true, false, if◌then◌else◌}
use Rattle.std.proofs.Common.{List, [], ◌∷◌, ◌++◌, length, drop, map, get_or, refl, sym, ◌∙◌, ap, subst, arith}
use Rattle.std.specs.Prelude.{Option, None, Some, IsTrue}
use Rattle.std.specs.List.{AllByRecursion}
use Rattle.std.proofs.lemmas.List.{length-take-le, length-drop}
use Rattle.page_format.specs.Words.{kind_of, level_of, count_of, record_len_of, low_of, high_of, records_of}
use Rattle.stored_pages.specs.Words.{u32_at}
use Rattle.page_format.specs.Shape.{is_tree, IsPage}
use Rattle.page_format.proofs.Pieces.{wide-pieces}
use Rattle.law_flat_tree.specs.Levels.{Fence, Node, IsRow, AreLevels, heads, children, head_or, named}
use Rattle.law_flat_tree.specs.Levels.Fence.{First, Key, Last}
use Rattle.law_flat_tree.specs.Descents.{BeginsAt, AreInner, AreAllInner}
use Rattle.law_flat_tree.specs.Pages.{low_fence, high_fence, child_of, entry_of, entries_of}
use Rattle.law_flat_tree.specs.Trees.{AreNumbered}
use Rattle.law_flat_tree.proofs.Apart.{with_both}
use Rattle.law_flat_tree.proofs.Leaves.{both}
use Rattle.btree.specs.declared.tree.Tree.{Tree}
use Rattle.btree.specs.Sound.{lows_of, levels_of, IsTreePage}
use Rattle.btree_split.specs.Placed.{IsPlacedPage, IsPlacedTree}
use Rattle.tree_check.specs.Space.{HasFirstPages}
use Rattle.tree_check.specs.Nodes.{IsFenceOf}
use Rattle.tree_check.specs.Rows.{page_in, node_in, IsNodeAt, IsCheckedRow, HasRowBelow, AreFilePages}
use Rattle.tree_check.proofs.Descended.{Stands, AreChecked, Descended, first_stands}
use Rattle.tree_check.proofs.Walking.{all_records, inner_entries}

-- ---- fences as long as a key

abbrev IsLong : ℕ → Fence → Type 0
IsLong n First = Unit {0}
IsLong n (Key key) = length key ≡ n
IsLong n Last = Unit {0}

long_low : (n : ℕ) (low : Option (List ℕ)) → IsLong n (low_fence low) → IsFenceOf n low
long_low n None long = tt
long_low n (Some key) long = long

long_high : (n : ℕ) (high : Option (List ℕ)) → IsLong n (high_fence high) → IsFenceOf n high
long_high n None long = tt
long_high n (Some key) long = long

keys_long : (n width : ℕ) (rs : List (List ℕ)) → n ≤ width → AllByRecursion (λ r. length r ≡ width) rs
    → AllByRecursion (λ (e : Fence × ℕ). IsLong n e.0) (map (entry_of n) rs)
keys_long n width [] fits wide = tt
keys_long n width (r ∷ rs) fits wide = (length-take-le n r (omega (arith, fits, wide.0)), keys_long n width rs fits wide.1)

entries_long : (n width : ℕ) (low : Fence) (rs : List (List ℕ)) → n ≤ width → IsLong n low → AllByRecursion (λ r. length r ≡ width) rs
    → AllByRecursion (λ (e : Fence × ℕ). IsLong n e.0) (entries_of n low rs)
entries_long n width low [] fits long wide = tt
entries_long n width low (r ∷ rs) fits long wide = (long, keys_long n width rs fits wide.1)

unless : (b : Bool) (n : ℕ) (es : List (Fence × ℕ)) → AllByRecursion (λ (e : Fence × ℕ). IsLong n e.0) es
    → AllByRecursion (λ (e : Fence × ℕ). IsLong n e.0) (if b then [] else es)
unless true n es long = tt
unless false n es long = long

heads_long : (n : ℕ) (node : ℕ → Node) (ls : List ℕ) → AllByRecursion (λ (e : Fence × ℕ). IsLong n e.0) (heads node ls)
    → AllByRecursion (λ l. IsLong n (node l).low) ls
heads_long n node [] long = tt
heads_long n node (l ∷ ls) long = (long.0, heads_long n node ls long.1)

ends_long : (n : ℕ) (node : ℕ → Node) (low : Fence) (ls : List ℕ) → IsRow node low ls Last 0 → AllByRecursion (λ l. IsLong n (node l).low) ls
    → AllByRecursion (λ l. IsLong n (node l).high) ls
ends_long n node low [] row long = tt
ends_long n node low (l ∷ []) row long = (subst (IsLong n) (sym row.2) tt, tt)
ends_long n node low (l ∷ m ∷ ls) row long =
    (subst (IsLong n) row.2.0 long.1.0, ends_long n node (node l).high (m ∷ ls) row.2 long.1)

-- ---- what a check reads off one page

tree_kind : (b : Bool) (kind : ℕ) → kind ≡ (if b then 3 else 4) → IsTrue (is_tree kind)
tree_kind true kind is = ap is_tree is
tree_kind false kind is = ap is_tree is

some_records : (b : Bool) (n : ℕ) (low : Fence) (rs : List (List ℕ)) → BeginsAt low (if b then [] else entries_of n low rs) → 0 < length rs
some_records true n low rs begins = absurd begins
some_records false n low [] begins = absurd begins
some_records false n low (r ∷ rs) begins = omega arith

module _ (tree : Tree) (pages : List (List ℕ)) where
  abbrev n : ℕ
  n = tree.key_len

  abbrev node : ℕ → Node
  node = node_in tree pages

  abbrev IsTreesPage : ℕ → Type 0
  IsTreesPage = IsTreePage tree (page_in pages)

  -- what is known of a page beside
  record IsFilePage (page : ℕ) : Type 0 where
    counted : page < u32_at 44 (page_in pages 0)
    within : page < length pages
    page_is : IsPage page (page_in pages page)
    placed : IsPlacedPage n (page_in pages) page

  all_known : HasFirstPages pages → IsPlacedTree tree (page_in pages) → AreFilePages tree pages
      → AllByRecursion (AllByRecursion IsFilePage) (levels_of tree (page_in pages))
  all_known file tree_is are =
      let counted : ℕ → Type 0 = λ page. page < u32_at 44 (page_in pages 0) in
      let is_page : ℕ → Type 0 = λ page. IsPage page (page_in pages page) in
      let placed : ℕ → Type 0 = IsPlacedPage n (page_in pages) in
      let both_of : ℕ → Type 0 = λ page. counted page × is_page page in
      with_both (AllByRecursion both_of) (AllByRecursion placed) (AllByRecursion IsFilePage)
      (λ level. with_both both_of placed IsFilePage
      (λ page known at. record { counted = known.0; within = omega (arith, known.0, file.count.few); page_is = known.1; placed = at }) level)
      (levels_of tree (page_in pages))
      (with_both (AllByRecursion counted) (AllByRecursion is_page) (AllByRecursion both_of)
      (λ level. with_both counted is_page both_of (λ page one other. (one, other)) level)
      (levels_of tree (page_in pages)) tree_is.whole.counted are) tree_is.placed

  may_stand : (k page : ℕ) → IsTreesPage page → IsFilePage page → level_of (page_in pages page) ≡ k
      → (k ≢ 0 → BeginsAt (node page).low (node page).entries) → IsLong n (node page).low → IsLong n (node page).high → IsNodeAt tree pages k page
  may_stand k page is file level begins low high =
      let bytes = page_in pages page in
      record {
        beyond = file.placed.beyond;
        counted = file.counted;
        within = file.within;
        used = file.placed.used;
        page = file.page_is;
        node =
            record {
              stands = record {
                kind = tree_kind (level_of bytes == 0) (kind_of bytes) is.fields.level;
                index = is.index;
                level_is = level;
                some = λ inner.
                    omega (arith, all_records bytes, some_records (level_of bytes == 0) n (low_fence (low_of bytes)) (records_of bytes) (begins inner));
              };
              lengths = record { width = is.width; low = long_low n (low_of bytes) low; high = long_high n (high_of bytes) high };
              rising = is.rising;
              first = file.placed.first;
            };
      }

  all_stand : (k : ℕ) (us : List ℕ) → AllByRecursion IsTreesPage us → AllByRecursion IsFilePage us
      → AllByRecursion (λ page. level_of (page_in pages page) ≡ k) us → (k ≢ 0 → AreInner node us)
      → AllByRecursion (λ u. IsLong n (node u).low) us → AllByRecursion (λ u. IsLong n (node u).high) us → AllByRecursion (IsNodeAt tree pages k) us
  all_stand k [] are files levels inner lows highs = tt
  all_stand k (u ∷ us) are files levels inner lows highs = (
    may_stand k u are.0 files.0 levels.0 (λ some. (inner some).0) lows.0 highs.0,
    all_stand k us are.1 files.1 levels.1 (λ some. (inner some).1) lows.1 highs.1,
  )

  -- ---- all rows

  module _ (sizes : (i : ℕ) → i < length pages → length (page_in pages i) ≡ 4096) where
    node_long : (page : ℕ) → IsTreesPage page → IsFilePage page → IsLong n (node page).low
        → AllByRecursion (λ (e : Fence × ℕ). IsLong n e.0) (node page).entries
    node_long page is file low =
        let bytes = page_in pages page in
        let behind : length (drop 208 bytes) ≡ 4096 - 208 = length-drop 208 bytes ∙ ap (λ m. m - 208) (sizes page file.within) in
        unless (level_of bytes == 0) n (entries_of n (low_fence (low_of bytes)) (records_of bytes))
        (entries_long n (record_len_of bytes) (low_fence (low_of bytes)) (records_of bytes) (omega (arith, is.width)) low
        (wide-pieces (record_len_of bytes) (count_of bytes) (drop 208 bytes) (omega (arith, is.fields.inside, behind))))

    row_long : (us : List ℕ) → AllByRecursion IsTreesPage us → AllByRecursion IsFilePage us → AllByRecursion (λ u. IsLong n (node u).low) us
        → AllByRecursion (λ (e : Fence × ℕ). IsLong n e.0) (children node us)
    row_long [] are files lows = tt
    row_long (u ∷ us) are files lows =
        both (λ (e : Fence × ℕ). IsLong n e.0) (node u).entries (children node us) (node_long u are.0 files.0 lows.0) (row_long us are.1 files.1 lows.1)

    rows_stand : (us : List ℕ) (more : List (List ℕ)) → AreLevels node (us ∷ more) → AreAllInner node (us ∷ more)
        → AreNumbered (page_in pages) (us ∷ more) → AllByRecursion (AllByRecursion IsTreesPage) (us ∷ more)
        → AllByRecursion (AllByRecursion IsFilePage) (us ∷ more) → AllByRecursion (λ u. IsLong n (node u).low) us
        → AreChecked tree pages (length more) (us ∷ more)
    rows_stand us [] levels inner numbered are files lows = record {
      row = levels;
      each = all_stand 0 us are.0 files.0 numbered.0 (λ some. absurd (some refl)) lows (ends_long n node First us levels lows);
    }
    rows_stand us (ls ∷ more) levels inner numbered are files lows =
        let below : AllByRecursion (λ l. IsLong n (node l).low) ls =
        heads_long n node ls (subst (λ es. AllByRecursion (λ (e : Fence × ℕ). IsLong n e.0) es) levels.0.are_children (row_long us are.0 files.0 lows)) in
        let back : length more ≡ length (ls ∷ more) - 1 = omega arith in (
          record {
            row = levels.0.up;
            each = all_stand (length (ls ∷ more)) us are.0 files.0 numbered.0 (λ _. inner.0) lows (ends_long n node First us levels.0.up lows);
          },
          levels.0.are_children,
          subst (λ k. AreChecked tree pages k (ls ∷ more)) back (rows_stand ls more levels.1 inner.1 numbered.1 are.1 files.1 below),
        )

    pub sound_rows : HasFirstPages pages → IsPlacedTree tree (page_in pages) → AreFilePages tree pages
        → AreChecked tree pages (length (lows_of tree (page_in pages))) (levels_of tree (page_in pages))
    sound_rows file placed files =
        let sound = placed.whole.sound in
        let lows = lows_of tree (page_in pages) in
        rows_stand (tree.root ∷ []) lows sound.stands.levels sound.stands.inner sound.stands.numbered sound.each (all_known file placed files)
        (subst (IsLong n) (sym (top_low lows sound.stands.levels)) tt, tt)
      where
        top_low : (more : List (List ℕ)) → AreLevels node ((tree.root ∷ []) ∷ more) → (node tree.root).low ≡ First
        top_low [] levels = levels.0
        top_low (ls ∷ more) levels = levels.0.up.0

    pub root_row : HasFirstPages pages → IsPlacedTree tree (page_in pages) → AreFilePages tree pages
        → IsCheckedRow tree pages (level_of (page_in pages tree.root)) tree.root (tree.root ∷ [])
    root_row file placed files =
        let lows = lows_of tree (page_in pages) in
        let top = first_stands tree pages (length lows) (tree.root ∷ []) lows (sound_rows file placed files) in
        subst (λ k. IsCheckedRow tree pages k tree.root (tree.root ∷ [])) (sym placed.whole.sound.stands.numbered.0.0)
        (record { first_is = refl; row = top.row; each = top.each })

    -- ---- the row below one that was reached

    named_heads : (ls : List ℕ) → named (heads node ls) ≡ ls
    named_heads [] = refl
    named_heads (l ∷ ls) = ap (λ more. l ∷ more) (named_heads ls)

    one_row : (ls ms us vs : List ℕ) → us ≡ vs → children node us ≡ heads node ls → children node vs ≡ heads node ms → ls ≡ ms
    one_row ls ms us vs same one other =
        sym (named_heads ls) ∙ ap named (sym one ∙ ap (children node) same ∙ other) ∙ named_heads ms

    abbrev head_row : List (List ℕ) → List ℕ
    head_row [] = []
    head_row (us ∷ rows) = us

    record RowBelow (level : ℕ) (us : List ℕ) : Type 0 where
      ls : List ℕ
      stands : Stands tree pages level ls
      are_children : children node us ≡ heads node ls

    below_of : (k level : ℕ) (tops : List (List ℕ)) (us vs : List ℕ) (more : List (List ℕ)) → k ≡ length tops + suc level
        → AreChecked tree pages k (tops ++ us ∷ []) → AreChecked tree pages k (vs ∷ more) → head_row (tops ++ us ∷ []) ≡ vs → length tops < length more
        → RowBelow level us
    below_of k level tops us vs [] k_is came sound same short = absurd (omega (arith, short))
    below_of k level [] us vs (ls ∷ more) k_is came sound same short =
        record {
          ls = ls;
          stands = subst (λ m. Stands tree pages m ls) (omega (arith, k_is)) (first_stands tree pages (k - 1) ls more sound.2);
          are_children = ap (children node) same ∙ sound.1;
        }
    below_of k level (top ∷ []) us vs (ls ∷ more) k_is came sound same short =
        below_of (k - 1) level [] us ls more (omega (arith, k_is)) came.2 sound.2 (one_row us ls top vs same came.1 sound.1) (omega (arith, short))
    below_of k level (top ∷ next ∷ tops) us vs (ls ∷ more) k_is came sound same short =
        below_of (k - 1) level (next ∷ tops) us ls more (omega (arith, k_is)) came.2 sound.2 (one_row next ls top vs same came.1 sound.1)
        (omega (arith, short))

    record BeginsWith (child : ℕ) (es : List (Fence × ℕ)) : Type 0 where
      fence : Fence
      more : List (Fence × ℕ)
      whole : es ≡ (fence, child) ∷ more

    first_entry : (low : Fence) (rs : List (List ℕ)) → 0 < length rs → BeginsWith (child_of n (get_or rs 0 [])) (entries_of n low rs)
    first_entry low [] some = absurd (omega (arith, some))
    first_entry low (r ∷ rs) some = record { fence = low; more = map (entry_of n) rs; whole = refl }

    abbrev head_page : List (Fence × ℕ) → ℕ
    head_page [] = 0
    head_page (e ∷ es) = e.1

    head_of : (ls : List ℕ) → head_or 0 ls ≡ head_page (heads node ls)
    head_of [] = refl
    head_of (l ∷ ls) = refl

    -- the first child of the first page is the first page below
    first_below : (level top : ℕ) (us ls : List ℕ) → us ≢ [] → IsCheckedRow tree pages (suc level) top us → children node us ≡ heads node ls
        → head_or 0 ls ≡ child_of n (get_or (records_of (page_in pages top)) 0 [])
    first_below level top [] ls some row are = absurd (some refl)
    first_below level top (u ∷ us) ls some row are =
        let bytes = page_in pages u in
        let is = row.each.0 in
        let has = first_entry (low_fence (low_of bytes)) (records_of bytes)
        (omega (arith, all_records bytes, is.node.stands.some (λ none. omega (arith, none)))) in
        head_of ls ∙ ap head_page (sym are ∙ ap (λ es. es ++ children node us) (inner_entries tree pages level top us u is ∙ has.whole))
        ∙ ap (λ p. child_of n (get_or (records_of (page_in pages p)) 0 [])) row.first_is

    pub has_row_below : (height down top first level : ℕ) → level_of (page_in pages tree.root) ≡ height → down < height → level + 1 ≡ height - down
        → HasFirstPages pages → IsPlacedTree tree (page_in pages) → AreFilePages tree pages → (came : Descended tree pages height down top)
        → first ≡ child_of n (get_or (records_of (page_in pages top)) 0 []) → HasRowBelow tree pages level first came.us
    has_row_below height down top first level height_is within level_is file placed files came first_is =
        let lows = lows_of tree (page_in pages) in
        let all : length lows ≡ height = sym placed.whole.sound.stands.numbered.0.0 ∙ height_is in
        let at : height ≡ length came.tops + suc level = omega (arith, came.depth, within, level_is) in
        let below = below_of height level came.tops came.us (tree.root ∷ []) lows at came.checked
        (subst (λ k. AreChecked tree pages k (levels_of tree (page_in pages))) all (sound_rows file placed files))
        (sym (ap head_row came.whole)) (omega (arith, came.depth, within, all)) in
        let row : IsCheckedRow tree pages (suc level) top came.us =
        subst (λ k. IsCheckedRow tree pages k top came.us) (omega (arith, level_is)) came.row in
        record {
          ls = below.ls;
          checked =
              record {
                first_is = first_below level top came.us below.ls came.some row below.are_children ∙ sym first_is;
                row = below.stands.row;
                each = below.stands.each;
              };
          are_children = below.are_children;
        }
