-- How far a descent has come in a tree whose pages stand as they should.
use Rattle.std.proofs.Common.{◌≡◌, ℕ, Bool, true, false, if◌then◌else◌, ◌==◌, ◌+◌, ◌<◌, List, []}
use Rattle.std.proofs.Common.{◌∷◌, ◌++◌, length, refl, sym, ◌∙◌, ap, subst, append_assoc, length-append, arith}
use Rattle.std.specs.List.{AllByRecursion}
use Rattle.page_format.specs.Words.{level_of, low_of, records_of}
use Rattle.law_flat_tree.specs.Levels.{Fence}
use Rattle.law_flat_tree.specs.Descents.{BeginsAt, AreInner, AreAllInner, Chooses, Holds, LeadsTo, leaves_of}
use Rattle.law_flat_tree.specs.Pages.{low_fence, entries_of}
use Rattle.law_flat_tree.specs.Trees.{AreNumbered, nodes}
use Rattle.law_flat_tree.proofs.Apart.{behind_of, numbers_from}
use Rattle.law_flat_tree.proofs.PageSplits.{all_in}
use Rattle.law_flat_tree.proofs.Reading.{root_holds, child_holds, inner_in, page_inner}
use Rattle.btree.specs.declared.tree.Tree.{Tree}
use Rattle.btree.specs.declared.page.Down.TheVariants.{Child}
use Rattle.btree.specs.Descents.{IsReadable, IsChildFor, Leads}
use Rattle.btree.specs.Sound.{lows_of, levels_of, IsTreePage, IsSoundTree, HoldsKey}
use Rattle.btree.proofs.Chosen.{child_chosen}

-- The page holds the key on the level that has so many above it.
pub record Reached (tree : Tree) (pages : ℕ → List ℕ) (key : List ℕ) (n page : ℕ) : Type 0 where
  pub tops : List (List ℕ)
  pub upper : List ℕ
  pub under : List (List ℕ)
  pub at : levels_of tree pages ≡ tops ++ upper ∷ under
  pub depth : length tops ≡ n
  pub holds : Holds (nodes tree.key_len pages) upper key page

-- a page with a first child has records, and they are its entries
has_entries : (n : ℕ) (low : Fence) (leaf : Bool) (rs : List (List ℕ)) → BeginsAt low (if leaf then [] else entries_of n low rs)
    → ((if leaf then [] else entries_of n low rs) ≡ entries_of n low rs) × (0 < length rs)
has_entries n low true rs begins = absurd begins
has_entries n low false [] begins = absurd begins
has_entries n low false (r ∷ rs) begins = (refl, omega arith)

leaves_at_end : (tops : List (List ℕ)) (upper : List ℕ) → leaves_of (tops ++ upper ∷ []) ≡ upper
leaves_at_end [] upper = refl
leaves_at_end (top ∷ []) upper = refl
leaves_at_end (top ∷ next ∷ tops) upper = leaves_at_end (next ∷ tops) upper

module _ (tree : Tree) (pages : ℕ → List ℕ) (sound : IsSoundTree tree pages) where
  page_sound : (tops under : List (List ℕ)) (upper xs ys : List ℕ) (page : ℕ) → levels_of tree pages ≡ tops ++ upper ∷ under
      → upper ≡ xs ++ page ∷ ys → IsTreePage tree pages page
  page_sound tops under upper xs ys page at whole =
      let rest : AllByRecursion (AllByRecursion (IsTreePage tree pages)) (upper ∷ under) =
      behind_of (AllByRecursion (IsTreePage tree pages)) tops (upper ∷ under)
      (subst (λ l. AllByRecursion (AllByRecursion (IsTreePage tree pages)) l) at sound.each) in
      all_in (IsTreePage tree pages) xs ys page (subst (λ l. AllByRecursion (IsTreePage tree pages) l) whole rest.0)

  page_level : (tops under : List (List ℕ)) (upper xs ys : List ℕ) (page : ℕ) → levels_of tree pages ≡ tops ++ upper ∷ under
      → upper ≡ xs ++ page ∷ ys → level_of (pages page) ≡ length under
  page_level tops under upper xs ys page at whole =
      let rest : AreNumbered pages (upper ∷ under) =
      numbers_from pages tops (upper ∷ under) (subst (λ l. AreNumbered pages l) at sound.stands.numbered) in
      all_in (λ x. level_of (pages x) ≡ length under) xs ys page (subst (λ l. AllByRecursion (λ x. level_of (pages x) ≡ length under) l) whole rest.0)

  -- an inner page has records, and they are its entries
  page_entries : (tops under : List (List ℕ)) (upper lower xs ys : List ℕ) (page : ℕ) → levels_of tree pages ≡ tops ++ upper ∷ lower ∷ under
      → upper ≡ xs ++ page ∷ ys
      → ((nodes tree.key_len pages page).entries ≡ entries_of tree.key_len (low_fence (low_of (pages page))) (records_of (pages page)))
      × (0 < length (records_of (pages page)))
  page_entries tops under upper lower xs ys page at whole =
      let node = nodes tree.key_len pages in
      let inner : AreInner node (xs ++ page ∷ ys) =
      subst (λ l. AreInner node l) whole (inner_in node tops upper lower under (subst (λ l. AreAllInner node l) at sound.stands.inner)) in
      has_entries tree.key_len (low_fence (low_of (pages page))) (level_of (pages page) == 0) (records_of (pages page)) (page_inner node xs ys page inner)

  some_records : (tops under : List (List ℕ)) (upper xs ys : List ℕ) (page : ℕ) → levels_of tree pages ≡ tops ++ upper ∷ under
      → upper ≡ xs ++ page ∷ ys → 0 < length under → 0 < length (records_of (pages page))
  some_records tops [] upper xs ys page at whole some = absurd (omega (arith, some))
  some_records tops (lower ∷ under) upper xs ys page at whole some = (page_entries tops under upper lower xs ys page at whole).1

  pub start : (key : List ℕ) → Reached tree pages key 0 tree.root
  start key = record {
    tops = [];
    upper = tree.root ∷ [];
    under = lows_of tree pages;
    at = refl;
    depth = refl;
    holds = root_holds tree.key_len pages tree.root (lows_of tree pages) key sound.stands;
  }

  module _ (key : List ℕ) (n page : ℕ) (reached : Reached tree pages key n page) where
    pub reached_sound : IsTreePage tree pages page
    reached_sound = page_sound reached.tops reached.under reached.upper reached.holds.xs reached.holds.ys page reached.at reached.holds.whole

    reached_level : level_of (pages page) ≡ length reached.under
    reached_level = page_level reached.tops reached.under reached.upper reached.holds.xs reached.holds.ys page reached.at reached.holds.whole

    pub reached_readable : IsReadable tree (pages page)
    reached_readable = record {
      laid_out = record { width = reached_sound.width; inside = reached_sound.fields.inside };
      some = λ inner.
          let level = reached_level in
          let some : 0 < length reached.under = omega arith in
          some_records reached.tops reached.under reached.upper reached.holds.xs reached.holds.ys page reached.at reached.holds.whole some;
    }

    -- the page is a leaf
    pub at_leaf : level_of (pages page) ≡ 0 → HoldsKey tree pages key page
    at_leaf leaf = go reached.under reached.at (sym reached_level ∙ leaf) where
      go : (under : List (List ℕ)) → levels_of tree pages ≡ reached.tops ++ reached.upper ∷ under → length under ≡ 0 → HoldsKey tree pages key page
      go [] at none =
          subst (λ l. Holds (nodes tree.key_len pages) l key page) (sym (ap leaves_of at ∙ leaves_at_end reached.tops reached.upper)) reached.holds
      go (lower ∷ under) at none = absurd (omega (arith, none))

    -- the page leads to one of the level below
    pub at_child : (child : ℕ) → Leads tree key (pages page) (Child child) → Reached tree pages key (n + 1) child
    at_child child leads = go reached.under reached.at reached_level where
      go : (under : List (List ℕ)) → levels_of tree pages ≡ reached.tops ++ reached.upper ∷ under → level_of (pages page) ≡ length under
          → Reached tree pages key (n + 1) child
      go [] at level = absurd (leads.0 level)
      go (lower ∷ under) at level =
          let entries = page_entries reached.tops under reached.upper lower reached.holds.xs reached.holds.ys page at reached.holds.whole in
          let is : IsChildFor tree.key_len key (records_of (pages page)) child = leads.1 reached_sound.rising in
          let chosen : LeadsTo (nodes tree.key_len pages) key page child =
          subst (λ l. Chooses l key child) (sym entries.0)
          (child_chosen tree.key_len (low_fence (low_of (pages page))) (records_of (pages page)) key child is reached_sound.rising reached.holds.from) in
          record {
            tops = reached.tops ++ reached.upper ∷ [];
            upper = lower;
            under = under;
            at = at ∙ sym (append_assoc reached.tops (reached.upper ∷ []) (lower ∷ under));
            depth = length-append reached.tops (reached.upper ∷ []) ∙ ap (λ k. k + 1) reached.depth;
            holds =
                child_holds tree.key_len pages tree.root (lows_of tree pages) key reached.tops under reached.upper lower page child sound.stands at
                reached.holds chosen;
          }

    -- no tree has a ninth level
    pub not_deep : n ≡ 8 → ⊥
    not_deep is =
        let whole : length (levels_of tree pages) ≡ length (reached.tops ++ reached.upper ∷ reached.under) = ap length reached.at in
        let parts = length-append reached.tops (reached.upper ∷ reached.under) in
        omega (arith, whole, is, reached.depth, parts, sound.stands.numbered.0.0, sound.each.0.0.fields.depth)
