-- The way of a key below a page with room, and what stays of it where other pages change.
use Rattle.std.proofs.Common.{◌≡◌, ℕ, suc, ◌+◌, List, [], ◌∷◌, ◌++◌, length, refl, sym, ◌∙◌, ap, subst, append_assoc, length-append, arith}
use Rattle.std.specs.Prelude.{Some}
use Rattle.std.specs.List.{AllByRecursion}
use Rattle.law_flat_tree.specs.Levels.{Node}
use Rattle.law_flat_tree.specs.Descents.{Holds, leaves_of}
use Rattle.law_flat_tree.specs.Trees.{nodes}
use Rattle.law_flat_tree.proofs.Rows.{first_of, rest_of}
use Rattle.law_tree_changes.proofs.Held.{one_holder}
use Rattle.btree.specs.declared.tree.Tree.{Tree}
use Rattle.btree.specs.Descents.{Leads}
use Rattle.btree.specs.declared.page.Down.TheVariants.{Child}
use Rattle.btree.specs.Sound.{lows_of, levels_of, HoldsKey}
use Rattle.btree.proofs.Standing.{Reached, at_child}
use Rattle.btree_change.specs.Edits.{HasRoom}
use Rattle.btree_split.specs.Placed.{IsPlacedTree}
use Rattle.btree_split.specs.Ways.{IsWayTo, AreFull, IsLowestRoom}
use Rattle.btree_grow.specs.Grown.{StandsAbove}
use Rattle.btree_grow.proofs.TakenTree.{of_level, holds_stays}

-- ---- pages of a way

-- what holds of all pages of the levels holds of those of the way
pub way_each : (P : ℕ → Type 0) (node : ℕ → Node) (key : List ℕ) (levels : List (List ℕ)) (way : List ℕ) → IsWayTo node key levels way
    → AllByRecursion (AllByRecursion P) levels → AllByRecursion P way
way_each P node key [] [] leads all = tt
way_each P node key [] (page ∷ way) leads all = absurd leads
way_each P node key (level ∷ levels) [] leads all = absurd leads
way_each P node key (level ∷ levels) (page ∷ way) leads all =
    (of_level P node level key page leads.0 all.0, way_each P node key levels way leads.1 all.1)

pub way_stays : (n : ℕ) (old new : ℕ → List ℕ) (key : List ℕ) (levels : List (List ℕ)) (way : List ℕ) → AllByRecursion (λ page. new page ≡ old page) way
    → IsWayTo (nodes n old) key levels way → IsWayTo (nodes n new) key levels way
way_stays n old new key [] [] same leads = tt
way_stays n old new key [] (page ∷ way) same leads = absurd leads
way_stays n old new key (level ∷ levels) [] same leads = absurd leads
way_stays n old new key (level ∷ levels) (page ∷ way) same leads =
    (holds_stays n old new level key page same.0 leads.0, way_stays n old new key levels way same.1 leads.1)

pub full_stays : (old new : ℕ → List ℕ) (way : List ℕ) → AllByRecursion (λ page. new page ≡ old page) way → AreFull old way → AreFull new way
full_stays old new [] same full = tt
full_stays old new (page ∷ way) same full = ((λ room. full.0 (subst HasRoom same.0 room)), full_stays old new way same.1 full.1)

leaves_end : (tops : List (List ℕ)) (upper : List ℕ) → leaves_of (tops ++ upper ∷ []) ≡ upper
leaves_end [] upper = refl
leaves_end (top ∷ []) upper = refl
leaves_end (top ∷ next ∷ tops) upper = leaves_end (next ∷ tops) upper

-- ---- a way, cut at a page

pub record IsCutWay (node : ℕ → Node) (key : List ℕ) (levels : List (List ℕ)) (page : ℕ) (after : List ℕ) : Type 0 where
  pub tops : List (List ℕ)
  pub upper : List ℕ
  pub under : List (List ℕ)
  pub at : levels ≡ tops ++ upper ∷ under
  pub holds : Holds node upper key page
  pub leads : IsWayTo node key under after

cut_way : (node : ℕ → Node) (key : List ℕ) (levels : List (List ℕ)) (before after : List ℕ) (page : ℕ) → IsWayTo node key levels (before ++ page ∷ after)
    → IsCutWay node key levels page after
cut_way node key [] [] after page leads = absurd leads
cut_way node key [] (p ∷ before) after page leads = absurd leads
cut_way node key (level ∷ levels) [] after page leads =
    record { tops = []; upper = level; under = levels; at = refl; holds = leads.0; leads = leads.1 }
cut_way node key (level ∷ levels) (p ∷ before) after page leads =
    let more = cut_way node key levels before after page leads.1 in
    record {
      tops = level ∷ more.tops;
      upper = more.upper;
      under = more.under;
      at = ap (λ l. level ∷ l) more.at;
      holds = more.holds;
      leads = more.leads;
    }

-- the lowest page with room stands above the full ones
pub lowest_above : (tree : Tree) (pages : ℕ → List ℕ) (key : List ℕ) (page full : ℕ) → IsPlacedTree tree pages → IsLowestRoom tree pages key (Some page) full
    → StandsAbove tree key full page pages
lowest_above tree pages key page full placed lowest =
    let ends = lowest.ends in
    let cut =
    cut_way (nodes tree.key_len pages) key (levels_of tree pages) ends.0 ends.1 page
    (subst (λ w. IsWayTo (nodes tree.key_len pages) key (levels_of tree pages) w) ends.2 lowest.leads) in
    record {
      placed = placed;
      tops = cut.tops;
      upper = cut.upper;
      under = cut.under;
      at = cut.at;
      holds = cut.holds;
      room = ends.3;
      way = ends.1;
      leads = cut.leads;
      full = ends.4;
      many = ends.5;
    }

-- ---- the next page

-- two lists with parts of one length in front
same_part : {A : Type 0} (xs zs ys ws : List A) (x z : A) → xs ++ x ∷ ys ≡ zs ++ z ∷ ws → length xs ≡ length zs → x ≡ z
same_part [] [] ys ws x z same long = first_of x z ys ws same
same_part [] (c ∷ zs) ys ws x z same long = absurd (omega (arith, long))
same_part (b ∷ xs) [] ys ws x z same long = absurd (omega (arith, long))
same_part (b ∷ xs) (c ∷ zs) ys ws x z same long =
    same_part xs zs ys ws x z (rest_of b c (xs ++ x ∷ ys) (zs ++ z ∷ ws) same) (omega (arith, long))

-- The way goes on with this page on the next level.
pub record GoesOnWith (tree : Tree) (pages : ℕ → List ℕ) (key : List ℕ) (deep page child : ℕ) (rest : List ℕ) : Type 0 where
  pub tops : List (List ℕ)
  pub depth : length tops ≡ deep
  pub upper : List ℕ
  pub lower : List ℕ
  pub under : List (List ℕ)
  pub at : levels_of tree pages ≡ tops ++ upper ∷ lower ∷ under
  pub holds : Holds (nodes tree.key_len pages) upper key page
  pub child_holds : Holds (nodes tree.key_len pages) lower key child
  pub leads : IsWayTo (nodes tree.key_len pages) key under rest

module _ (tree : Tree) (key : List ℕ) (n page : ℕ) (pages : ℕ → List ℕ) (stands : StandsAbove tree key n page pages) where
  pub with_next : (child : ℕ) (rest : List ℕ) → stands.way ≡ child ∷ rest → GoesOnWith tree pages key (length stands.tops) page child rest
  with_next child rest next = go stands.under stands.at (subst (λ w. IsWayTo (nodes tree.key_len pages) key stands.under w) next stands.leads) where
    go : (under : List (List ℕ)) → levels_of tree pages ≡ stands.tops ++ stands.upper ∷ under → IsWayTo (nodes tree.key_len pages) key under (child ∷ rest)
        → GoesOnWith tree pages key (length stands.tops) page child rest
    go [] at leads = absurd leads
    go (lower ∷ under) at leads = record {
      tops = stands.tops;
      depth = refl;
      upper = stands.upper;
      lower = lower;
      under = under;
      at = at;
      holds = stands.holds;
      child_holds = leads.0;
      leads = leads.1;
    }

  pub reached : Reached tree pages key (length stands.tops) page
  reached = record {
    tops = stands.tops;
    upper = stands.upper;
    under = stands.under;
    at = stands.at;
    depth = refl;
    holds = stands.holds;
  }

  -- nothing is below: the page is the leaf of the key
  pub leaf_holds : n ≡ 0 → HoldsKey tree pages key page
  leaf_holds none = go stands.under stands.way stands.at stands.leads (stands.many ∙ none) where
    go : (under : List (List ℕ)) (way : List ℕ) → levels_of tree pages ≡ stands.tops ++ stands.upper ∷ under → IsWayTo (nodes tree.key_len pages) key under way
        → length way ≡ 0 → HoldsKey tree pages key page
    go [] [] at leads short =
        subst (λ l. Holds (nodes tree.key_len pages) l key page) (sym (ap leaves_of at ∙ leaves_end stands.tops stands.upper)) stands.holds
    go [] (p ∷ way) at leads short = absurd leads
    go (lower ∷ under) [] at leads short = absurd leads
    go (lower ∷ under) (p ∷ way) at leads short = absurd (omega (arith, short))

module _ (tree : Tree) (key : List ℕ) (n page : ℕ) (pages : ℕ → List ℕ) (stands : StandsAbove tree key (suc n) page pages) where
  -- the way isn't at its end
  pub some_next : (child : ℕ) × (rest : List ℕ) × (stands.way ≡ child ∷ rest)
  some_next = go stands.way stands.many where
    go : (way : List ℕ) → length way ≡ suc n → (child : ℕ) × (rest : List ℕ) × (way ≡ child ∷ rest)
    go [] long = absurd (omega (arith, long))
    go (child ∷ rest) long = (child, rest, refl)

  -- what the page leads to is the next page
  pub leads_on : (child : ℕ) → Leads tree key (pages page) (Child child) → (rest : List ℕ) × (stands.way ≡ child ∷ rest)
  leads_on child leads =
      let next = some_next in
      let on = with_next tree key (suc n) page pages stands next.0 next.1 next.2 in
      let there = at_child tree pages stands.placed.whole.sound key (length stands.tops) page (reached tree key (suc n) page pages stands) child leads in
      let at : levels_of tree pages ≡ (on.tops ++ on.upper ∷ []) ++ on.lower ∷ on.under =
      on.at ∙ sym (append_assoc on.tops (on.upper ∷ []) (on.lower ∷ on.under)) in
      let long : length there.tops ≡ length (on.tops ++ on.upper ∷ []) =
      there.depth ∙ ap (λ k. k + 1) (sym on.depth) ∙ sym (length-append on.tops (on.upper ∷ [])) in
      let same : there.upper ≡ on.lower =
      same_part there.tops (on.tops ++ on.upper ∷ []) there.under on.under there.upper on.lower (sym there.at ∙ at) long in
      let is : child ≡ next.0 =
      one_holder tree.key_len pages tree.root (lows_of tree pages) (on.tops ++ on.upper ∷ []) on.lower on.under key child next.0
      stands.placed.whole.sound.stands at (subst (λ l. Holds (nodes tree.key_len pages) l key child) same there.holds) on.child_holds in
      (next.1, next.2 ∙ ap (λ p. p ∷ next.1) (sym is))
