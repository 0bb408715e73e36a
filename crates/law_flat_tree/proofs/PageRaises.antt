-- A root that gets a level below it leaves a tree with the same pairs.
use Rattle.std.proofs.Common.{◌≡◌, ◌≢◌, ◌⊎◌, inl, inr, ℕ, suc, ◌<◌, true, false, eqb, if◌then◌else◌, ◌==◌, List, [], ◌∷◌, length}
use Rattle.std.proofs.Common.{map, ◌∙◌, ap, arith}
use Rattle.std.specs.List.{AllByRecursion}
use Rattle.std.proofs.lemmas.Bool.Decides.{eqb_tells}
use Rattle.entries.specs.Pairs.{Pair}
use Rattle.page_format.specs.Words.{level_of, low_of, records_of}
use Rattle.law_flat_tree.specs.Levels.{Node, Raises, AreLevelsAlike}
use Rattle.law_flat_tree.specs.Leaves.{AreLeaves, pairs_of}
use Rattle.law_flat_tree.specs.Descents.{leaves_of}
use Rattle.law_flat_tree.specs.Pages.{low_fence, high_fence, entries_of, pair_of, node_of, leaf_pairs}
use Rattle.law_flat_tree.specs.Trees.{nodes, pairs_in, levels_from, AreNumbered, IsTree, all_pairs}
use Rattle.law_flat_tree.specs.PageSplits.{StandsNowhere}
use Rattle.law_flat_tree.specs.PageRaises.{RaisesRoot}
use Rattle.law_flat_tree.proofs.Rows.{alike_flat}
use Rattle.law_flat_tree.proofs.Halves.{alike_leaves}
use Rattle.law_flat_tree.proofs.Raises.{raise_keeps}
use Rattle.law_flat_tree.proofs.Grown.{raise_all_inner, raise_leaf, leaves_alike}
use Rattle.law_flat_tree.proofs.Apart.{with_both, numbers_below, other_by_number, levels_alike_by}

abbrev Stays : ℕ → ℕ → ℕ → Type 0
Stays root page r = (r ≢ root) × (r ≢ page)

not_zero : (a k : ℕ) → a ≡ suc k → (a == 0) ≡ false
not_zero a k is = go (eqb_tells a 0) where
  go : ((eqb a 0 ≡ true) × (a ≡ 0)) ⊎ ((eqb a 0 ≡ false) × (a ≢ 0)) → (a == 0) ≡ false
  go (inl zero_is) = absurd (omega (arith, is, zero_is.1))
  go (inr other) = other.0

raised_leaves : (old new : ℕ → Node) (held kept : ℕ → List Pair) (root page : ℕ) (lows : List (List ℕ)) → Raises old new root page → kept page ≡ held root
    → AreLevelsAlike old new lows → AreLevelsAlike held kept lows
    → AreLeaves old held (leaves_of ((root ∷ []) ∷ lows))
    → AreLeaves new kept (leaves_of ((root ∷ []) ∷ (page ∷ []) ∷ lows))
    × (pairs_of kept (leaves_of ((root ∷ []) ∷ (page ∷ []) ∷ lows)) ≡ pairs_of held (leaves_of ((root ∷ []) ∷ lows)))
raised_leaves old new held kept root page [] raises same one other leaves = raise_leaf old new held kept root page raises same leaves
raised_leaves old new held kept root page (low ∷ lows) raises same one other leaves =
    let rest = leaves_alike held kept (low ∷ lows) other in (
      alike_leaves old new held kept (leaves_of (low ∷ lows)) (leaves_alike old new (low ∷ lows) one) rest leaves,
      alike_flat held kept
          (leaves_of (low ∷ lows)) rest,
    )

numbers_stay : (old new : ℕ → List ℕ) (P : ℕ → Type 0) → ((x : ℕ) → P x → new x ≡ old x) → (levels : List (List ℕ))
    → AllByRecursion (λ level. AllByRecursion P level) levels → AreNumbered old levels → AreNumbered new levels
numbers_stay old new P same [] all numbered = tt
numbers_stay old new P same (level ∷ levels) all numbered = (
  with_both P (λ x. level_of (old x) ≡ length levels) (λ x. level_of (new x) ≡ length levels) (λ x is n. ap level_of (same x is) ∙ n) level all.0 numbered.0,
  numbers_stay old new P same levels all.1 numbered.1,
)

module _ (n : ℕ) (old new : ℕ → List ℕ) (root page : ℕ) (lows : List (List ℕ)) (tree : IsTree n old root lows)
    (free : StandsNowhere page (levels_from root lows)) (raises : RaisesRoot n root page old new) where
  root_level : level_of (old root) ≡ length lows
  root_level = tree.numbered.0.0

  stay : AllByRecursion (λ level. AllByRecursion (Stays root page) level) lows
  stay = with_both (λ level. AllByRecursion (λ x. level_of (old x) < length lows) level) (λ level. AllByRecursion (λ x. x ≢ page) level)
      (λ level. AllByRecursion (Stays root page) level)
      (λ level numbers others. with_both (λ x. level_of (old x) < length lows) (λ x. x ≢ page) (Stays root page)
      (λ x is ne. (other_by_number old x root (λ same. omega (arith, is, same, root_level)), ne)) level numbers others)
      lows (numbers_below old (length lows) lows (omega arith) tree.numbered.1) free.1

  kept_page : (x : ℕ) → Stays root page x → new x ≡ old x
  kept_page x is = raises.others x is.0 is.1

  moved : nodes n new page ≡ nodes n old root
  moved = λ j. record {
    low = low_fence (raises.moved_low j);
    high = high_fence (raises.moved_high j);
    right = raises.moved_right j;
    entries = if raises.moved_level j == 0 then [] else entries_of n (low_fence (raises.moved_low j)) (raises.moved_records j);
  }

  root_entries : (nodes n new root).entries ≡ ((nodes n old root).low, page) ∷ []
  root_entries =
      ap (λ b. if b then [] else entries_of n (low_fence (low_of (new root))) (records_of (new root)))
      (not_zero (level_of (new root)) (level_of (old root)) raises.level)
      ∙ ap (λ low. entries_of n (low_fence low) (records_of (new root))) raises.low
      ∙ ap (λ rs. entries_of n (low_fence (low_of (old root))) rs) raises.records
      ∙ ap (λ r. (low_fence (low_of (old root)), r) ∷ []) raises.leads

  root_is : nodes n new root ≡ record (nodes n old root) { entries = ((nodes n old root).low, page) ∷ [] }
  root_is = λ j. record {
    low = low_fence (raises.low j);
    high = high_fence (raises.high j);
    right = raises.right j;
    entries = root_entries j;
  }

  node_raises : Raises (nodes n old) (nodes n new) root page
  node_raises = record { moved = moved; root_is = root_is }

  nodes_alike : AreLevelsAlike (nodes n old) (nodes n new) lows
  nodes_alike = levels_alike_by (Stays root page) (nodes n old) (nodes n new) (λ x is. ap (node_of n) (kept_page x is)) lows stay

  new_leaves : AreLeaves (nodes n new) (pairs_in n new) (leaves_of ((root ∷ []) ∷ (page ∷ []) ∷ lows))
      × (pairs_of (pairs_in n new) (leaves_of ((root ∷ []) ∷ (page ∷ []) ∷ lows)) ≡ pairs_of (pairs_in n old) (leaves_of ((root ∷ []) ∷ lows)))
  new_leaves =
      raised_leaves (nodes n old) (nodes n new) (pairs_in n old) (pairs_in n new) root page lows node_raises
      (ap (map (pair_of n)) raises.moved_records) nodes_alike
      (levels_alike_by (Stays root page) (pairs_in n old) (pairs_in n new) (λ x is. ap (leaf_pairs n) (kept_page x is)) lows stay) tree.leaves

  pub raised_tree : IsTree n new root ((page ∷ []) ∷ lows)
  raised_tree = record {
    levels = raise_keeps (nodes n old) (nodes n new) root page lows node_raises nodes_alike tree.levels;
    inner = raise_all_inner (nodes n old) (nodes n new) root page lows node_raises nodes_alike tree.inner;
    leaves = new_leaves.0;
    numbered = (
      (raises.level ∙ ap suc root_level, tt),
      ((raises.moved_level ∙ root_level, tt), numbers_stay old new (Stays root page) kept_page lows stay tree.numbered.1),
    );
  }

  pub raised_pairs : all_pairs n new root ((page ∷ []) ∷ lows) ≡ all_pairs n old root lows
  raised_pairs = new_leaves.1
