-- A tree that grows by pages or loses one is at rest again, and page 0 stays as it is.
use Rattle.std.proofs.Common.{◌≡◌, ◌≢◌, inl, inr, ℕ, suc, ◌≤◌, Bool, false, ◌||◌, List, [], ◌∷◌, length, Option, None, Some, sym, ◌∙◌, ap, subst, refl, arith}
use Rattle.std.specs.Prelude.{IsTrue}
use Rattle.std.specs.List.{AllByRecursion}
use Rattle.store_api.specs.declared.visits.Visit.{Visit}
use Rattle.store_api.specs.declared.visits.Visit.TheVariants.{Failed, Again, Bad}
use Rattle.store_api.specs.declared.visits.SpaceBad.{SpaceBad}
use Rattle.store_api.specs.declared.visits.SpaceBad.TheVariants as space
use Rattle.stored_pages.specs.Words.{u32_at}
use Rattle.mtr.specs.Seen.{MtrState, is_in}
use Rattle.mtr.specs.Calls.{Goes}
use Rattle.law_flat_tree.specs.Levels.{Node}
use Rattle.law_flat_tree.specs.PageSplits.{StandsNowhere}
use Rattle.law_flat_tree.proofs.Apart.{each_of}
use Rattle.space_map.specs.Map.{mark_of}
use Rattle.space_map.specs.Taking.{HasPageCount, Miscounts}
use Rattle.btree.specs.declared.tree.Tree.{Tree}
use Rattle.btree.specs.Sound.{levels_of, IsTreePage, tree_pairs}
use Rattle.btree_change.specs.Calls.{Ends}
use Rattle.btree_split.specs.Placed.{IsPlacedTree}
use Rattle.btree_split.specs.Ways.{IsWayTo, IsLowestRoom}
use Rattle.btree_grow.specs.Grown.{Grows}
use Rattle.btree_grow.proofs.PutHalves.{ne_false}
use Rattle.btree_grow.specs.Going as grow
use Rattle.btree_merge.specs.Going as merge
use Rattle.btree_grow.specs.declared.inserts.Outcome.{Outcome}
use Rattle.btree_grow.specs.declared.inserts.Outcome.TheVariants.{Added, Present, Full, TooDeep}
use Rattle.btree_grow.specs.Adding.{DoesAdd}
use Rattle.btree_merge.specs.Tidied.{DoesTidy}
use Rattle.tree_use.specs.Stored.{IsAtRest}
use Rattle.tree_use.proofs.Resting.{AreResident, no_rise, no_rule, told_on}

-- page 0 is no tree's
zero_nowhere : (tree : Tree) (pages : ℕ → List ℕ) → IsPlacedTree tree pages → StandsNowhere 0 (levels_of tree pages)
zero_nowhere tree pages placed =
    each_of (AllByRecursion (IsTreePage tree pages)) (AllByRecursion (λ other. other ≢ 0))
    (each_of (IsTreePage tree pages) (λ other. other ≢ 0) (λ page is. is.some)) (levels_of tree pages) placed.whole.sound.each

-- and it is marked, so that nobody takes it
not_taken : (pages : ℕ → List ℕ) (taken : List ℕ) → mark_of pages 0 ≡ 1 → AllByRecursion (λ page. mark_of pages page ≡ 0) taken → is_in 0 taken ≡ false
not_taken pages [] marked free = refl
not_taken pages (page ∷ taken) marked free =
    let other : page ≢ 0 = λ is.
    let used : mark_of pages page ≡ 1 = ap (mark_of pages) is ∙ marked in
    let unused : mark_of pages page ≡ 0 = free.0 in
    omega (arith, used, unused)
    in
    ap (λ (b : Bool). b || is_in 0 taken) (ne_false page 0 other) ∙ not_taken pages taken marked free.1

header_grown : (tree : Tree) (pairs : _) (taken : List ℕ) (old new : ℕ → List ℕ) → IsPlacedTree tree old → Grows tree pairs taken old new → new 0 ≡ old 0
header_grown tree pairs taken old new placed grows =
    grows.others 0 (zero_nowhere tree old placed) (not_taken old taken (placed.reserved 0 (omega arith)) grows.were_free) (inl (omega arith))

-- a way has as many pages as there are levels
long_way : (node : ℕ → Node) (key : List ℕ) (levels : List (List ℕ)) (way : List ℕ) → IsWayTo node key levels way → length levels ≡ length way
long_way node key [] [] is = refl
long_way node key [] (page ∷ way) is = absurd is
long_way node key (level ∷ levels) [] is = absurd is
long_way node key (level ∷ levels) (page ∷ way) is = ap suc (long_way node key levels way is.1)

pub eight_levels : (tree : Tree) (pages : ℕ → List ℕ) (key : List ℕ) → IsLowestRoom tree pages key None 8 → length (levels_of tree pages) ≡ 8
eight_levels tree pages key lowest = long_way _ key (levels_of tree pages) lowest.way lowest.leads ∙ lowest.ends.1

module _ {M : Type 0} (state : M → MtrState) (resident : AreResident state) (tree : Tree) (a b : M)
    (rest : IsAtRest tree (state a)) (ends : Ends (state a) (state b)) where
  told_end : IsTrue (state b).told
  told_end = told_on state resident a b ends.goes rest.told

  at_rest : IsPlacedTree tree (state b).standing → (state b).standing 0 ≡ (state a).standing 0 → IsAtRest tree (state b)
  at_rest placed header = record {
    told = told_end;
    idle = ends.idle;
    placed = placed;
    counted = subst (λ (l : List ℕ). (21 ≤ u32_at 44 l) × (u32_at 44 l ≤ 65536)) (sym header) rest.counted;
    spare = subst (λ n. 4096 ≤ n) (sym ends.goes.whole) rest.spare;
  }

  same_rest : (state b).standing ≡ (state a).standing → IsAtRest tree (state b)
  same_rest same =
      at_rest (subst (λ (p : ℕ → List ℕ). IsPlacedTree tree p) (sym same) rest.placed) (ap (λ (p : ℕ → List ℕ). p 0) same)

  pub added_rest : (key value : List ℕ) (done : Outcome) → DoesAdd tree key value (state a).standing (state b).standing done → IsAtRest tree (state b)
  added_rest key value Added does =
      at_rest does.3.placed (header_grown tree _ does.1 (state a).standing (state b).standing rest.placed does.3)
  added_rest key value Present does = same_rest does.1
  added_rest key value (Full need free) does = same_rest does.5
  added_rest key value TooDeep does = same_rest does.3

  pub tidied_rest : (key : List ℕ) (freed : Option ℕ) → DoesTidy tree key (state a).standing (state b).standing freed → IsAtRest tree (state b)
  tidied_rest key None does = same_rest does.1
  tidied_rest key (Some freed) does =
      let merged = does.4.2 in
      at_rest merged.shrinks.loses.placed (merged.shrinks.others 0 (zero_nowhere tree (state a).standing rest.placed) (inl (omega arith)))

  pub tidied_pairs : (key : List ℕ) (freed : Option ℕ) → DoesTidy tree key (state a).standing (state b).standing freed
      → tree_pairs tree (state b).standing ≡ tree_pairs tree (state a).standing
  tidied_pairs key None does = ap (λ (p : ℕ → List ℕ). tree_pairs tree p) does.1
  tidied_pairs key (Some freed) does =
      let merged = does.4.2 in
      merged.shrinks.loses.same_pairs

-- nothing stops a change of a tree on pages that are all in memory but want of memory
module _ {M : Type 0} (state : M → MtrState) (resident : AreResident state) (tree : Tree) (a b : M)
    (rest : IsAtRest tree (state a)) (goes : Goes (state a) (state b)) where
  pub counts_right : (page rule : ℕ) → Miscounts page rule (state a).seen → ⊥
  counts_right page rule mis = mis.2 (subst (λ (p : ℕ → List ℕ). HasPageCount p) (sym (rest.idle.seen rest.told)) rest.counted)

  not_grow : (why : Visit) → IsTrue (state b).told → grow.IsStop state (state a) (state b) why → ⊥
  not_grow Failed told rose = no_rise state resident a b rose
  not_grow Again told shut = resident.at_hand shut.0 shut.1 shut.2
  not_grow (Bad page rule) told bad = elim (bad told) [
    | inl fault ↦ no_rule rule ((state a).fault page) (resident.tested a page) fault
    | inr mis ↦ counts_right page rule mis
  ]

  not_merge : (why : Visit) → IsTrue (state b).told → merge.IsStop state (state a) (state b) why → ⊥
  not_merge Failed told rose = no_rise state resident a b rose
  not_merge Again told shut = resident.at_hand shut.0 shut.1 shut.2
  not_merge (Bad page rule) told bad = elim (bad told) [
    | inl fault ↦ no_rule rule ((state a).fault page) (resident.tested a page) fault
    | inr mis ↦ counts_right page rule mis
  ]

  pub not_full : (why : SpaceBad) → why ≡ space.Full → grow.IsGrowStop state (state a) (state b) why → ⊥
  not_full why full reason = subst (λ w. grow.IsGrowStop state (state a) (state b) w) full reason

  pub merge_not_full : (why : SpaceBad) → why ≡ space.Full → merge.IsMergeReason state (state a) (state b) why → ⊥
  merge_not_full why full reason = subst (λ w. merge.IsMergeReason state (state a) (state b) w) full reason

  pub not_visit : (why : SpaceBad) (stop : Visit) → why ≡ space.Visit stop → grow.IsGrowStop state (state a) (state b) why → ⊥
  not_visit why stop is reason =
      not_grow stop (told_on state resident a b goes rest.told) (subst (λ w. grow.IsGrowStop state (state a) (state b) w) is reason)

  pub merge_not_visit : (why : SpaceBad) (stop : Visit) → why ≡ space.Visit stop → merge.IsMergeReason state (state a) (state b) why → ⊥
  merge_not_visit why stop is reason =
      not_merge stop (told_on state resident a b goes rest.told) (subst (λ w. merge.IsMergeReason state (state a) (state b) w) is reason)
