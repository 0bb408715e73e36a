-- Between two mini-transactions on pages that are all in memory.
use Rattle.std.proofs.Common.{◌≡◌, ℕ, ◌≤◌, List, sym, ◌∙◌, subst, refl, arith}
use Rattle.std.specs.Prelude.{IsTrue, None, Some, Result, Ok, Err, IsOk, IfOk, IfErr, OnOk}
use Rattle.store_api.specs.Causes.{Rose}
use Rattle.store_api.specs.declared.visits.Visit.{Visit}
use Rattle.store_api.specs.declared.visits.Visit.TheVariants.{Failed, Again, Bad}
use Rattle.store_api.specs.declared.visits.SpaceBad.{SpaceBad}
use Rattle.store_api.specs.declared.visits.SpaceBad.TheVariants as space
use Rattle.mtr.specs.Seen.{MtrState, IsShut}
use Rattle.mtr.specs.Calls.{Goes, GivesUp}
use Rattle.space_map.specs.Taking.{HasPageCount}
use Rattle.btree.specs.declared.tree.Tree.{Tree}
use Rattle.btree.specs.Reads.{IsHindered}
use Rattle.btree_change.specs.Calls.{IsLeafReason}
use Rattle.btree_split.specs.Placed.{IsPlacedTree}
use Rattle.tree_use.specs.Stored.{IsAtRest, IsStill}

-- what is known of all pages that are in memory
pub record AreResident {M : Type 0} (state : M → MtrState) : Type 0 where
  pub no_fault : (m : M) → (state m).faults ≡ 0
  pub at_hand : (m : M) (page : ℕ) → IsShut page (state m) → ⊥
  pub tested : (m : M) (page : ℕ) → (state m).fault page ≡ None

-- what a call that went well ensures
pub ok_gives : {T E : Type 0} (P : T → Type 0) (read : Result T E) (answer : T) → read ≡ Ok answer → IfOk read P → P answer
ok_gives P read answer is ensured = subst (λ r. IfOk r P) is ensured

pub on_ok_gives : {T E : Type 0} (P : Type 0) (read : Result T E) (answer : T) → read ≡ Ok answer → OnOk read P → P
on_ok_gives P read answer is ensured = subst (λ r. OnOk r P) is ensured

no_rise_of : (n k : ℕ) → n ≡ 0 → k ≡ 0 → Rose n k → ⊥
no_rise_of n k none still rose =
    let begin : Rose 0 0 = subst (λ i. Rose 0 i) still (subst (λ i. Rose i k) none rose) in
    omega (arith, begin)

pub no_rule : (rule : ℕ) (fault : _) → fault ≡ None → fault ≡ Some rule → ⊥
no_rule rule fault none some = cc

module _ {M : Type 0} (state : M → MtrState) (resident : AreResident state) where
  pub no_rise : (a b : M) → Rose (state a).faults (state b).faults → ⊥
  no_rise a b rose = no_rise_of (state a).faults (state b).faults (resident.no_fault a) (resident.no_fault b) rose

  pub told_on : (a b : M) → Goes (state a) (state b) → IsTrue (state a).told → IsTrue (state b).told
  told_on a b goes told = goes.stays told (no_rise a b)

  -- nothing was changed
  pub still : (tree : Tree) (a b : M) → IsAtRest tree (state a) → GivesUp (state a) (state b) → IsStill tree (state a) (state b)
  still tree a b rest given =
      let told = told_on a b given.goes rest.told in
      record {
        rest =
            record {
              told = told;
              idle = record { seen = λ is. given.seen is ∙ sym (given.standing is); visited_is = given.visited_is; spare = given.spare };
              placed = subst (λ (p : ℕ → List ℕ). IsPlacedTree tree p) (sym (given.standing told)) rest.placed;
              counted = subst (λ (p : ℕ → List ℕ). HasPageCount p) (sym (given.standing told)) rest.counted;
              spare = subst (λ n. 4096 ≤ n) (sym given.goes.whole) rest.spare;
            };
        same = given.standing told;
      }

  -- no read is hindered
  not_hindered : (a b : M) (why : Visit) → IsTrue (state b).told → IsHindered (state a) (state b) why → ⊥
  not_hindered a b Failed told rose = no_rise a b rose
  not_hindered a b Again told shut = resident.at_hand b shut.0 shut.1
  not_hindered a b (Bad page rule) told bad = no_rule rule ((state a).fault page) (resident.tested a page) (bad told)

  pub read_ok : {T : Type 0} (a b : M) (read : Result T Visit) → IsTrue (state b).told → IfErr read (IsHindered (state a) (state b)) → IsOk read
  read_ok a b (Ok answer) told why = refl
  read_ok a b (Err bad) told why = absurd (not_hindered a b bad told why)

  -- no leaf is hindered either, where as much can be put as a page has
  pub not_stopped : (leaf : ℕ) (a b : M) (why : SpaceBad) → IsTrue (state b).told → 4096 ≤ (state a).spare → IsLeafReason leaf (state a) (state b) why → ⊥
  not_stopped leaf a b space.Full told much reason = reason
  not_stopped leaf a b (space.Visit Failed) told much rose = no_rise a b rose
  not_stopped leaf a b (space.Visit Again) told much shut = resident.at_hand a leaf shut.0
  not_stopped leaf a b (space.Visit (Bad page rule)) told much bad = no_rule rule ((state a).fault page) (resident.tested a page) (bad told)
  not_stopped leaf a b space.NoMemory told much few = omega (arith, much, few)
