-- What the steps of a change make of what a mini-transaction sees.
use Rattle.std.proofs.Common.{◌≡◌, ◌≢◌, ℕ, List, [], ◌∷◌, true, refl, sym, ◌∙◌, ap, subst, arith}
use Rattle.std.specs.Prelude.{IsTrue, Result, Ok, Err}
use Rattle.store_api.specs.declared.visits.Visit.{Visit}
use Rattle.store_api.specs.declared.visits.Visit.TheVariants.{Failed, Again, Bad}
use Rattle.store_api.specs.declared.visits.SpaceBad.{SpaceBad}
use Rattle.store_api.specs.declared.visits.SpaceBad.TheVariants as space
use Rattle.mtr.specs.Seen.{MtrState, is_in, IsShut, with_bytes}
use Rattle.mtr.specs.Calls.{Puts, Asks, Consults, Commits, GivesUp}
use Rattle.mtr.proofs.Claims.{visited_now}
use Rattle.mtr.proofs.Consulting.{goes_then, visits_none, visits_then}
use Rattle.btree.proofs.Steps.{idle_after, gives_up_then}
use Rattle.btree.specs.declared.tree.Tree.{Tree}
use Rattle.btree.specs.Sound.{HoldsKey}
use Rattle.btree_change.specs.Trees.{IsWholeTree}
use Rattle.btree_change.specs.Calls.{Touches, Rewrites, IsLeafFor, IsLeafReason, IsChangeReason, Ends}

-- ---- one page

pub put_rewrites : (page at : ℕ) (bytes : List ℕ) (old new : MtrState) → (IsTrue old.told → page ≢ 0) → Puts page at bytes old new
    → Rewrites page (with_bytes at bytes (old.seen page)) old new
put_rewrites page at bytes old new some puts = record {
  goes =
      record {
        told = puts.keeps.told;
        stays = λ told good. puts.stays (λ first. absurd (some told first)) told good;
        faults = puts.keeps.faults;
        whole = puts.keeps.whole;
      };
  pages = puts.pages;
  visited_is = puts.visited_is;
}

pub rewrites_touches : (page : ℕ) (bytes : List ℕ) (old new : MtrState) → Rewrites page bytes old new → Touches page old new
rewrites_touches page bytes old new done = record {
  goes = done.goes;
  standing = λ told. (done.pages told).standing;
  fault = λ told. (done.pages told).fault;
  elsewhere = λ told. (done.pages told).elsewhere;
  visits = visits_none (page ∷ []) old new done.visited_is;
}

pub touches_then : (page : ℕ) (a b c : MtrState) → Touches page a b → Touches page b c → Touches page a c
touches_then page a b c first next = record {
  goes = goes_then a b c first.goes next.goes;
  standing = λ told. next.standing told ∙ first.standing (next.goes.told told);
  fault = λ told. next.fault told ∙ first.fault (next.goes.told told);
  elsewhere = λ told other ne. next.elsewhere told other ne ∙ first.elsewhere (next.goes.told told) other ne;
  visits = visits_then (page ∷ []) a b c first.visits next.visits;
}

-- a page that was looked at alone
pub looked_touches : (page : ℕ) (old new : MtrState) → Consults (page ∷ []) old new → Touches page old new
looked_touches page old new looked = record {
  goes = looked.goes;
  standing = λ told. (looked.same told).standing;
  fault = λ told. (looked.same told).fault;
  elsewhere = λ told other ne. ap (λ (f : ℕ → List ℕ). f other) (looked.same told).seen;
  visits = looked.visits;
}

-- a page that is shown is dealt with
pub asked_visited : {T : Type 0} (page : ℕ) (old new : MtrState) (result : Result T Visit) (shown : T) → result ≡ Ok shown → Asks page old result new
    → is_in page new.visited ≡ true
asked_visited page old new (Ok value) shown is asks = subst (λ v. is_in page v ≡ true) (sym asks.visited_is) (visited_now page old.visited)
asked_visited page old new (Err why) shown is asks = absurd (cc)

-- ---- the end of a mini-transaction

pub given_up_after : (page : ℕ) (a b c : MtrState) → Touches page a b → GivesUp b c → GivesUp a c
given_up_after page a b c touched given = record {
  goes = goes_then a b c touched.goes given.goes;
  standing = λ told. given.standing told ∙ touched.standing (given.goes.told told);
  seen = λ told. given.seen told ∙ touched.standing (given.goes.told told);
  fault = λ told. given.fault told ∙ touched.fault (given.goes.told told);
  visited_is = given.visited_is;
  spare = given.spare;
}

pub ends_given_up : (old new : MtrState) → GivesUp old new → Ends old new
ends_given_up old new given = record { goes = given.goes; idle = idle_after old new given }

pub ends_committed : (page : ℕ) (a b c d : MtrState) → GivesUp a b → Touches page b c → Commits c d → Ends a d
ends_committed page a b c d begun touched committed = record {
  goes = goes_then a c d (goes_then a b c begun.goes touched.goes) committed.goes;
  idle =
      record {
        seen = λ told. committed.seen told ∙ sym (committed.standing told);
        visited_is = committed.visited_is;
        spare = committed.spare;
      };
}

-- a leaf that isn't at hand is left as it was
pub put_off : (leaf : ℕ) (a b c : MtrState) → GivesUp a b → IsLeafReason leaf b c (space.Visit Again) → GivesUp a c × IsChangeReason a c (space.Visit Again)
put_off leaf a b c begun reason = (subst (GivesUp a) (sym reason.1) begun, (leaf, subst (IsShut leaf) (sym reason.1) reason.0))

-- a tree stays where all is given up
pub whole_kept : (tree : Tree) (old new : MtrState) → GivesUp old new → (IsTrue old.told → IsWholeTree tree old.standing) → IsTrue new.told
    → IsWholeTree tree new.standing
whole_kept tree old new given whole told = subst (IsWholeTree tree) (sym (given.standing told)) (whole (given.goes.told told))

-- a leaf that was found, as it is seen once all that was read is given up
pub leaf_found : (tree : Tree) (key : List ℕ) (leaf : ℕ) (a b : MtrState) → GivesUp a b → (IsTrue a.told → IsWholeTree tree a.standing)
    → (IsTrue b.told → HoldsKey tree a.standing key leaf) → IsTrue b.told → IsLeafFor tree key leaf b.seen
leaf_found tree key leaf a b given whole holds told =
    subst (IsLeafFor tree key leaf) (sym (given.seen told)) (record { whole = whole (given.goes.told told); holds = holds told })

-- all is given up after a leaf was dealt with
pub given_up_whole : (leaf : ℕ) (a b c d : MtrState) → GivesUp a b → Touches leaf b c → GivesUp c d → GivesUp a d
given_up_whole leaf a b c d begun touched given = gives_up_then a b d begun (given_up_after leaf b c d touched given)

-- what was put stands
pub whole_committed : (tree : Tree) (c d : MtrState) → Commits c d → (IsTrue c.told → IsWholeTree tree c.seen) → IsTrue d.told → IsWholeTree tree d.standing
whole_committed tree c d committed whole told = subst (IsWholeTree tree) (sym (committed.standing told)) (whole (committed.goes.told told))
