-- Which answers a store at hand does not give, and with what cause it gives those for want of pages.
use Rattle.std.proofs.Common.{◌≡◌, ◌≢◌, ℕ, ◌<◌, Bool, true, false, Option, Some, None, List, [], ◌∷◌, refl, sym, ◌∙◌, arith}
use Rattle.std.proofs.lemmas.Bool.{false≢true}
use Rattle.std.specs.Prelude.{IfSome}
use Rattle.inno_types.specs.Order.{IsBelow}
use Rattle.store_api.specs.Causes.{Rose}
use Rattle.store_api.specs.declared.moves.Move.{Move}
use Rattle.store_api.specs.declared.moves.Move.TheVariants.{At, End, Done, Step, Latch, Again, Full, TooDeep, Failed, Bad, NoMemory}
use Rattle.store_api.specs.declared.visits.Visit.{Visit}
use Rattle.store_api.specs.declared.visits.Visit.TheVariants as visit
use Rattle.entries.specs.Index.{Paged, InPages, Index}
use Rattle.entries.specs.Calls as index
use Rattle.row_versions.specs.Calls as chain
use Rattle.row_versions.specs.Versions as versions
use Rattle.world.specs.State.{WorldState}
use Rattle.world.specs.Undoing.{Delays}
use Rattle.world.specs.Endings.{DoesOrDelays}
use Rattle.world.specs.AtHand.{AreAtHand, ArePagesAtHand, IsTreeAtHand, AreVersionsAtHand, IsIndexAtHand, IsAtHand}
use Rattle.world.specs.Stores.{Pages}

-- ---- causes of answers by which a call is put off

-- a cause that pages have, once they are there
in_pages : {P : Type 0} {A : Type 0} (why : P → P → Type 0) (old new : Option P) → ((before now : P) → why before now → A) → InPages why old new → A
in_pages why (Some before) (Some now) follows cause = follows before now cause
in_pages why None None follows cause = absurd cause
in_pages why None (Some now) follows cause = absurd cause
in_pages why (Some before) None follows cause = absurd cause

-- a cause that pages at hand never have
no_cause : {P : Type 0} (at_hand : P → Type 0) (why : P → P → Type 0) (old new : Option P) → IfSome old at_hand → IfSome new at_hand
    → ((before now : P) → at_hand before → at_hand now → why before now → ⊥) → InPages why old new → ⊥
no_cause at_hand why (Some before) (Some now) was is never cause = never before now was is cause
no_cause at_hand why None None was is never cause = cause
no_cause at_hand why None (Some now) was is never cause = cause
no_cause at_hand why (Some before) None was is never cause = cause

none_below : (list : List ℕ) → IsBelow list [] → ⊥
none_below [] below = below
none_below (first ∷ list) below = below

never_true : {b : Bool} → b ≡ false → b ≡ true → ⊥
never_true unset set = false≢true (sym unset ∙ set)

never_rose : (before now : ℕ) → before ≡ 0 → now ≡ 0 → Rose before now → ⊥
never_rose before now none still rose = absurd (omega (arith, none, still, rose))

module _ {faults : ℕ} {is_crowded : Bool} {breaks stops : ℕ → ℕ → Bool} {to_go : ℕ → List ℕ} (was : AreAtHand faults is_crowded breaks stops to_go) where
  never_nears : (actor : ℕ) (now : List ℕ) → IsBelow now (to_go actor) → ⊥
  never_nears actor now nears = none_below now (rw (was.ended actor) at nears)

  never_stops : (by actor : ℕ) → (by ≢ actor) × (stops by actor ≡ true) → ⊥
  never_stops by actor stop = never_true (was.open_to_all by actor) stop.1

  never_crowded : is_crowded ≡ true → ⊥
  never_crowded crowded = never_true was.crowded_is crowded

  never_breaks : (page rule : ℕ) → breaks page rule ≡ true → ⊥
  never_breaks page rule breach = never_true (was.whole page rule) breach

-- pages are lacking only where fewer are free than are needed: those of an index, and those for undo records
pub free_are_few : (need free : ℕ) (old new : Option Paged) → InPages (λ before now. free < need) old new → free < need
free_are_few need free old new = in_pages (λ before now. free < need) old new (λ before now few. few)

pub counted_are_few : (need free : ℕ) (old new : Option Pages) → InPages (λ before now. (free ≡ before.free) × (free < need)) old new → free < need
counted_are_few need free old new = in_pages (λ before now. (free ≡ before.free) × (free < need)) old new (λ before now few. few.1)

-- ---- calls of an index

module _ (actor : ℕ) (old new : Index) (was : IsIndexAtHand old) (is : IsIndexAtHand new) where
  pub index_not_delayed : (answer : Move) → index.Delays actor old new answer → ⊥
  index_not_delayed Step off = no_cause IsTreeAtHand _ old.paged new.paged was is (λ before now p q. never_nears p actor (now.to_go actor)) off.cause
  index_not_delayed (Latch by) off = no_cause IsTreeAtHand _ old.paged new.paged was is (λ before now p q. never_stops p by actor) off.cause
  index_not_delayed Again off = no_cause IsTreeAtHand _ old.paged new.paged was is (λ before now p q. never_crowded p) off.cause
  index_not_delayed Failed off = no_cause IsTreeAtHand _ old.paged new.paged was is (λ before now p q. never_rose before.faults now.faults p.faults_are q.faults_are) off.cause
  index_not_delayed (Bad page rule) off = no_cause IsTreeAtHand _ old.paged new.paged was is (λ before now p q. never_breaks p page rule) off.cause
  index_not_delayed (At key value) off = off
  index_not_delayed End off = off
  index_not_delayed Done off = off
  index_not_delayed (Full need free) off = off
  index_not_delayed TooDeep off = off
  index_not_delayed NoMemory off = off

-- ---- versions

versions_no_cause : (why : versions.Paged → versions.Paged → Type 0) (old new : Option versions.Paged) → IfSome old AreVersionsAtHand
    → IfSome new AreVersionsAtHand → ((before now : versions.Paged) → AreVersionsAtHand before → AreVersionsAtHand now → why before now → ⊥)
    → chain.InPages why old new → ⊥
versions_no_cause why (Some before) (Some now) was is never cause = never before now was is cause
versions_no_cause why None None was is never cause = cause
versions_no_cause why None (Some now) was is never cause = cause
versions_no_cause why (Some before) None was is never cause = cause

no_rule : (found : Option ℕ) (rule : ℕ) → found ≡ None → found ≡ Some rule → ⊥
no_rule found rule none some = absurd (let same : None ≡ Some rule = sym none ∙ some in cc)

module _ (old new : versions.Versions) (was : IfSome old.paged AreVersionsAtHand) (is : IfSome new.paged AreVersionsAtHand) where
  pub never_unseen : (why : Visit) → chain.IsUnseen old new why → ⊥
  never_unseen visit.Failed off =
      versions_no_cause _ old.paged new.paged was is (λ before now p q. never_rose before.faults now.faults p.faults q.faults) off
  never_unseen visit.Again off =
      versions_no_cause _ old.paged new.paged was is (λ before now p q none. false≢true (sym none ∙ p.has_frame)) off.0
  never_unseen (visit.Bad page rule) off =
      versions_no_cause _ old.paged new.paged was is (λ before now p q. no_rule (before.fault page) rule (p.fault page)) off.0

-- ---- calls of a world

module _ (s : ℕ) (old new : WorldState) (was : IsAtHand old) (is : IsAtHand new) where
  pub not_delayed : (answer : Move) → Delays s old new answer → ⊥
  not_delayed Step off = no_cause ArePagesAtHand _ old.paged new.paged was.pages is.pages (λ before now p q. never_nears p s (now.to_go s)) off.cause
  not_delayed (Latch by) off = no_cause ArePagesAtHand _ old.paged new.paged was.pages is.pages (λ before now p q. never_stops p by s) off.cause
  not_delayed Again off = no_cause ArePagesAtHand _ old.paged new.paged was.pages is.pages (λ before now p q. never_crowded p) off.cause
  not_delayed Failed off = no_cause ArePagesAtHand _ old.paged new.paged was.pages is.pages (λ before now p q. never_rose before.faults now.faults p.faults_are q.faults_are) off.cause
  not_delayed (Bad page rule) off =
      no_cause ArePagesAtHand _ old.paged new.paged was.pages is.pages (λ before now p q. never_breaks p page rule) off.cause
  not_delayed (At key value) off = off
  not_delayed End off = off
  not_delayed Done off = off
  not_delayed (Full need free) off = off
  not_delayed TooDeep off = off
  not_delayed NoMemory off = off

  pub done_at_once : (does : WorldState → WorldState → Type 0) (answer : Move) → DoesOrDelays does s old new answer → (answer ≡ Done) × does old new
  done_at_once does Done done = (refl, done)
  done_at_once does Step off = absurd (not_delayed Step off)
  done_at_once does (Latch by) off = absurd (not_delayed (Latch by) off)
  done_at_once does Again off = absurd (not_delayed Again off)
  done_at_once does Failed off = absurd (not_delayed Failed off)
  done_at_once does (Bad page rule) off = absurd (not_delayed (Bad page rule) off)
  done_at_once does (At key value) off = absurd off
  done_at_once does End off = absurd off
  done_at_once does (Full need free) off = absurd off
  done_at_once does TooDeep off = absurd off
  done_at_once does NoMemory off = absurd off
