-- What is left where a search has come to a pair or has read a record: its session may ask for a lock there, and may go on behind it.
use Rattle.std.proofs.Common.{Vec, Global, ◌∙◌, ap, ℕ, List, Option, slice_get}
use Rattle.inno_types.specs.{declared.lock.Lock.Lock, declared.lock.Spot.Spot, declared.value.Schema.Schema}
use Rattle.inno_db.specs.Indexes.{index_of}
use Rattle.lock_rules.specs.declared.rule.Rule.{Rule}
use Rattle.lock_rules.specs.Rules.{FitsItsRule, number_of}
use Rattle.lock_table.specs.Keys.{IsShort}
use Rattle.lock_table.specs.Queue.{is_waiting}
use Rattle.lock_table.specs.View.{Table, IsAskedFor}
use Rattle.world.specs.{State.WorldState, Locks.MayAsk, Locks.Asks}
use Rattle.world.specs.declared.lock_world.LockAnswer.TheVariants as answer
use Rattle.row_search.specs.{declared.found.FoundRow.FoundRow, Steps.OnlyMoves}
use Rattle.row_locking.specs.declared.search.LockingSearch.{LockingSearch}
use Rattle.row_locking.specs.Rules.{lock_by}
use Rattle.row_locking.specs.Searches.{MayLock, PhaseMay}
use Rattle.row_locking.specs.declared.phase.LockingPhase.{LockingPhase}

module _ {schema : Schema} {old met : WorldState} {search : LockingSearch} (may : MayLock schema old search)
    (moves : OnlyMoves search.asker.session (index_of search.scan.table search.scan.which) old met) where
  -- the search may go on from there, too
  abbrev pub may_still : MayLock schema met search
  may_still = record {
    there = ap (λ (s : WorldState). slice_get s.schemas search.scan.table) moves.rest ∙ may.there;
    which = may.which;
    few = may.few;
    keyed = may.keyed;
    upper = may.upper;
    session = may.session;
    work = may.work;
    has_work = record {
      session_is = ap (λ (s : WorldState). slice_get s.sessions search.asker.session) moves.rest ∙ may.has_work.session_is;
      work_is = may.has_work.work_is;
    };
    mine = may.mine;
    free = ap (λ (s : WorldState). is_waiting may.work.txn s.locks.waiting) moves.rest ∙ may.free;
    phase = may.phase;
  }

  pub may_ask : (rule : Rule) (spot : Spot) → FitsItsRule (lock_by search.asker rule spot) → IsAskedFor (number_of rule) → IsShort spot.key
      → MayAsk search.asker.session (lock_by search.asker rule spot) met
  may_ask rule spot fits asked short = record {
    session = may.session;
    work = may.work;
    has_work = may_still.has_work;
    mine = may.mine;
    free = may_still.free;
    fits = fits;
    asked_for = asked;
    short = short;
  }

  -- and behind a lock that is granted
  pub may_behind : {lock : Lock} {new : WorldState} → Asks search.asker.session lock 0 met new answer.Granted
      → (rows : Vec FoundRow Global) (passed : Option (List ℕ)) (phase : LockingPhase) → PhaseMay search.scan phase
      → MayLock schema new (record search { scan = record search.scan { rows = rows }; passed = passed; phase = phase })
  may_behind asks rows passed phase holds = record {
    there = ap (λ (s : WorldState). slice_get s.schemas search.scan.table) asks.1 ∙ may_still.there;
    which = may.which;
    few = may.few;
    keyed = may.keyed;
    upper = may.upper;
    session = may.session;
    work = may.work;
    has_work = record {
      session_is = ap (λ (s : WorldState). slice_get s.sessions search.asker.session) asks.1 ∙ may_still.has_work.session_is;
      work_is = may.has_work.work_is;
    };
    mine = may.mine;
    free = ap (λ (t : Table). is_waiting may.work.txn t.waiting) asks.0.lists ∙ may_still.free;
    phase = holds;
  }
