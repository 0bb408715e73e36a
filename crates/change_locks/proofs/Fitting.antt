-- The locks of changes fit their rules, and may be asked for.
use Rattle.std.specs.Prelude.{◌≡◌, ◌+◌, ◌==◌, ◌&&◌, Bool, true, false, is_some, List}
use Rattle.std.proofs.Common.{refl, sym, ap, ◌∙◌, subst, arith}
use Rattle.std.proofs.lemmas.Bool.{eq-eqb}
use Rattle.inno_types.specs.declared.stmt.Bound.TheVariants.{Open}
use Rattle.inno_types.specs.declared.lock.Lock.{Lock}
use Rattle.inno_types.specs.declared.lock.Spot.{Spot}
use Rattle.inno_types.specs.declared.lock.Mode.TheVariants.{X}
use Rattle.lock_rules.specs.declared.rule.Rule.{Rule}
use Rattle.lock_rules.specs.declared.rule.Rule.TheVariants.{ToInsert, Inserted, DuplicateCheck, Changed}
use Rattle.lock_rules.specs.declared.rule.Case.{Case}
use Rattle.lock_rules.specs.declared.rule.Place.TheVariants.{New}
use Rattle.lock_rules.specs.Rules.{FitsItsRule, number_of}
use Rattle.lock_rules.specs.Spots.{same_spot}
use Rattle.lock_rules.proofs.Beside.{spot_refl}
use Rattle.lock_table.specs.Keys.{IsShort}
use Rattle.lock_table.specs.Records.{own_gaps}
use Rattle.lock_table.specs.View.{IsAskedFor, HasPlaces}
use Rattle.law_locks.proofs.AtOnce.{room_left}
use Rattle.lock_table.proofs.Soundness.{item_refl}
use Rattle.world.specs.State.{WorldState}
use Rattle.world.specs.Locks.{MayAsk, Asks, IsWaiting}
use Rattle.world.specs.declared.lock_world.LockAnswer.{LockAnswer}
use Rattle.world.specs.declared.lock_world.LockAnswer.TheVariants.{Granted, Waits, NoMemory}
use Rattle.change_locks.specs.Locking.{lock_by, MayLock, IsOnRecord, KeepsLocks, HasWay, MakesWay, with_places}
use Rattle.change_locks.specs.declared.locker.Locker.{Locker}

abbrev case_of : Rule → Locker → Spot → Case
case_of rule locker spot = record {
  rule = number_of rule;
  level = locker.level;
  item = locker.item;
  index = spot.index;
  range = record { empty = false; low = Open; high = Open };
  mode = X;
  spot = spot;
  marked = false;
  place = New;
}

-- a record's own lock
on_record : (place keyed spot reason : Bool) → place ≡ true → keyed ≡ true → spot ≡ true → reason ≡ true → ((place && keyed) && spot && true && true && reason) ≡ true
on_record true true true reason p k s r = r
on_record false keyed spot reason p k s r = cc
on_record true false spot reason p k s r = cc
on_record true true false reason p k s r = cc

before_record : (place spot reason : Bool) → place ≡ true → spot ≡ true → reason ≡ true → (place && spot && true && true && reason) ≡ true
before_record true true reason p s r = r
before_record false spot reason p s r = cc
before_record true false reason p s r = cc

module _ (locker : Locker) (spot : Spot) where
  place_is : (spot.index == spot.index) ≡ true
  place_is = eq-eqb spot.index spot.index refl

  pub way_fits : FitsItsRule (lock_by ToInsert locker spot)
  way_fits = (
    case_of ToInsert locker spot,
    before_record (spot.index == spot.index) (same_spot spot spot) _ place_is (spot_refl spot) (item_refl locker.item locker.level),
  )

  pub new_fits : is_some spot.key ≡ true → FitsItsRule (lock_by Inserted locker spot)
  new_fits keyed = (
    case_of Inserted locker spot,
    on_record (spot.index == spot.index) (is_some spot.key) (same_spot spot spot) _ place_is keyed (spot_refl spot) (item_refl locker.item locker.level),
  )

  pub record_fits : (rule : Rule) → IsOnRecord rule → is_some spot.key ≡ true → FitsItsRule (lock_by rule locker spot)
  record_fits DuplicateCheck is keyed = (
    case_of DuplicateCheck locker spot,
    on_record (spot.index == spot.index) (is_some spot.key) (same_spot spot spot) _ place_is keyed (spot_refl spot) (item_refl locker.item locker.level),
  )
  record_fits Changed is keyed = (
    case_of Changed locker spot,
    on_record (spot.index == spot.index) (is_some spot.key) (same_spot spot spot) _ place_is keyed (spot_refl spot) (item_refl locker.item locker.level),
  )
  record_fits other is keyed = absurd is

  pub new_asked : IsAskedFor (number_of Inserted)
  new_asked = (λ e. absurd (omega (arith, e)), λ e. absurd (omega (arith, e)))

  -- its number is not one of the two rules by which nobody asks
  record_asked : (rule : Rule) → IsOnRecord rule → IsAskedFor (number_of rule)
  record_asked DuplicateCheck is = (λ e. absurd (omega (arith, e)), λ e. absurd (omega (arith, e)))
  record_asked Changed is = (λ e. absurd (omega (arith, e)), λ e. absurd (omega (arith, e)))
  record_asked other is = absurd is

  module _ (state : WorldState) (may : MayLock locker state) (short : IsShort spot.key) where
    pub may_ask_record : (rule : Rule) → IsOnRecord rule → is_some spot.key ≡ true → MayAsk locker.session (lock_by rule locker spot) state
    may_ask_record rule is keyed = record {
      session = may.session;
      work = may.work;
      has_work = may.has_work;
      mine = may.mine;
      free = may.free;
      fits = record_fits rule is keyed;
      asked_for = record_asked rule is;
      short = short;
    }

    pub may_ask_way : MayAsk locker.session (lock_by ToInsert locker spot) state
    may_ask_way = record {
      session = may.session;
      work = may.work;
      has_work = may.has_work;
      mine = may.mine;
      free = may.free;
      fits = way_fits;
      asked_for = (λ e. absurd (omega (arith, e)), λ e. absurd (omega (arith, e)));
      short = short;
    }

-- only room was taken
pub may_still : (locker : Locker) (old new : WorldState) → new.sessions ≡ old.sessions → new.locks.waiting ≡ old.locks.waiting → MayLock locker old
    → MayLock locker new
may_still locker old new sessions waiting may = record {
  session = may.session;
  work = may.work;
  has_work = record { session_is = rw sessions may.has_work.session_is; work_is = may.has_work.work_is };
  mine = may.mine;
  free = rw waiting may.free;
}

-- what the request for the intention is answered, once there is room
pub way_made : (locker : Locker) (next : Spot) (old mid new : WorldState) (answer : LockAnswer) → mid ≡ with_places mid.locks.capacity old
    → HasPlaces (own_gaps locker.txn next old.locks.granted + 1) mid.locks
    → Asks locker.session (lock_by ToInsert locker next) locker.at mid new answer → MakesWay locker next old new answer
way_made locker next old mid new Granted same room asks = (
  mid.locks.capacity,
  subst (λ (w : WorldState). HasWay locker next w new) same (record {
    granted = asks.0;
    room = room_left locker.txn next (lock_by ToInsert locker next) (record { own = refl; kind = refl; spot = refl }) mid.locks new.locks asks.0
        (subst (λ (locks : List Lock). HasPlaces (own_gaps locker.txn next locks + 1) mid.locks) (sym (ap (λ (w : WorldState). w.locks.granted) same)) room);
    rest = asks.1;
  }),
)
way_made locker next old mid new Waits same room asks = (
  mid.locks.capacity,
  subst (λ (w : WorldState). IsWaiting locker.session (lock_by ToInsert locker next) locker.at w new) same asks,
)
way_made locker next old mid new NoMemory same room asks = record {
  granted = asks.0.granted ∙ ap (λ (w : WorldState). w.locks.granted) same;
  waiting = asks.0.waiting ∙ ap (λ (w : WorldState). w.locks.waiting) same;
  withdrawn = asks.0.withdrawn ∙ ap (λ (w : WorldState). w.locks.withdrawn) same;
  rest = asks.1 ∙ ap (λ (w : WorldState). record w { locks = new.locks }) same;
}

-- no room was found
pub way_lacks : (old new : WorldState) → new ≡ with_places new.locks.capacity old → KeepsLocks old new
way_lacks old new same = record {
  granted = ap (λ (w : WorldState). w.locks.granted) same;
  waiting = ap (λ (w : WorldState). w.locks.waiting) same;
  withdrawn = ap (λ (w : WorldState). w.locks.withdrawn) same;
  rest = same ∙ ap (λ table. record old { locks = table }) (sym (ap (λ (w : WorldState). w.locks) same));
}
