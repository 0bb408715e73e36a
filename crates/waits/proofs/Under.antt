-- How rounds go on: from one transaction's first cycle to its last, and from one transaction to the next.
use Rattle.std.specs.Prelude.{◌≡◌, ℕ, ◌+◌, ◌-◌, ◌≤◌, ◌<◌, true, Option, List, [], ◌∷◌, ◌++◌, length, map, All}
use Rattle.std.specs.List.{AllByRecursion}
use Rattle.std.proofs.Common.{inl, refl, sym, ap, ◌∙◌, subst, arith, length-append, append_assoc, append-nil}
use Rattle.std.proofs.lemmas.List.{map-append}
use Rattle.std.proofs.lemmas.List.Elements.{All-cons, All-nil}
use Rattle.inno_types.specs.declared.lock.Lock.{Lock}
use Rattle.inno_types.specs.declared.lock.Edge.{Edge}
use Rattle.lock_table.specs.Queue.{Lists, AreSound, is_waiting}
use Rattle.lock_table.specs.Room.{HasRooms}
use Rattle.lock_table.specs.declared.room.CycleRoom.{CycleRoom}
use Rattle.lock_table.proofs.Rooms.{fewer_wait}
use Rattle.deadlock.specs.Cycles.{waiters, IsCycleThrough, IsDepthFirst, AreCopies, HasNoCycle}
use Rattle.deadlock.specs.Victim.{IsVictim}
use Rattle.deadlock.specs.declared.cycle.Cycle.{Cycle}
use Rattle.deadlock.specs.declared.rollback.Size.{Size}
use Rattle.law_locks.specs.Settling.{IsRound, AreRounds, AreSettled, after_withdrawal, after_rounds}
use Rattle.law_locks.proofs.Edges.{waiters_wait}
use Rattle.law_locks.proofs.Members.{in_from_contains, contains_from_in, all_in, in_all}
use Rattle.law_locks.proofs.Parts.{waits_in, without_fewer}
use Rattle.law_locks.proofs.Rounds.{sound_after, fewer_after}
use Rattle.world.specs.State.{WorldState, Session, Work, HasWork}
use Rattle.world.specs.Locks.{fell}
use Rattle.waits.specs.Falls.{IsOwned, IsOpenAt, MaySettle, MayFall, HasFallen, HasSettled, Settles, AreCopied, lists_of, after_falls, round_of, with_rooms}
use Rattle.waits.specs.declared.settling.Fallen.{Fallen}
use Rattle.waits.proofs.Falling.{open_again, owned_again, left_owned, sessions_after, lists_after, one_more, falls_then, beside_rooms}
use Rattle.waits.proofs.Rounds.{rounds_then, settled_then}

all_pushed : {A : Type 0} (P : A → Type 0) (xs : List A) (x : A) → AllByRecursion P xs → P x → AllByRecursion P (xs ++ x ∷ [])
all_pushed P [] x all is = (is, record {})
all_pushed P (y ∷ xs) x all is = (all.0, all_pushed P xs x all.1 is)

pub all_joined : {A : Type 0} (P : A → Type 0) (xs ys : List A) → AllByRecursion P xs → AllByRecursion P ys → AllByRecursion P (xs ++ ys)
all_joined P [] ys first second = second
all_joined P (x ∷ xs) ys first second = (first.0, all_joined P xs ys first.1 second)

-- ---- a victim

-- each victim's transaction is open
pub victim_owned : (state : WorldState) (cycle : Cycle) (sizes : List Size) (asked : Option ℕ) (txn sessions : ℕ) → MayFall sessions cycle state
    → IsVictim cycle.edges sizes asked txn → IsOwned state txn × (is_waiting txn state.locks.waiting ≡ true)
victim_owned state cycle sizes asked txn sessions may chosen =
    let waits = waiters_wait state.locks.granted state.locks.waiting cycle.edges may.stands txn (in_from_contains (waiters cycle.edges) txn chosen.in_cycle) in
    let request = waits_in txn state.locks.waiting waits in (
      subst (IsOwned state) request.2 (all_in (λ (asked : Lock). IsOwned state asked.txn) state.locks.waiting request.0 may.owned request.1),
      waits,
    )

-- ---- the rounds through one transaction

-- those that were made so far
pub record IsUnderWay (sessions txn : ℕ) (sizes : List Size) (asked : Option ℕ) (before items : List Fallen) (capacity : ℕ) (start mid : WorldState) : Type 0 where
  pub falls : List Fallen
  pub items_are : items ≡ before ++ falls
  pub rest : mid ≡ with_rooms mid.locks.rooms (after_falls start falls)
  pub rounds : AreRounds (txn ∷ []) sizes asked (lists_of start) (map round_of falls)
  pub may : MaySettle sessions mid
  pub room : length items + length mid.locks.waiting ≤ capacity
  pub copied : AllByRecursion AreCopied falls

-- the first cycle through the transaction was found
pub record IsFound (txn : ℕ) (cycle : Cycle) (mid found : WorldState) : Type 0 where
  pub through : IsCycleThrough txn mid.locks.granted mid.locks.waiting cycle.edges
  pub first : IsDepthFirst txn mid.locks.granted mid.locks.waiting cycle.edges
  pub copies : AreCopies cycle
  pub rooms : HasRooms (length mid.locks.waiting - 1) found.locks.rooms
  pub same : found ≡ with_rooms found.locks.rooms mid

module _ (mid found : WorldState) (s txn : ℕ) (cycle : Cycle) (open_at : IsOpenAt mid s txn) where
  pub found_by : ((session : Session) (work : Work) → HasWork s session work mid → IsCycleThrough work.txn mid.locks.granted mid.locks.waiting cycle.edges)
      → ((session : Session) (work : Work) → HasWork s session work mid → IsDepthFirst work.txn mid.locks.granted mid.locks.waiting cycle.edges)
      → AreCopies cycle → HasRooms (length mid.locks.waiting - 1) found.locks.rooms → found ≡ with_rooms found.locks.rooms mid
      → IsFound txn cycle mid found
  found_by through first copies rooms same =
      let session = open_at.session in
      let work = open_at.work in
      record {
        through =
            subst (λ number. IsCycleThrough number mid.locks.granted mid.locks.waiting cycle.edges) open_at.mine (through session work open_at.has_work);
        first = subst (λ number. IsDepthFirst number mid.locks.granted mid.locks.waiting cycle.edges) open_at.mine (first session work open_at.has_work);
        copies = copies;
        rooms = rooms;
        same = same;
      }

pub none_by : (mid : WorldState) (s txn : ℕ) (open_at : IsOpenAt mid s txn)
    → ((session : Session) (work : Work) → HasWork s session work mid → HasNoCycle work.txn mid.locks.granted mid.locks.waiting)
    → HasNoCycle txn mid.locks.granted mid.locks.waiting
none_by mid s txn open_at none =
    subst (λ number. HasNoCycle number mid.locks.granted mid.locks.waiting) open_at.mine (none open_at.session open_at.work open_at.has_work)

-- somebody waits where there is a cycle
pub some_wait : (txn : ℕ) (cycle : Cycle) (mid found : WorldState) → IsFound txn cycle mid found → 0 < length mid.locks.waiting
some_wait txn cycle mid found is =
    let waits = waiters_wait mid.locks.granted mid.locks.waiting cycle.edges is.through.circle txn
    (in_from_contains (waiters cycle.edges) txn is.through.through) in
    omega (arith, without_fewer txn mid.locks.waiting waits)

pub may_fall : (sessions txn : ℕ) (cycle : Cycle) (mid found : WorldState) → MaySettle sessions mid → IsFound txn cycle mid found
    → MayFall sessions cycle found
may_fall sessions txn cycle mid found may is =
    let same = is.same in
    let sessions_same : found.sessions ≡ mid.sessions = ap (λ (w : WorldState). w.sessions) same in
    let waiting_same : found.locks.waiting ≡ mid.locks.waiting = ap (λ (w : WorldState). w.locks.waiting) same in
    let granted_same : found.locks.granted ≡ mid.locks.granted = ap (λ (w : WorldState). w.locks.granted) same in
    record {
      sessions_are = may.sessions_are ∙ ap length (sym sessions_same);
      owned =
          in_all (λ (asked : Lock). IsOwned found asked.txn) found.locks.waiting (λ asked there.
          owned_again mid found asked.txn sessions_same
          (all_in (λ (asked : Lock). IsOwned mid asked.txn) mid.locks.waiting asked may.owned (rw waiting_same at there)));
      stands = rw (granted_same, waiting_same) is.through.circle;
      copies = is.copies;
    }

module _ (sessions txn : ℕ) (sizes : List Size) (asked : Option ℕ) (before items more : List Fallen) (capacity : ℕ) (start mid found new : WorldState)
    (cycle : Cycle) (under : IsUnderWay sessions txn sizes asked before items capacity start mid) (is : IsFound txn cycle mid found)
    (has : HasFallen sizes asked cycle items more found new) where
  abbrev fallen : Fallen
  fallen = has.fall

  new_is : new ≡ with_rooms found.locks.rooms (fell fallen.session fallen.txn fallen.told mid)
  new_is = has.rest ∙ ap (fell fallen.session fallen.txn fallen.told) is.same

  rooms_are : new.locks.rooms ≡ found.locks.rooms
  rooms_are = ap (λ (w : WorldState). w.locks.rooms) new_is

  lists_are : lists_of new ≡ after_withdrawal fallen.txn (lists_of mid)
  lists_are = ap lists_of new_is

  rest_is : new ≡ with_rooms new.locks.rooms (after_falls start (under.falls ++ fallen ∷ []))
  rest_is =
      subst (λ (rooms : List CycleRoom). new ≡ with_rooms rooms (after_falls start (under.falls ++ fallen ∷ []))) (sym rooms_are)
      (new_is ∙ ap (λ (w : WorldState). with_rooms found.locks.rooms (fell fallen.session fallen.txn fallen.told w)) under.rest
      ∙ ap (with_rooms found.locks.rooms) (sym (one_more start under.falls fallen)))

  mid_lists : lists_of mid ≡ after_rounds (lists_of start) (map round_of under.falls)
  mid_lists = ap lists_of under.rest ∙ lists_after start under.falls

  round_is : IsRound (txn ∷ []) sizes asked (lists_of mid) (round_of fallen)
  round_is = record {
    from = txn;
    listed = contains_from_in (txn ∷ []) txn (inl refl);
    found = subst (λ (cycle : List Edge). IsCycleThrough txn mid.locks.granted mid.locks.waiting cycle) (sym has.told) is.through;
    first = subst (λ (cycle : List Edge). IsDepthFirst txn mid.locks.granted mid.locks.waiting cycle) (sym has.told) is.first;
    chosen = subst (λ (cycle : List Edge). IsVictim cycle sizes asked has.fall.txn) (sym has.told) has.chosen;
  }

  rounds_are : AreRounds (txn ∷ []) sizes asked (lists_of start) (map round_of (under.falls ++ fallen ∷ []))
  rounds_are =
      subst (AreRounds (txn ∷ []) sizes asked (lists_of start)) (sym (map-append round_of under.falls (fallen ∷ [])))
      (rounds_then sizes asked (txn ∷ []) (lists_of start) (map round_of under.falls) (round_of fallen ∷ []) under.rounds
      (subst (λ (lists : Lists). AreRounds (txn ∷ []) sizes asked lists (round_of fallen ∷ [])) mid_lists (round_is, record {})))

  victim_waits : is_waiting fallen.txn mid.locks.waiting ≡ true
  victim_waits = waiters_wait mid.locks.granted mid.locks.waiting cycle.edges is.through.circle fallen.txn
      (in_from_contains (waiters cycle.edges) fallen.txn has.chosen.in_cycle)

  fewer : length new.locks.waiting < length mid.locks.waiting
  fewer = subst (λ (lists : Lists). length lists.waiting < length mid.locks.waiting) (sym lists_are) (fewer_after (lists_of mid) fallen.txn victim_waits)

  may_new : MaySettle sessions new
  may_new =
      let same : new.sessions ≡ mid.sessions = ap (λ (w : WorldState). w.sessions) new_is in
      record {
        sessions_are = under.may.sessions_are ∙ ap length (sym same);
        sound = subst (λ (lists : Lists). AreSound lists.granted lists.waiting) (sym lists_are) (sound_after (lists_of mid) under.may.sound fallen.txn);
        owned = left_owned mid new fallen.txn same (ap (λ (lists : Lists). lists.waiting) lists_are) under.may.owned;
        rooms = rw rooms_are (fewer_wait (length new.locks.waiting) (length mid.locks.waiting - 1) found.locks.rooms (omega (arith, fewer)) is.rooms);
      }

  pub open_still : (s : ℕ) → IsOpenAt mid s txn → IsOpenAt new s txn
  open_still s = open_again mid new s txn (ap (λ (w : WorldState). w.sessions) new_is)

  pub goes_on : IsUnderWay sessions txn sizes asked before more capacity start new × (length new.locks.waiting < length mid.locks.waiting)
  goes_on = (
    record {
      falls = under.falls ++ fallen ∷ [];
      items_are = has.items ∙ ap (λ (front : List Fallen). front ++ fallen ∷ []) under.items_are ∙ append_assoc before under.falls (fallen ∷ []);
      rest = rest_is;
      rounds = rounds_are;
      may = may_new;
      room = omega (arith, under.room, fewer, ap length has.items, length-append items (fallen ∷ []));
      copied = all_pushed AreCopied under.falls fallen under.copied (has.shown ∙ sym has.told);
    },
    fewer,
  )

module _ (sessions txn : ℕ) (sizes : List Size) (asked : Option ℕ) (before : List Fallen) (capacity : ℕ) (start : WorldState) where
  pub begins : MaySettle sessions start → length before + length start.locks.waiting ≤ capacity
      → IsUnderWay sessions txn sizes asked before before capacity start start
  begins may room =
      record { falls = []; items_are = sym (append-nil before); rest = refl; rounds = record {}; may = may; room = room; copied = record {} }

  pub settled : (items : List Fallen) (mid new : WorldState) → IsUnderWay sessions txn sizes asked before items capacity start mid
      → new ≡ with_rooms new.locks.rooms mid → HasRooms (length mid.locks.waiting) new.locks.rooms → HasNoCycle txn mid.locks.granted mid.locks.waiting
      → HasSettled txn sizes asked before items start new × MaySettle sessions new × (length items + length new.locks.waiting ≤ capacity)
  settled items mid new under same rooms none =
      let waiting_same : new.locks.waiting ≡ mid.locks.waiting = ap (λ (w : WorldState). w.locks.waiting) same in
      let granted_same : new.locks.granted ≡ mid.locks.granted = ap (λ (w : WorldState). w.locks.granted) same in
      let sessions_same : new.sessions ≡ mid.sessions = ap (λ (w : WorldState). w.sessions) same in
      let lists : lists_of mid ≡ after_rounds (lists_of start) (map round_of under.falls) = ap lists_of under.rest ∙ lists_after start under.falls in (
        record {
          falls = under.falls;
          items = under.items_are;
          settles =
              record {
                rest = same ∙ ap (with_rooms new.locks.rooms) under.rest;
                rooms = rw waiting_same rooms;
                settled =
                    record {
                      rounds_are = under.rounds;
                      none =
                          subst (λ (now : Lists). All (λ other. HasNoCycle other now.granted now.waiting) (txn ∷ [])) lists
                          (All-cons (λ other. HasNoCycle other mid.locks.granted mid.locks.waiting) txn [] none
                          (All-nil (λ other. HasNoCycle other mid.locks.granted mid.locks.waiting)));
                    };
              };
          copied = under.copied;
        },
        record {
          sessions_are = under.may.sessions_are ∙ ap length (sym sessions_same);
          sound = rw (granted_same, waiting_same) under.may.sound;
          owned =
              in_all (λ (asked : Lock). IsOwned new asked.txn) new.locks.waiting (λ asked there.
              owned_again mid new asked.txn sessions_same
              (all_in (λ (asked : Lock). IsOwned mid asked.txn) mid.locks.waiting asked under.may.owned (rw waiting_same at there)));
          rooms = rw waiting_same rooms;
        },
        omega (arith, under.room, ap length waiting_same),
      )

-- ---- from one transaction to the next

pub settles_none : (sessions : ℕ) (sizes : List Size) (asked : Option ℕ) (items : List Fallen) (start : WorldState) → MaySettle sessions start → items ≡ []
    → Settles [] sizes asked items start start
settles_none sessions sizes asked items start may none =
    rw none (record {
      rest = refl;
      rooms = may.rooms;
      settled = record { rounds_are = record {}; none = All-nil (λ other. HasNoCycle other start.locks.granted start.locks.waiting) };
    })

pub settles_next : (front : List ℕ) (txn : ℕ) (sizes : List Size) (asked : Option ℕ) (items more : List Fallen) (start mid new : WorldState)
    → AreSound start.locks.granted start.locks.waiting → Settles front sizes asked items start mid → HasSettled txn sizes asked items more mid new
    → Settles (front ++ txn ∷ []) sizes asked more start new
settles_next front txn sizes asked items more start mid new sound first next =
    rw next.items (record {
      rest =
          next.settles.rest ∙ ap (λ (w : WorldState). with_rooms new.locks.rooms (after_falls w next.falls)) first.rest
          ∙ ap (with_rooms new.locks.rooms) (beside_rooms mid.locks.rooms (after_falls start items) next.falls)
          ∙ ap (with_rooms new.locks.rooms) (sym (falls_then start items next.falls));
      rooms = next.settles.rooms;
      settled =
          let lists : lists_of mid ≡ after_rounds (lists_of start) (map round_of items) = ap lists_of first.rest ∙ lists_after start items in
          subst (AreSettled (front ++ txn ∷ []) sizes asked (lists_of start)) (sym (map-append round_of items next.falls))
          (settled_then sizes asked front (txn ∷ []) (lists_of start) (map round_of items) (map round_of next.falls) sound first.settled
          (subst (λ (now : Lists). AreSettled (txn ∷ []) sizes asked now (map round_of next.falls)) lists next.settles.settled));
    })

-- sessions are as they were
pub owned_still : (grown : List ℕ) (sizes : List Size) (asked : Option ℕ) (items : List Fallen) (start mid : WorldState) (txn : ℕ)
    → Settles grown sizes asked items start mid → IsOwned start txn → IsOwned mid txn
owned_still grown sizes asked items start mid txn settles =
    owned_again start mid txn (ap (λ (w : WorldState). w.sessions) settles.rest ∙ sessions_after start items)
