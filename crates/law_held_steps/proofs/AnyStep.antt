-- What holds of the lists after a step of one session, whatever step it is. What the others have is said here once: their
-- desks, searches and rooms; and of their rows, where nothing of rows has changed.
use Rattle.std.proofs.Common.{◌≡◌, ◌≢◌, ◌⊎◌, inl, inr, ℕ, ◌==◌, cond, eq-eqb, ◌≤◌, true, false, List, [], ◌∷◌, length, Option, Some, refl, sym, ap, subst, ◌∙◌}
use Rattle.std.proofs.Common.{arith, Bool, zero, suc, ◌<◌, option_map}
use Rattle.std.proofs.lemmas.Bool.{false≢true}
use Rattle.std.specs.Prelude.{slice_get, is_some}
use Rattle.inno_model.specs.{Past.own, Past.started, Past.under_way, Past.of_item, Past.awaits_ack, Past.level, Past.IsOpen, declared.event.Event.Event}
use Rattle.inno_model.proofs.Untouched.{IsUntouched, untouched}
use Rattle.world.specs.State.{WorldState, Session, Work, IsSession, HasWork}
use Rattle.world.specs.{Told.IsTold, Told.LeavesRows}
use Rattle.row_versions.specs.{Chains.Chains, Versions.Stays}
use Rattle.shared_lists.specs.Fitting.{FitsThen}
use Rattle.law_found_rows.specs.Pasts.{AddsAtMostOne}
use Rattle.law_found_rows.proofs.Seen.{other_of}
use Rattle.law_logged_changes.specs.{Logs.LogsAgree, Steps.ChangesPairsAlone}
use Rattle.law_logged_changes.proofs.Leaving.{work_beside, agrees_beside}
use Rattle.row_changes.specs.declared.row_change.RowChange.{RowChange}
use Rattle.desks.specs.declared.desk.Doing.TheVariants.{Nothing, Changing, Undoing}
use Rattle.desks.specs.Holding.{AreFew, RowsHeld, SearchHeld, IsHeld}
use Rattle.desks.specs.Desks.{Store, desk_at, doing_in, doing_at, started_in, started_at, is_quiet_doing, HasRooms, with_desk, with_doing, is_undoing}
use Rattle.desks.specs.{declared.desk.Desk.Desk, declared.desk.Doing.Doing, Leaves.Does}
use Rattle.desks.proofs.Leaving.{search_left}
use Rattle.law_other_places.proofs.{Sessions.each, Quiet.quiet_kept, Readers.busy_at_a_desk}

pub some_same : {X : Type 0} (a b : X) → Some a ≡ Some b → a ≡ b
some_same a b same = cc

-- ---- the past of the others

same_past : (h : List Event) (s : ℕ) → IsUntouched h h s
same_past h s = record { count = refl; item = refl; before = refl; entries = refl; level_is = refl; txn_is = refl; own_is = refl; view_is = refl }

pub others_past : (t s : ℕ) (old new : List Event) → s ≢ t → AddsAtMostOne t old new → IsUntouched old new s
others_past t s old new differ (inl same) = subst (λ h. IsUntouched old h s) (sym same) (same_past old s)
others_past t s old new differ (inr adds) =
    subst (λ h. IsUntouched old h s) (sym adds.2) (untouched adds.0 old s (other_of adds.0 t s adds.1 (λ same. differ (sym same))))

pub past_grows : (t : ℕ) (old new : List Event) → AddsAtMostOne t old new → length old ≤ length new
past_grows t old new (inl same) = subst (λ (h : List Event). length old ≤ length h) (sym same) (omega arith)
past_grows t old new (inr adds) = subst (λ (h : List Event). length old ≤ length h) (sym adds.2) (omega arith)

-- its own newest entry isn't a commit that waits for its acknowledgement, if none of these is
pub waits_not : (t : ℕ) (entries past : List Event) → awaits_ack (cond (t == t) entries (of_item t past)) ≡ true → awaits_ack entries ≡ false → ⊥
waits_not t entries past waits none = false≢true (sym (ap (λ (b : Bool). awaits_ack (cond b entries (of_item t past))) (eq-eqb t t refl) ∙ none) ∙ waits)

-- what the session itself has after its step
pub record IsOwnPart (s : ℕ) (after : Chains) (new : Store) : Type 0 where
  pub replies : (session : Session) → IsSession s session new.world → is_some (under_way s new.world.past) ≡ true → session.can_reply ≡ true
  pub acks : (session : Session) → IsSession s session new.world → awaits_ack (of_item s new.world.past) ≡ true → session.can_ack ≡ true
  pub ends : (session : Session) (work : Work) → HasWork s session work new.world → work.can_end ≡ true
  pub started : started s new.world.past ≡ started_at s new.desks
  pub opened : new.writer ≡ Some s → IsOpen s new.world.past
  pub clean : new.writer ≢ Some s → own s new.world.past ≡ []
  pub quiet : new.writer ≢ Some s → is_quiet_doing (doing_at s new.desks) ≡ true
  pub search : SearchHeld after new s (doing_at s new.desks)
  pub rooms : (desk : Desk) → desk_at s new.desks ≡ Some desk → HasRooms desk

module _ {s : ℕ} {after : Chains} {old new : Store} (held : IsHeld old) (does : Does s held.chains after old new) (mine : IsOwnPart s after new) where
  was : (u : ℕ) (session : Session) → u ≢ s → IsSession u session new.world → IsSession u session old.world
  was u session differs there = sym (does.sessions u differs) ∙ there

  -- and each other one
  parts : (u : ℕ) → IsOwnPart u after new
  parts = each s (λ u. IsOwnPart u after new) mine (λ u differs.
      let past = others_past s u old.world.past new.world.past differs does.adds in
      let desk = sym (does.desks u differs) in
      record {
        replies = λ session has busy. held.has_room.replies u session (was u session differs has) (ap is_some (sym past.item) ∙ busy);
        acks = λ session has waits. held.has_room.acks u session (was u session differs has) (ap awaits_ack (sym past.entries) ∙ waits);
        ends = λ session work has.
            held.has_room.ends u session work (record { session_is = was u session differs has.session_is; work_is = has.work_is });
        started = past.count ∙ held.started u ∙ ap started_in desk;
        opened = λ is. ap is_some past.level_is ∙ held.owned.opened u (does.back u differs is);
        clean = λ other. past.own_is ∙ held.owned.clean u (λ might. other (does.rights u differs might));
        quiet = λ other. ap (λ desk. is_quiet_doing (doing_in desk)) (sym desk) ∙ held.owned.quiet u (λ might. other (does.rights u differs might));
        search = subst (λ desk. SearchHeld after new u (doing_in desk)) desk (search_left s u does differs (doing_at u old.desks) (held.searches u));
        rooms = λ room there. held.rooms u room (desk ∙ there);
      })

  pub held_after : FitsThen new.world.past → RowsHeld after new.world new.desks → LogsAgree new.world
      → length new.desks ≡ length new.world.names → length new.world.names ≤ 68 → new.cuts ≤ length new.world.past → AreFew after new.world.past
      → IsHeld new
  held_after fits rows logs count few cut short = record {
    chains = after;
    agrees = does.agrees;
    fits = fits;
    rows = rows;
    owned = record { opened = λ u. (parts u).opened; clean = λ u. (parts u).clean; quiet = λ u. (parts u).quiet };
    searches = λ u. (parts u).search;
    logs = logs;
    has_room = record { replies = λ u. (parts u).replies; acks = λ u. (parts u).acks; ends = λ u. (parts u).ends };
    started = λ u. (parts u).started;
    rooms = λ u. (parts u).rooms;
    count = count;
    few = few;
    cut = cut;
    short = short;
  }

-- ---- rows, where a session that changes none makes a step

pub quiet_step : {s : ℕ} {old new : Store} (held : IsHeld old) → Does s held.chains held.chains old new → LeavesRows old.world new.world → IsTold new.world
    → is_quiet_doing (doing_at s old.desks) ≡ true → is_quiet_doing (doing_at s new.desks) ≡ true → RowsHeld held.chains new.world new.desks
quiet_step {s} {old} {new} held does leaves told =
    quiet_kept held.rows held.logs does.told told leaves does.agrees s new.desks (λ u differs. record {
      session = does.sessions u differs;
      own_is = (others_past s u old.world.past new.world.past differs does.adds).own_is;
    }) does.desks

-- ---- steps that add no entry and change no session

module _ (s : ℕ) {store : Store} (held : IsHeld store) {new : WorldState} (now : List Desk) (rest : ChangesPairsAlone store.world new)
    (versions : Stays store.world.versions new.versions) (was : IsTold store.world) (told : IsTold new)
    (places : (u index : ℕ) → u ≢ s → (new.indexes index).place u ≡ (store.world.indexes index).place u)
    (same : (u : ℕ) → u ≢ s → desk_at u now ≡ desk_at u store.desks) where
  abbrev pub beside : Store
  beside = record store { world = new; desks = now }

  pub does_beside : Does s held.chains held.chains store beside
  does_beside = record {
    agreed = held.agrees;
    agrees = agrees_beside rest held.agrees;
    adds = inl (ap (λ (x : WorldState). x.past) rest);
    told = was;
    tables = λ n schema there. ap (λ (x : WorldState). slice_get x.schemas n) rest ∙ there;
    sessions = λ u differs. ap (λ (x : WorldState). slice_get x.sessions u) rest;
    desks = same;
    places = places;
    rights = λ u differs is. is;
    back = λ u differs is. is;
    changes = inl refl;
    kept = inl (refl, λ pointer found is. ap (λ (f : ℕ → Option _). f pointer) (versions.kept told.versions) ∙ is);
  }

  pub held_beside : started_at s now ≡ started_at s store.desks → length now ≡ length store.desks
      → (store.writer ≢ Some s → is_quiet_doing (doing_at s now) ≡ true) → SearchHeld held.chains beside s (doing_at s now)
      → ((desk : Desk) → desk_at s now ≡ Some desk → HasRooms desk) → RowsHeld held.chains new now → LogsAgree new → IsHeld beside
  held_beside started_is count quiet search rooms rows logs =
      let past = ap (λ (x : WorldState). x.past) rest in
      let names = ap (λ (x : WorldState). x.names) rest in
      held_after held does_beside (record {
        replies = λ session has busy. held.has_room.replies s session (sym (ap (λ (x : WorldState). slice_get x.sessions s) rest) ∙ has)
            (sym (ap (λ h. is_some (under_way s h)) past) ∙ busy);
        acks = λ session has waits. held.has_room.acks s session (sym (ap (λ (x : WorldState). slice_get x.sessions s) rest) ∙ has)
            (sym (ap (λ h. awaits_ack (of_item s h)) past) ∙ waits);
        ends = λ session work has. held.has_room.ends s session work (work_beside s session work store.world new rest has);
        started = ap (started s) past ∙ held.started s ∙ sym started_is;
        opened = λ is. ap (λ h. is_some (level s h)) past ∙ held.owned.opened s is;
        clean = λ other. ap (own s) past ∙ held.owned.clean s other;
        quiet = quiet;
        search = search;
        rooms = rooms;
      }) (subst FitsThen (sym past) held.fits) rows logs (count ∙ held.count ∙ ap length (sym names)) (subst (λ (n : List (List ℕ)). length n ≤ 68) (sym names)
      held.few) (subst (λ (h : List Event). store.cuts ≤ length h) (sym past) held.cut) (subst (AreFew held.chains) (sym past) held.short)

-- ---- Desks of which one is another.

pub desk_here : (s : ℕ) (change : Desk → Desk) (desks : List Desk) → desk_at s (with_desk s change desks) ≡ option_map change (desk_at s desks)
desk_here s change [] = refl
desk_here zero change (desk ∷ desks) = refl
desk_here (suc s) change (desk ∷ desks) = desk_here s change desks

pub desk_elsewhere : (s u : ℕ) (change : Desk → Desk) (desks : List Desk) → u ≢ s → desk_at u (with_desk s change desks) ≡ desk_at u desks
desk_elsewhere s u change [] differs = refl
desk_elsewhere zero zero change (desk ∷ desks) differs = absurd (differs refl)
desk_elsewhere zero (suc u) change (desk ∷ desks) differs = refl
desk_elsewhere (suc s) zero change (desk ∷ desks) differs = refl
desk_elsewhere (suc s) (suc u) change (desk ∷ desks) differs = desk_elsewhere s u change desks (λ same. differs (ap suc same))

pub as_many : (s : ℕ) (change : Desk → Desk) (desks : List Desk) → length (with_desk s change desks) ≡ length desks
as_many s change [] = refl
as_many zero change (desk ∷ desks) = refl
as_many (suc s) change (desk ∷ desks) = ap suc (as_many s change desks)

-- ---- one has something else to do

pub doing_here : (s : ℕ) (doing : Doing) (desks : List Desk) → s < length desks → doing_at s (with_doing s doing desks) ≡ doing
doing_here s doing [] within = absurd (omega (arith, within))
doing_here zero doing (desk ∷ desks) within = refl
doing_here (suc s) doing (desk ∷ desks) within = doing_here s doing desks (omega (arith, within))

-- a desk that isn't there has nothing
pub doing_mine : (s : ℕ) (doing : Doing) (desks : List Desk)
    → (doing_at s (with_doing s doing desks) ≡ doing) ⊎ (doing_at s (with_doing s doing desks) ≡ Nothing)
doing_mine s doing [] = inr refl
doing_mine zero doing (desk ∷ desks) = inl refl
doing_mine (suc s) doing (desk ∷ desks) = doing_mine s doing desks

-- each has started what it had
pub started_still : (s : ℕ) (doing : Doing) (desks : List Desk) → started_at s (with_doing s doing desks) ≡ started_at s desks
started_still s doing [] = refl
started_still zero doing (desk ∷ desks) = refl
started_still (suc s) doing (desk ∷ desks) = started_still s doing desks

-- what was given before is forgotten
pub doing_twice : (s : ℕ) (first second : Doing) (desks : List Desk) → with_doing s second (with_doing s first desks) ≡ with_doing s second desks
doing_twice s first second [] = refl
doing_twice zero first second (desk ∷ desks) = refl
doing_twice (suc s) first second (desk ∷ desks) = ap (λ ds. desk ∷ ds) (doing_twice s first second desks)

pub doing_stays : (s : ℕ) (doing : Doing) (desks : List Desk) → doing_at s desks ≡ doing → with_doing s doing desks ≡ desks
doing_stays s doing [] is = refl
doing_stays zero doing (desk ∷ desks) is = ap (λ (d : Doing). record desk { doing = d } ∷ desks) (sym is)
doing_stays (suc s) doing (desk ∷ desks) is = ap (λ ds. desk ∷ ds) (doing_stays s doing desks is)

pub changes_at_a_desk : (s : ℕ) {change : RowChange} (desks : List Desk) → doing_at s desks ≡ Changing change → s < length desks
changes_at_a_desk s {change} desks is = busy_at_a_desk s desks (λ none. let e : Changing change ≡ Nothing = sym is ∙ none in cc)

pub there : (s : ℕ) (desks : List Desk) → s < length desks → (desk : Desk) × (desk_at s desks ≡ Some desk)
there s [] within = absurd (omega (arith, within))
there zero (desk ∷ desks) within = (desk, refl)
there (suc s) (desk ∷ desks) within = there s desks (omega (arith, within))

-- ---- rooms

-- who takes nothing back has the rooms that it had
pub rooms_given : (desk : Desk) (doing : Doing) → HasRooms desk → is_undoing desk.doing ≡ false → HasRooms (record desk { doing = doing })
rooms_given desk doing has not = record { record_room = has.record_room; whole = has.whole; anew = λ is. has.anew not }

pub rooms_then : (s : ℕ) (doing : Doing) (desks : List Desk) → ((desk : Desk) → desk_at s desks ≡ Some desk → HasRooms desk)
    → is_undoing (doing_at s desks) ≡ false → (desk : Desk) → desk_at s (with_doing s doing desks) ≡ Some desk → HasRooms desk
rooms_then s doing [] rooms not desk at = rooms desk at
rooms_then zero doing (first ∷ desks) rooms not desk at =
    let same : record first { doing = doing } ≡ desk = (let e : Some (record first { doing = doing }) ≡ Some desk = at in cc) in
    subst HasRooms same (rooms_given first doing (rooms first refl) not)
rooms_then (suc s) doing (first ∷ desks) rooms not desk at = rooms_then s doing desks rooms not desk at

pub quiet_undoes_not : (doing : Doing) → is_quiet_doing doing ≡ true → is_undoing doing ≡ false
quiet_undoes_not Undoing is = absurd (cc)
quiet_undoes_not other is = refl

-- ---- one session's desk was this, and is that now

pub record IsGiven (s : ℕ) (was now : Desk) (old new : List Desk) : Type 0 where
  pub before : desk_at s old ≡ Some was
  pub here : desk_at s new ≡ Some now
  pub others : (t : ℕ) → t ≢ s → desk_at t new ≡ desk_at t old
  pub started : now.started ≡ was.started
  pub count : length new ≡ length old

pub is_given : (s : ℕ) (change : Desk → Desk) {was : Desk} (desks : List Desk) → desk_at s desks ≡ Some was → (change was).started ≡ was.started
    → IsGiven s was (change was) desks (with_desk s change desks)
is_given s change desks at same = record {
  before = at;
  here = desk_here s change desks ∙ ap (option_map change) at;
  others = λ t differs. desk_elsewhere s t change desks differs;
  started = same;
  count = as_many s change desks;
}

pub given_then : {s : ℕ} {first second third : Desk} {old mid new : List Desk} → IsGiven s first second old mid → IsGiven s second third mid new
    → IsGiven s first third old new
given_then one two = record {
  before = one.before;
  here = two.here;
  others = λ t differs. two.others t differs ∙ one.others t differs;
  started = two.started ∙ one.started;
  count = two.count ∙ one.count;
}

-- it has something else to do
pub given : (s : ℕ) (doing : Doing) {desk : Desk} (desks : List Desk) → desk_at s desks ≡ Some desk
    → IsGiven s desk (record desk { doing = doing }) desks (with_doing s doing desks)
given s doing desks at = is_given s (λ (desk : Desk). record desk { doing = doing }) desks at refl
