-- What is kept of sessions, in the words of the past, and what an entry leaves of it.
use Rattle.std.proofs.Common.{◌≡◌, ◌≢◌, ⊎_elim, ℕ, zero, suc, ◌+◌, ◌<◌, ◌≤◌, ◌^◌, false, List, [], ◌∷◌, length, map, get_or, slice_get, option_map}
use Rattle.std.proofs.Common.{Option, Some, None, refl, sym, ap, subst, ◌∙◌, arith}
use Rattle.std.proofs.lemmas.Bool.{cases_eq}
use Rattle.inno_types.specs.declared.value.Schema.{Schema}
use Rattle.inno_model.specs.{declared.event.Event.Event, Past.is_of, Past.started, Past.level, Past.txn, Past.own, Past.view_of}
use Rattle.inno_model.proofs.Untouched.{untouched}
use Rattle.row_versions.specs.{declared.place.Place.Place, Chains.Chains, Chains.versions_at}
use Rattle.law_past_agreement.specs.{Slots.Slot, Slots.fresh, Ids.id_of, Ids.txns_of, Order.created, Order.IsOrdered, Order.MayCome, Rows.place_in, Rows.is_at}
use Rattle.law_past_agreement.specs.{Rows.row_opened}
use Rattle.law_past_agreement.specs.Agreement.{IsIdle, ViewAgrees, WorkAgrees, SlotAgrees, AreVersions, owed_by}
use Rattle.law_past_agreement.proofs.{Ids.AreIds, Ids.ids_of, Standing.other_id, Standing.other_owed, Standing.view_agrees}
use Rattle.world.specs.State.{WorldState, Session, Work, HasWork}
use Rattle.law_world_agreement.specs.Agreement.{sight_of, work_at, slot_of, slots_from, Agrees}

-- a slot that is kept of a session, or of nobody
abbrev pub slot_if : List Event → List Schema → ℕ → Option Session → Slot
slot_if h schemas s None = fresh
slot_if h schemas s (Some session) = slot_of h schemas s session

slots_at : (k u : ℕ) (h : List Event) (schemas : List Schema) (sessions : List Session)
    → get_or (slots_from k h schemas sessions) u fresh ≡ slot_if h schemas (k + u) (slice_get sessions u)
slots_at k u h schemas [] = refl
slots_at k zero h schemas (x ∷ sessions) = ap (λ n. slot_of h schemas n x) (omega arith)
slots_at k (suc u) h schemas (x ∷ sessions) = slots_at (k + 1) u h schemas sessions ∙ ap (λ n. slot_if h schemas n (slice_get sessions u)) (omega arith)

pub slot_at : (u : ℕ) (h : List Event) (schemas : List Schema) (sessions : List Session)
    → get_or (slots_from 0 h schemas sessions) u fresh ≡ slot_if h schemas u (slice_get sessions u)
slot_at u h schemas sessions = slots_at 0 u h schemas sessions ∙ ap (λ n. slot_if h schemas n (slice_get sessions u)) (omega arith)

-- ---- what is kept of a session

abbrev pub works_at : ℕ → List Session → Option (Option Work)
works_at s sessions = option_map (λ session. session.work) (slice_get sessions s)

-- what is kept of an open transaction is what the past says
pub record IsKept (h : List Event) (s : ℕ) (work : Work) : Type 0 where
  pub level_is : level s h ≡ Some work.level
  pub txn_is : txn s h ≡ work.txn
  pub id_is : id_of h s ≡ work.id
  pub view_is : ViewAgrees h s (option_map sight_of work.view)
  pub own_is : work.own ≡ length (own s h)

abbrev pub KeepsWork : List Event → ℕ → Option Work → Type 0
KeepsWork h s None = IsIdle h s
KeepsWork h s (Some work) = IsKept h s work

-- of a session, or of nobody
abbrev pub Keeps : List Event → ℕ → Option (Option Work) → Type 0
Keeps h s None = (started s h ≡ 0) × IsIdle h s
Keeps h s (Some work) = KeepsWork h s work

pub works_are : {s : ℕ} {session : Session} {work : Work} {state : WorldState} → HasWork s session work state → works_at s state.sessions ≡ Some (Some work)
works_are has = ap (option_map (λ (x : Session). x.work)) has.session_is ∙ ap Some has.work_is

module _ {chains : Chains} {state : WorldState} (agrees : Agrees chains state) where
  keeps_if : (s : ℕ) (found : Option Session) → slice_get state.sessions s ≡ found
      → SlotAgrees state.schemas state.past s (slot_if state.past state.schemas s found) → Keeps state.past s (option_map (λ (x : Session). x.work) found)
  keeps_if s found there slot = grind (arith, there, slot, agrees.own s)

  pub keeps_of : (s : ℕ) → Keeps state.past s (works_at s state.sessions)
  keeps_of s = keeps_if s (slice_get state.sessions s) refl (rw (slot_at s state.past state.schemas state.sessions) at (agrees.lists.sessions s))

  pub kept_of : {s : ℕ} {session : Session} {work : Work} → HasWork s session work state → IsKept state.past s work
  kept_of {s} has = subst (Keeps state.past s) (works_are has) (keeps_of s)

  -- the rows, in the tables that the past has made
  pub rows_told : (place : Place) → AreVersions state.past (row_opened state.past place) (is_at (created state.past) place) (versions_at place chains)
  rows_told place = rw (← agrees.lists.tables) (agrees.lists.rows place)

-- the other way
pub work_from : (h : List Event) (schemas : List Schema) (s : ℕ) (work : Option Work) → KeepsWork h s work
    → WorkAgrees schemas h s (option_map (work_at (map (place_in schemas) (own s h))) work)
work_from h schemas s work k = grind (arith, k)

slot_from : (h : List Event) (schemas : List Schema) (s : ℕ) (found : Option Session) → Keeps h s (option_map (λ (x : Session). x.work) found)
    → SlotAgrees schemas h s (slot_if h schemas s found)
slot_from h schemas s found k = grind (arith, k, work_from h schemas s)

-- a world agrees with its past where each of its parts does
pub agreeing : {chains : Chains} {state : WorldState} → IsOrdered state.past → length state.past < 2 ^ 63
    → state.schemas ≡ created state.past → state.txns ≡ txns_of state.past → ((s : ℕ) → Keeps state.past s (works_at s state.sessions))
    → ((place : Place) → AreVersions state.past (row_opened state.past place) (is_at state.schemas place) (versions_at place chains))
    → ((s : ℕ) → length state.names ≤ s → owed_by state.past s ≡ 0) → length state.sessions ≡ length state.names
    → Agrees chains state
agreeing {state = state} ordered small tables txns keeps rows strangers count =
    record {
      lists = record {
        ordered = ordered;
        small = small;
        tables = tables;
        txns_are = txns;
        sessions = λ s. rw (slot_at s state.past state.schemas state.sessions) (slot_from state.past state.schemas s (slice_get state.sessions s) (keeps s));
        rows = rows;
        strangers = strangers;
      };
      count = count;
      own = λ s session work has. let k : IsKept state.past s work = subst (Keeps state.past s) (works_are has) (keeps s) in k.own_is;
    }

-- indexes, versions and counts are not spoken of
pub agrees_alike : (chains : Chains) (a b : WorldState) → Agrees chains a → b.names ≡ a.names → b.past ≡ a.past
    → b.schemas ≡ a.schemas → b.txns ≡ a.txns → b.sessions ≡ a.sessions → Agrees chains b
agrees_alike chains a b agrees names past schemas txns sessions =
    record {
      lists = rw (names, past, schemas, txns, sessions) agrees.lists;
      count = rw (names, sessions) agrees.count;
      own = λ s session work has. rw past
          (agrees.own s session work (record { session_is = ap (λ xs. slice_get xs s) (sym sessions) ∙ has.session_is; work_is = has.work_is }));
    }

-- ---- an entry

-- What is kept of a transaction stays right while its level, its number, its id, its changes and its view do.
pub work_stays : (e : Event) (h : List Event) (s : ℕ) → MayCome h e → AreIds h → level s (e ∷ h) ≡ level s h → txn s (e ∷ h) ≡ txn s h
    → id_of (e ∷ h) s ≡ id_of h s → own s (e ∷ h) ≡ own s h → view_of s (e ∷ h) ≡ view_of s h → (work : Option Work) → KeepsWork h s work
    → KeepsWork (e ∷ h) s work
work_stays e h s may ids same-level same-txn same-id same-own same-view work k =
    grind (arith, same-level, same-txn, same-id, same-own, k, view_agrees e h s may ids (λ id some same. same ∙ sym same-id) same-view)

-- an entry of another session leaves it
other_stays : (e : Event) (h : List Event) (s : ℕ) → MayCome h e → AreIds h → is_of s e ≡ false → (found : Option (Option Work)) → Keeps h s found
    → Keeps (e ∷ h) s found
other_stays e h s may ids other found k =
    let same = untouched e h s other in
    let stays = work_stays e h s may ids same.level_is same.txn_is (other_id e h s other) same.own_is same.view_is in
    grind (arith, k, same.count, same.level_is, same.own_is, stays)

-- an entry of session s has come, and the work of the others is what it was
pub record Adds (e : Event) (s : ℕ) (old new : WorldState) : Type 0 where
  pub past : new.past ≡ e ∷ old.past
  pub names : new.names ≡ old.names
  pub count : length new.sessions ≡ length old.sessions
  pub others : (u : ℕ) → u ≢ s → works_at u new.sessions ≡ works_at u old.sessions

-- The world agrees then, once its tables, its transactions, the session's work, its rows and who may write do.
pub after : {chains chains' : Chains} {old new : WorldState} → Agrees chains old → (e : Event) (s : ℕ)
    → ((u : ℕ) → u ≢ s → is_of u e ≡ false) → MayCome old.past e → length old.past + 1 < 2 ^ 63 → s < length old.names → Adds e s old new
    → new.schemas ≡ created (e ∷ old.past) → new.txns ≡ txns_of (e ∷ old.past)
    → (work : Option Work) → works_at s new.sessions ≡ Some work → KeepsWork (e ∷ old.past) s work
    → ((place : Place) → AreVersions (e ∷ old.past) (row_opened (e ∷ old.past) place) (is_at new.schemas place) (versions_at place chains'))
    → Agrees chains' new
after {chains' = chains'} {old = old} {new = new} agrees e s mine may few joined by tables txns work here keeps rows =
    let h = e ∷ old.past in
    let each : (u : ℕ) → Keeps h u (works_at u new.sessions) =
    λ u. ⊎_elim (λ same. subst (λ v. Keeps h v (works_at v new.sessions)) (sym same) (subst (Keeps h s) (sym here) keeps))
    (λ differs. subst (Keeps h u) (sym (by.others u differs))
    (other_stays e old.past u may (ids_of old.past agrees.lists.ordered) (mine u differs) (works_at u old.sessions) (keeps_of agrees u))) (cases_eq u s) in
    agrees_alike chains' (record new { past = h; names = old.names }) new
    (agreeing (may, agrees.lists.ordered) (omega (arith, few)) tables txns each rows
    (λ u le. other_owed e old.past u (mine u (omega (arith, joined, le))) ∙ agrees.lists.strangers u le) (by.count ∙ agrees.count))
    by.names by.past refl refl refl
