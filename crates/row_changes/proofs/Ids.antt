-- A transaction is given its id, and its change is entered.
use Rattle.std.proofs.Common.{◌≡◌, ◌≢◌, ℕ, ◌+◌, ◌==◌, false, Option, Some, None, refl, sym, ap, ◌∙◌, eq-eqb}
use Rattle.std.proofs.lemmas.{List.length-map, List.length-set, Bool.cond-false, Bool.ne_eqb, Option.slice_get-map}
use Rattle.std.specs.Prelude.{slice_get, option_map}
use Rattle.inno_db.specs.declared.change.Change.{Change}
use Rattle.store_api.specs.declared.answers.Standing.{Standing}
use Rattle.world.specs.State.{WorldState, Session, Work, HasWork, standing_of}
use Rattle.world.specs.Sessions.{of_txn, change_txn, work_with_id, identified, change_added}
use Rattle.row_changes.specs.{Records.IsListed, Records.id_for, Entering.GivesId, Entering.Enters}
use Rattle.row_changes.proofs.Sessions.{one_found, set_here, set_other}

-- ---- sessions of which one's transaction is changed

-- another's
other_kept : (txn : ℕ) (f : Session → Session) (session : Session) (work : Option Work) → session.work ≡ work
    → ((other : Work) → work ≡ Some other → other.txn ≢ txn) → of_txn txn f session work ≡ session
other_kept txn f session None is differs = refl
other_kept txn f session (Some other) is differs = cond-false (other.txn == txn) (f session) session (ne_eqb other.txn txn (differs other refl))

found_kept : (g : Session → Session) (found : Option Session) → ((session : Session) → found ≡ Some session → g session ≡ session) → option_map g found ≡ found
found_kept g None same = refl
found_kept g (Some session) same = ap Some (same session refl)

pub changed_elsewhere : (s t : ℕ) (work : Work) (f : Session → Session) (state : WorldState) → IsListed s work state → t ≢ s
    → slice_get (change_txn work.txn f state.sessions) t ≡ slice_get state.sessions t
changed_elsewhere s t work f state listed differs =
    slice_get-map (λ session. of_txn work.txn f session session.work) state.sessions t
    ∙ found_kept (λ session. of_txn work.txn f session session.work) (slice_get state.sessions t)
    (λ session is. other_kept work.txn f session session.work refl
    (λ other has same. differs (listed.alone t session other (record { session_is = is; work_is = has }) same)))

pub changed_here : (s : ℕ) (session : Session) (work : Work) (f : Session → Session) (state : WorldState) → HasWork s session work state
    → slice_get (change_txn work.txn f state.sessions) s ≡ Some (f session)
changed_here s session work f state has =
    slice_get-map (λ x. of_txn work.txn f x x.work) state.sessions s ∙ rw (has.session_is, has.work_is, eq-eqb work.txn work.txn refl) refl

-- ---- the id

pub gives_new_id : (s : ℕ) (session : Session) (work : Work) (old new : WorldState) → HasWork s session work old → IsListed s work old → work.id ≡ 0
    → new ≡ identified work.txn old → GivesId s session work old new
gives_new_id s session work old new has listed none is =
    let f = λ (x : Session). record x { work = work_with_id old.txns.next x.work } in
    record {
      now = rw (is, eq-eqb work.id 0 none) (changed_here s session work f old has
          ∙ ap (λ w. Some (record session { work = work_with_id old.txns.next w })) has.work_is);
      others = λ t differs. rw is (changed_elsewhere s t work f old listed differs);
      count = rw is (length-map old.sessions (λ session. of_txn work.txn f session session.work));
      rest = rw (is, eq-eqb work.id 0 none) refl;
    }

pub keeps_id : (s : ℕ) (session : Session) (work : Work) (state : WorldState) → HasWork s session work state → work.id ≢ 0 → GivesId s session work state state
keeps_id s session work state has given =
    record {
      now = rw (ne_eqb work.id 0 given) (has.session_is ∙ ap (λ w. Some (record session { work = w })) has.work_is);
      others = λ t differs. refl;
      count = refl;
      rest = rw (ne_eqb work.id 0 given) refl;
    }

-- ---- the entry

pub entered_change : (s : ℕ) (change : Change) (rows : ℕ) (session : Session) (work : Work) (old mid new : WorldState)
    → (gives : GivesId s session work old mid)
    → ((x : Session) (w : Work) → HasWork s x w mid → new ≡ change_added s change rows x w mid) → Enters s change rows session work old new
entered_change s change rows session work old mid new gives added =
    let work1 = record work { id = id_for work.id old.txns.next } in
    let session1 = record session { work = Some work1 } in
    let is = added session1 work1 (record { session_is = gives.now; work_is = refl }) in
    let after = record session1 { can_change = false; work = Some (record work1 { own = work1.own + 1 }) } in
    record {
      now = rw is (set_here mid.sessions s session1 after gives.now);
      others = λ t differs. rw is (set_other mid.sessions s t after differs ∙ gives.others t differs);
      count = rw is (length-set mid.sessions s after ∙ gives.count);
      rest = rw (is, gives.rest) refl;
    }

-- the work of a session that has it
pub one_work : (s : ℕ) (a b : Session) (v w : Work) (state : WorldState) → HasWork s a v state → HasWork s b w state → v ≡ w
one_work s a b v w state first second = cc

-- what a session tells of its transaction
pub told : (s : ℕ) (session : Session) (work : Work) (state : WorldState) (standing : Standing) → HasWork s session work state
    → standing ≡ standing_of session → (standing.txn ≡ Some work.txn) × (standing.id ≡ work.id)
told s session work state standing has is = rw (is, has.work_is) (refl, refl)

-- the transaction that was told of is given its id
pub gives_told : (s : ℕ) (x session : Session) (w work : Work) (old new : WorldState) (standing : Standing) (txn : ℕ) → HasWork s x w old
    → IsListed s w old → HasWork s session work old → standing ≡ standing_of x → standing.txn ≡ Some txn → standing.id ≡ 0
    → new ≡ identified txn old → GivesId s session work old new
gives_told s x session w work old new standing txn has listed also is txn_told none given =
    let same = one_work s x session w work old has also in
    let tells = told s x w old standing has is in
    let txn_is = one_found txn w.txn txn_told tells.0 ∙ ap (λ (k : Work). k.txn) same in
    let id_is = ap (λ (k : Work). k.id) (sym same) ∙ sym tells.1 ∙ none in
    gives_new_id s session work old new also (rw same at listed) id_is (given ∙ ap (λ t. identified t old) txn_is)
