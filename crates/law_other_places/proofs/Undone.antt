-- The newest change of a session is taken back: its rows, then its undo record, and then the history tells it. The world agrees with its past
-- then, and logs stand. What all sessions know of their rows stands in `DoneSteps`.
use Rattle.std.proofs.Common.{◌≡◌, ◌≢◌, ◌∙◌, inl, ⊎_elim, refl, sym, ap, subst, ℕ, ◌+◌, ◌-◌, ◌≤◌, ◌<◌, ◌^◌, true, false, cond, Bool, List, []}
use Rattle.std.proofs.Common.{◌∷◌, length, None, Some, slice_get, arith}
use Rattle.std.proofs.{lemmas.List.length-set, lemmas.List.set-set, lemmas.Bool.Decides.nat_tests}
use Rattle.std.specs.Prelude.{slice_set, IsSome}
use Rattle.inno_types.specs.declared.value.Schema.{Schema}
use Rattle.inno_db.specs.{declared.change.Change.Change, declared.change.Change.TheVariants.Create}
use Rattle.inno_model.specs.{Past.own, Past.is_of, declared.event.Event.TheVariants.Undone}
use Rattle.inno_model.proofs.Untouched.{untouched}
use Rattle.store_api.specs.declared.answers.Undo.{Undo}
use Rattle.entries.specs.Index.{Index}
use Rattle.row_versions.specs.{declared.place.Place.Place, declared.version.Version.Version}
use Rattle.row_versions.specs.Chains.{Chains, versions_at, older, with_versions, is_same_place}
use Rattle.law_past_agreement.specs.{Order.IsOfRow, Rows.place_in}
use Rattle.law_past_agreement.proofs.Rows.{own_undone}
use Rattle.law_stored_rows.specs.Tables.{Said}
use Rattle.world.specs.State.{WorldState, Session, Work, HasWork}
use Rattle.world.specs.Told.{IsTold, LeavesRows}
use Rattle.law_world_agreement.specs.{Agreement.Agrees, Steps.IsTakenBackBy}
use Rattle.law_world_agreement.proofs.{Opening.set_here, Opening.set_other, Changing.one_work, Entries.taken_back_agrees}
use Rattle.row_changes.proofs.Sessions.{same_pairs, same_versions}
use Rattle.undo_apply.specs.{Stages.IsDone, Stages.IsPuttingBack, declared.work_room.WorkRoom.WorkRoom}
use Rattle.law_logged_changes.specs.{Logs.LogsAgree, Steps.ChangesPairsAlone, Steps.LeavesLogs, Steps.IsToCut, Steps.HasCut}
use Rattle.law_logged_changes.proofs.{TakenBack.to_cut_by_history, Cutting.has_cut, Leaving.done_beside, Leaving.work_beside, Leaving.rows_leave}
use Rattle.law_logged_changes.proofs.Leaving.{cut_left, cut_again, left_told}
use Rattle.desks.specs.Holding.{AreFew, IsLast}
use Rattle.law_other_places.specs.{Beside.LeavesSession, Undone.IsUndone}

pub of_others : (t keep s : ℕ) → s ≢ t → is_of s (Undone t keep) ≡ false
of_others t keep s differs = grind (arith, nat_tests, differs)

pub older_fewer : (versions : List Version) → length (older versions) ≤ length versions
older_fewer [] = omega arith
older_fewer (version ∷ versions) = omega arith

fewer_if : (b : Bool) (versions : List Version) → length (cond b (older versions) versions) ≤ length versions
fewer_if true versions = older_fewer versions
fewer_if false versions = omega arith

-- a change that has a place is one of a row
has_place : (schemas : List Schema) (change : Change) (place : Place) → place_in schemas change ≡ Some place → IsOfRow change
has_place schemas (Create schema) place is = absurd (let e : None ≡ Some place = is in cc)
has_place schemas change place is = record {}

module _ {t keep : ℕ} {chains : Chains} {beside : Said} {source mid cut new : WorldState} {undo : Undo} {room next : WorkRoom}
    (u : IsUndone t keep chains beside source mid cut new undo room next) where
  abbrev pub place : Place
  place = u.going.place

  abbrev pub last : IsLast source t u.going.logged place
  last = u.going.last

  abbrev pub after : Chains
  after = with_versions place older chains

  pub rest_mid : ChangesPairsAlone source mid
  rest_mid = done_beside chains beside place t undo room next source mid u.done

  abbrev pub work_cut : Work
  work_cut = record u.back.work { log = u.back.log }

  abbrev pub session_cut : Session
  session_cut = record u.back.session { undo_room = 0; next_pointer = u.back.next; work = Some work_cut }

  abbrev pub work_now : Work
  work_now = record work_cut { own = work_cut.own - 1 }

  abbrev pub session_now : Session
  session_now = record session_cut { work = Some work_now }

  pub sessions_now : new.sessions ≡ slice_set mid.sessions t session_now
  sessions_now =
      ap (λ (state : WorldState). state.sessions) u.new_is ∙ ap (λ (state : WorldState). slice_set state.sessions t session_now) u.back.rest
      ∙ set-set mid.sessions t session_cut session_now

  pub has_work_now : HasWork t session_now work_now new
  has_work_now = record {
    session_is = ap (λ (sessions : List Session). slice_get sessions t) sessions_now
        ∙ set_here mid.sessions t u.back.session session_now u.back.has_work.session_is;
    work_is = refl;
  }

  abbrev pub entered : WorldState → WorldState
  entered state = record state
      { sessions = new.sessions; past = Undone t keep ∷ state.past; indexes = new.indexes; versions = new.versions; paged = new.paged }

  -- the world but for its sessions, pairs and kept versions
  pub is_then : new ≡ entered source
  is_then =
      ap (λ (state : WorldState). record state { sessions = new.sessions; indexes = new.indexes; versions = new.versions; paged = new.paged }) u.new_is
      ∙ ap entered u.back.rest ∙ ap entered rest_mid

  pub past_now : new.past ≡ Undone t keep ∷ source.past
  past_now = ap (λ (state : WorldState). state.past) is_then

  pub others_left : (s : ℕ) → s ≢ t → LeavesSession s source new
  others_left s differs = record {
    session = ap (λ (sessions : List Session). slice_get sessions s) sessions_now ∙ set_other mid.sessions t s session_now differs
        ∙ ap (λ (state : WorldState). slice_get state.sessions s) rest_mid;
    own_is = ap (own s) past_now ∙ (untouched (Undone t keep) source.past s (of_others t keep s differs)).own_is;
  }

  pub places_left : (index : ℕ) → (new.indexes index).place ≡ (source.indexes index).place
  places_left index =
      ap (λ (indexes : ℕ → Index). (indexes index).place)
      (ap (λ (state : WorldState). state.indexes) u.new_is ∙ ap (λ (state : WorldState). state.indexes) u.back.rest)
      ∙ ⊎_elim (λ stays. stays.places index) (λ puts. puts.places index) u.done.changes

  pub had : HasWork t u.back.session u.back.work source
  had = work_beside t u.back.session u.back.work source mid rest_mid u.back.has_work

  own_length : length (own t source.past) ≡ length last.before + 1
  own_length = let is = ap length last.own_is in omega (arith, is)

  taken_by : Agrees chains source → IsTakenBackBy t keep source new
  taken_by agrees = record {
    session = u.back.session;
    work = u.back.work;
    had = had;
    session_now = session_now;
    work_now = work_now;
    has = has_work_now;
    txn = refl;
    level = refl;
    id_is = refl;
    view = refl;
    own = let count = agrees.own t u.back.session u.back.work had in let keep_is = u.keep_is in omega (arith, count, keep_is);
    past = past_now;
    names = ap (λ (state : WorldState). state.names) is_then;
    schemas = ap (λ (state : WorldState). state.schemas) is_then;
    txns = ap (λ (state : WorldState). state.txns) is_then;
    others = λ s differs. (others_left s differs).session;
    count = ap length sessions_now ∙ length-set mid.sessions t session_now ∙ ap (λ (state : WorldState). length state.sessions) rest_mid;
  }

  pub agrees_now : Agrees chains source → length new.past < 2 ^ 63 → Agrees after new
  agrees_now agrees few =
      let long = ap length past_now in
      let keep_is = u.keep_is in
      taken_back_agrees chains after source new t keep last.change last.before place agrees last.own_is (omega (arith, keep_is, own_length))
      (has_place source.schemas last.change place last.place_is) last.place_is (taken_by agrees) (λ other. refl) (omega (arith, long, few))

  pub few_now : AreFew chains source.past → AreFew after new.past
  few_now few other =
      let long = ap length past_now in
      let less : length (versions_at other after) ≤ length (versions_at other chains) = fewer_if (is_same_place place other) (chains other) in
      let most = few other in
      omega (arith, less, most, long)

  pub own_now : own t new.past ≡ last.before
  own_now = let keep_is = u.keep_is in
      ap (own t) past_now ∙ own_undone t keep last.change last.before source.past last.own_is (omega (arith, keep_is, own_length))

  -- ---- logs

  pub entry_leaves : LeavesRows cut new
  entry_leaves = subst (LeavesRows cut) (sym u.new_is)
      (record { schemas = refl; pairs = λ index. same_pairs (cut.indexes index).pairs; versions = same_versions cut.versions })

  pub told_cut : IsTold new → IsTold cut
  told_cut = left_told cut new entry_leaves

  pub told_mid : IsTold new → IsTold mid
  told_mid told = let was = told_cut told in record {
    pairs = λ index. subst (λ (state : WorldState). IsSome (state.indexes index).pairs) u.back.rest (was.pairs index);
    versions = u.back.told was.versions;
  }

  pub putting : IsPuttingBack chains beside place u.going.logged.undo room source
  putting = subst (λ (x : Undo). IsPuttingBack chains beside place x room source) u.going.undo_is u.going.putting

  pub done_by : IsDone chains beside place u.going.logged.undo room next source mid
  done_by = subst (λ (x : Undo). IsDone chains beside place x room next source mid) u.going.undo_is u.done

  module _ (logs : LogsAgree source) where
    pub to_cut : IsToCut t u.going.logged last.log last.before mid
    to_cut = to_cut_by_history t chains after beside source mid last.session last.work u.going.logged last.log last.change last.before place room next logs
        u.alone last.has_work last.log_is last.own_is last.place_is putting done_by (λ other. refl)

    has_work_cut : HasWork t session_cut work_cut cut
    has_work_cut = record {
      session_is = ap (λ (state : WorldState). slice_get state.sessions t) u.back.rest
          ∙ set_here mid.sessions t u.back.session session_cut u.back.has_work.session_is;
      work_is = refl;
    }

    left_logs : LeavesLogs (λ s. s ≢ t) cut new
    left_logs s session work differs has = inl (record {
      session = session;
      before = work;
      has_work = record {
        session_is =
            sym (ap (λ (state : WorldState). slice_get state.sessions s) u.new_is ∙ set_other cut.sessions t s session_now differs) ∙ has.session_is;
        work_is = has.work_is;
      };
      log_is = refl;
      own_is = ap (λ (state : WorldState). own s state.past) u.new_is ∙ (untouched (Undone t keep) cut.past s (of_others t keep s differs)).own_is;
    })

    pub logs_now : LogsAgree new
    logs_now =
        let cut_now : HasCut t last.log last.before cut = has_cut t mid cut u.going.logged last.log last.before to_cut u.back in
        let log_is : work_now.log ≡ last.log =
        ap (λ (w : Work). w.log) (one_work t session_cut cut_now.session work_cut cut_now.work cut has_work_cut cut_now.has_work) ∙ cut_now.log_is in
        cut_again t last.log last.before new
        (cut_left t cut new last.log last.before session_now work_now (rows_leave cut new entry_leaves) left_logs cut_now has_work_now log_is) own_now
