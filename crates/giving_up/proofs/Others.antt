-- An entry of another session leaves what is known of a statement that ends.
use Rattle.std.proofs.Common.{◌≡◌, ◌≢◌, ◌<◌, ℕ, Bool, true, false, Some, None, List, ◌∷◌, ◌++◌, length, take, reverse, refl, sym, ap, subst, ◌∙◌, ◌⊎◌, inl, inr}
use Rattle.std.specs.Prelude.{is_some}
use Rattle.std.specs.List.{AllByRecursion, list_any}
use Rattle.inno_types.specs.declared.value.Schema.{Schema}
use Rattle.inno_types.specs.declared.stmt.Stmt.{Stmt}
use Rattle.inno_types.specs.declared.reply.Reply.{Reply}
use Rattle.inno_db.specs.Database.{Database, Place}
use Rattle.inno_db.specs.Outcome.{outcome}
use Rattle.inno_db.specs.declared.change.Change.{Change}
use Rattle.inno_model.specs.declared.event.Event.{Event}
use Rattle.inno_model.specs.Past.{is_of, under_way, before_item, of_item, did, begins_txn, commits_txn, rolls_back_txn, level, own, awaits_ack}
use Rattle.inno_model.specs.Moments.{Sometime}
use Rattle.inno_model.proofs.Untouched.{untouched}
use Rattle.sql_grammar.specs.Grammar.{Spells}
use Rattle.sql_history.specs.Items.{is_over, own_before, base, point, HasMade}
use Rattle.sql_history.specs.Settings.{Setting, HasSet}
use Rattle.sql_history.specs.Statements.{refused_at_once}
use Rattle.sql_history.specs.Legal.{Takes}
use Rattle.sql_history.specs.Waiting.{is_victim}
use Rattle.shared_lists.specs.Tasks.{Idle, MayTakeBack}
use Rattle.shared_lists.specs.State.{State, task_of}
use Rattle.law_past_agreement.specs.Order.{IsOfRow, IsNoOthers}
use Rattle.sql_lists.specs.Steps.{IsTaken, StaysRunning}
use Rattle.sql_lists.proofs.Moving.{AddingOne, stays_running}
use Rattle.sql_lists.proofs.Staying.{other_of, not_starting, at_work, point_now, point_stays}
use Rattle.law_db.specs.Beside.{touches, AreOfRows}
use Rattle.law_db.proofs.Apart.{schemas_stay}
use Rattle.law_claims.specs.Claims.{Tables, Basis, KeepsBasis, Stands, GoesBeside}
use Rattle.law_claims.proofs.Standing.{of_rows, rests_as, stands_then, stands_as}
use Rattle.law_claims.proofs.Keeping.{kept_on, goes_beside}
use Rattle.giving_up.specs.declared.leaving.Work.{Work}
use Rattle.giving_up.specs.declared.leaving.Leaving.{Leaving}
use Rattle.giving_up.specs.declared.leaving.Leaving.TheVariants as leaving
use Rattle.giving_up.specs.Replies.{AnswersAlike, HasReply, MayAnswer}
use Rattle.giving_up.specs.Ends.{IsClosing, IsFailed}
use Rattle.giving_up.specs.Leaving.{Joins, HasOpened, InTxn, IsWorking, MovesOn, IsBackingOut, MayGoBack, IsLeaving}
use Rattle.giving_up.proofs.Touched.{later_rows, touched_later}
use Rattle.giving_up.proofs.Replies.{reply_stays, reply_goes_on}
use Rattle.giving_up.proofs.Ends.{Spares, spares_other, closing_on, failed_on}

module _ (old new : State) (t s : ℕ) (differ : t ≢ s) (adding : AddingOne t old new) (keeps : old.writer ≡ Some s → new.writer ≡ Some s)
    (task-is : task_of s new ≡ task_of s old) where
  other : (e : Event) → IsNoOthers t e → is_of s e ≡ false
  other e mine = other_of e t s mine (λ is. differ (sym is))

  -- ---- what is the session's own

  pub item_is : under_way s new.past ≡ under_way s old.past
  item_is = elim adding [ inl same ↦ ap (under_way s) same | inr a ↦ ap (under_way s) a.2 ∙ (untouched a.0 old.past s (other a.0 a.1)).item ]

  pub before_is : before_item s new.past ≡ before_item s old.past
  before_is = elim adding [ inl same ↦ ap (before_item s) same | inr a ↦ ap (before_item s) a.2 ∙ (untouched a.0 old.past s (other a.0 a.1)).before ]

  pub entries_are : of_item s new.past ≡ of_item s old.past
  entries_are = elim adding [ inl same ↦ ap (of_item s) same | inr a ↦ ap (of_item s) a.2 ∙ (untouched a.0 old.past s (other a.0 a.1)).entries ]

  pub level_is : level s new.past ≡ level s old.past
  level_is = elim adding [ inl same ↦ ap (level s) same | inr a ↦ ap (level s) a.2 ∙ (untouched a.0 old.past s (other a.0 a.1)).level_is ]

  pub own_is : own s new.past ≡ own s old.past
  own_is = elim adding [ inl same ↦ ap (own s) same | inr a ↦ ap (own s) a.2 ∙ (untouched a.0 old.past s (other a.0 a.1)).own_is ]

  pub had_is : own_before s new.past ≡ own_before s old.past
  had_is = elim adding [ inl same ↦ ap (own_before s) same | inr a ↦ ap (own_before s) a.2 ∙ (at_work a.0 old.past s (other a.0 a.1)).own_is ]

  pub over_is : is_over s new.past ≡ is_over s old.past
  over_is = elim adding [ inl same ↦ ap (is_over s) same | inr a ↦ ap (is_over s) a.2 ∙ (at_work a.0 old.past s (other a.0 a.1)).over ]

  pub did_is : (test : Event → Bool) → did test s new.past ≡ did test s old.past
  did_is test = ap (list_any test) entries_are

  pub some_on : (P : List Event → Type 0) → Sometime P s old.past → Sometime P s new.past
  some_on P was =
      elim adding [ inl same ↦ subst (Sometime P s) (sym same) was | inr a ↦ subst (Sometime P s) (sym a.2) (inr (not_starting a.0 s (other a.0 a.1), was)) ]

  pub point_is : is_over s old.past ≡ true → point s new.past ≡ point s old.past
  point_is over =
      elim adding [
        | inl same ↦ ap (point s) same
        | inr a ↦ ap (point s) a.2 ∙ point_stays a.0 old.past s over
            ((at_work a.0 old.past s (other a.0 a.1)).over ∙ over)
      ]

  -- ---- what the statement rests on

  module _ (basis : Basis) (kept : KeepsBasis s (base s old.past).schemas basis old.past old.writer)
      (own-rows : AreOfRows (own_before s old.past)) (had : List Change) (own-parts : own s old.past ≡ had ++ own_before s old.past)
      (among : (place : Place) → touches (base s old.past).schemas (own s old.past) place ≡ true
      → touches (base s old.past).schemas basis.changes place ≡ true) where
    -- what the statement acts on goes on beside it
    pub beside : GoesBeside basis s old.past new.past
    beside =
        let schemas = (base s old.past).schemas in
        goes_beside old new t s differ adding keeps basis kept own-rows (λ place before.
        among place (ap (λ (cs : List Change). touches schemas cs place) own-parts ∙ touched_later schemas had (own_before s old.past) place before))

    pub schemas_are : (base s new.past).schemas ≡ (base s old.past).schemas
    schemas_are =
        ap (λ (db : Database). db.schemas) beside.base_is
        ∙ schemas_stay (base s old.past) beside.others (of_rows (base s old.past).schemas beside.others (beside.leaves Tables tt))

    pub keeps_on : KeepsBasis s (base s new.past).schemas basis new.past new.writer
    keeps_on claim rests =
        kept_on old new t s differ adding keeps claim (kept claim (rests_as (base s new.past).schemas (base s old.past).schemas schemas_are basis claim rests))

    pub among_on : (place : Place) → touches (base s new.past).schemas (own s new.past) place ≡ true
        → touches (base s new.past).schemas basis.changes place ≡ true
    among_on place mine =
        ap (λ (schemas : List Schema). touches schemas basis.changes place) schemas_are
        ∙ among place (ap (λ (cs : List Change). touches (base s old.past).schemas cs place) (sym own_is)
        ∙ (ap (λ (schemas : List Schema). touches schemas (own s new.past) place) (sym schemas_are) ∙ mine))

    pub stands_on : (Holds : Database → Type 0) → Stands basis Holds (base s old.past) → Stands basis Holds (base s new.past)
    stands_on Holds stands =
        subst (Stands basis Holds) (sym beside.base_is) (stands_then basis Holds (base s old.past) beside.others stands beside.leaves)

  -- ---- its transaction

  abbrev pub takes_on : (statement : Stmt) → Takes Spells s statement old.past → Takes Spells s statement new.past
  takes_on statement takes =
      record {
        asks = (takes.asks.0, item_is ∙ takes.asks.1, takes.asks.2);
        setting = takes.setting;
        is_set = subst (λ p. HasSet Spells s p takes.setting) (sym before_is) takes.is_set;
        not_refused = some_on (λ g. refused_at_once s takes.setting statement g ≡ None) takes.not_refused;
      }

  was_level : level s (before_item s new.past) ≡ level s (before_item s old.past)
  was_level = ap (level s) before_is

  had_own : own s (before_item s new.past) ≡ own s (before_item s old.past)
  had_own = ap (own s) before_is

  opened_on : HasOpened s old.past → HasOpened s new.past
  opened_on o = record { was_closed = was_level ∙ o.was_closed; had_none = had_own ∙ o.had_none; begun = did_is begins_txn ∙ o.begun }

  joins_on : Joins s old.past → Joins s new.past
  joins_on j =
      record { was_open = ap is_some was_level ∙ j.was_open; stays = level_is ∙ (j.stays ∙ sym was_level); not_begun = did_is begins_txn ∙ j.not_begun }

  in_txn_on : (alone : Bool) (setting : Setting) → InTxn alone setting s old.past → InTxn alone setting s new.past
  in_txn_on true setting txn = (opened_on txn.0, txn.1)
  in_txn_on false setting txn = elim txn [ inl j ↦ inl (joins_on j) | inr o ↦ inr (opened_on o.0, o.1) ]

  pub working_on : (statement : Stmt) (alone : Bool) → IsWorking s statement alone old.past → IsWorking s statement alone new.past
  working_on statement alone w =
      record {
        takes = takes_on statement w.takes;
        writes = w.writes;
        in_txn = in_txn_on alone w.takes.setting w.in_txn;
        is_open = ap is_some level_is ∙ w.is_open;
        not_committed = did_is commits_txn ∙ w.not_committed;
        not_rolled_back = did_is rolls_back_txn ∙ w.not_rolled_back;
        no_victim = did_is is_victim ∙ w.no_victim;
        had = had_is ∙ (w.had ∙ sym had_own);
        rows_alone = subst (AllByRecursion IsOfRow) (sym own_is) w.rows_alone;
      }

  pub taken_on : (statement : Stmt) → IsTaken s statement old.past → IsTaken s statement new.past
  taken_on statement taken =
      record {
        takes = takes_on statement taken.takes;
        nothing = entries_are ∙ taken.nothing;
        rows_alone = subst (AllByRecursion IsOfRow) (sym own_is)
            taken.rows_alone;
      }

  -- ---- its changes are taken back

  pub own_rows : (had : List Change) → own s old.past ≡ had ++ own_before s old.past → AllByRecursion IsOfRow (own s old.past)
      → AreOfRows (own_before s old.past)
  own_rows had parts alone = later_rows had (own_before s old.past) (subst (AllByRecursion IsOfRow) parts alone)

  back_on : (before : ℕ) → MayGoBack before s old.past (task_of s old) → MayGoBack before s new.past (task_of s new)
  back_on before back =
      subst (λ (changes : List Change). (task_of s new ≡ Idle) ⊎ (MayTakeBack (task_of s new) × (before < length changes))) (sym own_is)
      (subst (MayGoBack before s old.past) (sym task-is) back)

  module _ (work : Work) (r : IsBackingOut old.past old.writer s work) where
    backing_with : (reply : HasReply s r.statement work.kept new.past)
        → (is_over s new.past ≡ true) ⊎ MovesOn s reply.count work.kept r.statement new.past new.writer → IsBackingOut new.past new.writer s work
    backing_with reply moves =
        record {
          statement = r.statement;
          working = working_on r.statement work.alone r.working;
          before_is = r.before_is ∙ ap length (sym had_is);
          same = r.same;
          backs = r.backs;
          reply = reply;
          moves = moves;
          rest = r.rest;
          own_is = own_is ∙ (r.own_is ∙ ap (λ changes. r.rest ++ changes) (sym had_is));
        }

    -- its changes at a point that goes on with the past
    made_on : is_over s old.past ≡ false → HasMade r.reply.count s (outcome r.statement (base s old.past)).changes new.past
    made_on not-over =
        let was : HasMade r.reply.count s (outcome r.statement (base s old.past)).changes old.past =
        subst (λ p. HasMade r.reply.count s (outcome r.statement (base s p)).changes p) (point_now old.past s not-over) r.reply.made in
        own_is ∙ (was ∙ ap (λ changes. reverse (take r.reply.count (outcome r.statement (base s old.past)).changes) ++ changes) (sym had_is))

    moves_on : MovesOn s r.reply.count work.kept r.statement old.past old.writer → IsBackingOut new.past new.writer s work
    moves_on m =
        let not-over = over_is ∙ m.not_over in
        let is-open = ap is_some level_is ∙ r.working.is_open in
        elim m.stays [
          | inl none ↦
              let reply : HasReply s r.statement work.kept new.past =
              record {
                was_open = ap (λ p. is_some (level s p)) (point_now new.past s not-over) ∙ is-open;
                count = 0;
                made =
                    subst (λ p. HasMade 0 s (outcome r.statement (base s p)).changes p) (sym (point_now new.past s not-over))
                    (own_is ∙ (nothing_made none.1 ∙ sym had_is));
                answers = subst (λ (kept : Reply). MayAnswer s r.statement 0 kept new.past) (sym none.0) tt;
              } in
              backing_with reply (inr (record { not_over = not-over; stays = inl (none.0, refl) }))
          | inr k ↦
              let rows = own_rows r.rest r.own_is r.working.rows_alone in
              let goes = beside k.basis k.keeps rows r.rest r.own_is k.among in
              let alike : AnswersAlike r.reply.count work.kept r.statement (base s new.past) (base s old.past) =
              subst (λ (db : Database). AnswersAlike r.reply.count work.kept r.statement db (base s old.past)) (sym goes.base_is)
              (k.stands goes.others goes.leaves) in
              backing_with (reply_goes_on s old.past new.past some_on (point_now old.past s m.not_over) (point_now new.past s not-over)
              is-open r.statement work.kept r.backs r.reply alike (made_on m.not_over)) (inr (record {
                not_over = not-over;
                stays = inr (record {
                  basis = k.basis;
                  keeps = keeps_on k.basis k.keeps rows r.rest r.own_is k.among;
                  among = among_on k.basis k.keeps rows r.rest r.own_is k.among;
                  stands = stands_as k.basis (λ db. AnswersAlike r.reply.count work.kept r.statement db (base s old.past))
                      (λ db. AnswersAlike r.reply.count work.kept r.statement db (base s new.past)) (base s new.past)
                      (λ db was. record { changes = was.changes ∙ sym alike.changes; reply = λ is. was.reply is ∙ sym (alike.reply is) })
                      (stands_on k.basis k.keeps rows r.rest r.own_is k.among
                      (λ db. AnswersAlike r.reply.count work.kept r.statement db (base s old.past)) k.stands);
                });
              }))
        ] where
          nothing_made : r.reply.count ≡ 0 → own s old.past ≡ own_before s old.past
          nothing_made none =
              let was : HasMade r.reply.count s (outcome r.statement (base s old.past)).changes old.past =
              subst (λ p. HasMade r.reply.count s (outcome r.statement (base s p)).changes p) (point_now old.past s m.not_over) r.reply.made in
              subst (λ n. HasMade n s (outcome r.statement (base s old.past)).changes old.past) none was

    backing_on : IsBackingOut new.past new.writer s work
    backing_on = elim r.moves [
      | inl over ↦ backing_with (reply_stays s old.past new.past some_on (point_is over) r.statement work.kept r.reply) (inl (over_is ∙ over))
      | inr m ↦ moves_on m
    ]

  -- ---- a transaction that has ended

  by_entry : (P : List Event → Type 0) → ((e : Event) → Spares e old.past s → P old.past → P (e ∷ old.past)) → P old.past → P new.past
  by_entry P on was =
      elim adding [ inl same ↦ subst P (sym same) was | inr a ↦ subst P (sym a.2) (on a.0 (spares_other a.0 old.past s (other a.0 a.1)) was) ]

  acks_are : awaits_ack (of_item s new.past) ≡ awaits_ack (of_item s old.past)
  acks_are = ap awaits_ack entries_are

  -- all that is known
  pub leaving_on : (m : Leaving) → IsLeaving old s m → IsLeaving new s m
  leaving_on (leaving.BackingOut work) r = (backing_on work r.0, back_on work.before r.1)
  leaving_on (leaving.Failed alone) r = (by_entry (IsFailed s alone) (λ e spares. failed_on e old.past s spares alone) r.0, task-is ∙ r.1)
  leaving_on (leaving.Unacked kept given) r =
      (by_entry (IsClosing s kept given) (λ e spares. closing_on e old.past s spares kept given) r.0, acks_are ∙ r.1, level_is ∙ r.2, task-is ∙ r.3)
  leaving_on (leaving.Ending kept given) r =
      (by_entry (IsClosing s kept given) (λ e spares. closing_on e old.past s spares kept given) r.0, acks_are ∙ r.1, task-is ∙ r.2)
  leaving_on leaving.Ended r = absurd r

pub stays : StaysRunning IsLeaving
stays = stays_running IsLeaving (λ old new t s m differ adding keeps task-is known. leaving_on old new t s differ adding keeps task-is m known)
