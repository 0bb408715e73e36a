-- What a transaction has done at its commit.
use Rattle.std.proofs.Common.{◌≡◌, ◌∙◌, ap, sym, subst, refl, ℕ, ◌≤◌, Bool, true, false, List, ◌∷◌, ◌++◌, length, reverse, Option, Some, None, inl, inr, ◌⊎◌, arith}
use Rattle.inno_types.specs.declared.reply.Item.TheVariants.{Sql}
use Rattle.inno_types.specs.declared.reply.Reply.{Reply}
use Rattle.inno_types.specs.declared.value.Schema.{Schema}
use Rattle.inno_types.specs.declared.stmt.Definition.{Definition}
use Rattle.inno_types.specs.declared.stmt.Stmt.{Stmt}
use Rattle.inno_types.specs.declared.stmt.Stmt.TheVariants as stmt
use Rattle.inno_db.specs.Database.{Database}
use Rattle.inno_db.specs.Outcome.{outcome}
use Rattle.inno_model.specs.declared.event.Event.{Event}
use Rattle.inno_model.specs.Past.{under_way, before_item, level, own, did, begins_txn, commits, committed, opening, changed}
use Rattle.sql_history.specs.declared.settings.Save.{Save}
use Rattle.sql_history.specs.Items.{Language, Asks, base, point, HasMade}
use Rattle.sql_history.specs.Settings.{Setting}
use Rattle.sql_history.specs.Statements.{is_on_rows}
use Rattle.sql_history.specs.Answers.{MaySee, MakesFor}
use Rattle.sql_history.specs.Counts.{has_stopped}
use Rattle.sql_history.specs.Legal.{IsLegal, MayCommit, CommitsBy, IsSettled, IsCreation, is_alone, sight_in}
use Rattle.sql_history.specs.Serial.{Piece, HasWorked, compared}
use Rattle.sql_history.proofs.Pasts.{point_now}
use Rattle.law_db.specs.RowChanges.{AreOfTables}
use Rattle.law_db.proofs.Apart.{schemas_stay}
use Rattle.law_histories.specs.Work.{AllIn, committed_db, IsReplied, Tracks, settled}
use Rattle.law_histories.proofs.Pieces.{tracks-in}
use Rattle.law_histories.proofs.Alike.{ReadsOne, keeps_changes, never_begins}
use Rattle.law_histories.proofs.Entries.{open_not, begun_settled, now_base, level_kept, true_false}
use Rattle.law_histories.proofs.Items.{kept_own, none_begun}
use Rattle.law_isolation.specs.Calm.{SeesLatest, IsCalm}
use Rattle.law_isolation.specs.Work.{HasWork}
use Rattle.law_isolation.proofs.Standing.{stands_whole}
use Rattle.law_isolation.proofs.Works.{made_all, makes_all, sees_work}
use Rattle.law_isolation.proofs.Spans.{alone_closed}
use Rattle.law_isolation.proofs.Creating.{creation_base}
use Rattle.law_isolation.proofs.RowsOnly.{rows_make_no_table}
use Rattle.law_isolation.proofs.Made.{of_rows, tables-append, tables-turned, tracks_tables, done_answered}

-- what commits a transaction that was open before its item
by_kind : (s : ℕ) (setting : Setting) (a : Stmt) (past : List Event) → CommitsBy s setting a past
    → ((is_on_rows a ≡ true) × IsSettled s setting a past) ⊎ (keeps_changes a ≡ true)
by_kind s setting stmt.Commit past by = inr refl
by_kind s setting (stmt.Begin snapshot) past by = inr refl
by_kind s setting (stmt.SetAutocommit true) past by = inr refl
by_kind s setting (stmt.SetAutocommit false) past by = (let e = by.0 in cc)
by_kind s setting (stmt.CreateTable table skips definitions) past by = inr refl
by_kind s setting (stmt.Select selected table condition lock) past by = inl (refl, by.1)
by_kind s setting (stmt.Insert table columns tuples) past by = inl (refl, by.1)
by_kind s setting (stmt.Update table sets condition) past by = inl (refl, by.1)
by_kind s setting (stmt.Delete table condition) past by = inl (refl, by.1)
by_kind s setting other past by = (let e = by.0 in cc)

abbrev HasMadeAll : ℕ → Stmt → List Event → Type 0
HasMadeAll s a past = HasMade (length (outcome a (base s past)).changes) s (outcome a (base s past)).changes past

-- and one that its item has begun
by_its_own : (s : ℕ) (setting : Setting) (a : Stmt) (past : List Event) → did begins_txn s past ≡ true → CommitsBy s setting a past
    → ((is_on_rows a ≡ true) × IsSettled s setting a past) ⊎ ((IsCreation a × HasMadeAll s a past) ⊎ ((never_begins a ≡ true) × (is_on_rows a ≡ false)))
by_its_own s setting stmt.Commit past begun by = inr (inr (refl, refl))
by_its_own s setting (stmt.Begin snapshot) past begun by = true_false begun by
by_its_own s setting (stmt.SetAutocommit true) past begun by = inr (inr (refl, refl))
by_its_own s setting (stmt.SetAutocommit false) past begun by = (let e = by.0 in cc)
by_its_own s setting (stmt.CreateTable table skips definitions) past begun by = elim by [ inl not ↦ true_false begun not | inr made ↦ inr (inl (tt, made)) ]
by_its_own s setting (stmt.Select selected table condition lock) past begun by = inl (refl, by.1)
by_its_own s setting (stmt.Insert table columns tuples) past begun by = inl (refl, by.1)
by_its_own s setting (stmt.Update table sets condition) past begun by = inl (refl, by.1)
by_its_own s setting (stmt.Delete table condition) past begun by = inl (refl, by.1)
by_its_own s setting other past begun by = (let e = by.0 in cc)

module _ (says : Language) (one : ReadsOne says) where
  -- the later reply, where it is known, is that of the outcome
  abbrev pub IsAnswered : ℕ → Option Reply → List Event → Type 0
  IsAnswered s later past =
      (r : Reply) (a : Stmt) → compared later ≡ Some r → Asks says s a past → did begins_txn s past ≡ true → r ≡ (outcome a (base s (point s past))).reply

  pub record CommitsWork (s : ℕ) (later : Option Reply) (past : List Event) : Type 0 where
    pub pieces : List Piece
    pub worked : HasWorked says s later past pieces
    pub saves : List Save
    pub tracks : Tracks (committed_db past) pieces saves (own s past)

  module _ (s : ℕ) (later : Option Reply) (past : List Event) (legal : IsLegal says past) (latest : SeesLatest says s past) (calm : IsCalm says s past)
      (runs : has_stopped past ≡ false) (may : MayCommit says s past) (work : HasWork says s past)
      (within : AllIn (opening past) (committed (commits past) past)) (answered : IsAnswered s later past) where
    abbrev pub text : List ℕ
    text = may.takes.asks.0

    abbrev asked : under_way s past ≡ Some (Sql text)
    asked = may.takes.asks.1

    abbrev pub before : Database
    before = changed (committed_db past) (settled s past)

    closed_before : IsSettled s may.takes.setting may.statement past → level s (before_item s past) ≡ None
    closed_before settles = alone_closed may.takes.setting.autocommit (level s (before_item s past)) settles.alone

    as_before : did begins_txn s past ≡ false → own s past ≡ settled s past
    as_before not =
        elim (by_kind s may.takes.setting may.statement past may.by) [
          | inl rows ↦
              let closed : level s past ≡ None = elim (level_kept says s past not) [ inl none ↦ none | inr same ↦ same ∙ closed_before rows.1 ] in
              open_not s past may.is_open closed
          | inr keeps ↦ kept_own says one s text may.statement may.takes.asks.2 keeps past legal asked not may.is_open
        ]

    -- all of the work of earlier items stands
    tracked : Tracks (committed_db past) work.pieces work.setting.saves (settled s past)
    tracked =
        let less : length (settled s past) ≤ length (own s past) =
        elim (did begins_txn s past) as (λ b. did begins_txn s past ≡ b → length (settled s past) ≤ length (own s past)) [
          | true ↦ λ begun. omega (arith, ap length (begun_settled says s (Sql text) past asked begun))
          | false ↦ λ not. omega (arith, ap length (as_before not))
        ] refl in
        stands_whole says s past (committed_db past) work.pieces work.setting.saves less (work.carries runs may.is_open)

    pub own_made : did begins_txn s past ≡ true → own s past ≡ reverse (outcome may.statement before).changes ++ settled s past
    own_made begun =
        elim (by_its_own s may.takes.setting may.statement past begun may.by) [
          | inl rows ↦
              let settles = rows.1 in
              let here = point_now s past settles.not_over in
              let db_is =
              sees_work says one s text past legal latest asked may.statement may.takes.asks.2 rows.0 (inr (closed_before settles)) settles.not_over within
              (tracks-in (committed_db past) work.pieces work.setting.saves (settled s past) tracked) settles.l (is_alone s may.takes.setting past)
              settles.answers.db settles.level_is
              (subst (λ (h : List Event). MaySee (sight_in settles.l s may.takes.setting may.statement past) s may.statement settles.answers.db h) here
              settles.answers.sees) in
              let changes = (outcome may.statement settles.answers.db).changes in
              made_all says one s text past legal latest asked changes
              (makes_all settles.reply s changes past settles.not_refused
              (subst (λ (h : List Event). MakesFor settles.reply s changes h) here settles.answers.changes))
              ∙ ap (λ (d : Database). reverse (outcome may.statement d).changes ++ settled s past) db_is
          | inr (inl made) ↦
              made_all says one s text past legal latest asked (outcome may.statement (base s past)).changes made.1
              ∙ ap (λ (d : Database). reverse (outcome may.statement d).changes ++ settled s past) (now_base says s (Sql text) past legal asked)
          | inr (inr never) ↦ true_false begun (none_begun says one s text may.statement may.takes.asks.2 never.0 never.1 past legal asked)
        ]

    -- the rows at the item's point are still the latest
    base_stays : did begins_txn s past ≡ true → base s (point s past) ≡ before
    base_stays begun =
        elim (by_its_own s may.takes.setting may.statement past begun may.by) [
          | inl rows ↦ ap (base s) (point_now s past rows.1.not_over) ∙ now_base says s (Sql text) past legal asked
          | inr (inl made) ↦ creates may.statement made.0 may.takes.asks.2
          | inr (inr never) ↦ true_false begun (none_begun says one s text may.statement may.takes.asks.2 never.0 never.1 past legal asked)
        ]
      where
        creates : (a : Stmt) → IsCreation a → says text a → base s (point s past) ≡ before
        creates (stmt.CreateTable table skips definitions) is says_it =
            creation_base says s text table skips definitions says_it past legal calm asked begun may.is_open
        creates other is says_it = absurd is

    replied : did begins_txn s past ≡ true → IsReplied (compared later) (outcome may.statement before)
    replied begun =
        elim (compared later) as (λ c. compared later ≡ c → IsReplied c (outcome may.statement before)) [
          | None ↦ λ is. tt
          | Some r ↦ λ is. answered r may.statement is may.takes.asks begun ∙ ap (λ (d : Database). (outcome may.statement d).reply) (base_stays begun)
        ] refl

    pub commit_work : CommitsWork s later past
    commit_work =
        elim (did begins_txn s past) as (λ b. did begins_txn s past ≡ b → CommitsWork s later past) [
          | true ↦ λ begun. record {
            pieces = Piece.ran may.statement (compared later) ∷ work.pieces;
            worked = (work.pieces, work.done, inl (begun, (may.statement, may.takes.asks, refl)));
            saves = work.setting.saves;
            tracks = (settled s past, own_made begun, replied begun, tracked);
          }
          | false ↦ λ not. record {
            pieces = work.pieces;
            worked = (work.pieces, work.done, inr (not, refl));
            saves = work.setting.saves;
            tracks = subst (Tracks (committed_db past) work.pieces work.setting.saves) (sym (as_before not)) tracked;
          }
        ] refl

    -- A commit of rows makes no table. (One that makes a table is of its item's own.)
    pub makes_rows : ((table : List ℕ) (skips : Bool) (definitions : List Definition) → did begins_txn s past ≡ true → Asks says s
        (stmt.CreateTable table skips definitions) past → ⊥) → AreOfTables (committed_db past).schemas (own s past)
    makes_rows no_table =
        let earlier =
        tracks_tables (committed_db past) work.pieces work.setting.saves (settled s past) (done_answered says s past work.pieces work.done) tracked in
        elim (did begins_txn s past) as (λ b. did begins_txn s past ≡ b → AreOfTables (committed_db past).schemas (own s past)) [
          | false ↦ λ not. subst (AreOfTables (committed_db past).schemas) (sym (as_before not)) earlier
          | true ↦ λ begun.
              let rows : is_on_rows may.statement ≡ true = elim (by_its_own s may.takes.setting may.statement past begun may.by) [
                | inl rows ↦ rows.0
                | inr (inl made) ↦ absurd (creates begun may.statement made.0 may.takes.asks.2)
                | inr (inr never) ↦ true_false begun (none_begun says one s text may.statement may.takes.asks.2 never.0 never.1 past legal asked)
              ] in
              let changes = (outcome may.statement before).changes in
              let here =
              subst (λ (ss : List Schema). AreOfTables ss changes)
              (schemas_stay (committed_db past) (settled s past) (of_rows (committed_db past).schemas (settled s past) earlier))
              (rows_make_no_table may.statement before rows) in
              subst (AreOfTables (committed_db past).schemas) (sym (own_made begun))
              (tables-append (committed_db past).schemas (reverse changes) (settled s past) (tables-turned (committed_db past).schemas changes here)
              earlier)
        ] refl
      where
        creates : did begins_txn s past ≡ true → (a : Stmt) → IsCreation a → says text a → ⊥
        creates begun (stmt.CreateTable table skips definitions) is says_it = no_table table skips definitions begun (text, asked, says_it)
        creates begun other is says_it = is
