-- What the end of an item makes of its session's work: pieces, savepoints and changes go together again.
use Rattle.std.proofs.Common.{◌≡◌, ◌≢◌, ◌∙◌, ap, sym, subst, refl, ℕ, ◌≤◌, Bool, true, false, List, [], ◌∷◌, ◌++◌, length, length-append, take, reverse, Option, Some, None, inl, inr, arith}
use Rattle.std.specs.Prelude.{is_some}
use Rattle.std.proofs.lemmas.List.{take_all}
use Rattle.inno_types.specs.declared.lock.Level.{Level}
use Rattle.inno_types.specs.declared.reply.Item.{Item}
use Rattle.inno_types.specs.declared.reply.Item.TheVariants as items
use Rattle.inno_types.specs.declared.reply.Item.TheVariants.{Sql}
use Rattle.inno_types.specs.declared.reply.Reply.{Reply}
use Rattle.inno_types.specs.declared.reply.Reply.TheVariants as replies
use Rattle.inno_types.specs.declared.reply.Reply.TheVariants.{Done, Count, Rows, Fail}
use Rattle.inno_types.specs.declared.reply.SqlError.{SqlError}
use Rattle.inno_types.specs.declared.reply.SqlError.TheVariants as errors
use Rattle.inno_types.specs.declared.stmt.Stmt.{Stmt}
use Rattle.inno_types.specs.declared.stmt.Stmt.TheVariants as stmt
use Rattle.inno_types.specs.declared.stmt.LevelScope.TheVariants as scope
use Rattle.inno_db.specs.declared.change.Change.{Change}
use Rattle.inno_db.specs.declared.outcome.Outcome.{Outcome}
use Rattle.inno_db.specs.Database.{Database}
use Rattle.inno_db.specs.Outcome.{outcome}
use Rattle.inno_model.specs.declared.event.Event.{Event}
use Rattle.inno_model.specs.Past.{under_way, before_item, of_item, level, own, did, begins_txn, oldest, commits, committed, opening, changed, IsOpen, IsClosed}
use Rattle.sql_history.specs.Items.{Language, Asks, is_over, base, own_before, point, HasMade}
use Rattle.sql_history.specs.Settings.{Setting, HasSet, SetByItem, set_by, saved, made_at, without}
use Rattle.sql_history.specs.Statements.{is_on_rows, sight_of}
use Rattle.sql_history.specs.Answers.{MaySee, MakesFor}
use Rattle.sql_history.specs.Waiting.{is_victim}
use Rattle.sql_history.specs.Counts.{has_stopped}
use Rattle.sql_history.specs.Legal.{IsLegal, is_alone, sight_in, AnswersRows, EndsRows, EndsTaken, EndsCreate, EndsSavepoint, EndsAutocommit, EndsAsked, EndsEarly, EndsItem, IsGivenUp, LeavesIt, CommittedFirst, BringsCommit}
use Rattle.sql_history.specs.Serial.{Piece, with_item, with_answer, DoesItem}
use Rattle.sql_history.proofs.Pasts.{point_now}
use Rattle.law_histories.specs.Work.{AllIn, committed_db, Tracks, settled}
use Rattle.law_histories.proofs.Placing.{AllIn-append}
use Rattle.law_histories.proofs.Pieces.{tracks-in, tracks-without}
use Rattle.law_histories.proofs.Alike.{ReadsOne, sets_nothing, keeps_changes}
use Rattle.law_histories.proofs.Entries.{before_settled, now_base, unbegun_settled, begun_settled, closed_own, legal_before, open_not}
use Rattle.law_histories.proofs.Outcomes.{is_answer, outcome-plain}
use Rattle.law_histories.proofs.Items.{IsUnmoved, set_kept, set_one, kept_own, begun_closed, empty_unmoved, backs_out, goes_on}
use Rattle.law_isolation.specs.Calm.{IsUnbroken, SeesLatest}
use Rattle.law_isolation.specs.Work.{HasWork}
use Rattle.law_isolation.proofs.Standing.{stands_whole, back_ends}

module _ (says : Language) where
  -- what the end of an item makes of that
  pub record Moves (s : ℕ) (item : Item) (reply : Reply) (past : List Event) (work : HasWork says s past) : Type 0 where
    pub pieces : List Piece
    pub setting : Setting
    pub does : DoesItem says (Some item) reply work.pieces pieces
    pub sets : SetByItem says (Some item) reply (length (own s past)) (is_some (level s past)) work.setting setting
    pub tracks : has_stopped past ≡ false → IsOpen s past → Tracks (committed_db past) pieces setting.saves (own s past)

  -- a reply that says nothing of work that was done
  abbrev pub is_idle : Item → Reply → Bool
  is_idle (items.Sql text) Done = false
  is_idle (items.Sql text) (Count n) = false
  is_idle (items.Sql text) (Rows rows) = false
  is_idle item reply = true

  idle_does : (item : Item) (reply : Reply) (pieces : List Piece) → is_idle item reply ≡ true → DoesItem says (Some item) reply pieces pieces
  idle_does (items.Sql text) Done pieces idle = (cc)
  idle_does (items.Sql text) (Count n) pieces idle = (cc)
  idle_does (items.Sql text) (Rows rows) pieces idle = (cc)
  idle_does (items.Sql text) other pieces idle = refl
  idle_does (items.Signal name) reply pieces idle = refl
  idle_does (items.Await name) reply pieces idle = refl

  idle_sets : (item : Item) (reply : Reply) (made : ℕ) (is_open : Bool) (setting : Setting) → is_idle item reply ≡ true
      → SetByItem says (Some item) reply made is_open setting setting
  idle_sets (items.Sql text) Done made is_open setting idle = (cc)
  idle_sets (items.Sql text) other made is_open setting idle = refl
  idle_sets (items.Signal name) reply made is_open setting idle = refl
  idle_sets (items.Await name) reply made is_open setting idle = refl

  unmoved : (s : ℕ) (past : List Event) (work : HasWork says s past) → IsUnmoved s past → has_stopped past ≡ false → IsOpen s past
      → Tracks (committed_db past) work.pieces work.setting.saves (own s past)
  unmoved s past work (inl closed) runs is_open = open_not s past is_open closed
  unmoved s past work (inr same) runs is_open =
      subst (Tracks (committed_db past) work.pieces work.setting.saves) (sym same)
      (stands_whole says s past (committed_db past) work.pieces work.setting.saves (omega (arith, ap length same)) (work.carries runs is_open))

  pub idle_moves : (s : ℕ) (item : Item) (reply : Reply) (past : List Event) (work : HasWork says s past) → is_idle item reply ≡ true
      → (has_stopped past ≡ false → IsUnmoved s past) → Moves s item reply past work
  idle_moves s item reply past work idle stays =
      record {
        pieces = work.pieces;
        setting = work.setting;
        does = idle_does item reply work.pieces idle;
        sets = idle_sets item reply (length (own s past)) (is_some (level s past)) work.setting idle;
        tracks = λ runs is_open. unmoved s past work (stays runs) runs is_open;
      }

with_rows : (a : Stmt) (reply : Reply) (pieces : List Piece) → is_on_rows a ≡ true → with_item a reply pieces ≡ with_answer a reply pieces
with_rows (stmt.Select selected table condition lock) reply pieces rows = refl
with_rows (stmt.Insert table columns tuples) reply pieces rows = refl
with_rows (stmt.Update table sets condition) reply pieces rows = refl
with_rows (stmt.Delete table condition) reply pieces rows = refl
with_rows other reply pieces rows = absurd (cc)

pub makes_all : (reply : Reply) (s : ℕ) (changes : List Change) (past : List Event) → ((error : SqlError) → reply ≢ Fail error)
    → MakesFor reply s changes past → HasMade (length changes) s changes past
makes_all (Fail error) s changes past not makes = absurd (not error refl)
makes_all other s changes past not makes = makes

module _ (says : Language) (one : ReadsOne says) (s : ℕ) (text : List ℕ) (past : List Event) (legal : IsLegal says past) (latest : SeesLatest says s past)
    (asked : under_way s past ≡ Some (Sql text)) where
  -- the changes of an item that made all of an outcome's
  pub made_all : (changes : List Change) → HasMade (length changes) s changes past → own s past ≡ reverse changes ++ settled s past
  made_all changes made =
      let whole : take (length changes) changes ≡ changes = take_all (length changes) changes (omega arith) in
      made ∙ ap (λ (cs : List Change). reverse cs ++ own_before s past) whole ∙ ap (λ (cs : List Change). reverse changes ++ cs)
      (before_settled says s (Sql text) past legal asked)

  -- what a statement on rows sees is the transaction's database before it
  module _ (statement : Stmt) (says_it : says text statement) (on_rows : is_on_rows statement ≡ true) (unbroken : IsUnbroken s past)
      (on : is_over s past ≡ false) (within : AllIn (opening past) (committed (commits past) past))
      (changes_within : AllIn (committed_db past) (settled s past)) where
    pub sees_work : (l : Level) (alone : Bool) (db : Database) → level s past ≡ Some l → MaySee (sight_of l alone statement) s statement db past
        → db ≡ changed (committed_db past) (settled s past)
    sees_work l alone db level_is sees =
        let before = before_settled says s (Sql text) past legal asked in
        let all =
        AllIn-append (opening past) (own_before s past) (committed (commits past) past) within
        (subst (AllIn (committed_db past)) (sym before) changes_within) in
        latest statement l alone db (text, asked, says_it) on_rows on unbroken level_is all sees ∙ now_base says s (Sql text) past legal asked

  closed_or : (IsOpen s past → IsUnmoved s past) → IsUnmoved s past
  closed_or when_open =
      elim (level s past) as (λ l. level s past ≡ l → IsUnmoved s past) [ None ↦ λ is. inl is | Some l ↦ λ is. when_open (ap is_some is) ] refl

  module _ (work : HasWork says s past) (within : AllIn (opening past) (committed (commits past) past)) where
    -- a statement that was done
    done_moves : (statement : Stmt) (reply : Reply) → says text statement → reply ≡ Done
        → (has_stopped past ≡ false → IsOpen s past → Tracks (committed_db past) (with_item statement Done work.pieces)
        (set_by statement (length (own s past)) (is_some (level s past)) work.setting).saves (own s past)) → Moves says s (items.Sql text) reply past work
    done_moves statement reply says_it is tracks =
        subst (λ r. Moves says s (items.Sql text) r past work) (sym is)
        (record {
          pieces = with_item statement Done work.pieces;
          setting = set_by statement (length (own s past)) (is_some (level s past)) work.setting;
          does = (statement, says_it, refl);
          sets = (statement, says_it, refl);
          tracks = tracks;
        })

    as_before : IsUnmoved s past → has_stopped past ≡ false → IsOpen s past → Tracks (committed_db past) work.pieces work.setting.saves (own s past)
    as_before stays = unmoved says s past work stays

    idle : (reply : Reply) → is_idle says (items.Sql text) reply ≡ true → IsUnmoved s past → Moves says s (items.Sql text) reply past work
    idle reply is stays = idle_moves says s (items.Sql text) reply past work is (λ runs. stays)

    -- ---- statements on rows

    module _ (statement : Stmt) (setting : Setting) (says_it : says text statement) (on_rows : is_on_rows statement ≡ true)
        (none : did is_victim s past ≡ false) where
      abbrev result : Outcome
      result = outcome statement (changed (committed_db past) (settled s past))

      -- it gave the answer of the transaction's database before it, and made the changes
      record After (reply : Reply) : Type 0 where
        owns : own s past ≡ reverse result.changes ++ settled s past
        replies : reply ≡ result.reply
        stood : Tracks (committed_db past) work.pieces work.setting.saves (settled s past)

      after_rows : (reply : Reply) → ((error : SqlError) → reply ≢ Fail error) → AnswersRows s setting statement reply past → is_over s past ≡ false
          → has_stopped past ≡ false → IsOpen s past → After reply
      after_rows reply not gave on runs is_open =
          let here = point_now s past on in
          let a = gave.answers in
          let changes = (outcome statement a.db).changes in
          let owns = made_all changes (makes_all reply s changes past not (subst (λ (h : List Event). MakesFor reply s changes h) here a.changes)) in
          let less : length (settled s past) ≤ length (own s past) = omega (arith, ap length owns, length-append (reverse changes) (settled s past)) in
          let stood = stands_whole says s past (committed_db past) work.pieces work.setting.saves less (work.carries runs is_open) in
          let db_is =
          sees_work statement says_it on_rows (inl none) on within (tracks-in (committed_db past) work.pieces work.setting.saves (settled s past) stood)
          gave.l (is_alone s setting past) a.db
          (subst (λ (h : List Event). level s h ≡ Some gave.l) here gave.level_is)
          (subst (λ (h : List Event). MaySee (sight_in gave.l s setting statement past) s statement a.db h) here a.sees) in
          record {
            owns = owns ∙ ap (λ (d : Database). reverse (outcome statement d).changes ++ settled s past) db_is;
            replies = a.answer ∙ ap (λ (d : Database). (outcome statement d).reply) db_is;
            stood = stood;
          }

      answered : (reply : Reply) → ((error : SqlError) → reply ≢ Fail error) → AnswersRows s setting statement reply past → EndsRows s setting reply past
          → (IsOpen s past → is_over s past ≡ false)
          → DoesItem says (Some (items.Sql text)) reply work.pieces (Piece.ran statement (Some reply) ∷ work.pieces)
          → SetByItem says (Some (items.Sql text)) reply (length (own s past)) (is_some (level s past)) work.setting work.setting
          → Moves says s (items.Sql text) reply past work
      answered reply not gave ends on does sets =
          record {
            pieces = Piece.ran statement (Some reply) ∷ work.pieces;
            setting = work.setting;
            does = does;
            sets = sets;
            tracks =
                λ runs is_open. let after = after_rows reply not gave (on is_open) runs is_open in (settled s past, after.owns, after.replies, after.stood);
          }

      plain_reply : {A : Type 0} (reply : Reply) → is_answer reply ≡ false → reply ≢ Done → ((error : SqlError) → reply ≢ Fail error) → reply ≡ result.reply → A
      plain_reply reply none not_done not is =
          elim (outcome-plain statement (changed (committed_db past) (settled s past)) on_rows) [
            | inl answer ↦ (let e = ap is_answer is in cc)
            | inr (inl nothing) ↦ absurd (not_done (is ∙ nothing.0))
            | inr (inr refused) ↦ absurd (not refused.0 (is ∙ refused.1))
          ]

      nothing_done : After Done → own s past ≡ settled s past
      nothing_done after =
          elim (outcome-plain statement (changed (committed_db past) (settled s past)) on_rows) [
            | inl answer ↦ (let e = ap is_answer after.replies in cc)
            | inr (inl nothing) ↦ after.owns ∙ ap (λ (cs : List Change). reverse cs ++ settled s past) nothing.1
            | inr (inr refused) ↦ (let e = after.replies ∙ refused.1 in cc)
          ]

      rows_moves : (reply : Reply) → AnswersRows s setting statement reply past → EndsRows s setting reply past → Moves says s (items.Sql text) reply past work
      rows_moves (Fail error) gave ends =
          idle (Fail error) refl (backs_out says s (items.Sql text) (level s (before_item s past)) setting.autocommit past legal asked ends)
      rows_moves (Count n) gave ends =
          answered (Count n) (λ error. λ e. cc) gave ends (goes_on s (items.Sql text) (level s (before_item s past)) setting.autocommit past asked ends)
          (statement, says_it, sym (with_rows statement (Count n) work.pieces on_rows)) refl
      rows_moves (Rows rows) gave ends =
          answered (Rows rows) (λ error. λ e. cc) gave ends (goes_on s (items.Sql text) (level s (before_item s past)) setting.autocommit past asked ends)
          (statement, says_it, sym (with_rows statement (Rows rows) work.pieces on_rows)) refl
      rows_moves Done gave ends =
          let on = goes_on s (items.Sql text) (level s (before_item s past)) setting.autocommit past asked ends in
          record {
            pieces = work.pieces;
            setting = work.setting;
            does = (statement, says_it, sym (with_rows statement Done work.pieces on_rows));
            sets = (statement, says_it, sym (sets_nothing statement (length (own s past)) (is_some (level s past)) work.setting on_rows));
            tracks = λ runs is_open. as_before (inr (nothing_done (after_rows Done (λ error. λ e. cc) gave (on is_open) runs is_open))) runs is_open;
          }
      rows_moves other gave ends =
          let on = goes_on s (items.Sql text) (level s (before_item s past)) setting.autocommit past asked ends in
          idle_moves says s (items.Sql text) other past work refl
          (λ runs. closed_or (λ is_open. plain_reply other refl (λ e. cc) (λ error. λ e. cc)
          (after_rows other (λ error. λ e. cc) gave (on is_open) runs is_open).replies))

    -- ---- statements by their kinds

    create_closed : (changes : List Change) → EndsCreate s changes past → IsClosed s past
    create_closed [] ends = ends.0
    create_closed (change ∷ changes) ends = ends.0.closed

    savepoint_stays : (l : Option Level) (autocommit : Bool) → EndsSavepoint l autocommit s past → own s past ≡ settled s past
    savepoint_stays None false ends = ends.1 ∙ sym (begun_settled says s (items.Sql text) past asked ends.0.begun)
    savepoint_stays None true ends = empty_unmoved says s (items.Sql text) past legal asked ends
    savepoint_stays (Some l) autocommit ends = empty_unmoved says s (items.Sql text) past legal asked ends

    autocommit_stays : (was on : Bool) → EndsAutocommit was on s past → IsUnmoved s past
    autocommit_stays false true ends = inl ends.0
    autocommit_stays false false ends = inr (empty_unmoved says s (items.Sql text) past legal asked ends)
    autocommit_stays true on ends = inr (empty_unmoved says s (items.Sql text) past legal asked ends)

    taken_moves : (statement : Stmt) (setting : Setting) (reply : Reply) → says text statement → HasSet says s (before_item s past) setting
        → did is_victim s past ≡ false → EndsTaken s setting statement reply past → Moves says s (items.Sql text) reply past work
    taken_moves (stmt.Select selected table condition lock) setting reply says_it is_set none ends =
        rows_moves (stmt.Select selected table condition lock) setting says_it refl none reply ends.0 ends.1
    taken_moves (stmt.Insert table columns tuples) setting reply says_it is_set none ends =
        rows_moves (stmt.Insert table columns tuples) setting says_it refl none reply ends.0 ends.1
    taken_moves (stmt.Update table sets condition) setting reply says_it is_set none ends =
        rows_moves (stmt.Update table sets condition) setting says_it refl none reply ends.0 ends.1
    taken_moves (stmt.Delete table condition) setting reply says_it is_set none ends =
        rows_moves (stmt.Delete table condition) setting says_it refl none reply ends.0 ends.1
    taken_moves (stmt.CreateTable table skips definitions) setting reply says_it is_set none ends =
        done_moves (stmt.CreateTable table skips definitions) reply says_it ends.0
        (as_before (inl (create_closed (outcome (stmt.CreateTable table skips definitions) (base s (point s past))).changes ends.1)))
    taken_moves (stmt.Begin snapshot) setting reply says_it is_set none ends =
        done_moves (stmt.Begin snapshot) reply says_it ends.0
        (as_before (inr (ends.1.new ∙ sym (begun_settled says s (items.Sql text) past asked ends.1.opens.begun))))
    taken_moves stmt.Commit setting reply says_it is_set none ends = done_moves stmt.Commit reply says_it ends.0 (as_before (inl ends.1))
    taken_moves stmt.Rollback setting reply says_it is_set none ends = done_moves stmt.Rollback reply says_it ends.0 (as_before (inl ends.1))
    taken_moves (stmt.RollbackTo name) setting reply says_it is_set none ends =
        done_moves (stmt.RollbackTo name) reply says_it ends.0
        (λ runs is_open.
        let stays = ends.1 in
        let same =
        set_one says one s past setting work.setting
        (set_kept says s (items.Sql text) setting past asked stays.not_begun stays.not_committed stays.not_rolled_back is_set) work.is_set in
        back_ends says one s ends.2.0 name past (committed_db past) work.pieces work.setting.saves (text, asked, says_it) none
        (subst (λ (st : Setting). made_at name st.saves ≡ Some ends.2.0) same ends.2.1)
        (ends.2.2 ∙ ap (oldest ends.2.0) (unbegun_settled says s (items.Sql text) past legal asked stays.not_begun)) (work.carries runs is_open))
    taken_moves (stmt.Savepoint name) setting reply says_it is_set none ends =
        done_moves (stmt.Savepoint name) reply says_it ends.0
        (λ runs is_open.
        let stays = savepoint_stays (level s (before_item s past)) setting.autocommit ends.1 in
        let rest = tracks-without name (committed_db past) work.pieces work.setting.saves (own s past) (as_before (inr stays) runs is_open) in
        (without name work.setting.saves, ap (λ b. saved name (length (own s past)) b work.setting.saves) is_open, rest))
    taken_moves (stmt.SetAutocommit on) setting reply says_it is_set none ends =
        done_moves (stmt.SetAutocommit on) reply says_it ends.0 (as_before (autocommit_stays setting.autocommit on ends.1))
    taken_moves (stmt.SetLevel scope.Session l) setting reply says_it is_set none ends =
        done_moves (stmt.SetLevel scope.Session l) reply says_it ends.0 (as_before (inr (empty_unmoved says s (items.Sql text) past legal asked ends.1)))
    taken_moves (stmt.SetLevel scope.NextTransaction l) setting reply says_it is_set none ends =
        done_moves (stmt.SetLevel scope.NextTransaction l) reply says_it ends.0
        (as_before (inr (empty_unmoved says s (items.Sql text) past legal asked ends.1)))

    refused : (error : SqlError) (reply : Reply) → reply ≡ Fail error → of_item s past ≡ [] → Moves says s (items.Sql text) reply past work
    refused error reply is none =
        subst (λ r. Moves says s (items.Sql text) r past work) (sym is)
        (idle (Fail error) refl (inr (empty_unmoved says s (items.Sql text) past legal asked none)))

    asked_moves : (refusal : Option SqlError) (statement : Stmt) (setting : Setting) (reply : Reply) → says text statement
        → HasSet says s (before_item s past) setting → did is_victim s past ≡ false → EndsAsked refusal s setting statement reply past
        → Moves says s (items.Sql text) reply past work
    asked_moves (Some error) statement setting reply says_it is_set none ends = refused error reply ends.0 ends.1
    asked_moves None statement setting reply says_it is_set none ends = taken_moves statement setting reply says_it is_set none ends

    -- ---- items that break off

    given_up : IsGivenUp says s past → IsUnmoved s past
    given_up gave = backs_out says s (items.Sql text) (level s (before_item s past)) gave.takes.setting.autocommit past legal asked gave.backs_out

    left_it : LeavesIt says s past → own s past ≡ settled s past
    left_it leaves =
        elim (did begins_txn s past) as (λ b. did begins_txn s past ≡ b → own s past ≡ settled s past) [
          | false ↦ λ not. leaves.own_stay ∙ unbegun_settled says s (items.Sql text) past legal asked not
          | true ↦ λ begun.
              leaves.own_stay
              ∙ closed_own says s (before_item s past) (legal_before says s past legal)
              (begun_closed says s past legal begun leaves.not_committed leaves.not_rolled_back)
              ∙ sym (begun_settled says s (items.Sql text) past asked begun)
        ] refl

    says_asked : (statement : Stmt) → Asks says s statement past → says text statement
    says_asked statement asks =
        let same : asks.0 ≡ text = (let x = sym asks.1 ∙ asked in cc) in subst (λ (t : List ℕ). says t statement) same asks.2

    early_moves : (reply : Reply) → EndsEarly says s reply past → Moves says s (items.Sql text) reply past work
    early_moves (Fail (errors.Deadlock cycle)) early = idle (Fail (errors.Deadlock cycle)) refl (inl early.1.rolled_back.closed)
    early_moves (Fail (errors.Timeout held waited)) early = idle (Fail (errors.Timeout held waited)) refl (given_up early.2)
    early_moves (Fail error) early = idle (Fail error) refl (given_up early.1)
    early_moves (replies.RunLimit rows) early =
        elim early.1 [ inl gave ↦ idle (replies.RunLimit rows) refl (given_up gave) | inr was ↦ idle (replies.RunLimit rows) refl (inl was.commits.closed) ]
    early_moves replies.NoMemory early =
        elim early.leaves [
          | inl back ↦ idle replies.NoMemory refl (inl back.closed)
          | inr (inl was) ↦ idle replies.NoMemory refl (inl was.commits.closed)
          | inr (inr (inl first)) ↦ idle replies.NoMemory refl (inl first.closed)
          | inr (inr (inr leaves)) ↦ idle replies.NoMemory refl (inr (left_it leaves))
        ]
    early_moves other early = absurd early

    pub sql_moves : (reply : Reply) → EndsItem says s (items.Sql text) reply past → Moves says s (items.Sql text) reply past work
    sql_moves reply (inl ends) =
        asked_moves ends.refusal ends.statement ends.setting reply (says_asked ends.statement ends.asks) ends.is_set ends.no_victim ends.ends
    sql_moves reply (inr (inl none)) = refused (errors.Syntax none.place) reply none.answer none.nothing
    sql_moves reply (inr (inr early)) = early_moves reply early
