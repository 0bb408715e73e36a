-- What the end of an item leaves of its session's standing work, and what it brings: seen for every reply.
-- `Stays` alone cites it. What no item ends by stands in `StandingOn`.
use Rattle.std.proofs.Common.{◌≡◌, ◌≢◌, ◌∙◌, ap, sym, subst, refl, ℕ, ◌≤◌, Bool, true, false, List, [], ◌∷◌, ◌++◌, length, length-append, take, reverse, Option}
use Rattle.std.proofs.Common.{Some, None, inl, inr, arith}
use Rattle.std.specs.Prelude.{is_some}
use Rattle.std.proofs.lemmas.List.{take_all}
use Rattle.inno_types.specs.declared.lock.Level.{Level}
use Rattle.inno_types.specs.declared.reply.Item.{Item}
use Rattle.inno_types.specs.declared.reply.Item.TheVariants as items
use Rattle.inno_types.specs.declared.reply.Item.TheVariants.{Sql}
use Rattle.inno_types.specs.declared.reply.Reply.{Reply}
use Rattle.inno_types.specs.declared.reply.Reply.TheVariants as replies
use Rattle.inno_types.specs.declared.reply.Reply.TheVariants.{Done, Count, Rows, Fail}
use Rattle.inno_types.specs.declared.reply.SqlError.{SqlError}
use Rattle.inno_types.specs.declared.reply.SqlError.TheVariants as errors
use Rattle.inno_types.specs.declared.stmt.Stmt.{Stmt}
use Rattle.inno_types.specs.declared.stmt.Stmt.TheVariants as stmt
use Rattle.inno_types.specs.declared.stmt.LevelScope.TheVariants as scope
use Rattle.inno_db.specs.declared.change.Change.{Change}
use Rattle.inno_db.specs.Outcome.{outcome}
use Rattle.inno_model.specs.declared.event.Event.{Event}
use Rattle.inno_model.specs.Past.{under_way, before_item, of_item, level, own, did, begins_txn, oldest, IsOpen, IsClosed}
use Rattle.sql_history.specs.Items.{Language, Asks, is_over, base, own_before, point, HasMade}
use Rattle.sql_history.specs.Settings.{Setting, HasSet, SetByItem, set_by, saved, made_at, back_to, without}
use Rattle.sql_history.specs.Statements.{is_on_rows}
use Rattle.sql_history.specs.Answers.{MakesFor}
use Rattle.sql_history.specs.Counts.{has_stopped}
use Rattle.sql_history.specs.Legal.{IsLegal, AnswersRows, EndsRows, EndsTaken, EndsCreate, EndsSavepoint, EndsAutocommit, EndsAsked, EndsEarly, EndsItem}
use Rattle.sql_history.specs.Legal.{EndsBy, EndsSignal, EndsAwait, IsGivenUp, LeavesIt}
use Rattle.sql_history.specs.Serial.{Piece, with_item, with_answer, DoesItem, pieces_to}
use Rattle.sql_history.proofs.Pasts.{point_now}
use Rattle.law_histories.specs.Work.{settled}
use Rattle.law_histories.proofs.Alike.{Alike, ReadsOne, sets_nothing}
use Rattle.law_histories.proofs.Entries.{before_settled, unbegun_settled, begun_settled, closed_own, legal_before, open_not, no_item, true_false}
use Rattle.law_histories.proofs.Items.{IsUnmoved, set_kept, set_one, begun_closed, empty_unmoved, backs_out, goes_on}
use Rattle.law_isolation.proofs.Going.{reads_back}
use Rattle.law_isolation.proofs.Works.{is_idle, makes_all}
use Rattle.law_isolation.specs.Kept.{KeptFor, AreKept, Carries, is_counted}
use Rattle.law_isolation.proofs.Pieces.{kept_more, kept_without, kept_back}
use Rattle.law_isolation.proofs.StandingOn.{oldest_length, same_made}

with_rows : (a : Stmt) (reply : Reply) (pieces : List Piece) → is_on_rows a ≡ true → with_item a reply pieces ≡ with_answer a reply pieces
with_rows (stmt.Select selected table condition lock) reply pieces rows = refl
with_rows (stmt.Insert table columns tuples) reply pieces rows = refl
with_rows (stmt.Update table sets condition) reply pieces rows = refl
with_rows (stmt.Delete table condition) reply pieces rows = refl
with_rows other reply pieces rows = absurd (cc)

module _ (says : Language) (one : ReadsOne says) (keeps : KeptFor) where
  -- a statement that this reply makes a piece brings what is to be kept for it
  abbrev pub BringsFor : ℕ → List Event → Reply → Type 0
  BringsFor s past reply =
      has_stopped past ≡ false → IsOpen s past → is_counted says reply ≡ true → (statement : Stmt) → Asks says s statement past → is_on_rows statement ≡ true
      → keeps (Piece.ran statement (Some reply)) (length (settled s past))

  -- where the item's end leaves at least what stood, all of it stands
  stands_whole : (s : ℕ) (past : List Event) (pieces : List Piece) (setting : Setting) → length (settled s past) ≤ length (own s past)
      → Carries says keeps s past pieces setting.saves → AreKept keeps pieces setting.saves (length (settled s past))
  stands_whole s past pieces setting within (inl whole) = whole.kept
  stands_whole s past pieces setting within (inr (inl back)) = absurd (let a = back.less in omega (arith, a, within))
  stands_whole s past pieces setting within (inr (inr lost)) = absurd (let a = lost.0 in omega (arith, a, within))

  stands_more : (s : ℕ) (past : List Event) (pieces : List Piece) (setting : Setting) → length (settled s past) ≤ length (own s past)
      → Carries says keeps s past pieces setting.saves → AreKept keeps pieces setting.saves (length (own s past))
  stands_more s past pieces setting within carries =
      kept_more keeps pieces setting.saves (length (settled s past)) (length (own s past)) within (stands_whole s past pieces setting within carries)

  -- ROLLBACK TO leaves the work up to its savepoint
  back_ends : (s made : ℕ) (name : List ℕ) (past : List Event) (pieces : List Piece) (setting : Setting) → Asks says s (stmt.RollbackTo name) past
      → made_at name setting.saves ≡ Some made → own s past ≡ oldest made (settled s past) → Carries says keeps s past pieces setting.saves
      → AreKept keeps (pieces_to name pieces) (back_to name setting.saves) (length (own s past))
  back_ends s made name past pieces setting asks is own_is (inl whole) =
      let back = kept_back keeps name made pieces setting.saves (length (settled s past)) whole.kept is in
      subst (AreKept keeps (pieces_to name pieces) (back_to name setting.saves))
      (sym (ap length own_is ∙ oldest_length says made (settled s past) back.0)) back.1
  back_ends s made name past pieces setting asks is own_is (inr (inl back)) =
      let same : back.name ≡ name = (let e = reads_back says one s name past (stmt.RollbackTo back.name) asks back.asks in cc) in
      let number : back.made ≡ made = same_made says back.made made (sym back.is ∙ ap (λ (n : List ℕ). made_at n setting.saves) same ∙ is) in
      let within : made ≤ length (settled s past) = (let a = back.within in let b = back.less in omega (arith, a, b, number)) in
      subst (AreKept keeps (pieces_to name pieces) (back_to name setting.saves))
      (number ∙ sym (ap length own_is ∙ oldest_length says made (settled s past) within))
      (subst (λ (n : List ℕ). AreKept keeps (pieces_to n pieces) (back_to n setting.saves) back.made) same back.kept)
  back_ends s made name past pieces setting asks is own_is (inr (inr (less, inl ending))) = no_item (sym ending.0 ∙ asks.1)
  back_ends s made name past pieces setting asks is own_is (inr (inr (less, inr (inl all)))) =
      absurd (let e = reads_back says one s name past stmt.Rollback asks all in cc)
  back_ends s made name past pieces setting asks is own_is (inr (inr (less, inr (inr rows)))) =
      absurd (let e = ap is_on_rows (reads_back says one s name past rows.0 asks rows.1) in let f = rows.2 in cc)

  -- what the end of an item makes of that
  pub record Moves (s : ℕ) (item : Item) (reply : Reply) (past : List Event) (before : Setting) : Type 0 where
    pub setting : Setting
    pub sets : SetByItem says (Some item) reply (length (own s past)) (is_some (level s past)) before setting
    pub kept : has_stopped past ≡ false → IsOpen s past → (old new : List Piece) → Carries says keeps s past old before.saves
        → DoesItem says (Some item) reply old new → AreKept keeps new setting.saves (length (own s past))

  idle_does : (item : Item) (reply : Reply) (old new : List Piece) → is_idle says item reply ≡ true → DoesItem says (Some item) reply old new → new ≡ old
  idle_does (items.Sql text) Done old new idle does = (cc)
  idle_does (items.Sql text) (Count n) old new idle does = (cc)
  idle_does (items.Sql text) (Rows rows) old new idle does = (cc)
  idle_does (items.Sql text) other old new idle does = does
  idle_does (items.Signal name) reply old new idle does = does
  idle_does (items.Await name) reply old new idle does = does

  idle_sets : (item : Item) (reply : Reply) (made : ℕ) (is_open : Bool) (setting : Setting) → is_idle says item reply ≡ true
      → SetByItem says (Some item) reply made is_open setting setting
  idle_sets (items.Sql text) Done made is_open setting idle = (cc)
  idle_sets (items.Sql text) other made is_open setting idle = refl
  idle_sets (items.Signal name) reply made is_open setting idle = refl
  idle_sets (items.Await name) reply made is_open setting idle = refl

  unmoved : (s : ℕ) (past : List Event) (pieces : List Piece) (setting : Setting) → IsUnmoved s past → IsOpen s past
      → Carries says keeps s past pieces setting.saves → AreKept keeps pieces setting.saves (length (own s past))
  unmoved s past pieces setting (inl closed) is_open carries = open_not s past is_open closed
  unmoved s past pieces setting (inr same) is_open carries = stands_more s past pieces setting (omega (arith, ap length same)) carries

  -- a reply that says nothing of work that was done, where at least what stood is left
  less_moves : (s : ℕ) (item : Item) (reply : Reply) (past : List Event) (setting : Setting) → is_idle says item reply ≡ true
      → (has_stopped past ≡ false → IsOpen s past → length (settled s past) ≤ length (own s past)) → Moves s item reply past setting
  less_moves s item reply past setting idle stays =
      record {
        setting = setting;
        sets = idle_sets item reply (length (own s past)) (is_some (level s past)) setting idle;
        kept = λ runs is_open old new carries does.
            subst (λ (ps : List Piece). AreKept keeps ps setting.saves (length (own s past))) (sym (idle_does item reply old new idle does))
            (stands_more s past old setting (stays runs is_open) carries);
      }

  pub idle_moves : (s : ℕ) (item : Item) (reply : Reply) (past : List Event) (setting : Setting) → is_idle says item reply ≡ true
      → (has_stopped past ≡ false → IsUnmoved s past) → Moves s item reply past setting
  idle_moves s item reply past setting idle stays =
      less_moves s item reply past setting idle (λ runs is_open. by_unmoved (stays runs) is_open)
    where
      by_unmoved : IsUnmoved s past → IsOpen s past → length (settled s past) ≤ length (own s past)
      by_unmoved (inl closed) is_open = open_not s past is_open closed
      by_unmoved (inr same) is_open = omega (arith, ap length same)

  module _ (s : ℕ) (text : List ℕ) (past : List Event) (legal : IsLegal says past) (asked : under_way s past ≡ Some (Sql text)) (was : Setting)
      (was_set : HasSet says s past was) where
    made_all : (changes : List Change) → HasMade (length changes) s changes past → own s past ≡ reverse changes ++ settled s past
    made_all changes made =
        let whole : take (length changes) changes ≡ changes = take_all (length changes) changes (omega arith) in
        made ∙ ap (λ (cs : List Change). reverse cs ++ own_before s past) whole ∙ ap (λ (cs : List Change). reverse changes ++ cs)
        (before_settled says s (Sql text) past legal asked)

    read_alike : (a b : Stmt) → says text a → says text b → is_on_rows b ≡ false → a ≡ b
    read_alike a b says_a says_b plain = let alike : Alike a b = one text a b says_a says_b in alike.same (alike.rows ∙ plain)

    -- a statement that was done
    done_moves : (statement : Stmt) (reply : Reply) → says text statement → is_on_rows statement ≡ false → reply ≡ Done
        → (has_stopped past ≡ false → IsOpen s past → (old : List Piece) → Carries says keeps s past old was.saves → AreKept keeps
        (with_item statement Done old)
        (set_by statement (length (own s past)) (is_some (level s past)) was).saves (length (own s past))) → Moves s (items.Sql text) reply past was
    done_moves statement reply says_it plain is kept =
        subst (λ r. Moves s (items.Sql text) r past was) (sym is)
        (record {
          setting = set_by statement (length (own s past)) (is_some (level s past)) was;
          sets = (statement, says_it, refl);
          kept = λ runs is_open old new carries does.
              let same = read_alike does.0 statement does.1 says_it plain in
              subst (λ (ps : List Piece). AreKept keeps ps (set_by statement (length (own s past)) (is_some (level s past)) was).saves (length (own s past)))
              (sym (does.2 ∙ ap (λ (a : Stmt). with_item a Done old) same)) (kept runs is_open old carries);
        })

    as_before : IsUnmoved s past → has_stopped past ≡ false → IsOpen s past → (old : List Piece) → Carries says keeps s past old was.saves
        → AreKept keeps old was.saves (length (own s past))
    as_before stays runs is_open old carries = unmoved s past old was stays is_open carries

    idle : (reply : Reply) → is_idle says (items.Sql text) reply ≡ true → IsUnmoved s past → Moves s (items.Sql text) reply past was
    idle reply is stays = idle_moves s (items.Sql text) reply past was is (λ runs. stays)

    -- ---- statements on rows

    module _ (statement : Stmt) (setting : Setting) (says_it : says text statement) (on_rows : is_on_rows statement ≡ true) where
      -- it has put nothing back
      rows_less : (reply : Reply) → ((error : SqlError) → reply ≢ Fail error) → AnswersRows s setting statement reply past → is_over s past ≡ false
          → length (settled s past) ≤ length (own s past)
      rows_less reply not gave on =
          let here = point_now s past on in
          let a = gave.answers in
          let changes = (outcome statement a.db).changes in
          let owns = made_all changes (makes_all reply s changes past not (subst (λ (h : List Event). MakesFor reply s changes h) here a.changes)) in
          omega (arith, ap length owns, length-append (reverse changes) (settled s past))

      rows_of : (a : Stmt) → says text a → is_on_rows a ≡ true
      rows_of a says_a = (one text a statement says_a says_it).rows ∙ on_rows

      counted : (reply : Reply) → BringsFor s past reply → is_counted says reply ≡ true → (IsOpen s past → length (settled s past) ≤ length (own s past))
          → ((old new : List Piece) → DoesItem says (Some (items.Sql text)) reply old new
          → (a : Stmt) × says text a × (new ≡ Piece.ran a (Some reply) ∷ old))
          → SetByItem says (Some (items.Sql text)) reply (length (own s past)) (is_some (level s past)) was was
          → Moves s (items.Sql text) reply past was
      counted reply brings counts less does_so sets =
          record {
            setting = was;
            sets = sets;
            kept = λ runs is_open old new carries does.
                let done = does_so old new does in
                let within = less is_open in
                subst (λ (ps : List Piece). AreKept keeps ps was.saves (length (own s past))) (sym done.2) (
                  length (settled s past),
                  within,
                  brings runs is_open counts done.0 (text, asked, done.1) (rows_of done.0 done.1),
                  stands_whole s past old was within carries,
                );
          }

      rows_moves : (reply : Reply) → BringsFor s past reply → AnswersRows s setting statement reply past → EndsRows s setting reply past → Moves s
          (items.Sql text) reply past was
      rows_moves (Fail error) brings gave ends =
          idle (Fail error) refl (backs_out says s (items.Sql text) (level s (before_item s past)) setting.autocommit past legal asked ends)
      rows_moves (Count n) brings gave ends =
          let on = goes_on s (items.Sql text) (level s (before_item s past)) setting.autocommit past asked ends in
          counted (Count n) brings refl (λ is_open. rows_less (Count n) (λ error. λ e. cc) gave (on is_open))
          (λ old new does. (does.0, does.1, does.2 ∙ with_rows does.0 (Count n) old (rows_of does.0 does.1))) refl
      rows_moves (Rows rows) brings gave ends =
          let on = goes_on s (items.Sql text) (level s (before_item s past)) setting.autocommit past asked ends in
          counted (Rows rows) brings refl (λ is_open. rows_less (Rows rows) (λ error. λ e. cc) gave (on is_open))
          (λ old new does. (does.0, does.1, does.2 ∙ with_rows does.0 (Rows rows) old (rows_of does.0 does.1))) refl
      rows_moves Done brings gave ends =
          let on = goes_on s (items.Sql text) (level s (before_item s past)) setting.autocommit past asked ends in
          record {
            setting = was;
            sets = (statement, says_it, sym (sets_nothing statement (length (own s past)) (is_some (level s past)) was on_rows));
            kept = λ runs is_open old new carries does.
                subst (λ (ps : List Piece). AreKept keeps ps was.saves (length (own s past))) (sym (does.2 ∙ with_rows does.0 Done old (rows_of does.0 does.1)))
                (stands_more s past old was (rows_less Done (λ error. λ e. cc) gave (on is_open)) carries);
          }
      rows_moves other brings gave ends =
          let on = goes_on s (items.Sql text) (level s (before_item s past)) setting.autocommit past asked ends in
          less_moves s (items.Sql text) other past was refl (λ runs is_open. rows_less other (λ error. λ e. cc) gave (on is_open))

    -- ---- statements by their kinds

    create_closed : (changes : List Change) → EndsCreate s changes past → IsClosed s past
    create_closed [] ends = ends.0
    create_closed (change ∷ changes) ends = ends.0.closed

    savepoint_stays : (l : Option Level) (autocommit : Bool) → EndsSavepoint l autocommit s past → own s past ≡ settled s past
    savepoint_stays None false ends = ends.1 ∙ sym (begun_settled says s (items.Sql text) past asked ends.0.begun)
    savepoint_stays None true ends = empty_unmoved says s (items.Sql text) past legal asked ends
    savepoint_stays (Some l) autocommit ends = empty_unmoved says s (items.Sql text) past legal asked ends

    autocommit_stays : (was on : Bool) → EndsAutocommit was on s past → IsUnmoved s past
    autocommit_stays false true ends = inl ends.0
    autocommit_stays false false ends = inr (empty_unmoved says s (items.Sql text) past legal asked ends)
    autocommit_stays true on ends = inr (empty_unmoved says s (items.Sql text) past legal asked ends)

    taken_moves : (statement : Stmt) (setting : Setting) (reply : Reply) → BringsFor s past reply → says text statement → HasSet says s
        (before_item s past) setting
        → EndsTaken s setting statement reply past → Moves s (items.Sql text) reply past was
    taken_moves (stmt.Select selected table condition lock) setting reply brings says_it is_set ends =
        rows_moves (stmt.Select selected table condition lock) setting says_it refl reply brings ends.0 ends.1
    taken_moves (stmt.Insert table columns tuples) setting reply brings says_it is_set ends =
        rows_moves (stmt.Insert table columns tuples) setting says_it refl reply brings ends.0 ends.1
    taken_moves (stmt.Update table sets condition) setting reply brings says_it is_set ends =
        rows_moves (stmt.Update table sets condition) setting says_it refl reply brings ends.0 ends.1
    taken_moves (stmt.Delete table condition) setting reply brings says_it is_set ends =
        rows_moves (stmt.Delete table condition) setting says_it refl reply brings ends.0 ends.1
    taken_moves (stmt.CreateTable table skips definitions) setting reply brings says_it is_set ends =
        done_moves (stmt.CreateTable table skips definitions) reply says_it refl ends.0
        (as_before (inl (create_closed (outcome (stmt.CreateTable table skips definitions) (base s (point s past))).changes ends.1)))
    taken_moves (stmt.Begin snapshot) setting reply brings says_it is_set ends =
        done_moves (stmt.Begin snapshot) reply says_it refl ends.0
        (as_before (inr (ends.1.new ∙ sym (begun_settled says s (items.Sql text) past asked ends.1.opens.begun))))
    taken_moves stmt.Commit setting reply brings says_it is_set ends = done_moves stmt.Commit reply says_it refl ends.0 (as_before (inl ends.1))
    taken_moves stmt.Rollback setting reply brings says_it is_set ends = done_moves stmt.Rollback reply says_it refl ends.0 (as_before (inl ends.1))
    taken_moves (stmt.RollbackTo name) setting reply brings says_it is_set ends =
        done_moves (stmt.RollbackTo name) reply says_it refl ends.0
        (λ runs is_open old carries.
        let stays = ends.1 in
        let same =
        set_one says one s past setting was
        (set_kept says s (items.Sql text) setting past asked stays.not_begun stays.not_committed stays.not_rolled_back is_set) was_set in
        back_ends s ends.2.0 name past old was (text, asked, says_it) (subst (λ (st : Setting). made_at name st.saves ≡ Some ends.2.0) same ends.2.1)
        (ends.2.2 ∙ ap (oldest ends.2.0) (unbegun_settled says s (items.Sql text) past legal asked stays.not_begun)) carries)
    taken_moves (stmt.Savepoint name) setting reply brings says_it is_set ends =
        done_moves (stmt.Savepoint name) reply says_it refl ends.0
        (λ runs is_open old carries.
        let stays = savepoint_stays (level s (before_item s past)) setting.autocommit ends.1 in
        let rest = kept_without keeps name old was.saves (length (own s past)) (as_before (inr stays) runs is_open old carries) in
        (without name was.saves, length (own s past), omega arith, ap (λ b. saved name (length (own s past)) b was.saves) is_open, rest))
    taken_moves (stmt.SetAutocommit on) setting reply brings says_it is_set ends =
        done_moves (stmt.SetAutocommit on) reply says_it refl ends.0 (as_before (autocommit_stays setting.autocommit on ends.1))
    taken_moves (stmt.SetLevel scope.Session l) setting reply brings says_it is_set ends =
        done_moves (stmt.SetLevel scope.Session l) reply says_it refl ends.0 (as_before (inr (empty_unmoved says s (items.Sql text) past legal asked ends.1)))
    taken_moves (stmt.SetLevel scope.NextTransaction l) setting reply brings says_it is_set ends =
        done_moves (stmt.SetLevel scope.NextTransaction l) reply says_it refl ends.0
        (as_before (inr (empty_unmoved says s (items.Sql text) past legal asked ends.1)))

    refused : (error : SqlError) (reply : Reply) → reply ≡ Fail error → of_item s past ≡ [] → Moves s (items.Sql text) reply past was
    refused error reply is none =
        subst (λ r. Moves s (items.Sql text) r past was) (sym is)
        (idle (Fail error) refl (inr (empty_unmoved says s (items.Sql text) past legal asked none)))

    asked_moves : (refusal : Option SqlError) (statement : Stmt) (setting : Setting) (reply : Reply) → BringsFor s past reply → says text statement
        → HasSet says s (before_item s past) setting → EndsAsked refusal s setting statement reply past → Moves s (items.Sql text) reply past was
    asked_moves (Some error) statement setting reply brings says_it is_set ends = refused error reply ends.0 ends.1
    asked_moves None statement setting reply brings says_it is_set ends = taken_moves statement setting reply brings says_it is_set ends

    -- ---- items that break off

    given_up : IsGivenUp says s past → IsUnmoved s past
    given_up gave = backs_out says s (items.Sql text) (level s (before_item s past)) gave.takes.setting.autocommit past legal asked gave.backs_out

    left_it : LeavesIt says s past → own s past ≡ settled s past
    left_it leaves =
        elim (did begins_txn s past) as (λ b. did begins_txn s past ≡ b → own s past ≡ settled s past) [
          | false ↦ λ not. leaves.own_stay ∙ unbegun_settled says s (items.Sql text) past legal asked not
          | true ↦ λ begun.
              leaves.own_stay
              ∙ closed_own says s (before_item s past) (legal_before says s past legal)
              (begun_closed says s past legal begun leaves.not_committed leaves.not_rolled_back)
              ∙ sym (begun_settled says s (items.Sql text) past asked begun)
        ] refl

    says_asked : (statement : Stmt) → Asks says s statement past → says text statement
    says_asked statement asks =
        let same : asks.0 ≡ text = (let x = sym asks.1 ∙ asked in cc) in subst (λ (t : List ℕ). says t statement) same asks.2

    early_moves : (reply : Reply) → EndsEarly says s reply past → Moves s (items.Sql text) reply past was
    early_moves (Fail (errors.Deadlock cycle)) early = idle (Fail (errors.Deadlock cycle)) refl (inl early.1.rolled_back.closed)
    early_moves (Fail (errors.Timeout held waited)) early = idle (Fail (errors.Timeout held waited)) refl (given_up early.2)
    early_moves (Fail error) early = idle (Fail error) refl (given_up early.1)
    early_moves (replies.RunLimit rows) early =
        elim early.1 [ inl gave ↦ idle (replies.RunLimit rows) refl (given_up gave) | inr was ↦ idle (replies.RunLimit rows) refl (inl was.commits.closed) ]
    early_moves replies.NoMemory early =
        elim early.leaves [
          | inl back ↦ idle replies.NoMemory refl (inl back.closed)
          | inr (inl was) ↦ idle replies.NoMemory refl (inl was.commits.closed)
          | inr (inr (inl first)) ↦ idle replies.NoMemory refl (inl first.closed)
          | inr (inr (inr leaves)) ↦ idle replies.NoMemory refl (inr (left_it leaves))
        ]
    early_moves other early = absurd early

    pub sql_moves : (reply : Reply) → BringsFor s past reply → EndsItem says s (items.Sql text) reply past → Moves s (items.Sql text) reply past was
    sql_moves reply brings (inl ends) = asked_moves ends.refusal ends.statement ends.setting reply brings
        (says_asked ends.statement ends.asks) ends.is_set ends.ends
    sql_moves reply brings (inr (inl none)) = refused (errors.Syntax none.place) reply none.answer none.nothing
    sql_moves reply brings (inr (inr early)) = early_moves reply early

  -- ---- every item

  signal_none : (s : ℕ) (name : List ℕ) (reply : Reply) (past : List Event) → EndsSignal s name reply past → of_item s past ≡ []
  signal_none s name replies.Done past ends = ends.1
  signal_none s name replies.NoMemory past ends = ends
  signal_none s name other past ends = absurd ends

  await_none : (s : ℕ) (name : List ℕ) (reply : Reply) (past : List Event) → EndsAwait s name reply past → of_item s past ≡ []
  await_none s name replies.Done past ends = ends.1
  await_none s name (replies.NotSignalled waited) past ends = ends.2
  await_none s name replies.NoMemory past ends = ends
  await_none s name other past ends = absurd ends

  stopped_idle : (item : Item) → is_idle says item replies.Stopped ≡ true
  stopped_idle (items.Sql text) = refl
  stopped_idle (items.Signal name) = refl
  stopped_idle (items.Await name) = refl

  module _ (s : ℕ) (past : List Event) (legal : IsLegal says past) (was : Setting) (was_set : HasSet says s past was) where
    item_moves : (item : Item) (reply : Reply) → BringsFor s past reply → under_way s past ≡ Some item → EndsBy false says s item reply past
        → Moves s item reply past was
    item_moves (items.Sql text) reply brings asked ends = sql_moves s text past legal asked was was_set reply brings ends.2
    item_moves (items.Signal name) reply brings asked ends =
        idle_moves s (items.Signal name) reply past was refl
        (λ runs. inr (empty_unmoved says s (items.Signal name) past legal asked (signal_none s name reply past ends.2)))
    item_moves (items.Await name) reply brings asked ends =
        idle_moves s (items.Await name) reply past was refl
        (λ runs. inr (empty_unmoved says s (items.Await name) past legal asked (await_none s name reply past ends.2)))

    pub end_moves : (item : Item) (reply : Reply) → BringsFor s past reply → under_way s past ≡ Some item → EndsBy (has_stopped past) says s item reply past
        → Moves s item reply past was
    end_moves item reply brings asked ends =
        elim (has_stopped past) as (λ b. has_stopped past ≡ b → EndsBy b says s item reply past → Moves s item reply past was) [
          | true ↦ λ stopped e.
              subst (λ r. Moves s item r past was) (sym e.0)
              (idle_moves s item replies.Stopped past was (stopped_idle item) (λ runs. true_false stopped runs))
          | false ↦ λ runs e. item_moves item reply brings asked e
        ] refl ends
