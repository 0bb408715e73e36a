-- How a SELECT ends its item: in a transaction that stays open, by the end of one of its own, or for want of memory.
use Rattle.std.proofs.Common.{◌≡◌, ℕ, Bool, true, false, Option, Some, None, List, [], ◌∷◌, refl, sym, ap, subst, ◌∙◌, inl, inr, ◌+◌, arith}
use Rattle.std.proofs.lemmas.Bool.Decides.{nat_tests}
use Rattle.std.proofs.lemmas.Bool.{false≢true}
use Rattle.std.specs.Prelude.{is_none, ◌&&◌}
use Rattle.std.specs.List.{AllByRecursion}
use Rattle.inno_types.specs.declared.value.Value.{Value}
use Rattle.inno_types.specs.declared.lock.Level.{Level}
use Rattle.inno_types.specs.declared.reply.Reply.{Reply}
use Rattle.inno_types.specs.declared.reply.Reply.TheVariants as replies
use Rattle.inno_types.specs.declared.stmt.Stmt.{Stmt}
use Rattle.inno_model.specs.declared.event.Event.{Event}
use Rattle.inno_model.specs.declared.event.Event.TheVariants as events
use Rattle.inno_model.specs.Past.{is_of, before_item, of_item, did, begins_txn, closes, commits_txn, rolls_back_txn, takes_view, level, own, awaits_ack, IsOpen}
use Rattle.inno_model.specs.Past.{IsClosed}
use Rattle.inno_model.specs.Moments.{Sometime}
use Rattle.sql_grammar.specs.Grammar.{Spells}
use Rattle.sql_history.specs.{Items.is_over, Items.point, Items.own_before, Items.undoes, Settings.Setting, Waiting.is_victim, Readings.is_plain_select}
use Rattle.sql_history.specs.{Statements.refused_at_once, Counts.rows_of_reply, Counts.rows_kept}
use Rattle.sql_history.specs.Endings.{StaysIn, Opens, Commits, RollsBack, Goes, BacksOut}
use Rattle.sql_history.specs.Legal.{Takes, is_alone, EndsRows, IsGivenUp, IsOverfull, WasCommitted, LeavesIt, MayCommit, MayRollBack}
use Rattle.law_past_agreement.specs.Order.{IsOfRow}
use Rattle.shared_lists.specs.Tasks.{Idle}
use Rattle.shared_lists.specs.State.{State, Turns}
use Rattle.sql_lists.specs.Steps.{HasRowsAlone, Steps}
use Rattle.sql_lists.specs.declared.advance.Advance.TheVariants as advance
use Rattle.sql_lists.proofs.Moving.{moves_turns}
use Rattle.sql_lists.proofs.Staying.{is_within, point_now, point_before}
use Rattle.giving_up.specs.Ends.{is_rows, IsAnswered as HasAnswer, EndsWith, MayEndWith, IsClosing, GivesUp, IsFailed}
use Rattle.giving_up.specs.declared.leaving.Leaving.TheVariants as leaving
use Rattle.giving_up.proofs.Closing.{some_now}
use Rattle.giving_up.proofs.Own.{did_same, did_now, over_now, before_same, some_on, takes_on}
use Rattle.read_statement.specs.declared.machine.ReadStatement.TheVariants as machine
use Rattle.read_statement.specs.Running.{IsEarly, HasViewed, IsFound, IsSeen, IsTooMany, IsSettledBy, IsRunning}
use Rattle.read_statement.proofs.Items.{none_closed, none_committed, none_rolled, none_undone, no_victim, acked_of_on, turn_goes_on, not_closed}
use Rattle.read_statement.proofs.Selects.{answers, brings, may_leave_open, rows_of_plain, select_of_plain, sight_is, commits_by, rolls_back_by}

some≢none : {X : Type 0} {x : X} → Some x ≡ None → ⊥
some≢none e = cc

-- what becomes of the transaction by a reply
abbrev LeavesTxn : Reply → Setting → ℕ → List Event → Type 0
LeavesTxn (replies.Rows rows) setting s p = Goes (level s (before_item s p)) setting.autocommit s p
LeavesTxn other setting s p = BacksOut (level s (before_item s p)) setting.autocommit s p

-- ---- by what it was found at its point

module _ (s : ℕ) (h p : List Event) (there : point s p ≡ h) (statement : Stmt) (before : Takes Spells s statement h) (takes : Takes Spells s statement p)
    (plain : is_plain_select statement ≡ true) (none : own s h ≡ own_before s h) (no-victim : did is_victim s p ≡ false)
    (views : did takes_view s p ≡ did takes_view s h) (some : (P : List Event → Type 0) → Sometime P s h → Sometime P s p) where
  none_then : own s (point s p) ≡ own_before s (point s p)
  none_then = subst (λ q. own s q ≡ own_before s q) (sym there) none

  found_then : (reply : Reply) → IsFound h s statement reply → IsFound (point s p) s statement reply
  found_then reply = subst (λ q. IsFound q s statement reply) (sym there)

  answered : (reply : Reply) → IsSeen h s statement reply → EndsRows s takes.setting reply p → HasAnswer s reply p
  answered reply seen ends =
      let here : (found : IsFound (point s p) s statement reply) × HasViewed found.l s p =
      subst (λ q. (found : IsFound q s statement reply) × HasViewed found.l s p) (sym there)
      (seen.found, λ by-view apart. views ∙ seen.viewed by-view apart) in
      record {
        statement = statement;
        on_rows = rows_of_plain statement plain;
        selects = λ is. select_of_plain statement plain;
        takes = takes;
        answers = record {
          l = here.0.l;
          level_is = here.0.level_is;
          answers = answers s p statement plain takes.setting reply here.0 none_then;
          viewed = λ by-view apart. here.1 (sym (sight_is here.0.l s takes.setting p here.0.alike statement plain) ∙ by-view) apart;
        };
        ends = ends;
        no_victim = no-victim;
      }

  overfull : (rows : ℕ) → IsTooMany rows h s statement → IsOverfull Spells s rows p
  overfull rows many =
      let found = found_then many.reply many.found in
      record {
        many = many.many;
        statement = statement;
        takes = takes;
        l = found.l;
        level_is = found.level_is;
        more = rows_of_reply many.reply;
        brings = brings s p statement plain takes.setting many.reply found;
        sum =
            some (λ g. rows ≡ rows_kept g + rows_of_reply many.reply)
            (some_now (λ g. refused_at_once s before.setting statement g ≡ None) (λ g. rows ≡ rows_kept g + rows_of_reply many.reply) s h before.not_refused
            many.sum);
      }

  given_up : BacksOut (level s (before_item s p)) takes.setting.autocommit s p → IsGivenUp Spells s p
  given_up backs =
      record {
        statement = statement;
        on_rows = rows_of_plain statement plain;
        takes = takes;
        no_victim = no-victim;
        broke_off = λ l is. inl none_then;
        backs_out = backs;
      }

  ends_with : (kept : Reply) → IsSettledBy kept h s statement → LeavesTxn kept takes.setting s p → EndsWith s kept p
  ends_with (replies.Rows rows) seen goes = answered (replies.Rows rows) seen goes
  ends_with (replies.Fail error) seen backs = inl (answered (replies.Fail error) seen backs)
  ends_with (replies.RunLimit rows) many backs = (overfull rows many, inl (given_up backs))
  ends_with other settled backs = absurd settled

  may_end_with : (kept given : Reply) → given ≡ kept → IsSettledBy kept h s statement → LeavesTxn kept takes.setting s p → HasRowsAlone s p
      → MayEndWith s kept given p
  may_end_with kept given same settled leaves rows-alone =
      record {
        same = same;
        text = takes.asks.0;
        item = takes.asks.1;
        made = inl none_then;
        ends = ends_with kept settled leaves;
        rows_alone = rows-alone;
      }

-- ---- in a transaction that stays open

module _ (s : ℕ) (h : List Event) (statement : Stmt) (early : IsEarly h s statement false) (is-open : IsOpen s h) where
  on : did closes s h ≡ false
  on = none_closed s h early.goes_on

  now : point s h ≡ h
  now = point_now h s (turn_goes_on s h on)

  stays_in : (l : Level) → level s (before_item s h) ≡ Some l → StaysIn s h
  stays_in l is = elim early.in_txn [
    | inl stays ↦ record {
      stays = stays.0;
      not_begun = stays.1;
      not_committed = none_committed s h early.goes_on;
      not_rolled_back = none_rolled s h early.goes_on;
    }
    | inr opened ↦ absurd (some≢none (sym is ∙ opened.1))
  ]

  goes : (before : Option Level) → level s (before_item s h) ≡ before → (autocommit : Bool) → early.takes.setting.autocommit ≡ autocommit
      → Goes before autocommit s h × BacksOut before autocommit s h
  goes (Some l) is autocommit a = ((stays_in l is, none_undone s h early.goes_on), (stays_in l is, early.own_is))
  goes None is true a = elim early.in_txn [
    | inl stays ↦ absurd (not_closed s h is-open (stays.0 ∙ is))
    | inr opened ↦ absurd (false≢true (sym opened.0 ∙ a))
  ]
  goes None is false a = elim early.in_txn [
    | inl stays ↦ absurd (not_closed s h is-open (stays.0 ∙ is))
    | inr opened ↦
        let opens : Opens s h = record { is_open = is-open; begun = opened.3; not_rolled_back = none_rolled s h early.goes_on } in
        let none = none_committed s h early.goes_on in
        ((opens, none, none_undone s h early.goes_on), (opens, none, early.own_is ∙ opened.2))
  ]

  leaves_txn : (kept : Reply) → LeavesTxn kept early.takes.setting s h
  leaves_txn (replies.Rows rows) = (goes (level s (before_item s h)) refl early.takes.setting.autocommit refl).0
  leaves_txn other = (goes (level s (before_item s h)) refl early.takes.setting.autocommit refl).1

  pub ends_open : (kept given : Reply) → given ≡ kept → IsSettledBy kept h s statement → MayEndWith s kept given h
  ends_open kept given same settled =
      may_end_with s h h now statement early.takes early.takes early.plain early.before_is (no_victim s h early.goes_on) refl (λ P was. was) kept given
      same settled (leaves_txn kept) early.rows_alone

  pub acks_none : awaits_ack (of_item s h) ≡ false
  acks_none = acked_of_on s h on

  leaves_it : LeavesIt Spells s h
  leaves_it =
      record {
        own_stay = early.own_is;
        not_committed = none_committed s h early.goes_on;
        not_rolled_back = none_rolled s h early.goes_on;
        no_victim = no_victim s h early.goes_on;
        begun = elim early.in_txn [
          | inl stays ↦ inl stays.1
          | inr opened ↦ inr (statement, early.takes, may_leave_open s h early.takes.setting statement early.plain opened.0)
        ];
      }

-- ---- by the end of its own transaction

module _ (s : ℕ) (h : List Event) (statement : Stmt) (early : IsEarly h s statement true) (is-open : IsOpen s h) where
  not_over : is_over s h ≡ false
  not_over = turn_goes_on s h (none_closed s h early.goes_on)

  none_own : own s h ≡ []
  none_own = early.own_is ∙ early.in_txn.2

  alone : is_alone s early.takes.setting h ≡ true
  alone = ap (λ b. b && is_none (level s (before_item s h))) early.in_txn.0 ∙ ap is_none early.in_txn.1

  pub may_roll_back : MayRollBack Spells s h
  may_roll_back =
      record { is_open = is-open; all_undone = none_own; by = inr (statement, early.takes, rolls_back_by s h early.takes.setting statement early.plain alone) }

  rows_commit : (rows : List (List Value)) → IsFound h s statement (replies.Rows rows) → MayCommit Spells s h
  rows_commit rows found =
      let now : point s h ≡ h = point_now h s not_over in
      let there = subst (λ p. IsFound p s statement (replies.Rows rows)) (sym now) found in
      record {
        is_open = is-open;
        statement = statement;
        takes = early.takes;
        by = commits_by s h early.takes.setting statement early.plain (record {
          alone = alone;
          not_over = not_over;
          l = there.l;
          level_is = ap (level s) (sym now) ∙ there.level_is;
          reply = replies.Rows rows;
          answers =
              answers s h statement early.plain early.takes.setting (replies.Rows rows) there (subst (λ p. own s p ≡ own_before s p) (sym now) early.before_is);
          not_refused = λ error is. (let x = is in cc);
        });
      }

  pub may_commit : (kept : Reply) → is_rows kept ≡ true → IsSettledBy kept h s statement → MayCommit Spells s h
  may_commit (replies.Rows rows) is seen = rows_commit rows seen.found
  may_commit other is settled = absurd (false≢true is)

  module _ (e : Event) (mine : is_of s e ≡ true) (within : is_within s e ≡ true) (begins : begins_txn e ≡ false) (ends : closes e ≡ true)
      (no-victim : is_victim e ≡ false) (no-view : takes_view e ≡ false) (gone : own s (e ∷ h) ≡ []) where
    begun_then : did begins_txn s (e ∷ h) ≡ true
    begun_then = did_same e h s mine within begins begins_txn begins ∙ early.in_txn.3

    closed_before : IsClosed s (before_item s (e ∷ h))
    closed_before = ap (level s) (before_same e h s mine within begins) ∙ early.in_txn.1

    over : is_over s (e ∷ h) ≡ true
    over = over_now e h s mine within begins ends

    there : point s (e ∷ h) ≡ h
    there = point_before e h s not_over over

    abbrev taken : Takes Spells s statement (e ∷ h)
    taken = takes_on e h s within statement early.takes

    -- as a statement is left that had a transaction of its own
    of_own : (P : Option Level → Bool → Type 0) → P None true → P (level s (before_item s (e ∷ h))) early.takes.setting.autocommit
    of_own P own-one = rw (closed_before, early.in_txn.0) own-one

    closing : (kept given : Reply) → given ≡ kept → IsSettledBy kept h s statement → LeavesTxn kept early.takes.setting s (e ∷ h)
        → (is_rows kept ≡ true → WasCommitted Spells s (e ∷ h)) → IsClosing s kept given (e ∷ h)
    closing kept given same settled leaves limited =
        record {
          may =
              may_end_with s h (e ∷ h) there statement early.takes taken early.plain early.before_is
              (did_same e h s mine within begins is_victim no-victim ∙ no_victim s h early.goes_on)
              (did_same e h s mine within begins takes_view no-view) (some_on e h s mine within begins) kept given same settled leaves
              (subst (AllByRecursion IsOfRow) (sym gone) tt);
          rests = inl over;
          limited = limited;
        }

  pub committed : (kept given : Reply) → is_rows kept ≡ true → given ≡ kept → IsSettledBy kept h s statement → IsClosing s kept given (events.Committed s ∷ h)
  committed (replies.Rows rows) given is same settled =
      let e = events.Committed s in
      let its : is_of s e ≡ true = grind (arith, nat_tests) in
      let gone : own s (e ∷ h) ≡ [] = grind (arith, nat_tests) in
      let commits : Commits s (e ∷ h) =
      record {
        closed = grind (arith, nat_tests);
        committed = did_now e h s its refl refl commits_txn refl;
        not_rolled_back = did_same e h s its refl refl rolls_back_txn refl ∙ none_rolled s h early.goes_on;
      } in
      let begun = begun_then e its refl refl refl refl refl gone in
      closing e its refl refl refl refl refl gone (replies.Rows rows) given same settled
      (of_own e its refl refl refl refl refl gone (λ l autocommit. Goes l autocommit s (e ∷ h))
      (commits, begun, did_same e h s its refl refl undoes refl ∙ none_undone s h early.goes_on))
      (λ rows. record {
        statement = statement;
        select = select_of_plain statement early.plain;
        takes = taken e its refl refl refl refl refl gone;
        begun = begun;
        commits = commits;
        nothing = ap (own s) (there e its refl refl refl refl refl gone) ∙ none_own;
      })
  committed other given is same settled = absurd (false≢true is)

  leaves_back : (kept : Reply) (setting : Setting) (p : List Event) → is_rows kept ≡ false → BacksOut (level s (before_item s p)) setting.autocommit s p
      → LeavesTxn kept setting s p
  leaves_back (replies.Rows rows) setting p none backs = absurd (false≢true (sym none))
  leaves_back other setting p none backs = backs

  pub rolled : (kept given : Reply) → is_rows kept ≡ false → given ≡ kept → IsSettledBy kept h s statement → IsClosing s kept given (events.RolledBack s ∷ h)
  rolled kept given none same settled =
      let e = events.RolledBack s in
      let its : is_of s e ≡ true = grind (arith, nat_tests) in
      let gone : own s (e ∷ h) ≡ [] = grind (arith, nat_tests) in
      let rolls : RollsBack s (e ∷ h) =
      record {
        closed = grind (arith, nat_tests);
        rolled_back = did_now e h s its refl refl rolls_back_txn refl;
        not_committed = did_same e h s its refl refl commits_txn refl ∙ none_committed s h early.goes_on;
      } in
      closing e its refl refl refl refl refl gone kept given same settled
      (leaves_back kept early.takes.setting (e ∷ h) none (of_own e its refl refl refl refl refl gone (λ l autocommit. BacksOut l autocommit s (e ∷ h))
      (begun_then e its refl refl refl refl refl gone, rolls)))
      (λ rows. absurd (false≢true (sym none ∙ rows)))

-- ---- for want of memory

gives : (s : ℕ) (h : List Event) (statement : Stmt) (alone : Bool) (early : IsEarly h s statement alone) → IsOpen s h
    → GivesUp alone early.takes.setting s h
gives s h statement true early is-open = (alone s h statement early is-open, is-open, none_own s h statement early is-open)
gives s h statement false early is-open = leaves_it s h statement early is-open

failed : (s : ℕ) (h : List Event) (statement : Stmt) (alone : Bool) → IsEarly h s statement alone → IsOpen s h → IsFailed s alone h
failed s h statement alone early is-open =
    record {
      statement = statement;
      takes = early.takes;
      on_rows = rows_of_plain statement early.plain;
      not_committed = none_committed s h early.goes_on;
      made = subst (λ p. own s p ≡ own_before s p) (sym (point_now h s (turn_goes_on s h (none_closed s h early.goes_on)))) early.before_is;
      rows_alone = early.rows_alone;
      gives = gives s h statement alone early is-open;
    }

pub fails_with : (s : ℕ) (old new : State) (alone : Bool) → Turns s Idle old new → IsFailed s alone old.past
    → Steps IsRunning s old new (machine.Leaving (leaving.Failed alone)) advance.NoMemory
fails_with s old new alone turns fails =
    (moves_turns s Idle old new turns, (subst (IsFailed s alone) (sym turns.past_is) fails, turns.task_is), turns.past_is)

pub fails : (s : ℕ) (old new : State) (statement : Stmt) (alone : Bool) → Turns s Idle old new → IsEarly old.past s statement alone → IsOpen s old.past
    → Steps IsRunning s old new (machine.Leaving (leaving.Failed alone)) advance.NoMemory
fails s old new statement alone turns early is-open = fails_with s old new alone turns (failed s old.past statement alone early is-open)
