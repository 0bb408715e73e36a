-- That an item may end: its reply is one that the rules allow.
use Rattle.std.proofs.Common.{◌≡◌, ◌⊎◌, ℕ, Bool, true, false, Option, Some, None, List, [], ◌∷◌, ◌≤◌, refl, sym, ap, subst, ◌∙◌, inl, inr, arith}
use Rattle.std.proofs.lemmas.Bool.{false≢true}
use Rattle.std.specs.List.{list_any}
use Rattle.inno_types.specs.declared.lock.Level.{Level}
use Rattle.inno_types.specs.declared.lock.Level.TheVariants.{RepeatableRead}
use Rattle.inno_types.specs.declared.reply.Item.TheVariants.{Sql}
use Rattle.inno_types.specs.declared.reply.Reply.TheVariants.{Done, Fail}
use Rattle.inno_types.specs.declared.reply.SqlError.TheVariants.{NoSavepoint}
use Rattle.inno_types.specs.declared.stmt.Stmt.{Stmt}
use Rattle.inno_types.specs.declared.stmt.Stmt.TheVariants as stmt
use Rattle.inno_model.specs.declared.event.Event.{Event}
use Rattle.inno_model.specs.Moments.{Sometime}
use Rattle.inno_model.specs.Past.{before_item, of_item, did, begins_txn, takes_view, commits_txn, rolls_back_txn, level, own, oldest, under_way, awaits_ack}
use Rattle.inno_model.specs.Past.{IsOpen, IsClosed}
use Rattle.std.specs.Prelude.{is_some, length, ◌-◌}
use Rattle.inno_db.specs.declared.change.Change.{Change}
use Rattle.giving_up.proofs.Nothing.{own_nothing, level_nothing, made_nothing}
use Rattle.sql_grammar.specs.Grammar.{Spells}
use Rattle.sql_history.specs.Settings.{Setting, made_at}
use Rattle.sql_history.specs.Statements.{refused_at_once}
use Rattle.sql_history.specs.Waiting.{is_victim}
use Rattle.sql_history.specs.Legal.{Takes, EndsTaken, EndsSavepoint, EndsAutocommit}
use Rattle.sql_lists.specs.Kept.{MayReply, SetsQuietly}
use Rattle.transaction_statements.specs.declared.committer.Committer.TheVariants as committers
use Rattle.transaction_statements.specs.Committing.{Fits, SetsAlone}
use Rattle.giving_up.specs.Ends.{IsEmptied, IsGivingUp, HasMadeNone}
use Rattle.transaction_statements.specs.Knowing.{IsAt, HasOpened, SavesIn, IsGoingBack, IsMissing, IsFinished}
use Rattle.transaction_statements.specs.Running.{Nothing}

may_be_done : (s : ℕ) (statement : Stmt) (past : List Event) → (takes : Takes Spells s statement past) → EndsTaken s takes.setting statement Done past
    → awaits_ack (of_item s past) ≡ false → did is_victim s past ≡ false → MayReply s Done past
may_be_done s statement past takes ends acked no_victim =
    record {
      item = Sql takes.asks.0;
      asked = takes.asks.1;
      ends = (
        acked,
        inl refl,
        inl (record {
          statement = statement;
          asks = takes.asks;
          setting = takes.setting;
          is_set = takes.is_set;
          refusal = None;
          found = takes.not_refused;
          ends = ends;
          no_victim = no_victim;
        }),
      );
    }

pub may_finish : (s : ℕ) (statement : Stmt) (past : List Event) → IsFinished s statement past → MayReply s Done past
may_finish s statement past f = may_be_done s statement past f.takes f.ends f.acked f.no_victim

some_past : (P : List Event → Type 0) (s : ℕ) (past : List Event) (text : List ℕ) → under_way s past ≡ Some (Sql text) → P past → Sometime P s past
some_past P s [] text is holds = cc
some_past P s (e ∷ past) text is holds = inl holds

pub may_refuse : (s : ℕ) (name : List ℕ) (past : List Event) → IsMissing s name past → MayReply s (Fail NoSavepoint) past
may_refuse s name past m =
    record {
      item = Sql m.asks.0;
      asked = m.asks.1;
      ends = (
        ap awaits_ack m.nothing,
        inl refl,
        inl (record {
          statement = stmt.RollbackTo name;
          asks = m.asks;
          setting = m.setting;
          is_set = m.is_set;
          refusal = Some NoSavepoint;
          found = some_past (λ h. refused_at_once s m.setting (stmt.RollbackTo name) h ≡ Some NoSavepoint) s past m.asks.0 m.asks.1 (rw m.missing refl);
          ends = (refl, m.nothing);
          no_victim = rw m.nothing refl;
        }),
      );
    }

-- ---- what is done

module _ (s : ℕ) (past : List Event) where
  ends_autocommit : (was on : Bool) → (was ≡ true) ⊎ (on ≡ false) → of_item s past ≡ [] → EndsAutocommit was on s past
  ends_autocommit true on either none = none
  ends_autocommit false true either none = elim either [ inl is ↦ absurd (false≢true is) | inr is ↦ absurd (false≢true (sym is)) ]
  ends_autocommit false false either none = none

  ends_savepoint : (before : Option Level) (autocommit : Bool) → autocommit ≡ true → of_item s past ≡ [] → EndsSavepoint before autocommit s past
  ends_savepoint None false is none = absurd (false≢true is)
  ends_savepoint None true is none = none
  ends_savepoint (Some l) autocommit is none = none

  ends_quietly : (setting : Setting) (statement : Stmt) → SetsAlone statement setting → of_item s past ≡ [] → EndsTaken s setting statement Done past
  ends_quietly setting (stmt.SetLevel scope l) alone none = (refl, none)
  ends_quietly setting (stmt.SetAutocommit on) alone none = (refl, ends_autocommit setting.autocommit on alone none)
  ends_quietly setting (stmt.Savepoint name) alone none = (refl, ends_savepoint (level s (before_item s past)) setting.autocommit alone none)
  ends_quietly setting (stmt.CreateTable table if_not_exists definitions) alone none = elim alone [ ]
  ends_quietly setting (stmt.Select selected table condition lock) alone none = elim alone [ ]
  ends_quietly setting (stmt.Insert table columns tuples) alone none = elim alone [ ]
  ends_quietly setting (stmt.Update table sets condition) alone none = elim alone [ ]
  ends_quietly setting (stmt.Delete table condition) alone none = elim alone [ ]
  ends_quietly setting (stmt.Begin snapshot) alone none = elim alone [ ]
  ends_quietly setting stmt.Commit alone none = elim alone [ ]
  ends_quietly setting stmt.Rollback alone none = elim alone [ ]
  ends_quietly setting (stmt.RollbackTo name) alone none = elim alone [ ]

  pub finishes_quietly : (statement : Stmt) → IsAt s statement (SetsAlone statement) past → of_item s past ≡ [] → SetsQuietly statement s past
      → IsFinished s statement past
  finishes_quietly statement at none quiet =
      record {
        takes = at.takes;
        ends = ends_quietly at.takes.setting statement at.knows none;
        acked = ap awaits_ack none;
        no_victim = at.no_victim;
        quiet =
            quiet;
        rows_alone = at.rows_alone;
      }

  pub finishes_commit : IsAt s stmt.Commit (Fits committers.Commit) past → IsEmptied s past → awaits_ack (of_item s past) ≡ false
      → IsFinished s stmt.Commit past
  finishes_commit at empty acked =
      record {
        takes = at.takes;
        ends = (refl, empty.closed, empty.not_rolled_back);
        acked = acked;
        no_victim = at.no_victim;
        quiet = tt;
        rows_alone =
            at.rows_alone;
      }

  pub finishes_turn_on : IsAt s (stmt.SetAutocommit true) (Fits committers.TurnOn) past → IsEmptied s past → awaits_ack (of_item s past) ≡ false
      → IsFinished s (stmt.SetAutocommit true) past
  finishes_turn_on at empty acked =
      record {
        takes = at.takes;
        ends = (refl, subst (λ was. EndsAutocommit was true s past) (sym at.knows) (empty.closed, empty.not_begun, empty.not_rolled_back));
        acked = acked;
        no_victim = at.no_victim;
        quiet = tt;
        rows_alone = at.rows_alone;
      }

  pub finishes_begin : (snapshot : Bool) → IsAt s (stmt.Begin snapshot) Nothing past → HasOpened s past
      → (snapshot ≡ true → level s past ≡ Some RepeatableRead → did takes_view s past ≡ true) → IsFinished s (stmt.Begin snapshot) past
  finishes_begin snapshot at opened view =
      record {
        takes = at.takes;
        ends = (
          refl,
          record {
            opens = record { is_open = opened.is_open; begun = opened.begun; not_rolled_back = opened.not_rolled_back };
            new = opened.new;
            view = view;
          },
        );
        acked = opened.acked;
        no_victim = at.no_victim;
        quiet = tt;
        rows_alone = at.rows_alone;
      }

  pub finishes_rollback : IsAt s stmt.Rollback Nothing past → IsClosed s past → did commits_txn s past ≡ false → awaits_ack (of_item s past) ≡ false
      → IsFinished s stmt.Rollback past
  finishes_rollback at closed uncommitted acked =
      record { takes = at.takes; ends = (refl, closed, uncommitted); acked = acked; no_victim = at.no_victim; quiet = tt; rows_alone = at.rows_alone }

  all_kept : (made : ℕ) (changes : List Change) → length changes ≤ made → oldest made changes ≡ changes
  all_kept made changes few = let none : length changes - made ≡ 0 = omega (arith, few) in rw none refl

  pub finishes_rollback_to : (name : List ℕ) (made : ℕ) → IsAt s (stmt.RollbackTo name) (λ setting. made_at name setting.saves ≡ Some made) past
      → IsGoingBack s made past → length (own s past) ≤ made → IsFinished s (stmt.RollbackTo name) past
  finishes_rollback_to name made at back few =
      record {
        takes = at.takes;
        ends = (refl, back.stays, (made, at.knows, sym (all_kept made (own s past) few) ∙ back.keeps));
        acked = back.acked;
        no_victim = at.no_victim;
        quiet = tt;
        rows_alone = at.rows_alone;
      }

  ends_within : (before : Option Level) (autocommit : Bool) → is_some before ≡ true → of_item s past ≡ [] → EndsSavepoint before autocommit s past
  ends_within None autocommit some none = absurd (false≢true some)
  ends_within (Some l) autocommit some none = none

  ends_saving : (setting : Setting) (opened : Bool) → (opened ≡ true → setting.autocommit ≡ false) → SavesIn opened s past
      → EndsSavepoint (level s (before_item s past)) setting.autocommit s past
  ends_saving setting false knows saves =
      ends_within (level s (before_item s past)) setting.autocommit (ap is_some (sym (level_nothing s past saves.0)) ∙ saves.1) saves.0
  ends_saving setting true knows saves =
      let o = saves.0 in
      subst (λ before. EndsSavepoint before setting.autocommit s past) (sym saves.1)
      (subst (λ autocommit. EndsSavepoint None autocommit s past) (sym (knows refl))
      (record { is_open = o.is_open; begun = o.begun; not_rolled_back = o.not_rolled_back }, o.new, saves.3))

  acked_saving : (opened : Bool) → SavesIn opened s past → awaits_ack (of_item s past) ≡ false
  acked_saving false saves = ap awaits_ack saves.0
  acked_saving true saves = saves.0.acked

  pub open_saving : (opened : Bool) → SavesIn opened s past → IsOpen s past
  open_saving false saves = saves.1
  open_saving true saves = saves.0.is_open

  pub may_save : (name : List ℕ) (opened : Bool) → IsAt s (stmt.Savepoint name) (λ setting. opened ≡ true → setting.autocommit ≡ false) past
      → SavesIn opened s past → MayReply s Done past
  may_save name opened at saves =
      may_be_done s (stmt.Savepoint name) past at.takes (refl, ends_saving at.takes.setting opened at.knows saves) (acked_saving opened saves) at.no_victim

  -- ---- without memory

  pub fails_begin : (snapshot : Bool) (Knows : Setting → Type 0) → IsAt s (stmt.Begin snapshot) Knows past → IsClosed s past → HasMadeNone s past
      → (did begins_txn s past ≡ false) ⊎ (did rolls_back_txn s past ≡ true) → awaits_ack (of_item s past) ≡ false → IsGivingUp s past
  fails_begin snapshot Knows at closed made begun acked =
      record {
        text = at.takes.asks.0;
        item = at.takes.asks.1;
        acked = acked;
        leaves = inl (record {
          statement = stmt.Begin snapshot;
          takes = at.takes;
          brings = tt;
          closed = closed;
          made = made;
          begun = begun;
          no_victim = at.no_victim;
        });
        made = made;
        rows_alone = at.rows_alone;
      }

  pub fails_still : (statement : Stmt) (Knows : Setting → Type 0) → IsAt s statement Knows past → of_item s past ≡ [] → IsGivingUp s past
  fails_still statement Knows at none =
      record {
        text = at.takes.asks.0;
        item = at.takes.asks.1;
        acked = ap awaits_ack none;
        leaves = inr (record {
          own_stay = own_nothing s past none;
          not_committed = ap (list_any commits_txn) none;
          not_rolled_back = ap (list_any rolls_back_txn) none;
          no_victim = at.no_victim;
          begun = inl (ap (list_any begins_txn) none);
        });
        made = made_nothing s past none;
        rows_alone = at.rows_alone;
      }

  pub fails_saving : (name : List ℕ) (opened : Bool) → IsAt s (stmt.Savepoint name) (λ setting. opened ≡ true → setting.autocommit ≡ false) past
      → SavesIn opened s past → IsGivingUp s past
  fails_saving name false at saves = fails_still (stmt.Savepoint name) _ at saves.0
  fails_saving name true at saves =
      let o = saves.0 in
      record {
        text = at.takes.asks.0;
        item = at.takes.asks.1;
        acked = o.acked;
        leaves = inr (record {
          own_stay = o.new ∙ sym saves.2;
          not_committed = saves.3;
          not_rolled_back = o.not_rolled_back;
          no_victim = at.no_victim;
          begun = inr (stmt.Savepoint name, at.takes, at.knows refl);
        });
        made = o.made;
        rows_alone = at.rows_alone;
      }
