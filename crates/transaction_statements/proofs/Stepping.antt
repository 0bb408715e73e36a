-- What one entry of its own makes of a statement, and how a statement begins.
use Rattle.std.proofs.Common.{◌≡◌, ℕ, ◌<◌, ◌≤◌, true, false, None, List, [], ◌∷◌, refl, sym, ap, subst, ◌∙◌, arith, length, suc}
use Rattle.std.proofs.lemmas.Bool.Decides.{nat_tests}
use Rattle.std.specs.Prelude.{◌-◌}
use Rattle.std.specs.List.{AllByRecursion, list_any}
use Rattle.inno_types.specs.declared.lock.Level.{Level}
use Rattle.inno_types.specs.declared.stmt.Stmt.{Stmt}
use Rattle.inno_types.specs.declared.stmt.Stmt.TheVariants as stmt
use Rattle.inno_db.specs.declared.change.Change.{Change}
use Rattle.inno_model.specs.declared.event.Event.{Event}
use Rattle.inno_model.specs.declared.event.Event.TheVariants as events
use Rattle.inno_model.specs.Past.{of_item, did, begins_txn, commits_txn, rolls_back_txn, closes, level, own, oldest, awaits_ack, IsOpen}
use Rattle.sql_grammar.specs.Grammar.{Spells}
use Rattle.sql_history.specs.Items.{own_before, of_turn, is_over}
use Rattle.sql_history.specs.Settings.{Setting, HasSet, made_at}
use Rattle.sql_history.specs.Statements.{refused_at_once}
use Rattle.sql_history.specs.Waiting.{is_victim}
use Rattle.sql_history.specs.Legal.{MayCommit, CommitsBy}
use Rattle.law_past_agreement.specs.Order.{IsOfRow, IsUndoable}
use Rattle.sql_lists.specs.Steps.{HasRowsAlone, IsTaken}
use Rattle.sql_lists.proofs.Staying.{point_now, point_before}
use Rattle.transaction_statements.specs.declared.committer.Committer.{Committer}
use Rattle.transaction_statements.specs.declared.committer.Committer.TheVariants as committers
use Rattle.transaction_statements.specs.Committing.{stmt_of, Fits}
use Rattle.giving_up.specs.Ends.{HasMadeNone, IsEmptied}
use Rattle.transaction_statements.specs.Knowing.{IsAt, HasOpened, IsGoingBack, IsMissing}
use Rattle.transaction_statements.specs.Running.{Nothing}
use Rattle.giving_up.proofs.Ends.{point_kept}
use Rattle.giving_up.proofs.Nothing.{own_nothing, level_nothing, own_now, over_nothing, made_nothing, set_before, sometime_too}
use Rattle.transaction_statements.proofs.Staying.{at_on}

-- ---- changes that are put back

pub rows_of_none : (s : ℕ) (past : List Event) → own s past ≡ [] → HasRowsAlone s past
rows_of_none s past none = rw none tt

undoable_of : (changes : List Change) → AllByRecursion IsOfRow changes → 0 < length changes → IsUndoable (length changes - 1) changes
undoable_of [] rows some = absurd (omega (arith, some))
undoable_of (c ∷ cs) rows some = (rows.0, omega arith)

oldest_tail : (c : Change) (cs : List Change) → oldest (length (c ∷ cs) - 1) (c ∷ cs) ≡ cs
oldest_tail c cs = let one : length (c ∷ cs) - (length (c ∷ cs) - 1) ≡ 1 = omega arith in rw one refl

pub rows_left : (changes : List Change) → AllByRecursion IsOfRow changes → AllByRecursion IsOfRow (oldest (length changes - 1) changes)
rows_left [] rows = tt
rows_left (c ∷ cs) rows = subst (AllByRecursion IsOfRow) (sym (oldest_tail c cs)) rows.1

oldest_same : (made : ℕ) (changes : List Change) → made < length changes → oldest made (oldest (length changes - 1) changes) ≡ oldest made changes
oldest_same made [] more = absurd (omega (arith, more))
oldest_same made (c ∷ cs) more =
    let one-more : length (c ∷ cs) - made ≡ suc (length cs - made) = omega (arith, more) in
    ap (oldest made) (oldest_tail c cs) ∙ sym (rw one-more refl)

module _ (s : ℕ) (h : List Event) where
  -- ---- a commit

  pub may_commit : (committer : Committer) → IsOpen s h → IsAt s (stmt_of committer) (Fits committer) h → of_item s h ≡ [] → MayCommit Spells s h
  may_commit committer is-open at none =
      record { is_open = is-open; statement = stmt_of committer; takes = at.takes; by = by committer at.takes.setting at.knows } where
        by : (c : Committer) (setting : Setting) → Fits c setting → CommitsBy s setting (stmt_of c) h
        by committers.Commit setting knows = tt
        by committers.TurnOn setting knows = knows
        by (committers.Begin snapshot l) setting knows = ap (list_any begins_txn) none

  pub emptied_closed : of_item s h ≡ [] → level s h ≡ None → own s h ≡ [] → IsEmptied s h
  emptied_closed none closed new =
      record {
        closed = closed;
        new = new;
        not_begun = ap (list_any begins_txn) none;
        not_rolled_back = ap (list_any rolls_back_txn) none;
        made = made_nothing s h none;
      }

  committed_made : of_item s h ≡ [] → HasMadeNone s (events.Committed s ∷ h)
  committed_made none =
      let over : is_over s (events.Committed s ∷ h) ≡ true = grind (arith, nat_tests) in
      subst (λ p. own s p ≡ own_before s p) (sym (point_before (events.Committed s) h s (over_nothing s h none) over)) (own_now s h none)

  pub emptied_committed : of_item s h ≡ [] → IsEmptied s (events.Committed s ∷ h) × (awaits_ack (of_item s (events.Committed s ∷ h)) ≡ true)
  emptied_committed none = (
    record {
      closed = grind (arith, nat_tests);
      new = grind (arith, nat_tests);
      not_begun = (let x : did begins_txn s h ≡ false = ap (list_any begins_txn) none in grind (arith, nat_tests, x));
      not_rolled_back = (let x : did rolls_back_txn s h ≡ false = ap (list_any rolls_back_txn) none in grind (arith, nat_tests, x));
      made = committed_made none;
    },
    grind (arith, nat_tests),
  )

  pub at_committed : (statement : Stmt) (Knows : Setting → Type 0) → IsAt s statement Knows h → IsAt s statement Knows (events.Committed s ∷ h)
  at_committed statement Knows at =
      at_on s statement Knows (events.Committed s) h refl (rows_of_none s (events.Committed s ∷ h) (grind (arith, nat_tests)))
      (grind (arith, nat_tests, at.no_victim)) at

  -- ---- a transaction

  pub opened_begun : (n : ℕ) (l : Level) → did rolls_back_txn s h ≡ false → HasOpened s (events.Begin s n l ∷ h)
  opened_begun n l kept =
      let turn : of_turn s (events.Begin s n l ∷ h) ≡ [] = grind (arith, nat_tests) in
      let none : own s (events.Begin s n l ∷ h) ≡ [] = grind (arith, nat_tests) in
      let before : own_before s (events.Begin s n l ∷ h) ≡ [] = grind (arith, nat_tests) in
      record {
        is_open = grind (arith, nat_tests);
        begun = grind (arith, nat_tests);
        not_rolled_back = grind (arith, nat_tests, kept);
        new = none;
        acked = grind (arith, nat_tests);
        made = subst (λ p. own s p ≡ own_before s p) (sym (point_now (events.Begin s n l ∷ h) s (ap (list_any closes) turn))) (none ∙ sym before);
      }

  pub at_begun : (n : ℕ) (l : Level) (statement : Stmt) (Knows : Setting → Type 0) → IsAt s statement Knows h → IsAt s statement Knows (events.Begin s n l ∷ h)
  at_begun n l statement Knows at =
      at_on s statement Knows (events.Begin s n l) h refl (rows_of_none s (events.Begin s n l ∷ h) (grind (arith, nat_tests)))
      (grind (arith, nat_tests, at.no_victim)) at

  pub knows_less : (statement : Stmt) (Knows : Setting → Type 0) → IsAt s statement Knows h → IsAt s statement Nothing h
  knows_less statement Knows at = record { takes = at.takes; knows = tt; rows_alone = at.rows_alone; no_victim = at.no_victim }

  pub opened_viewed : HasOpened s h → HasOpened s (events.View s ∷ h)
  opened_viewed o =
      record {
        is_open = o.is_open;
        begun = grind (arith, nat_tests, o.begun);
        not_rolled_back = grind (arith, nat_tests, o.not_rolled_back);
        new = o.new;
        acked = grind (arith, nat_tests);
        made =
            let over : is_over s (events.View s ∷ h) ≡ is_over s h = grind (arith, nat_tests) in
            point_kept (own s) (events.View s) h s over refl ∙ (o.made ∙ sym (point_kept (own_before s) (events.View s) h s over refl));
      }

  pub at_viewed : (statement : Stmt) (Knows : Setting → Type 0) → IsAt s statement Knows h → IsAt s statement Knows (events.View s ∷ h)
  at_viewed statement Knows at = at_on s statement Knows (events.View s) h refl at.rows_alone (grind (arith, nat_tests, at.no_victim)) at

  -- ---- rollbacks

  pub undoable : HasRowsAlone s h → 0 < length (own s h) → IsUndoable (length (own s h) - 1) (own s h)
  undoable rows some = undoable_of (own s h) rows some

  abbrev pub undone : Event
  undone = events.Undone s (length (own s h) - 1)

  own_undone : own s (undone ∷ h) ≡ oldest (length (own s h) - 1) (own s h)
  own_undone = grind (arith, nat_tests)

  pub at_undone : (statement : Stmt) (Knows : Setting → Type 0) → IsAt s statement Knows h → IsAt s statement Knows (undone ∷ h)
  at_undone statement Knows at =
      at_on s statement Knows undone h refl (subst (AllByRecursion IsOfRow) (sym own_undone) (rows_left (own s h) at.rows_alone))
      (grind (arith, nat_tests, at.no_victim)) at

  pub back_undone : (made : ℕ) → made < length (own s h) → IsGoingBack s made h → IsGoingBack s made (undone ∷ h)
  back_undone made more back =
      record {
        stays = record {
          stays = back.stays.stays;
          not_begun = grind (arith, nat_tests, back.stays.not_begun);
          not_committed = grind (arith, nat_tests, back.stays.not_committed);
          not_rolled_back = grind (arith, nat_tests, back.stays.not_rolled_back);
        };
        keeps = ap (oldest made) own_undone ∙ (oldest_same made (own s h) more ∙ back.keeps);
        acked = grind (arith, nat_tests);
      }

  pub at_rolled : (statement : Stmt) (Knows : Setting → Type 0) → IsAt s statement Knows h → IsAt s statement Knows (events.RolledBack s ∷ h)
  at_rolled statement Knows at =
      at_on s statement Knows (events.RolledBack s) h refl (rows_of_none s (events.RolledBack s ∷ h) (grind (arith, nat_tests)))
      (grind (arith, nat_tests, at.no_victim)) at

-- ---- beginnings

-- what was found set is what counts
pub retaken : (s : ℕ) (statement : Stmt) (Knows : Setting → Type 0) (past : List Event) (setting : Setting) (taken : IsTaken s statement past)
    → HasSet Spells s past setting
    → ((h : List Event) → refused_at_once s taken.takes.setting statement h ≡ None → refused_at_once s setting statement h ≡ None) → Knows setting
    → IsAt s statement Knows past
retaken s statement Knows past setting taken set same knows =
    record {
      takes = record {
        asks = taken.takes.asks;
        setting = setting;
        is_set = set_before s past setting taken.nothing set;
        not_refused = sometime_too _ _ same s past taken.takes.not_refused;
      };
      knows = knows;
      rows_alone = taken.rows_alone;
      no_victim = ap (list_any is_victim) taken.nothing;
    }

pub back_first : (s made : ℕ) (past : List Event) → of_item s past ≡ [] → IsGoingBack s made past
back_first s made past none =
    record {
      stays = record {
        stays = level_nothing s past none;
        not_begun = ap (list_any begins_txn) none;
        not_committed = ap (list_any commits_txn) none;
        not_rolled_back = ap (list_any rolls_back_txn) none;
      };
      keeps = ap (oldest made) (own_nothing s past none);
      acked = ap awaits_ack none;
    }

pub missing_first : (s : ℕ) (name : List ℕ) (past : List Event) (setting : Setting) → IsTaken s (stmt.RollbackTo name) past → HasSet Spells s past setting
    → made_at name setting.saves ≡ None → IsMissing s name past
missing_first s name past setting taken set missing =
    record {
      asks = taken.takes.asks;
      setting = setting;
      is_set = set_before s past setting taken.nothing set;
      missing = missing;
      nothing = taken.nothing;
      rows_alone = taken.rows_alone;
    }

-- whatever was set
pub taken_as : (s : ℕ) (statement : Stmt) (Knows : Setting → Type 0) (past : List Event) (taken : IsTaken s statement past) → Knows taken.takes.setting
    → IsAt s statement Knows past
taken_as s statement Knows past taken knows =
    record { takes = taken.takes; knows = knows; rows_alone = taken.rows_alone; no_victim = ap (list_any is_victim) taken.nothing }

-- none of its changes stands
empty_of : (changes : List Change) → length changes ≤ 0 → changes ≡ []
empty_of [] none = refl
empty_of (c ∷ cs) none = absurd (omega (arith, none))

pub none_as_told : (s n : ℕ) (past : List Event) → n ≡ length (own s past) → n ≤ 0 → own s past ≡ []
none_as_told s n past told none = empty_of (own s past) (subst (λ m. m ≤ 0) told none)
