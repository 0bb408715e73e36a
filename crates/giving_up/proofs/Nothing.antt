-- A statement that has done nothing yet, and how its item ends where no transaction can be opened for it.
use Rattle.std.proofs.Common.{◌≡◌, ℕ, Bool, true, false, eqb, List, [], ◌∷◌, refl, sym, ap, subst, ◌∙◌, inl, inr, arith}
use Rattle.std.proofs.lemmas.Bool.Decides.{nat_tests, eqb_tells}
use Rattle.std.proofs.lemmas.Bool.{false≢true}
use Rattle.std.specs.List.{list_any}
use Rattle.inno_types.specs.declared.stmt.Stmt.{Stmt}
use Rattle.inno_model.specs.declared.event.Event.{Event}
use Rattle.inno_model.specs.declared.event.Event.TheVariants as events
use Rattle.inno_model.specs.Past.{before_item, of_item, did, begins_txn, commits_txn, rolls_back_txn, closes, level, own, awaits_ack}
use Rattle.inno_model.specs.Moments.{Sometime}
use Rattle.sql_grammar.specs.Grammar.{Spells}
use Rattle.sql_history.specs.Items.{of_turn, before_turn, is_over, own_before, point}
use Rattle.sql_history.specs.Settings.{Setting, HasSet, IfOwn}
use Rattle.sql_history.specs.Legal.{LeavesIt}
use Rattle.sql_history.specs.Statements.{is_on_rows}
use Rattle.sql_history.specs.Waiting.{is_victim}
use Rattle.sql_lists.specs.Steps.{IsTaken}
use Rattle.giving_up.specs.Ends.{IsFailed}
use Rattle.sql_lists.proofs.Staying.{point_now}

pub own_nothing : (s : ℕ) (h : List Event) → of_item s h ≡ [] → own s h ≡ own s (before_item s h)
own_nothing s [] none = refl
own_nothing s (e ∷ h) none = grind (arith, nat_tests, own_nothing s h, none)

pub level_nothing : (s : ℕ) (h : List Event) → of_item s h ≡ [] → level s h ≡ level s (before_item s h)
level_nothing s [] none = refl
level_nothing s (e ∷ h) none = grind (arith, nat_tests, level_nothing s h, none)

no_turn : (s : ℕ) (h : List Event) → of_item s h ≡ [] → of_turn s h ≡ []
no_turn s [] none = refl
no_turn s (e ∷ h) none = grind (arith, nat_tests, no_turn s h, none)

before_nothing : (s : ℕ) (h : List Event) → of_item s h ≡ [] → before_turn s h ≡ before_item s h
before_nothing s [] none = refl
before_nothing s (e ∷ h) none = grind (arith, nat_tests, before_nothing s h, none)

pub turn_nothing : (s : ℕ) (h : List Event) → of_item s h ≡ [] → (of_turn s h ≡ []) × (before_turn s h ≡ before_item s h)
turn_nothing s h none = (no_turn s h none, before_nothing s h none)

pub over_nothing : (s : ℕ) (h : List Event) → of_item s h ≡ [] → is_over s h ≡ false
over_nothing s h none = ap (list_any closes) (no_turn s h none)

pub own_now : (s : ℕ) (h : List Event) → of_item s h ≡ [] → own s h ≡ own_before s h
own_now s h none = own_nothing s h none ∙ ap (own s) (sym (before_nothing s h none))

pub did_none : (test : Event → Bool) (s : ℕ) (h : List Event) → of_item s h ≡ [] → did test s h ≡ false
did_none test s h none = ap (list_any test) none

pub acked_none : (s : ℕ) (h : List Event) → of_item s h ≡ [] → awaits_ack (of_item s h) ≡ false
acked_none s h none = ap awaits_ack none

-- ---- where none can be opened

leaves_nothing : (s : ℕ) (h : List Event) → of_item s h ≡ [] → LeavesIt Spells s h
leaves_nothing s h none =
    record {
      own_stay = own_nothing s h none;
      not_committed = did_none commits_txn s h none;
      not_rolled_back = did_none rolls_back_txn s h none;
      no_victim = did_none is_victim s h none;
      begun = inl (did_none begins_txn s h none);
    }

pub made_nothing : (s : ℕ) (h : List Event) → of_item s h ≡ [] → own s (point s h) ≡ own_before s (point s h)
made_nothing s h none = subst (λ p. own s p ≡ own_before s p) (sym (point_now h s (over_nothing s h none))) (own_now s h none)

pub taken_fails : (s : ℕ) (statement : Stmt) (h : List Event) → is_on_rows statement ≡ true → IsTaken s statement h → IsFailed s false h
taken_fails s statement h on-rows taken =
    record {
      statement = statement;
      takes = taken.takes;
      on_rows = on-rows;
      not_committed = did_none commits_txn s h taken.nothing;
      made = made_nothing s h taken.nothing;
      rows_alone = taken.rows_alone;
      gives = leaves_nothing s h taken.nothing;
    }

-- ---- what was set

either_other : (b : Bool) (A B : Type 0) → b ≡ false → IfOwn b A B → B
either_other true A B is x = absurd (false≢true (sym is))
either_other false A B is x = x

-- what is set now was set before the item
pub set_before : (s : ℕ) (h : List Event) (setting : Setting) → of_item s h ≡ [] → HasSet Spells s h setting → HasSet Spells s (before_item s h) setting
set_before s [] setting none set = set
set_before s (events.Started t j item ∷ h) setting none set =
    elim (eqb_tells t s) [
      | inl same ↦ rw same.0 set
      | inr differ ↦ rw differ.0 (set_before s h setting (grind (arith, nat_tests, none, differ.0)) set)
    ]
set_before s (events.Begin t n l ∷ h) setting none set =
    set_before s h setting (grind (arith, nat_tests, none)) (either_other (eqb t s) _ _ (grind (arith, nat_tests, none)) set)
set_before s (events.Committed t ∷ h) setting none set =
    set_before s h setting (grind (arith, nat_tests, none)) (either_other (eqb t s) _ _ (grind (arith, nat_tests, none)) set)
set_before s (events.RolledBack t ∷ h) setting none set =
    set_before s h setting (grind (arith, nat_tests, none)) (either_other (eqb t s) _ _ (grind (arith, nat_tests, none)) set)
set_before s (events.Ended t j reply ∷ h) setting none set =
    set_before s h setting (grind (arith, nat_tests, none)) (either_other (eqb t s) _ _ (grind (arith, nat_tests, none)) set)
set_before s (e ∷ h) setting none set = set_before s h setting (grind (arith, nat_tests, none)) set

pub sometime_too : (P Q : List Event → Type 0) → ((h : List Event) → P h → Q h) → (s : ℕ) (past : List Event) → Sometime P s past → Sometime Q s past
sometime_too P Q too s [] some = some
sometime_too P Q too s (e ∷ past) (inl now) = inl (too (e ∷ past) now)
sometime_too P Q too s (e ∷ past) (inr before) = inr (before.0, sometime_too P Q too s past before.1)
