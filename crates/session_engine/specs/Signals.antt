-- Signals: those that were given are of items that have ended, and what an item that awaits one has seen.
use Rattle.std.specs.Prelude.{◌≡◌, ℕ, ◌+◌, ◌≤◌, Bool, false, if◌then◌else◌, Some, List, [], ◌∷◌, length, take, reverse, bytes_eq}
use Rattle.std.specs.List.{list_any}
use Rattle.inno_types.specs.declared.reply.Item.{Item}
use Rattle.inno_model.specs.declared.event.Event.{Event}
use Rattle.inno_model.specs.declared.event.Event.TheVariants.{Ended, Signal}
use Rattle.inno_model.specs.Past.{under_way, of_item}
use Rattle.sql_history.specs.Counts.{signals, is_signal_of}
use Rattle.sql_lists.specs.Steps.{HasRowsAlone}

-- how many items that asked for the signal have ended
abbrev pub signals_ended : List ℕ → List Event → ℕ
signals_ended name [] = 0
signals_ended name (Ended s j reply ∷ past) = if is_signal_of name (under_way s past) then signals_ended name past + 1 else signals_ended name past
signals_ended name (other ∷ past) = signals_ended name past

-- of each name no more signals were given than such items have ended
abbrev pub AreSpent : List Event → Type 0
AreSpent past = (name : List ℕ) → signals name past ≤ signals_ended name past

-- the session's item is this one, and has done nothing
pub record HasOnlyAsked (s : ℕ) (item : Item) (past : List Event) : Type 0 where
  pub asked : under_way s past ≡ Some item
  pub nothing : of_item s past ≡ []
  pub rows_alone : HasRowsAlone s past

-- the entry gives the signal
abbrev pub gives : List ℕ → Event → Bool
gives name (Signal other) = bytes_eq other name
gives name other = false

-- so many of the oldest entries don't give the signal
pub record HasSeenNone (name : List ℕ) (seen : ℕ) (past : List Event) : Type 0 where
  pub within : seen ≤ length past
  pub none : list_any (gives name) (take seen (reverse past)) ≡ false
