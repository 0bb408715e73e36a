-- What a CREATE TABLE knows between its steps, of the past and of who may write. It has nothing under way with rows.
use Rattle.std.specs.Prelude.{◌≡◌, ℕ, Bool, true, false, []}
use Rattle.inno_model.specs.Past.{of_item, awaits_ack}
use Rattle.shared_lists.specs.Tasks.{Idle}
use Rattle.shared_lists.specs.State.{State, task_of}
use Rattle.sql_lists.specs.Steps.{HasRowsAlone}
use Rattle.create_statement.specs.declared.machine.CreateStatement.{CreateStatement}
use Rattle.create_statement.specs.declared.machine.CreateStatement.TheVariants as machine
use Rattle.giving_up.specs.Ends.{IsEmptied, IsGivingUp}
use Rattle.create_statement.specs.Knowing.{IsToBegin, IsCommitted}

abbrev pub RunsBy : State → ℕ → CreateStatement → Type 0
RunsBy state s (machine.Asked stmt level) = IsToBegin s stmt level state.past × (of_item s state.past ≡ []) × HasRowsAlone s state.past
RunsBy state s (machine.Unacked stmt level) = IsToBegin s stmt level state.past × IsEmptied s state.past × (awaits_ack (of_item s state.past) ≡ true)
RunsBy state s (machine.Closed stmt level) = IsToBegin s stmt level state.past × IsEmptied s state.past × (awaits_ack (of_item s state.past) ≡ false)
RunsBy state s (machine.Committed stmt) = IsCommitted s stmt state.past × (awaits_ack (of_item s state.past) ≡ true)
RunsBy state s (machine.Ending stmt) = IsCommitted s stmt state.past × (awaits_ack (of_item s state.past) ≡ false)
RunsBy state s machine.Failed = IsGivingUp s state.past
RunsBy state s machine.Ended = ⊥

-- it is about to tell its table to the history, for which an engine that logs its changes needs room in its log
abbrev pub wants_room : CreateStatement → Bool
wants_room (machine.Closed stmt level) = true
wants_room other = false

-- the statement where there is no room for its table
abbrev pub without_room : CreateStatement → CreateStatement
without_room (machine.Closed stmt level) = machine.Failed
without_room other = other

-- its commit is yet to be acknowledged
abbrev pub owes_ack : CreateStatement → Bool
owes_ack (machine.Unacked stmt level) = true
owes_ack (machine.Committed stmt) = true
owes_ack other = false

-- the statement behind that
abbrev pub acked : CreateStatement → CreateStatement
acked (machine.Unacked stmt level) = machine.Closed stmt level
acked (machine.Committed stmt) = machine.Ending stmt
acked other = other

abbrev pub IsRunning : State → ℕ → CreateStatement → Type 0
IsRunning state s statement = RunsBy state s statement × (task_of s state ≡ Idle)
