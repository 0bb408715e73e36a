-- The entries for which the history has room on behalf of sessions, and the rows that these may put.
use Rattle.std.specs.Prelude.{ℕ, ◌+◌, Bool, true, false, List, Option, None, Some}
use Rattle.std.specs.List.{sum_by}
use Rattle.world.specs.State.{Work, Session}

abbrev pub bit : ℕ → Bool → ℕ
bit weight true = weight
bit weight false = 0

-- one to undo each change, the one that ends the transaction, and the one that acknowledges its commit
abbrev pub owed_by_work : Option Work → ℕ
owed_by_work None = 0
owed_by_work (Some work) = work.own + bit 2 work.can_end

-- An item's end, an acknowledgement, a Begin with both entries of its end, and a change with its Undone.
abbrev pub owed_of : Session → ℕ
owed_of session = owed_by_work session.work + (bit 1 session.can_reply + bit 1 session.can_ack + bit 3 session.can_begin + bit 2 session.can_change)

abbrev pub owed_by_all : List Session → ℕ
owed_by_all sessions = sum_by owed_of sessions

-- the rows that may be put for sure
abbrev pub puts_of : Session → ℕ
puts_of session = bit 1 session.can_change

abbrev pub puts_of_all : List Session → ℕ
puts_of_all sessions = sum_by puts_of sessions
