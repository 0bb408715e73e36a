use Rattle.std.proofs.Common.{◌≡◌, ◌≤◌, ℕ, length}
use Rattle.run_outcome.specs.Pending.{changes_of}
use Rattle.run_outcome.proofs.pending.reach.Given as goal

-- there is a list more for each number passed, and all new lists are empty
abbrev pub invariant-loop : goal.invariant-loop
invariant-loop l =
    (l.counter ≤ length l.pending.items) × ((t : ℕ) → changes_of t l.pending.items ≡ changes_of t l.fn.pending.items)
