use Rattle.std.proofs.Common.{◌-◌, ◌≤◌, length}
use Rattle.lock_table.specs.Empty.{HoldKeys}
use Rattle.lock_table.proofs.room.add_keys.Given as goal

abbrev pub invariant-loop-alloc : goal.invariant-loop-alloc
invariant-loop-alloc l = HoldKeys l.keys.items × (length l.initial.keys.items ≤ length l.keys.items)

abbrev pub decreases-loop-alloc : goal.decreases-loop-alloc
decreases-loop-alloc l = l.count - length l.keys.items
