use Rattle.std.proofs.Common.{◌+◌, ◌-◌, ◌≤◌}
use Rattle.std.specs.Prelude.{vec_len, vec_capacity}
use Rattle.list_store.specs.Parts.{AreAdded}
use Rattle.list_store.proofs.store_calls.add_indexes.Given as goal

abbrev pub invariant-loop-added : goal.invariant-loop-added
invariant-loop-added l = AreAdded l._added l.initial.indexes.items l.indexes.items × (vec_len l.indexes + (8 - l._added) ≤ vec_capacity l.indexes)
