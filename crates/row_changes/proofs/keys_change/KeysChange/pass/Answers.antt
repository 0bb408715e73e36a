use Rattle.row_changes.proofs.{Changing.same_rows, Keying.over, Keying.lacks_memory_now}
use Rattle.row_changes.proofs.keys_change.KeysChange.pass.Goals as goal

abbrev pub take_over-requires-clause-entries : goal.take_over-requires-clause-entries
take_over-requires-clause-entries g c = λ schema there.
    (rw c.in-Ok-Some.field-0-is at c.in-Ok-Some.ensures) schema there

abbrev pub returns-in-Ok-None-clause-changes : goal.returns-in-Ok-None-clause-changes
returns-in-Ok-None-clause-changes g c = λ chains beside p.
    let found = rw c.in-Ok-None.field-0-is at c.in-Ok-None.ensures in
    (same_rows _, over chains beside _ (g.W.World.state c.args.world.now) c.args.self.now p c.requires.none (found p.schema p.table.there))

pub returns-in-Err-clause-changes : goal.returns-in-Err-clause-changes
returns-in-Err-clause-changes g c = λ chains beside p. lacks_memory_now c.args.actor chains beside _ c.args.self.now p
