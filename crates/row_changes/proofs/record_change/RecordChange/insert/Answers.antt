use Rattle.std.proofs.Common.{ap, Some, refl}
use Rattle.row_changes.specs.Records.{row_found}
use Rattle.row_changes.proofs.Awaited.{entered_awaits, insert_with_here}
use Rattle.row_changes.proofs.Changing.{changing_still, has_room, rows_index, key_short, value_short, version_made, may_put, may_log_new, may_enter}
use Rattle.row_changes.proofs.Changing.{rows_key_len, rows_value_len}
use Rattle.row_changes.proofs.Changing.{inserted, insert_hindered, lacks_memory_then}
use Rattle.law_stored_rows.specs.Edits.{clustered_index}
use Rattle.row_changes.proofs.record_change.RecordChange.insert.Goals as goal

abbrev pub value-requires-clause-changing : goal.value-requires-clause-changing
value-requires-clause-changing g c = changing_still c.requires.missing.1

abbrev pub value-requires-clause-makes : goal.value-requires-clause-makes
value-requires-clause-makes g c = may_put c.args.self.now.edit _ c.requires.put

pub insert-answer-requires-clause-index : goal.insert-answer-requires-clause-index
insert-answer-requires-clause-index g c = rows_index (changing_still c.requires.missing.1) _ c.index.ensures

abbrev pub insert-answer-requires-clause-key : goal.insert-answer-requires-clause-key
insert-answer-requires-clause-key g c = key_short (changing_still c.requires.missing.1)

abbrev pub insert-answer-requires-clause-value : goal.insert-answer-requires-clause-value
insert-answer-requires-clause-value g c =
    let p = changing_still c.requires.missing.1 in
    let value = c.in-Ok.ensures p.schema p.session p.work p.table.there p.has_work in
    value_short p.schema _ _ _ p.table.storable (version_made _ _ _ _ _ _ p.fits p.stage (may_put c.args.self.now.edit _ c.requires.put) _ _ _ refl) value

abbrev pub insert-answer-requires-clause-key_len : goal.insert-answer-requires-clause-key_len
insert-answer-requires-clause-key_len g c = rows_key_len (changing_still c.requires.missing.1) _ c.index.ensures

abbrev pub insert-answer-requires-clause-value_len : goal.insert-answer-requires-clause-value_len
insert-answer-requires-clause-value_len g c =
    let p = changing_still c.requires.missing.1 in
    let value = c.in-Ok.ensures p.schema p.session p.work p.table.there p.has_work in
    rows_value_len p _ c.index.ensures _ _ (version_made _ _ _ _ _ _ p.fits p.stage (may_put c.args.self.now.edit _ c.requires.put) _ _ _ refl) value

abbrev pub insert-answer-requires-clause-undo : goal.insert-answer-requires-clause-undo
insert-answer-requires-clause-undo g c =
    may_log_new (changing_still c.requires.missing.1) _ (has_room c.requires.missing.1) c.in-Ok-undo_of_new.ensures

abbrev pub enter-requires : goal.enter-requires
enter-requires g c =
    may_enter (changing_still c.requires.missing.1) _ _ (has_room c.requires.missing.1) (rw c.in-Done.is at c.insert-answer.ensures).beside

abbrev pub returns-in-Done-clause-changes : goal.returns-in-Done-clause-changes
returns-in-Done-clause-changes g c = λ start missing.
    let p = changing_still missing in
    let value = rw (ap row_found missing.stage_is) at (c.in-Ok.ensures p.schema p.session p.work p.table.there p.has_work) in
    inserted missing _ _ _ _ c.requires.put value c.in-Ok-undo_of_new.ensures (rw c.index.ensures at (rw c.in-Done.is at c.insert-answer.ensures))
    (rw c.take_edit.ensures at c.enter.ensures)

abbrev pub returns-clause-changes : goal.returns-clause-changes
returns-clause-changes g c = λ start missing.
    insert_hindered missing _ _ _ _ (rw c.index.ensures at c.insert-answer.ensures) c.in_default-answer.not-Done

pub returns-in-Done-clause-awaits : goal.returns-in-Done-clause-awaits
returns-in-Done-clause-awaits g c =
    let missing = c.requires.missing.1 in
    let may = may_enter (changing_still missing) _ _ (has_room missing) (rw c.in-Done.is at c.insert-answer.ensures).beside in
    let call = (rw c.index.ensures at c.insert-answer.ensures).index_is in
    entered_awaits c.args.s (clustered_index c.args.self.now.table) _ (g.W.World.state c.args.world.now) _ _ _ _ may.0 may.1 call
    (insert_with_here (Some c.in-Ok-undo_of_new.undo) c.args.s c.args.self.now.key _ _ _ c.insert-answer.result call.here)
    ((rw c.take_edit.ensures at c.enter.ensures) may.0 may.1 may.2)

abbrev pub returns-in_default-clause-changes : goal.returns-in_default-clause-changes
returns-in_default-clause-changes g c = λ start missing. lacks_memory_then missing

abbrev pub returns-in_default-undo_of_new-clause-changes : goal.returns-in_default-undo_of_new-clause-changes
returns-in_default-undo_of_new-clause-changes g c = λ start missing. lacks_memory_then missing
