use Rattle.std.proofs.Common.{ap, ◌<◌, ◌^◌, Some, arith, refl}
use Rattle.std.proofs.lemmas.Option.{slice_get_within}
use Rattle.row_changes.proofs.Awaited.{entered_awaits, replace_with_here}
use Rattle.row_changes.proofs.Changing.{stage_at, lacks_memory, rows_index, value_short, version_made, may_replace, may_log_former, may_enter, replaced}
use Rattle.row_changes.proofs.Changing.{replace_hindered, rows_value_len}
use Rattle.row_changes.specs.Records.{row_found}
use Rattle.law_stored_rows.specs.Edits.{clustered_index}
use Rattle.row_changes.proofs.record_change.RecordChange.replace.Goals as goal

abbrev pub value-requires-clause-makes : goal.value-requires-clause-makes
value-requires-clause-makes g c = may_replace c.args.self.now.edit _ _ _ c.requires.stage.2

abbrev pub replace-answer-requires-clause-index : goal.replace-answer-requires-clause-index
replace-answer-requires-clause-index g c = rows_index c.requires.changing _ c.index.ensures

abbrev pub replace-answer-requires-clause-value : goal.replace-answer-requires-clause-value
replace-answer-requires-clause-value g c =
    let p = c.requires.changing in
    let value = c.in-Ok.ensures p.schema p.session p.work p.table.there p.has_work in
    value_short p.schema _ _ _ p.table.storable (version_made _ _ _ _ _ _ p.fits p.stage
    (may_replace c.args.self.now.edit _ _ _ c.requires.stage.2) _ _ _ refl) value

abbrev pub replace-answer-requires-clause-value_len : goal.replace-answer-requires-clause-value_len
replace-answer-requires-clause-value_len g c =
    let p = c.requires.changing in
    let value = c.in-Ok.ensures p.schema p.session p.work p.table.there p.has_work in
    rows_value_len p _ c.index.ensures _ _
    (version_made _ _ _ _ _ _ p.fits p.stage (may_replace c.args.self.now.edit _ _ _ c.requires.stage.2) _ _ _ refl) value

abbrev pub replace-answer-requires-clause-undo : goal.replace-answer-requires-clause-undo
replace-answer-requires-clause-undo g c =
    let at = c.requires.stage.2 in
    may_log_former c.requires.changing _ _ _ at (c.in-Ok-former.ensures _ _ at).1

abbrev pub enter-requires : goal.enter-requires
enter-requires g c =
    let p = c.requires.changing in
    may_enter p _ _ (stage_at _ _ _ p _ c.requires.stage.2).0 (rw c.in-Done.is at c.replace-answer.ensures).beside

abbrev pub returns-in-Done-clause-changes : goal.returns-in-Done-clause-changes
returns-in-Done-clause-changes g c =
    let p = c.requires.changing in
    let stage = c.requires.stage.2 in
    let told = c.in-Ok-former.ensures _ _ stage in
    let pointer_is = c.next_pointer-pointer.ensures p.session p.has_work.session_is in
    let small : p.session.next_pointer < 2 ^ 64 = omega (arith, pointer_is) in
    let value = rw (ap row_found stage, pointer_is) at (c.in-Ok.ensures p.schema p.session p.work p.table.there p.has_work) in
    replaced p _ _ _ _ _ _ _ stage value told.1 told.0 small (rw c.index.ensures at (rw c.in-Done.is at c.replace-answer.ensures))
    (rw c.take_edit.ensures at c.enter.ensures)

abbrev pub returns-clause-changes : goal.returns-clause-changes
returns-clause-changes g c =
    replace_hindered c.requires.changing _ _ _ _ _ _ c.requires.stage.2 (rw c.index.ensures at c.replace-answer.ensures) c.in_default-answer.not-Done

abbrev pub returns-in_default-former-clause-changes : goal.returns-in_default-former-clause-changes
returns-in_default-former-clause-changes g c = lacks_memory c.args.s _ c.args.self.now c.requires.changing

abbrev pub returns-in_default-clause-changes : goal.returns-in_default-clause-changes
returns-in_default-clause-changes g c = lacks_memory c.args.s _ c.args.self.now c.requires.changing

abbrev pub next_pointer-pointer-requires : goal.next_pointer-pointer-requires
next_pointer-pointer-requires g c = slice_get_within _ c.args.s c.requires.changing.session c.requires.changing.has_work.session_is

pub returns-in-Done-clause-awaits : goal.returns-in-Done-clause-awaits
returns-in-Done-clause-awaits g c =
    let p = c.requires.changing in
    let may = may_enter p _ _ (stage_at _ _ _ p _ c.requires.stage.2).0 (rw c.in-Done.is at c.replace-answer.ensures).beside in
    let call = (rw c.index.ensures at c.replace-answer.ensures).index_is in
    entered_awaits c.args.s (clustered_index c.args.self.now.table) _ (g.W.World.state c.args.world.now) _ _ _ _ may.0 may.1 call
    (replace_with_here (Some c.in-Ok-former.undo) c.args.s c.args.self.now.key _ _ _ c.replace-answer.result call.here)
    ((rw c.take_edit.ensures at c.enter.ensures) may.0 may.1 may.2)
