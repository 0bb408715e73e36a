use Rattle.std.proofs.Common.{sym, ◌∙◌}
use Rattle.sql_history.specs.Items.{base}
use Rattle.create_statement.proofs.Tables.{tables_met, makes_none}
use Rattle.create_statement.proofs.asking.step_asked.Goals as goal

pub skip-requires-clause-none : goal.skip-requires-clause-none
skip-requires-clause-none g c =
    let s = c.args.session in
    let past = c.args.lists.now.past in
    let r = c.requires.running.0 in
    let met = tables_met s past c.schemas.ensures.tables r.2 r.0.at.rows_before in
    let there = rw c.get.ensures at (sym c.is_there.ensures ∙ c.if-is_there.true) in
    makes_none c.schemas.result.now c.args.stmt r.0.at.kind there (base s past) (met ∙ sym c.schemas.ensures.are)
