use Rattle.std.proofs.Common.{sym, ◌∙◌}
use Rattle.run_outcome.proofs.Telling.{told_reported, told_reported_whole, told_where_failed}
use Rattle.run_outcome.proofs.outcome.finish.Goals as goal

pub returns-clause-printed : goal.returns-clause-printed
returns-clause-printed g c =
    rw c.told_fault-fault.ensures
    (told_reported c.args.report c.args.failed c.if-sufficed.told_fault c.print_report-printed.result _ _ c.args.history
    c.print_report-printed.ensures.causes c.print_report-printed.ensures.printed)

pub returns-clause-whole : goal.returns-clause-whole
returns-clause-whole g c = λ fault quiet.
    told_reported_whole c.args.report c.args.failed c.if-sufficed.told_fault c.print_report-printed.result _ _ c.args.history
    c.print_report-printed.ensures.causes c.print_report-printed.ensures.printed
    (λ is. quiet (c.print_report-printed.ensures.output_write is)) (sym c.told_fault-fault.ensures ∙ fault)

pub returns-clause-tells : goal.returns-clause-tells
returns-clause-tells g c = λ failed.
    rw c.told_fault-fault.ensures
    (told_where_failed c.args.failed c.if-sufficed.told_fault c.print_report-printed.result c.print_report-printed.ensures.causes failed)
