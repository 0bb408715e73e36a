use Rattle.std.proofs.Common.{◌-◌, refl}
use Rattle.redo_log.specs.View.{LogView}
use Rattle.commit_log.specs.View.{CommitView}
use Rattle.commit_log.proofs.Logging.{log_as, opened_logging}
use Rattle.commit_log.proofs.commit_log.CommitLog.new.Goals as goal

pub returns-clause-logging : goal.returns-clause-logging
returns-clause-logging c =
    let log : LogView = c.in_ok-new.field-0 in
    let view : CommitView = record { log = log; drafts = c.new-2.result; dues = c.new-3.result.items; begun = c.args.next - 1 } in
    λ root now db mounted.
    opened_logging c.args.run c.args.block c.args.next view c.requires (log_as c.args.run c.args.block c.args.next log c.in_ok-new.ensures.log) c.in_ok-new.ensures.stands c.new-2.ensures
    c.new-3.ensures.items refl root now db mounted
