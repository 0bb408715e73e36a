use Rattle.std.proofs.Common.{sym, subst}
use Rattle.commit_log.specs.View.{CommitView, IsLogging}
use Rattle.commit_log.proofs.Logging.{flushed_logging}
use Rattle.commit_log.proofs.commit_log.CommitLog.flush.Goals as goal

pub returns-clause-kept : goal.returns-clause-kept
returns-clause-kept g c =
    let l = c.self.inside in
    let old : CommitView = record { log = l.log; drafts = l.drafts; dues = l.dues.items; begun = l.begun } in
    let f = c.flush.ensures in
    λ root past is.
    flushed_logging old c.flush.new.self root (g.D.Disk.past c.args.disk.now) (g.D.Disk.past c.flush.new.disk) past
    (subst (λ (v : CommitView). IsLogging root (g.D.Disk.past c.args.disk.now) past v) (sym c.self.view_is) is) f.run f.next f.later f.stands f.crash
