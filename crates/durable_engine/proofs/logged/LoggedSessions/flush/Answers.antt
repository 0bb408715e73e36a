use Rattle.std.proofs.Common.{refl, sym, ap, subst, arith}
use Rattle.std.proofs.lemmas.Bool.Decides.{nat_tests}
use Rattle.std.proofs.lemmas.Result.{on_ok_weaker}
use Rattle.commit_log.specs.View.{CommitView, IsLogging}
use Rattle.commit_log.proofs.Logging.{acknowledged}
use Rattle.durable_engine.specs.SessionsState.{State}
use Rattle.durable_engine.proofs.logged.LoggedSessions.flush.Goals as goal

pub returns-clause-whole : goal.returns-clause-whole
returns-clause-whole g c =
    let old = g.D.Disk.past c.args.disk.now in
    let new = g.D.Disk.past c.flush.new.disk in
    let past = c.args.self.now.sessions.lists.past in
    on_ok_weaker c.flush.result (λ flushed root s is.
    let reached = flushed s in
    acknowledged s new.moment c.flush.new.self (grind (arith, nat_tests, reached)) root new past refl
    (c.flush.ensures.kept root past
    (subst (λ (log : CommitView). IsLogging root old past log) (sym (ap (λ (v : State). v.log) c.self.view_is)) is))) c.flush.ensures.flushed
