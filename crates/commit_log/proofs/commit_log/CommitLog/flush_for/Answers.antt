use Rattle.std.proofs.Common.{sym, ◌∙◌, arith}
use Rattle.std.proofs.lemmas.Bool.Decides.{nat_tests}
use Rattle.std.proofs.lemmas.Result.{on_ok_weaker}
use Rattle.commit_log.proofs.Logging.{acknowledged}
use Rattle.commit_log.proofs.commit_log.CommitLog.flush_for.Goals as goal

pub returns-then-is_flushed_for-clause-acknowledges : goal.returns-then-is_flushed_for-clause-acknowledges
returns-then-is_flushed_for-clause-acknowledges g c =
    λ root now past moment is_now is.
    acknowledged c.args.session moment c.args.self.now (sym c.is_flushed_for.ensures ∙ c.if-is_flushed_for.true) root now past is_now is

pub returns-clause-acknowledges : goal.returns-clause-acknowledges
returns-clause-acknowledges g c =
    on_ok_weaker c.flush.result (λ flushed root now past moment is_now is.
    let reached = flushed c.args.session in acknowledged c.args.session moment c.flush.new.self (grind (arith, nat_tests, reached)) root now past is_now is)
    c.flush.ensures.flushed
