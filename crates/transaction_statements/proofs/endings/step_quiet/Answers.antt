use Rattle.std.proofs.Common.{sym, subst}
use Rattle.transaction_statements.specs.Committing.{set_by}
use Rattle.transaction_statements.specs.Knowing.{IsFinished}
use Rattle.transaction_statements.proofs.Ending.{finishes_quietly}
use Rattle.transaction_statements.proofs.endings.step_quiet.Goals as goal

pub finish-requires-clause-finished : goal.finish-requires-clause-finished
finish-requires-clause-finished g c =
    let r = c.requires.running.0 in (
    subst (λ statement. IsFinished c.args.session statement c.args.lists.now.past) (sym c.into_stmt.ensures)
    (finishes_quietly c.args.session c.args.lists.now.past (set_by c.args.setter) r.0 r.1 r.2)
    )
