use Rattle.transaction_statements.proofs.Ending.{finishes_begin}
use Rattle.transaction_statements.proofs.commits.step_begun.Goals as goal

pub finish-requires-clause-finished : goal.finish-requires-clause-finished
finish-requires-clause-finished g c = let r = c.requires.running.0 in finishes_begin c.args.session c.args.lists.now.past c.args.snapshot r.0 r.1 r.2
