use Rattle.flusher.proofs.Gathered.{newest_in}
use Rattle.flusher.proofs.work.gather_and_begin.Goals as goal

pub returns-clause-stands : goal.returns-clause-stands
returns-clause-stands g c = λ first groups base newest ready held.
    let gathered = c.gather.ensures in
    c.begin.ensures.stands first groups base (newest_in gathered.0 c.args.pool.now c.gather.new.batch groups base c.len.ensures.is_batch gathered.1
    newest) ready held

pub returns-clause-crash : goal.returns-clause-crash
returns-clause-crash g c = λ first groups base newest ready held.
    let gathered = c.gather.ensures in
    c.begin.ensures.crash first groups base (newest_in gathered.0 c.args.pool.now c.gather.new.batch groups base c.len.ensures.is_batch gathered.1
    newest) ready held
