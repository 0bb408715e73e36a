use Rattle.std.proofs.Common.{◌∙◌}
use Rattle.mini_txn.proofs.Meeting.{shown_by}
use Rattle.paged_txn.specs.View.{seen_in}
use Rattle.paged_txn.proofs.Meeting.{seen_is}
use Rattle.paged_txn.proofs.work.Work.shown.Goals as goal

pub returns-clause-shown : goal.returns-clause-shown
returns-clause-shown g c =
    let m = c.args.self.now in
    let past = g.D.Disk.past m.disk in
    shown_by (seen_in m.pool past m.dealt c.args.page) c.shown_in.result.now c.shown_in.ensures.size
    (c.shown_in.ensures.body ∙ seen_is m.pool past m.dealt c.args.page (m.is_paged.readable c.args.page c.requires))
