use Rattle.std.proofs.Common.{subst}
use Rattle.mtr.specs.Seen.{IsShown}
use Rattle.mini_txn.specs.View.{MiniView, seen_in}
use Rattle.mini_txn.proofs.Meeting.{shown_by}
use Rattle.mini_txn.proofs.work.Work.shown.Goals as goal

pub returns-clause-shown : goal.returns-clause-shown
returns-clause-shown c =
    let i = c.self.inside in
    subst (λ (m : MiniView). IsShown (seen_in m.pool m.dealt c.args.page) c.shown_in.result.now) c.self.view_is
    (shown_by (seen_in i.pool i.dealt c.args.page) c.shown_in.result.now c.shown_in.ensures.size c.shown_in.ensures.body)
