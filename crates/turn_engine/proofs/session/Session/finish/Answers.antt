use Rattle.turn_engine.proofs.Going.{extends_trans}
use Rattle.turn_engine.proofs.Seats.{seen_on}
use Rattle.turn_engine.proofs.session.Session.finish.Goals as goal

pub returns-clause-seen : goal.returns-clause-seen
returns-clause-seen g c =
    seen_on _ _ c.into_badge.result.table_id _ _ _ c.args.self.lost _ _ c.self.view_is c.into_seat-pass.ensures.2 c.into_badge.ensures.2
    (extends_trans _ _ _ c.leave_turn.ensures.went.extends c.end.ensures.went.extends)
