use Rattle.waits.proofs.Under.{victim_owned}
use Rattle.waits.proofs.settling.end_cycle.Goals as goal

pub session_of-session-requires-clause-owned : goal.session_of-session-requires-clause-owned
session_of-session-requires-clause-owned g c =
    (victim_owned (g.W.World.state c.args.world.now) c.args.cycle c.args.sizes.now c.args.asked c.victim-txn.result c.args.sessions c.requires.may
    c.victim-txn.ensures).0

pub fall-requires : goal.fall-requires
fall-requires g c =
    let open_at = c.session_of-session.ensures in (
      open_at.session,
      open_at.work,
      open_at.has_work,
      rw open_at.mine
          (victim_owned (g.W.World.state c.args.world.now) c.args.cycle c.args.sizes.now c.args.asked c.victim-txn.result c.args.sessions c.requires.may
          c.victim-txn.ensures).1,
    )
