use Rattle.change_locks.proofs.Fitting.{may_ask_record}
use Rattle.change_locks.proofs.locker.Locker.lock_record.Goals as goal

pub ask-requires : goal.ask-requires
ask-requires g c =
    rw c.lock.ensures
    (may_ask_record c.args.self.now c.args.spot (g.W.World.state c.args.world.now) c.requires.may c.requires.short c.args.rule c.requires.rule
    c.requires.key)
