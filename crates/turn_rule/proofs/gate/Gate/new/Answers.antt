use Rattle.turn_rule.proofs.Steps.{opens}
use Rattle.turn_rule.proofs.gate.Gate.new.Goals as goal

pub new-requires : goal.new-requires
new-requires g c =
    rw (c.requires.len, c.in_default.ensures.items, c.new-slots.ensures.items, c.of-about.ensures) (opens g.E.Recorded.board c.args.engine c.requires.one c.requires.no_calls)
