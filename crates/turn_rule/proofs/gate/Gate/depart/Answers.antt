use Rattle.std.proofs.Common.{rules}
use Rattle.turn_rule.proofs.Steps.{may_depart}
use Rattle.turn_rule.proofs.gate.Gate.depart.Goals as goal

pub store-requires : goal.store-requires
store-requires g c = (search rules, search rules, may_depart g.E.Recorded.board _ _ _ c.requires.holds)
