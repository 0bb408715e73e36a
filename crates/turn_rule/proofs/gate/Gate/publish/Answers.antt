use Rattle.std.proofs.Common.{rules}
use Rattle.turn_rule.proofs.Steps.{may_publish}
use Rattle.turn_rule.proofs.gate.Gate.publish.Goals as goal

pub store-requires : goal.store-requires
store-requires g c = (search rules, search rules, may_publish g.E.Recorded.board _ _ _ _ c.requires.holds)
