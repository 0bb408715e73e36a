use Rattle.std.proofs.Common.{rules}
use Rattle.turn_rule.proofs.Steps.{may_split}
use Rattle.turn_rule.proofs.gate.Gate.split.Goals as goal

pub split_seat-requires : goal.split_seat-requires
split_seat-requires g c = (search rules, search rules, may_split g.E.Recorded.board _ _ c.requires.holds)
