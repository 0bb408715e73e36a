use Rattle.std.proofs.Common.{sym, ◌∙◌}
use mathlib.Core.Option.{some-injective}
use Rattle.turn_rule.proofs.Steps.{closes, closes_as}
use Rattle.turn_rule.proofs.gate.Gate.close.Goals as goal

pub unreachable-requires : goal.unreachable-requires
unreachable-requires g c =
    let end = closes g.E.Recorded.board _ _ _ _ c.requires.last c.close_with-closed.ensures.values.2 in
    c.in_default.not-Some end.0 (some-injective _ _ (sym c.take.ensures.value ∙ end.1))

pub returns : goal.returns
returns g c = closes_as g.E.Recorded.board _ _ _ _ c.requires.last c.close_with-closed.ensures.values.2 _ _ c.take.ensures.value c.in-Some.is
