use Rattle.tests_locks.proofs.Trials.{join_may_split, join_may_depart, first_rests, newcomer_rests, one_name_more}
use Rattle.std.proofs.Common.{◌∙◌}
use Rattle.tests_locks.proofs.turns.seat_one_more.Goals as goal

pub split-pass-requires-clause-holds : goal.split-pass-requires-clause-holds
split-pass-requires-clause-holds g c = join_may_split c.args.name _ _ _ _ _ _ c.take_turn-scribe.ensures.turn c.in_default.ensures.ok c.put.ensures.rest c.publish.ensures.seen

pub depart-requires-clause-holds : goal.depart-requires-clause-holds
depart-requires-clause-holds g c = join_may_depart c.args.name _ _ _ _ _ _ _ c.take_turn-scribe.ensures.turn c.in_default.ensures.ok c.put.ensures.rest c.publish.ensures.seen c.split-pass.ensures.gate.2

pub returns-clause-idle : goal.returns-clause-idle
returns-clause-idle g c = first_rests c.args.name _ _ _ _ _ _ _ _ c.requires.idle c.take_turn-scribe.ensures.turn c.put.ensures.rest c.publish.ensures.seen c.split-pass.ensures.gate.2 c.depart.ensures.rest

pub returns-clause-given : goal.returns-clause-given
returns-clause-given g c = (
  c.split-pass.ensures.given.0 ∙ (c.publish.ensures.gate.0 ∙ (c.put.ensures.gate.0 ∙ c.take_turn-scribe.ensures.gate)),
  newcomer_rests c.args.name _ _ _ _ _ _ _ c.requires.idle c.take_turn-scribe.ensures.turn c.put.ensures.rest c.publish.ensures.seen c.split-pass.ensures.given.1,
)

pub returns-clause-names : goal.returns-clause-names
returns-clause-names g c = one_name_more c.args.name _ _ _ _ _ _ _ _ c.requires.idle c.take_turn-scribe.ensures.turn c.in_default.ensures.ok c.put.ensures.rest c.publish.ensures.seen c.split-pass.ensures.gate.2 c.depart.ensures.rest
