use Rattle.sql_grammar.specs.Grammar.{Spells}
use Rattle.law_histories.proofs.Spelled.{spells_one}
use Rattle.law_isolation.proofs.Alone.{calm_alone}
use Rattle.law_isolation.proofs.a_calm_history_answers_as_alone.Goals as goal

pub returns : goal.returns
returns c = calm_alone Spells spells_one
