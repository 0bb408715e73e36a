use Rattle.sql_grammar.specs.Grammar.{Spells}
use Rattle.law_histories.proofs.Spelled.{spells_one}
use Rattle.law_isolation.proofs.Kept.{all_calm}
use Rattle.law_isolation.proofs.Alone.{calm_alone}
use Rattle.law_isolation.proofs.Calm.{serial_calm}
use Rattle.law_isolation.proofs.serial.a_serial_history_answers_as_alone.Goals as goal

pub returns : goal.returns
returns c = λ past legal serial. calm_alone Spells spells_one past legal (all_calm Spells past (serial_calm Spells spells_one past legal serial))
