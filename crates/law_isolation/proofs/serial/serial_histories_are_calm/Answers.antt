use Rattle.sql_grammar.specs.Grammar.{Spells}
use Rattle.law_histories.proofs.Spelled.{spells_one}
use Rattle.law_isolation.proofs.Calm.{serial_calm}
use Rattle.law_isolation.proofs.serial.serial_histories_are_calm.Goals as goal

pub returns : goal.returns
returns c = serial_calm Spells spells_one
