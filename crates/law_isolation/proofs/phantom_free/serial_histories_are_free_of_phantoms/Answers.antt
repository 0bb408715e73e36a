use Rattle.sql_grammar.specs.Grammar.{Spells}
use Rattle.law_isolation.proofs.Phantoms.{serial_free}
use Rattle.law_isolation.proofs.phantom_free.serial_histories_are_free_of_phantoms.Goals as goal

pub returns : goal.returns
returns c = serial_free Spells
