use Rattle.sql_grammar.specs.Grammar.{Spells}
use Rattle.law_isolation.proofs.Setup.{sets_up_first}
use Rattle.law_isolation.proofs.phantom_free.a_setup_comes_first.Goals as goal

pub returns : goal.returns
returns c = sets_up_first Spells
