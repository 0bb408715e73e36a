use Rattle.sql_grammar.specs.Grammar.{Spells}
use Rattle.law_isolation.proofs.Phantoms.{locked_free}
use Rattle.law_isolation.proofs.phantom_free.locked_searches_meet_no_phantoms.Goals as goal

pub returns : goal.returns
returns c = locked_free Spells
