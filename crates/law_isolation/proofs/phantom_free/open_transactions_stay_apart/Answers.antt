use Rattle.sql_grammar.specs.Grammar.{Spells}
use Rattle.law_isolation.proofs.Free.{free_always}
use Rattle.law_isolation.proofs.phantom_free.open_transactions_stay_apart.Goals as goal

pub returns : goal.returns
returns c schemas more e past may tables apart = free_always Spells schemas more e past may tables apart
