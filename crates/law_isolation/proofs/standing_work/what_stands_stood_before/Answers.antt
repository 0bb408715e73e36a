use Rattle.sql_grammar.specs.Grammar.{Spells}
use Rattle.law_histories.proofs.Spelled.{spells_one}
use Rattle.law_isolation.proofs.Stays.{standing_stays}
use Rattle.law_isolation.proofs.standing_work.what_stands_stood_before.Goals as goal

pub returns : goal.returns
returns c = λ s e past legal runs is_open statement reply stands. standing_stays Spells spells_one s e past legal runs is_open statement reply stands
