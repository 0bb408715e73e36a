use Rattle.sql_grammar.specs.Grammar.{Spells}
use Rattle.law_histories.proofs.Spelled.{spells_one}
use Rattle.law_isolation.proofs.Kept.{all_kept}
use Rattle.law_isolation.proofs.standing_work_is_carried.Goals as goal

pub returns : goal.returns
returns c = λ past legal calm s mine. (all_kept Spells spells_one past legal calm).works s mine
