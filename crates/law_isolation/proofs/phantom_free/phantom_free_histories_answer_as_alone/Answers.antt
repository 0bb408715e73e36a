use Rattle.sql_grammar.specs.Grammar.{Spells}
use Rattle.law_histories.proofs.Spelled.{spells_one}
use Rattle.law_isolation.proofs.Alone.{calm_alone}
use Rattle.law_isolation.proofs.Phantoms.{phantoms_calm}
use Rattle.law_isolation.proofs.phantom_free.phantom_free_histories_answer_as_alone.Goals as goal

pub returns : goal.returns
returns c past legal serializable set free =
    calm_alone Spells spells_one past legal (phantoms_calm Spells spells_one past
    (record { legal = legal; serializable = serializable; is_set_up = set; free = free })).calm
