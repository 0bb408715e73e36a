use Rattle.sql_history.proofs.Newest.{stopped_reply}
use Rattle.sql_grammar.specs.Grammar.{Spells}
use Rattle.sql_history.proofs.readings.after_a_stop_items_answer_stopped.Goals as goal

pub returns : goal.returns
returns c = stopped_reply Spells
