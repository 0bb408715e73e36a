use Rattle.sql_history.proofs.Newest.{snapshot_read}
use Rattle.sql_grammar.specs.Grammar.{Spells}
use Rattle.sql_history.proofs.readings.a_consistent_read_answers_by_its_view.Goals as goal

pub returns : goal.returns
returns c = λ s j rows past. snapshot_read Spells s rows past j
