use Rattle.sql_history.proofs.Newest.{commits_running}
use Rattle.sql_grammar.specs.Grammar.{Spells}
use Rattle.sql_history.proofs.readings.nothing_commits_after_a_stop.Goals as goal

pub returns : goal.returns
returns c = commits_running Spells
