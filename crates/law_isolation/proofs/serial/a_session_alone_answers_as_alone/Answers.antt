use Rattle.sql_grammar.specs.Grammar.{Spells}
use Rattle.law_histories.proofs.Spelled.{spells_one}
use Rattle.law_isolation.proofs.Kept.{all_calm}
use Rattle.law_isolation.proofs.Alone.{calm_alone}
use Rattle.law_isolation.proofs.Turns.{one_serial}
use Rattle.law_isolation.proofs.Calm.{serial_calm}
use Rattle.law_isolation.proofs.serial.a_session_alone_answers_as_alone.Goals as goal

pub returns : goal.returns
returns c =
    λ s past legal mine. calm_alone Spells spells_one past legal (all_calm Spells past (serial_calm Spells spells_one past legal (one_serial s past mine)))
