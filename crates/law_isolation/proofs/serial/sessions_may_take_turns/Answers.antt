use Rattle.law_isolation.proofs.SerialExample.{legal_example, serial_example}
use Rattle.law_isolation.proofs.serial.sessions_may_take_turns.Goals as goal

pub returns-clause-legal : goal.returns-clause-legal
returns-clause-legal c = legal_example

pub returns-clause-serial : goal.returns-clause-serial
returns-clause-serial c = serial_example
