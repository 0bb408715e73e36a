use Rattle.law_isolation.proofs.Example.{legal_example, serializable_example, set_up_example, free_example, not_serial_example}
use Rattle.law_isolation.proofs.phantom_free.sessions_may_interleave.Goals as goal

pub returns-clause-legal : goal.returns-clause-legal
returns-clause-legal c = legal_example

pub returns-clause-serializable : goal.returns-clause-serializable
returns-clause-serializable c = serializable_example

pub returns-clause-set_up : goal.returns-clause-set_up
returns-clause-set_up c = set_up_example

pub returns-clause-free : goal.returns-clause-free
returns-clause-free c = free_example

pub returns-clause-not_serial : goal.returns-clause-not_serial
returns-clause-not_serial c = not_serial_example
