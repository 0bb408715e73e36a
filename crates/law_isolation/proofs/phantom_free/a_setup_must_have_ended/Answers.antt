use Rattle.law_isolation.proofs.Unended.{legal_unended, serializable_unended, first_unended, free_unended, unended_not_alone}
use Rattle.law_isolation.proofs.phantom_free.a_setup_must_have_ended.Goals as goal

pub returns-clause-legal : goal.returns-clause-legal
returns-clause-legal c = legal_unended

pub returns-clause-serializable : goal.returns-clause-serializable
returns-clause-serializable c = serializable_unended

pub returns-clause-first : goal.returns-clause-first
returns-clause-first c = first_unended

pub returns-clause-free : goal.returns-clause-free
returns-clause-free c = free_unended

pub returns-clause-not_alone : goal.returns-clause-not_alone
returns-clause-not_alone c = unended_not_alone
