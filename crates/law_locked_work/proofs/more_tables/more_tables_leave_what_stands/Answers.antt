use Rattle.law_locked_work.proofs.Claims.{reply_stands, rest_stands}
use Rattle.law_locked_work.proofs.more_tables.more_tables_leave_what_stands.Goals as goal

pub returns-clause-reply : goal.returns-clause-reply
returns-clause-reply c = λ some wide basis statement reply widens placed rows none stands.
    reply_stands some wide widens basis placed statement reply rows none stands

pub returns-clause-rest : goal.returns-clause-rest
returns-clause-rest c = λ some wide basis statement rest made widens placed rows rest-rows none rest-none of stands.
    rest_stands some wide widens basis placed statement rest made rows rest-rows none rest-none of stands
