use Rattle.tests_bytes.proofs.Resting.{told_again, few_asked}
use Rattle.tests_bytes.proofs.tables.tables.Goals as goal

pub load-requires : goal.load-requires
load-requires c = few_asked _ c.give_up.ensures.visited_is

pub returns-clause-told : goal.returns-clause-told
returns-clause-told c = told_again _ _ _ _ _ _ c.give_up.ensures c.load.ensures.consults c.in_ok-tables.ensures.catalog c.give_up-2.ensures
