use Rattle.write_statement.proofs.TupleByTuple.{insert_split, parts_unrefused}
use Rattle.write_statement.proofs.parting.an_insert_goes_tuple_by_tuple.Goals as goal

pub returns-clause-outcomes : goal.returns-clause-outcomes
returns-clause-outcomes c = λ table names tuple tuples db keyed none. insert_split table names db tuple tuples keyed none

pub returns-clause-refusals : goal.returns-clause-refusals
returns-clause-refusals c = λ table names tuple tuples schemas none. parts_unrefused names tuple tuples schemas table none
