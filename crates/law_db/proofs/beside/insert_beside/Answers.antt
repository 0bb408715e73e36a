use Rattle.law_db.proofs.BesideInserting as inserting
use Rattle.law_db.proofs.beside.insert_beside.Goals as goal

pub returns : goal.returns
returns c db changes name columns tuples n rows counts apart = inserting.insert_beside db changes name columns tuples n rows counts apart
