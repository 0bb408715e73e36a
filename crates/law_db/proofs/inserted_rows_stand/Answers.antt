use Rattle.inno_db.specs.Database.{rows_of}
use Rattle.law_db.proofs.Inserting.{inserted-AllStand}
use Rattle.law_db.proofs.inserted_rows_stand.Goals as goal

pub returns : goal.returns
returns c = λ db table schema names tuples is. inserted-AllStand table schema names (rows_of table db) tuples db is
