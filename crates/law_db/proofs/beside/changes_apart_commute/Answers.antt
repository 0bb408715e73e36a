use Rattle.law_db.proofs.Apart.{beside_commutes}
use Rattle.law_db.proofs.beside.changes_apart_commute.Goals as goal

pub returns : goal.returns
returns c db some others rows more apart = beside_commutes db some others rows more apart
