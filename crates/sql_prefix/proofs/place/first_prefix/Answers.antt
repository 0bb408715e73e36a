use Rattle.sql_prefix.proofs.Finished.{from_nothing}
use Rattle.sql_prefix.proofs.place.first_prefix.Goals as goal

pub returns-else-branch : goal.returns-else-branch
returns-else-branch c = from_nothing c.args.bytes.now c.requires

pub returns-else-at-bytes : goal.returns-else-at-bytes
returns-else-at-bytes c = from_nothing c.args.bytes.now c.requires
