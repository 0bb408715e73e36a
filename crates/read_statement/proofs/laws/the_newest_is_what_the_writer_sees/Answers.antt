use Rattle.read_statement.proofs.Newest.{newest_is}
use Rattle.read_statement.proofs.laws.the_newest_is_what_the_writer_sees.Goals as goal

pub returns : goal.returns
returns c = λ h w ordered alone. newest_is h w ordered alone
