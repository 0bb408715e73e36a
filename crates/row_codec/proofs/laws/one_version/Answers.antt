use Rattle.row_codec.proofs.Once.{same_version}
use Rattle.row_codec.proofs.laws.one_version.Goals as goal

pub returns : goal.returns
returns c = same_version
