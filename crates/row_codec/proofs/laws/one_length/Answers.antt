use Rattle.row_codec.proofs.Stored.{length-version_code}
use Rattle.row_codec.proofs.laws.one_length.Goals as goal

pub returns : goal.returns
returns c = length-version_code
