use Rattle.secondary.proofs.Lengths.{entry_short}
use Rattle.secondary.proofs.laws.an_entry_has_at_most_67_bytes.Goals as goal

pub returns : goal.returns
returns c = entry_short
