use Rattle.key_codec.proofs.Lengths.{length-key_code, length-entry_code}
use Rattle.key_codec.proofs.laws.one_width.Goals as goal

pub returns-clause-keys : goal.returns-clause-keys
returns-clause-keys c = length-key_code

pub returns-clause-entries : goal.returns-clause-entries
returns-clause-entries c = length-entry_code
