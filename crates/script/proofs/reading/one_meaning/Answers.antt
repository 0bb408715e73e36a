use Rattle.script.proofs.Meaning.{one_reading}
use Rattle.script.proofs.reading.one_meaning.Goals as goal

pub returns : goal.returns
returns c = λ allowed bytes one other means means'. one_reading means means'
