use Rattle.law_crashes.proofs.Mount.{durable_mounted}
use Rattle.law_crashes.proofs.files.an_engine_goes_on_from_a_mount.Goals as goal

pub returns : goal.returns
returns c = durable_mounted
