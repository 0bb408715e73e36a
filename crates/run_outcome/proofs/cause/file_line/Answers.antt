use Rattle.std.proofs.Common.{arith}
use Rattle.std.proofs.lemmas.Grind.{elements}
use Rattle.run_outcome.proofs.cause.file_line.Goals as goal

pub returns-in-Disk : goal.returns-in-Disk
returns-in-Disk c = grind (arith, elements) steps 2000000

pub returns-in-NoMemory : goal.returns-in-NoMemory
returns-in-NoMemory c = grind (arith, elements) steps 2000000

pub returns-in-Malformed : goal.returns-in-Malformed
returns-in-Malformed c = grind (arith, elements) steps 2000000

pub returns-in-NotEmpty : goal.returns-in-NotEmpty
returns-in-NotEmpty c = grind (arith, elements) steps 2000000
