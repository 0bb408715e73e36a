use Rattle.std.proofs.Common.{arith}
use Rattle.std.proofs.lemmas.Grind.{elements}
use Rattle.world_lists.proofs.steps.WorldListsSharedLists.undo.Goals as goal

pub take_back-requires-clause-task : goal.take_back-requires-clause-task
take_back-requires-clause-task g c = grind (arith, elements) steps 2000000

pub read_record-requires-clause-waits : goal.read_record-requires-clause-waits
read_record-requires-clause-waits g c = grind (arith, elements) steps 2000000
