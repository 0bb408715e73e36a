use Rattle.std.proofs.Common.{arith}
use Rattle.std.proofs.lemmas.Grind.{common_steps}
use Rattle.script.proofs.printing.push_reply.Goals as goal

pub returns-in_ok-push_text-in-Fail : goal.returns-in_ok-push_text-in-Fail
returns-in_ok-push_text-in-Fail c = grind (arith, common_steps) steps 2000000

pub returns-in_ok-push_numbered-in-Rows : goal.returns-in_ok-push_numbered-in-Rows
returns-in_ok-push_numbered-in-Rows c = grind (arith, common_steps) steps 2000000
