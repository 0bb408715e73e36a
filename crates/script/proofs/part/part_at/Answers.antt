use Rattle.std.proofs.Common.{arith}
use Rattle.std.proofs.lemmas.Grind.{common_steps}
use borrow.Author.Rules.{get_or_read}
use Rattle.script.proofs.Blanks
use Rattle.script.proofs.part.part_at.Goals as goal

pub overflow_sub-result : goal.overflow_sub-result
overflow_sub-result c = grind (arith, Blanks.blank_shorter) steps 2000000

pub returns-in-None-clause-value : goal.returns-in-None-clause-value
returns-in-None-clause-value c = grind (arith, common_steps) steps 2000000

pub returns-in-None-clause-within : goal.returns-in-None-clause-within
returns-in-None-clause-within c = grind (arith, Blanks.blank_shorter, get_or_read) steps 2000000

pub returns-in-Some-after_token-clause-value : goal.returns-in-Some-after_token-clause-value
returns-in-Some-after_token-clause-value c = grind (arith, common_steps) steps 2000000

pub returns-in-Some-clause-value : goal.returns-in-Some-clause-value
returns-in-Some-clause-value c = grind (arith, common_steps) steps 2000000

pub returns-in-Some-clause-within : goal.returns-in-Some-clause-within
returns-in-Some-clause-within c = grind (arith, Blanks.blank_shorter, get_or_read) steps 2000000

pub returns-then-starts_with-2-clause-value : goal.returns-then-starts_with-2-clause-value
returns-then-starts_with-2-clause-value c = grind (arith, common_steps) steps 2000000

pub returns-then-starts_with-2-clause-within : goal.returns-then-starts_with-2-clause-within
returns-then-starts_with-2-clause-within c = grind (arith, Blanks.blank_shorter, get_or_read) steps 2000000
