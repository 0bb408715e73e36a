use Rattle.std.proofs.Common.{arith}
use Rattle.std.proofs.lemmas.Grind.{common_steps}
use Rattle.stored_pages.proofs.copies.restorable.Goals as goal

pub returns-then-number-lt-MOST_PAGES : goal.returns-then-number-lt-MOST_PAGES
returns-then-number-lt-MOST_PAGES c = grind (arith, common_steps)

pub returns-else-number-lt-MOST_PAGES : goal.returns-else-number-lt-MOST_PAGES
returns-else-number-lt-MOST_PAGES c = grind (arith, common_steps)
