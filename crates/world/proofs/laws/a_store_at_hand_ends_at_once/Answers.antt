use Rattle.world.specs.Undoing.{IsUnchanged}
use Rattle.world.specs.Endings.{IsCommitted, IsRolledBack}
use Rattle.world.proofs.AtHand.{done_at_once}
use Rattle.world.proofs.laws.a_store_at_hand_ends_at_once.Goals as goal

pub returns-clause-commits : goal.returns-clause-commits
returns-clause-commits c = λ s old new answer was is ends. done_at_once s old new was is (IsCommitted s) answer ends

pub returns-clause-rolls_back : goal.returns-clause-rolls_back
returns-clause-rolls_back c = λ s old new answer was is ends. done_at_once s old new was is (IsRolledBack s) answer ends

pub returns-clause-frees : goal.returns-clause-frees
returns-clause-frees c = λ s old new answer was is frees. done_at_once s old new was is IsUnchanged answer frees
