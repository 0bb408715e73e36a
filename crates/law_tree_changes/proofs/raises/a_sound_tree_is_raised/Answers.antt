use Rattle.law_tree_changes.proofs.Raising.{raised_levels, raised_same_pairs, sound_raised}
use Rattle.law_tree_changes.proofs.raises.a_sound_tree_is_raised.Goals as goal

pub returns-clause-sound : goal.returns-clause-sound
returns-clause-sound c = λ tree old new page sound free raises one two. sound_raised tree old new page sound free raises one two

pub returns-clause-levels : goal.returns-clause-levels
returns-clause-levels c = λ tree old new page sound free raises. raised_levels tree old new page sound free raises

pub returns-clause-same_pairs : goal.returns-clause-same_pairs
returns-clause-same_pairs c = λ tree old new page sound free raises. raised_same_pairs tree old new page sound free raises
