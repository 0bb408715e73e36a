use Rattle.law_tree_changes.proofs.Alike as pages
use Rattle.law_tree_changes.proofs.frames.a_tree_hangs_on_its_pages_alone.Goals as goal

pub returns-clause-sound : goal.returns-clause-sound
returns-clause-sound c = λ tree old new sound alike. pages.sound_stays tree old new sound alike

pub returns-clause-same_levels : goal.returns-clause-same_levels
returns-clause-same_levels c = λ tree old new sound alike. pages.levels_same tree old new sound alike

pub returns-clause-same_pairs : goal.returns-clause-same_pairs
returns-clause-same_pairs c = λ tree old new sound alike. pages.same_pairs tree old new sound alike
