use Rattle.law_tree_changes.proofs.Splitting.{sound_split}
use Rattle.law_tree_changes.proofs.splits.a_sound_tree_is_split.Goals as goal

pub returns : goal.returns
returns c = λ tree old new tops upper lower under key u p q i e f sound long child free splits one two three.
    sound_split tree old new tops upper lower under key u p q i e f sound long child free splits one two three
