use Rattle.law_tree_changes.proofs.Alike as pages
use Rattle.law_tree_changes.proofs.frames.another_tree_stays.Goals as goal

pub returns-clause-apart : goal.returns-clause-apart
returns-clause-apart c = λ tree other all sound also differ. pages.apart tree other all differ sound also

pub returns-clause-sound : goal.returns-clause-sound
returns-clause-sound c = λ tree other old new sound also differ kept.
    pages.sound_stays other old new also (pages.other_alike tree other old differ new sound also kept)

pub returns-clause-same_pairs : goal.returns-clause-same_pairs
returns-clause-same_pairs c = λ tree other old new sound also differ kept.
    pages.same_pairs other old new also (pages.other_alike tree other old differ new sound also kept)
