use Rattle.law_tree_changes.proofs.Tails.{tail_rises}
use Rattle.law_tree_changes.proofs.splits.keys_behind_the_first_rise.Goals as goal

pub returns : goal.returns
returns c = λ n pages root lows tops cs ds lower under u tree at. tail_rises n pages root lows tops cs ds lower under u tree at
