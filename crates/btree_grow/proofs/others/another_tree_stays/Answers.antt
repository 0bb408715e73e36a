use Rattle.btree_grow.proofs.Staying.{grown_spares, other_levels, other_pairs, other_placed}
use Rattle.btree_grow.proofs.others.another_tree_stays.Goals as goal

pub returns : goal.returns
returns c = λ tree other pairs taken old new differ placed also grows.
    let spares = grown_spares tree pairs taken old new placed grows in (
      other_placed tree other old new differ placed also spares,
      other_pairs tree other old new differ placed also spares,
      other_levels tree other old new differ placed also spares,
    )
