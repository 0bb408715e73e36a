use Rattle.std.proofs.Common.{refl}
use Rattle.row_changes.proofs.Ids.{entered_change}
use Rattle.row_changes.proofs.entering.enter.Goals as goal

abbrev pub add-requires : goal.add-requires
add-requires g c = (_, _, record { session_is = (c.give_id.ensures _ _ c.requires.2).now; work_is = refl })

pub unreachable-requires : goal.unreachable-requires
unreachable-requires g c = let no = (rw c.in-Err.is at c.add.ensures.sure _ (c.give_id.ensures _ _ c.requires.2).now c.requires.4) in cc

abbrev pub returns : goal.returns
returns g c = λ session work has. entered_change _ _ _ _ _ _ _ _ (c.give_id.ensures session work has) c.in-Ok.ensures.ok
