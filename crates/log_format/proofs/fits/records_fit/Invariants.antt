use Rattle.std.proofs.Common.{All, take}
use Rattle.log_format.specs.Group.{IsRecord}
use Rattle.log_format.proofs.fits.records_fit.Given as goal

abbrev pub invariant-loop-item : goal.invariant-loop-item
invariant-loop-item l = All IsRecord (take l.item-index l.items)
