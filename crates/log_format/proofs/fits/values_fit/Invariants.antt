use Rattle.std.proofs.Common.{All, take}
use Rattle.log_format.specs.Group.{IsValue}
use Rattle.log_format.proofs.fits.values_fit.Given as goal

abbrev pub invariant-loop-item : goal.invariant-loop-item
invariant-loop-item l = All IsValue (take l.item-index l.items)
