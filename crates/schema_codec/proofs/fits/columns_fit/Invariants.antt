use Rattle.std.proofs.Common.{All, take}
use Rattle.schema_codec.specs.Schema.{IsColumn}
use Rattle.schema_codec.proofs.fits.columns_fit.Given as goal

abbrev pub invariant-loop-item : goal.invariant-loop-item
invariant-loop-item l = All IsColumn (take l.item-index l.items)
