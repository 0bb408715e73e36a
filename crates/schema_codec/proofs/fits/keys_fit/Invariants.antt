use Rattle.std.proofs.Common.{All, take}
use Rattle.schema_codec.specs.Schema.{IsKey}
use Rattle.schema_codec.proofs.fits.keys_fit.Given as goal

abbrev pub invariant-loop-item : goal.invariant-loop-item
invariant-loop-item l = All IsKey (take l.item-index l.items)
