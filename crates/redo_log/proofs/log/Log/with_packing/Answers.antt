use Rattle.std.proofs.Common.{◌+◌}
use Rattle.redo_log.specs.View.{spare_of}
use Rattle.redo_log.proofs.Begun.{begun}
use Rattle.redo_log.proofs.log.Log.with_packing.Goals as goal

pub returns-clause-stands : goal.returns-clause-stands
returns-clause-stands c = λ scan_first groups area number goes_on.
    let pending = c.in_ok-with_capacity.field-0.items in
    rw c.in_ok-with_capacity.ensures.items (begun c.args.run scan_first c.args.block c.args.first (spare_of 1048576 0 (c.args.block + 0) c.args.first) groups
    area c.requires number goes_on)
