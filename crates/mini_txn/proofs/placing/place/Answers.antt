use Rattle.std.proofs.Common.{ap, ◌∙◌, arith}
use Rattle.stored_pages.specs.Words.{number_of, lsn_of}
use Rattle.mini_txn.proofs.Bodies.{number-stamped, lsn-stamped}
use Rattle.mini_txn.proofs.placing.place.Goals as goal

pub returns : goal.returns
returns c =
    let made = c.with_stamp-placed.ensures in
    let bytes = c.args.bytes.now in (
      c.with_stamp-placed.result,
      record {
        number = ap number_of made.stamped ∙ number-stamped c.args.page c.args.lsn bytes (omega (arith, made.size)) c.ranges.page.fits;
        lsn_is = ap lsn_of made.stamped ∙ lsn-stamped c.args.page c.args.lsn bytes (omega (arith, made.size)) c.ranges.lsn.fits;
        behind = made.behind;
      },
      c.change.ensures,
    )
