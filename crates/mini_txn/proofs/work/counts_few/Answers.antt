use Rattle.std.proofs.Common.{◌∙◌, sym, arith}
use Rattle.std.proofs.lemmas.Bool.{leb-true, le-leb}
use Rattle.mini_txn.proofs.Meeting.{count-body}
use Rattle.mini_txn.proofs.work.counts_few.Goals as goal

pub returns : goal.returns
returns c =
    let same = c.read_u32.ensures ∙ sym (count-body c.args.bytes.now) in (
      (λ h. omega (arith, same, c.pages.ensures, leb-true c.read_u32.result c.pages.result h)),
      (λ h. le-leb c.read_u32.result c.pages.result (omega (arith, same, c.pages.ensures, h))),
    )
