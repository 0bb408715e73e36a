use Rattle.std.proofs.Common.{sym, arith}
use Rattle.tests_world.proofs.Keeping.{waits_not}
use Rattle.tests_world.proofs.waiting.ask_for.Goals as goal

pub ask-requires : goal.ask-requires
ask-requires g c =
    let mine = c.requires.mine in
    record {
      session = mine.session;
      work = mine.work;
      has_work = mine.has_work;
      mine = sym mine.txn_is;
      free = waits_not _ (c.if-not-is_granted.ensures mine.session mine.work mine.has_work);
      fits = c.requires.fits;
      asked_for = (λ is. omega (arith, is, c.requires.rule), λ is. omega (arith, is, c.requires.rule));
      short = c.requires.short;
    }
