use Rattle.std.proofs.Common.{◌≡◌, ℕ, List, true, Some, sym, ap, subst, ◌∙◌}
use Rattle.mtr.specs.Seen.{is_in}
use Rattle.mini_txn.proofs.Bodies.{blank_is}
use Rattle.mini_txn.proofs.Meeting.{visited_now}
use Rattle.mini_txn.specs.Dealt.{pages_of}
use Rattle.mini_txn.proofs.work.blank_in.Goals as goal

pub set-requires-clause-dealt_with : goal.set-requires-clause-dealt_with
set-requires-clause-dealt_with c = subst (λ (ps : List ℕ). is_in c.args.page ps
    ≡ true) (sym c.visit.ensures.pages) (visited_now c.args.page (pages_of c.args.dealt.now))

pub returns : goal.returns
returns c = record {
  frame = c.take_frame.ensures;
  pages = c.set.ensures.pages ∙ c.visit.ensures.pages;
  here = c.set.ensures.here ∙ ap Some (sym blank_is);
  elsewhere = λ q ne. c.set.ensures.elsewhere q ne ∙ c.visit.ensures.copies q;
}
