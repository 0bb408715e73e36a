use Rattle.std.proofs.Common.{◌+◌, sym, subst, ◌∙◌, arith}
use Rattle.paged_txn.specs.View.{HasFrames}
use Rattle.paged_txn.proofs.Rooms.{frames_had, frames_more}
use Rattle.paged_txn.proofs.room.pool_of_frames.Goals as goal
use Rattle.paged_txn.proofs.room.pool_of_frames.Goals.{then-not-has_frame+in_ok-add_frame, else-not-has_frame}

pub loop-page-preserved : goal.loop-page-preserved
loop-page-preserved c =
    let was = c.loop-page.invariant.0 in
    let page = c.loop-page.page in (
      elim c.if-not-has_frame.branch [
        | then-not-has_frame+in_ok-add_frame w ↦ subst (HasFrames c.args.pages (page + 1)) (sym w.pool-is)
            (frames_more c.args.pages page c.loop-page.pool w.add_frame.new.self (omega (arith, c.if-page-pages.true, c.pages.ensures)) was
            w.in_ok-add_frame.ensures.ok)
        | else-not-has_frame w ↦ subst (HasFrames c.args.pages (page + 1)) (sym w.pool-is)
            (frames_had c.args.pages page c.loop-page.pool was (sym c.has_frame.ensures ∙ w.if-not-has_frame.false))
      ],
      omega (arith, c.loop-page-test.true),
    )
