use Rattle.std.proofs.Common.{◌≡◌, List, subst, arith}
use Rattle.std.proofs.lemmas.List.{take_all}
use Rattle.store_api.specs.Areas.{contents_of}
use Rattle.disk_mem.specs.declared.call.Call.{Call}
use Rattle.disk_mem.specs.Left.{left_by}
use Rattle.disk_mem.specs.Replay.{state_after}
use Rattle.disk_mem.proofs.Left.{none_passed, one_passed}
use Rattle.disk_mem.proofs.image.image_of.Goals as goal

pub loop-call-init : goal.loop-call-init
loop-call-init c = rw (c.in_ok-seen.ensures.items, c.in_ok-image.ensures.items) (none_passed c.args.pick c.args.area c.args.start.now c.args.calls.now)

pub loop-call-preserved : goal.loop-call-preserved
loop-call-preserved c =
    let l = c.loop-call in
    one_passed c.args.pick c.args.area c.args.start.now c.args.calls.now l.call-index c.call-item.result l.seen.items l.image.items c.pass.new.seen.items c.pass.new.image.items l.invariant c.loop-call-test.true c.call-item.is
    c.in_ok-pass.ensures.seen c.in_ok-pass.ensures.image

pub returns : goal.returns
returns c = λ first is.
    subst (λ (l : List Call). left_by c.args.pick (contents_of c.args.area (state_after first l)) ≡ c.loop-call.image.items) (take_all c.loop-call.call-index c.args.calls.now (omega arith)) (c.loop-call.invariant.each first is).1
