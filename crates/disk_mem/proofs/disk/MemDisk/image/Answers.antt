use Rattle.std.proofs.Common.{◌≡◌, min, length, take, sym, ◌∙◌, ap, arith}
use Rattle.std.specs.Prelude.{Result, Ok, Err, OnOk}
use Rattle.std.proofs.lemmas.Result.{IfOk-weaker}
use Rattle.store_api.specs.Areas.{State}
use Rattle.disk_mem.specs.Left.{left_by, image_by}
use Rattle.disk_mem.specs.Replay.{past_of}
use Rattle.disk_mem.proofs.Left.{at_moment, image_by_is_image, IsResting-same}
use Rattle.disk_mem.proofs.disk.MemDisk.image.Goals as goal

pub returns-clause-bytes : goal.returns-clause-bytes
returns-clause-bytes c =
    let d = c.args.self.now in
    let pick = c.args.pick in
    IfOk-weaker c.holding.result _ _
    (λ disk resting. λ s told.
    let number : c.min.result ≡ min (length d.calls.items) c.args.moment = omega arith in
    let state = at_moment d.start d.calls.items c.args.moment s (take c.min.result c.deref.result.now) told (λ i. take (number i) (c.deref.ensures.value i)) in
    IsResting-same (record { log = c.in_ok-log.log.items; double = c.in_ok-double.double.items; pages = c.in_ok-pages.pages.items }) (image_by pick s) (past_of disk.start disk.calls.items disk.moment disk.faults)
    (sym (c.in_ok-log.ensures d.start (sym c.deref-2.ensures.value)) ∙ ap (λ (t : State). left_by pick t.log) state)
    (sym (c.in_ok-double.ensures d.start (sym c.deref-3.ensures.value)) ∙ ap (λ (t : State). left_by pick t.double) state)
    (sym (c.in_ok-pages.ensures d.start (sym c.deref-4.ensures.value)) ∙ ap (λ (t : State). left_by pick t.pages) state)
    resting)
    c.holding.ensures.resting

always : {T E P : Type 0} (r : Result T E) → P → OnOk r P
always (Ok x) p = p
always (Err e) p = tt

pub returns-clause-allowed : goal.returns-clause-allowed
returns-clause-allowed c = always c.holding.result (λ s told. image_by_is_image c.args.pick s)
