use Rattle.std.proofs.Common.{◌≡◌, true, arith, ap, ◌∙◌}
use Rattle.std.specs.Prelude.{is_ok, not, ◌&&◌}
use Rattle.store_api.specs.Areas.{Within, Synced}
use Rattle.disk_mem.specs.Replay.{state_after}
use Rattle.disk_mem.specs.declared.call.Call.TheVariants.{Sync}
use Rattle.disk_mem.proofs.Recorded.{Goes-call, OnOk-tells, obeys}
use Rattle.disk_mem.proofs.Steps.{syncs}
use Rattle.disk_mem.proofs.disk.MemDiskDisk.sync.Goals as goal

pub returns-clause-goes : goal.returns-clause-goes
returns-clause-goes c =
    let d = c.args.self.now in
    let done = not c.is_refused-done.result in
    let told = λ (kept : c.record-recorded.result ≡ true). c.is_told-told.ensures.0 (c.record-recorded.ensures.told kept) in
    let same = λ (kept : c.record-recorded.result ≡ true). c.count.ensures.variant ∙ ap (λ b. b && done) kept in
    Goes-call (Within c.args.area (Synced (is_ok c.count.result))) d.start d.calls.items d.moment c.saturating_add-self.result d.faults c.count.new.faults c.saturating_add-self.ensures (omega arith)
    c.record-recorded.result c.record-recorded.new.calls.items (omega arith)
    (λ kept. (Sync c.args.area done, omega (arith, told kept), c.record-recorded.ensures.recorded kept, rw (same kept) (syncs c.args.area done (state_after d.start d.calls.items))))
    c.record-recorded.ensures.not

pub returns-clause-tells : goal.returns-clause-tells
returns-clause-tells c =
    let d = c.args.self.now in
    let done = not c.is_refused-done.result in
    let told = λ (kept : c.record-recorded.result ≡ true). c.is_told-told.ensures.0 (c.record-recorded.ensures.told kept) in
    OnOk-tells d.start d.calls.items c.record-recorded.new.calls.items d.moment c.saturating_add-self.result c.count.new.faults c.count.result c.record-recorded.result done c.count.ensures.variant
    (λ kept. (Sync c.args.area done, omega (arith, told kept), omega (arith, told kept), c.record-recorded.ensures.recorded kept))

pub returns-clause-obeys : goal.returns-clause-obeys
returns-clause-obeys c =
    let d = c.args.self.now in
    obeys d.fail _ d.start d.calls.items c.record-recorded.new.calls.items d.moment c.saturating_add-self.result c.count.new.faults c.count.result c.record-recorded.result c.is_refused-done.result c.count.ensures.variant c.is_refused-done.ensures
    c.saturating_add-self.ensures (omega arith) c.record-recorded.ensures.not
