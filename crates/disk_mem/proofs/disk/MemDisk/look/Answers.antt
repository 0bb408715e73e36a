use Rattle.std.proofs.Common.{◌≡◌, true, arith}
use Rattle.std.specs.Prelude.{is_ok}
use Rattle.store_api.specs.Areas.{Within, Looked}
use Rattle.disk_mem.specs.Replay.{state_after}
use Rattle.disk_mem.specs.declared.call.Call.TheVariants.{Look}
use Rattle.std.specs.Prelude.{not}
use Rattle.disk_mem.proofs.Recorded.{Goes-call, OnOk-tells, obeys}
use Rattle.disk_mem.proofs.Steps.{looks}
use Rattle.disk_mem.proofs.disk.MemDisk.look.Goals as goal

pub returns-clause-goes : goal.returns-clause-goes
returns-clause-goes c = λ area.
    let d = c.args.self.now in
    let ok = is_ok c.count.result in
    let told = λ (kept : c.record-recorded.result ≡ true). c.is_told-told.ensures.0 (c.record-recorded.ensures.told kept) in
    Goes-call (Within area (Looked ok)) d.start d.calls.items d.moment c.saturating_add-self.result d.faults c.count.new.faults c.saturating_add-self.ensures (omega arith)
    c.record-recorded.result c.record-recorded.new.calls.items (omega arith)
    (λ kept. (Look, omega (arith, told kept), c.record-recorded.ensures.recorded kept, looks area ok (state_after d.start d.calls.items)))
    c.record-recorded.ensures.not

pub returns-clause-tells : goal.returns-clause-tells
returns-clause-tells c =
    let d = c.args.self.now in
    let told = λ (kept : c.record-recorded.result ≡ true). c.is_told-told.ensures.0 (c.record-recorded.ensures.told kept) in
    OnOk-tells d.start d.calls.items c.record-recorded.new.calls.items d.moment c.saturating_add-self.result c.count.new.faults c.count.result c.record-recorded.result (not c.is_refused-done.result) c.count.ensures.variant
    (λ kept. (Look, omega (arith, told kept), omega (arith, told kept), c.record-recorded.ensures.recorded kept))

pub returns-clause-obeys : goal.returns-clause-obeys
returns-clause-obeys c =
    let d = c.args.self.now in
    obeys d.fail _ d.start d.calls.items c.record-recorded.new.calls.items d.moment c.saturating_add-self.result c.count.new.faults c.count.result c.record-recorded.result c.is_refused-done.result c.count.ensures.variant c.is_refused-done.ensures
    c.saturating_add-self.ensures (omega arith) c.record-recorded.ensures.not
