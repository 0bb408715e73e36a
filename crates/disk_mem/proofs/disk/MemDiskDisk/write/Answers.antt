use Rattle.std.proofs.Common.{◌≡◌, true, arith, ap, subst, sym, ◌∙◌}
use Rattle.std.specs.Prelude.{is_ok, not, ◌&&◌}
use Rattle.store_api.specs.Areas.{Within, Wrote}
use Rattle.disk_mem.specs.Replay.{state_after, change, after_write}
use Rattle.disk_mem.specs.declared.call.Call.TheVariants.{Write}
use Rattle.disk_mem.proofs.Recorded.{Goes-call, OnOk-tells, obeys}
use Rattle.disk_mem.proofs.Steps.{writes}
use Rattle.disk_mem.proofs.disk.MemDiskDisk.write.Goals as goal

pub returns-clause-goes : goal.returns-clause-goes
returns-clause-goes c =
    let d = c.args.self.now in
    let done = not c.is_refused-done.result in
    let told = λ (kept : c.record_write-recorded.result ≡ true). c.is_told-told.ensures.0 (c.record_write-recorded.ensures.told kept) in
    let same = λ (kept : c.record_write-recorded.result ≡ true). c.count.ensures.variant ∙ ap (λ b. b && done) kept in
    Goes-call (Within c.args.area (Wrote c.args.at c.args.bytes.now (is_ok c.count.result))) d.start d.calls.items d.moment c.saturating_add-self.result d.faults c.count.new.faults c.saturating_add-self.ensures (omega arith)
    c.record_write-recorded.result c.record_write-recorded.new.calls.items (omega arith)
    (λ kept.
    let call = c.record_write-recorded.ensures.recorded kept in
    let wrote = subst (λ bytes. Within c.args.area (Wrote c.args.at c.args.bytes.now done) (state_after d.start d.calls.items) (change c.args.area (after_write c.args.at bytes done) (state_after d.start d.calls.items)))
    (sym call.1) (writes c.args.area c.args.at c.args.bytes.now done (state_after d.start d.calls.items)) in
    (Write c.args.area c.args.at call.0 done, omega (arith, told kept), call.2, rw (same kept) wrote))
    c.record_write-recorded.ensures.not

pub returns-clause-tells : goal.returns-clause-tells
returns-clause-tells c =
    let d = c.args.self.now in
    let done = not c.is_refused-done.result in
    let told = λ (kept : c.record_write-recorded.result ≡ true). c.is_told-told.ensures.0 (c.record_write-recorded.ensures.told kept) in
    OnOk-tells d.start d.calls.items c.record_write-recorded.new.calls.items d.moment c.saturating_add-self.result c.count.new.faults c.count.result c.record_write-recorded.result done c.count.ensures.variant
    (λ kept.
    let call = c.record_write-recorded.ensures.recorded kept in
    (Write c.args.area c.args.at call.0 done, omega (arith, told kept), omega (arith, told kept), call.2))

pub returns-clause-obeys : goal.returns-clause-obeys
returns-clause-obeys c =
    let d = c.args.self.now in
    obeys d.fail _ d.start d.calls.items c.record_write-recorded.new.calls.items d.moment c.saturating_add-self.result c.count.new.faults c.count.result c.record_write-recorded.result c.is_refused-done.result c.count.ensures.variant c.is_refused-done.ensures
    c.saturating_add-self.ensures (omega arith) c.record_write-recorded.ensures.not
