use Rattle.std.proofs.Common.{◌≡◌, ◌-◌, ◌*◌, ◌<◌, ◌≤◌, true, sym, ◌∙◌, ap, subst, arith}
use Rattle.std.specs.Prelude.{is_ok}
use Rattle.store_api.specs.Past.{Now}
use Rattle.redo_log.specs.View.{LogView, all_tried}
use Rattle.redo_log.specs.Logged.{Stands}
use Rattle.redo_log.specs.Halves.{StandsWritten}
use Rattle.redo_log.proofs.Elsewhere.{leaves_call}
use Rattle.redo_log.proofs.Flush.{meant, after_write, during_write, after_whole_write}
use Rattle.redo_log.proofs.log.Log.begin_flush.Goals as goal

pub returns-in_err-write-clause-elsewhere : goal.returns-in_err-write-clause-elsewhere
returns-in_err-write-clause-elsewhere g c = leaves_call _ _ _ c.write.ensures.goes

pub returns-clause-elsewhere : goal.returns-clause-elsewhere
returns-clause-elsewhere g c = leaves_call _ _ _ c.write.ensures.goes

pub returns-in_err-write-clause-stands : goal.returns-in_err-write-clause-stands
returns-in_err-write-clause-stands g c = λ first groups double pages known.
    let disk = g.D.Disk.past in
    let log = c.args.self.now in
    let law = g.met.D.Disk.seen_may_be_left c.args.disk.now in
    let tries : log.tried ≤ log.count =
    omega (arith, c.self.invariant.tries, ap (λ (l : LogView). l.tried) c.self.view_is, ap (λ (l : LogView). l.count) c.self.view_is) in
    let place : 512 * c.self.inside.block ≡ 512 * log.block = ap (λ (l : LogView). 512 * l.block) c.self.view_is in
    let bytes : c.deref.result.now ≡ log.pending = c.deref.ensures.value ∙ ap (λ (l : LogView). l.pending) c.self.view_is in
    let write = meant log _ c.deref.result.now (is_ok c.write.result) (disk c.args.disk.now) (disk c.write.new.self) place bytes c.write.ensures.goes in
    subst (λ (l : LogView). Now (Stands first groups (all_tried l) double pages) (disk c.write.new.self)) (sym c.self.view_is)
    (after_write first groups log double pages tries _ _ law known _ write)

pub returns-in_err-write-clause-crash : goal.returns-in_err-write-clause-crash
returns-in_err-write-clause-crash g c = λ first groups double pages known.
    let disk = g.D.Disk.past in
    let log = c.args.self.now in
    let law = g.met.D.Disk.seen_may_be_left c.args.disk.now in
    let tries : log.tried ≤ log.count =
    omega (arith, c.self.invariant.tries, ap (λ (l : LogView). l.tried) c.self.view_is, ap (λ (l : LogView). l.count) c.self.view_is) in
    let place : 512 * c.self.inside.block ≡ 512 * log.block = ap (λ (l : LogView). 512 * l.block) c.self.view_is in
    let bytes : c.deref.result.now ≡ log.pending = c.deref.ensures.value ∙ ap (λ (l : LogView). l.pending) c.self.view_is in
    let write = meant log _ c.deref.result.now (is_ok c.write.result) (disk c.args.disk.now) (disk c.write.new.self) place bytes c.write.ensures.goes in
    during_write first groups log double pages tries _ _ law known _ write

pub returns-clause-stands : goal.returns-clause-stands
returns-clause-stands g c = λ first groups double pages known.
    let disk = g.D.Disk.past in
    let log = c.args.self.now in
    let law = g.met.D.Disk.seen_may_be_left c.args.disk.now in
    let tries : log.tried ≤ log.count =
    omega (arith, c.self.invariant.tries, ap (λ (l : LogView). l.tried) c.self.view_is, ap (λ (l : LogView). l.count) c.self.view_is) in
    let place : 512 * c.self.inside.block ≡ 512 * log.block = ap (λ (l : LogView). 512 * l.block) c.self.view_is in
    let bytes : c.deref.result.now ≡ log.pending = c.deref.ensures.value ∙ ap (λ (l : LogView). l.pending) c.self.view_is in
    let write = meant log _ c.deref.result.now (is_ok c.write.result) (disk c.args.disk.now) (disk c.write.new.self) place bytes c.write.ensures.goes in
    subst (λ (l : LogView). Now (Stands first groups (all_tried l) double pages) (disk c.write.new.self)) (sym c.self.view_is)
    (after_write first groups log double pages tries _ _ law known _ write)

pub returns-clause-crash : goal.returns-clause-crash
returns-clause-crash g c = λ first groups double pages known.
    let disk = g.D.Disk.past in
    let log = c.args.self.now in
    let law = g.met.D.Disk.seen_may_be_left c.args.disk.now in
    let tries : log.tried ≤ log.count =
    omega (arith, c.self.invariant.tries, ap (λ (l : LogView). l.tried) c.self.view_is, ap (λ (l : LogView). l.count) c.self.view_is) in
    let place : 512 * c.self.inside.block ≡ 512 * log.block = ap (λ (l : LogView). 512 * l.block) c.self.view_is in
    let bytes : c.deref.result.now ≡ log.pending = c.deref.ensures.value ∙ ap (λ (l : LogView). l.pending) c.self.view_is in
    let write = meant log _ c.deref.result.now (is_ok c.write.result) (disk c.args.disk.now) (disk c.write.new.self) place bytes c.write.ensures.goes in
    during_write first groups log double pages tries _ _ law known _ write

pub returns-clause-written : goal.returns-clause-written
returns-clause-written g c = λ first groups double pages known.
    let disk = g.D.Disk.past in
    let log = c.args.self.now in
    let law = g.met.D.Disk.seen_may_be_left c.args.disk.now in
    let tries : log.tried ≤ log.count =
    omega (arith, c.self.invariant.tries, ap (λ (l : LogView). l.tried) c.self.view_is, ap (λ (l : LogView). l.count) c.self.view_is) in
    let place : 512 * c.self.inside.block ≡ 512 * log.block = ap (λ (l : LogView). 512 * l.block) c.self.view_is in
    let bytes : c.deref.result.now ≡ log.pending = c.deref.ensures.value ∙ ap (λ (l : LogView). l.pending) c.self.view_is in
    let write = meant log _ c.deref.result.now true (disk c.args.disk.now) (disk c.write.new.self) place bytes c.in_ok-write.ensures.goes in
    let some : 0 < log.next = omega (arith, c.self.invariant.begun, ap (λ (l : LogView). l.next) c.self.view_is) in
    subst
    (λ (l : LogView). Now (StandsWritten first groups (record { block = l.block; count = l.count; last = l.next - 1 }) (all_tried l) double pages) (disk c.write.new.self))
    (sym c.self.view_is) (after_whole_write first groups log double pages tries _ _ law known some write)
