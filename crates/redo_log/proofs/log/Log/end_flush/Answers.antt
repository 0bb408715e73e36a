use Rattle.std.proofs.Common.{ℕ, ◌+◌, ◌-◌, ◌^◌, ◌<◌, List, length, sym, ap, subst, arith}
use Rattle.store_api.specs.Past.{Now}
use Rattle.redo_log.specs.View.{LogView, spare_of}
use Rattle.redo_log.specs.Logged.{Stands}
use Rattle.redo_log.specs.Halves.{WrittenView}
use Rattle.redo_log.proofs.Elsewhere.{leaves_call}
use Rattle.redo_log.proofs.Flush.{rest_of, after_failed_sync, during_failed_sync, after_sync, during_sync}
use Rattle.redo_log.proofs.log.Log.end_flush.Goals as goal

pub returns-in_err-sync-clause-elsewhere : goal.returns-in_err-sync-clause-elsewhere
returns-in_err-sync-clause-elsewhere g c = leaves_call _ _ _ c.sync.ensures.goes

pub returns-clause-elsewhere : goal.returns-clause-elsewhere
returns-clause-elsewhere g c = leaves_call _ _ _ c.sync.ensures.goes

pub returns-in_err-sync-clause-stands : goal.returns-in_err-sync-clause-stands
returns-in_err-sync-clause-stands g c = λ first groups double pages known.
    after_failed_sync first groups c.args.self.now double pages c.args.written _ _ known c.in_err-sync.ensures.goes

pub returns-in_err-sync-clause-crash : goal.returns-in_err-sync-clause-crash
returns-in_err-sync-clause-crash g c = λ first groups double pages known.
    during_failed_sync first groups c.args.self.now double pages c.args.written _ _ known c.in_err-sync.ensures.goes

pub returns-clause-stands : goal.returns-clause-stands
returns-clause-stands g c = λ first groups double pages known.
    let disk = g.D.Disk.past in
    let log = c.args.self.now in
    let law = g.met.D.Disk.seen_may_be_left c.args.disk.now in
    let bounds = c.self.invariant in
    let run : log.run < 2 ^ 64 = omega (arith, bounds.run_fits, ap (λ (l : LogView). l.run) c.self.view_is) in
    let end : log.block + log.count < 2 ^ 64 =
    omega (arith, bounds.blocks, ap (λ (l : LogView). l.block) c.self.view_is, ap (λ (l : LogView). l.count) c.self.view_is) in
    let i = c.self.inside in
    let w = c.written.inside in
    let spare = spare_of i.room (length c.drop_front.new.bytes.items) (i.block + w.count + (i.count - w.count)) i.next in
    let now = after_sync first groups log double pages c.args.written run end spare _ _ law known c.in_ok-sync.ensures.goes in
    let mine = subst (λ (v : WrittenView). Now (Stands first groups (rest_of v log spare) double pages) (disk c.sync.new.self)) (sym c.written.view_is) now in
    let rest = subst
    (λ (l : List ℕ). Now (Stands first groups
    (record {
      run = i.run;
      block = i.block + w.count;
      pending = l;
      count = i.count - w.count;
      tried = i.tried - w.count;
      next = i.next;
      flushed = w.last;
      spare = spare;
    }) double pages)
    (disk c.sync.new.self))
    (sym c.drop_front.ensures.items) in
    rest
    (subst
    (λ (l : LogView). Now (Stands first groups (rest_of (record { block = w.block; count = w.count; last = w.last }) l spare) double pages) (disk c.sync.new.self))
    (sym c.self.view_is) mine)

pub returns-clause-crash : goal.returns-clause-crash
returns-clause-crash g c = λ first groups double pages known.
    let log = c.args.self.now in
    let law = g.met.D.Disk.seen_may_be_left c.args.disk.now in
    let bounds = c.self.invariant in
    let run : log.run < 2 ^ 64 = omega (arith, bounds.run_fits, ap (λ (l : LogView). l.run) c.self.view_is) in
    let end : log.block + log.count < 2 ^ 64 =
    omega (arith, bounds.blocks, ap (λ (l : LogView). l.block) c.self.view_is, ap (λ (l : LogView). l.count) c.self.view_is) in
    during_sync first groups log double pages c.args.written run end 0 _ _ law known c.in_ok-sync.ensures.goes c.requires.from
