use Rattle.std.proofs.Common.{sym, ap, subst, ◌∙◌}
use Rattle.std.specs.Prelude.{◌&&◌}
use Rattle.std.specs.Option.{option_map_or}
use Rattle.mtr.specs.Calls.{Looks, Explains}
use Rattle.mini_txn.specs.Dealt.{copy_of, pages_of}
use Rattle.mini_txn.specs.View.{body_of}
use Rattle.paged_txn.specs.View.{is_known, standing_in, state_of, IsPaged}
use Rattle.paged_txn.specs.UnderWay.{IsFlushed}
use Rattle.paged_txn.proofs.Batched.{flushed_still}
use Rattle.paged_txn.proofs.Dirty.{same_pool, brought_changed}
use Rattle.paged_txn.specs.Bringing.{is_no_fault}
use Rattle.paged_txn.proofs.Brought.{brings, brings_shown, refuses}
use Rattle.paged_txn.proofs.Meeting.{brought_paged, brought_looks}
use Rattle.paged_txn.proofs.Told.{faults_rise, stays_known}
use Rattle.paged_txn.proofs.work.Work.reach.Goals as goal

pub invariant_of-self : goal.invariant_of-self
invariant_of-self g c =
    let m = c.args.self.now in
    let past = g.D.Disk.past m.disk in
    let now = g.D.Disk.past c.bring.new.disk in
    let unknown = sym c.contains.ensures ∙ c.if-contains.false in
    let b = brings m.told c.args.page past m.pool c.bring.new.pool _ m.is_paged.frames unknown now c.in-Ok.ensures.ok in
    record {
      is_paged = brought_paged m.pool c.bring.new.pool past now m.dealt m.edits m.told c.args.page m.is_paged b.was b.fixes unknown c.visit.new.self
          c.visit.ensures b.stands_now;
      is_flushed = flushed_still (is_known m.told past) (is_known m.told now) m.pool c.bring.new.pool m.log past now m.flusher m.is_flushed b.was b.fixes.places
          (brought_changed c.args.page past now m.pool c.bring.new.pool c.in-Ok.ensures.ok);
    }

pub invariant_of-self-in-Err : goal.invariant_of-self-in-Err
invariant_of-self-in-Err g c =
    let m = c.args.self.now in
    let past = g.D.Disk.past m.disk in
    let now = g.D.Disk.past c.bring.new.disk in
    let unknown = sym c.contains.ensures ∙ c.if-contains.false in
    let r = refuses m.told c.args.page past now m.pool m.dealt m.edits m.is_paged unknown c.bring.ensures.faults c.in-Err.why c.in-Err.ensures.refused in
    record {
      is_paged = subst (λ p. IsPaged p now m.dealt m.edits (m.told && c.leaves_disk_whole.result)) (sym c.in-Err.ensures.same)
          (subst (λ b. IsPaged m.pool now m.dealt m.edits (m.told && b)) (sym c.leaves_disk_whole.ensures) r.paged);
      is_flushed = subst (λ b. IsFlushed (is_known (m.told && b) now) c.bring.new.pool m.log now m.flusher) (sym c.leaves_disk_whole.ensures)
          (flushed_still (is_known m.told past) (is_known (m.told && is_no_fault c.in-Err.why) now) m.pool c.bring.new.pool m.log past now m.flusher
          m.is_flushed
          r.was r.places (same_pool m.pool c.bring.new.pool c.in-Err.ensures.same));
    }

pub returns-in-Ok-clause-asks : goal.returns-in-Ok-clause-asks
returns-in-Ok-clause-asks g c =
    let m = c.args.self.now in
    let past = g.D.Disk.past m.disk in
    let now = g.D.Disk.past c.bring.new.disk in
    let unknown = sym c.contains.ensures ∙ c.if-contains.false in
    let b = brings m.told c.args.page past m.pool c.bring.new.pool _ m.is_paged.frames unknown now c.in-Ok.ensures.ok in
    brought_looks m.pool c.bring.new.pool past now m.dealt m.edits m.told c.args.page m.is_paged b.was b.fixes unknown c.visit.new.self c.visit.ensures
    b.stands_now (λ k fine. stays_known m.told past now c.bring.ensures.faults k fine) (faults_rise past now b.tells_was c.bring.ensures.faults)

pub returns-in-Ok-clause-seen : goal.returns-in-Ok-clause-seen
returns-in-Ok-clause-seen g c = λ k.
    let m = c.args.self.now in
    let past = g.D.Disk.past m.disk in
    let now = g.D.Disk.past c.bring.new.disk in
    let unknown = sym c.contains.ensures ∙ c.if-contains.false in
    let page = c.args.page in
    ap (λ o. option_map_or body_of o (standing_in c.bring.new.pool now page)) (c.visit.ensures.copies page)
    ∙ ap (option_map_or body_of (copy_of m.dealt page))
    (brings_shown m.told page past m.pool c.bring.new.pool _ m.is_paged.frames unknown now k c.in-Ok.ensures.ok)

pub returns-in-Err-clause-asks : goal.returns-in-Err-clause-asks
returns-in-Err-clause-asks g c =
    let m = c.args.self.now in
    let past = g.D.Disk.past m.disk in
    let now = g.D.Disk.past c.bring.new.disk in
    let unknown = sym c.contains.ensures ∙ c.if-contains.false in
    let r = refuses m.told c.args.page past now m.pool m.dealt m.edits m.is_paged unknown c.bring.ensures.faults c.in-Err.why c.in-Err.ensures.refused in
    let both = subst (λ p. Looks (pages_of m.dealt) (state_of m.pool past m.dealt m.edits m.told)
    (state_of p now m.dealt m.edits (m.told && is_no_fault c.in-Err.why))
    × Explains c.args.page (state_of m.pool past m.dealt m.edits m.told) (state_of p now m.dealt m.edits (m.told && is_no_fault c.in-Err.why)) c.in-Err.why)
    (sym c.in-Err.ensures.same) (r.looks, r.explains) in
    subst (λ b. Looks (pages_of m.dealt) (state_of m.pool past m.dealt m.edits m.told) (state_of c.bring.new.pool now m.dealt m.edits (m.told && b))
    × Explains c.args.page (state_of m.pool past m.dealt m.edits m.told) (state_of c.bring.new.pool now m.dealt m.edits (m.told && b)) c.in-Err.why)
    (sym c.leaves_disk_whole.ensures) both
