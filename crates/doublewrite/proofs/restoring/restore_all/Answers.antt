use Rattle.std.proofs.Common.{◌≡◌, ℕ, subst, arith}
use Rattle.store_api.specs.Past.{Now}
use Rattle.store_api.proofs.Moments.{Meanwhile-join}
use Rattle.doublewrite.specs.Repairing.{ReadsAs, IsRestoringFrom}
use Rattle.doublewrite.proofs.Repairs.{during_failed_sync_of_pages, after_sync_of_pages, during_sync_of_pages}
use Rattle.doublewrite.proofs.restoring.restore_all.Goals as goal

pub returns-in_err-restore_copy-clause-crash : goal.returns-in_err-restore_copy-clause-crash
returns-in_err-restore_copy-clause-crash g c = λ before known.
    let so_far = c.loop-slot.invariant in
    Meanwhile-join (ReadsAs before) _ _ _ (so_far.crash before known) (c.in_err-restore_copy.ensures.crash before (so_far.stands before known))

pub loop-slot-preserved : goal.loop-slot-preserved
loop-slot-preserved g c =
    let so_far = c.loop-slot.invariant in
    record {
      faults = omega (arith, so_far.faults, c.restore_copy.ensures.cause.later);
      stands = λ before known. c.in_ok-restore_copy.ensures.stands before (so_far.stands before known);
      crash = λ before known. Meanwhile-join (ReadsAs before) _ _ _ (so_far.crash before known) (c.restore_copy.ensures.crash before (so_far.stands before known));
    }

pub returns-in_err-sync-clause-crash : goal.returns-in_err-sync-clause-crash
returns-in_err-sync-clause-crash g c = λ before known.
    let so_far = c.loop-slot.invariant in
    let double = c.args.double.now in
    let all : c.loop-slot.slot ≡ 64 = omega (arith, c.loop-slot.auto.slot-end, c.loop-slot-test.false) in
    let done = subst (λ (n : ℕ). Now (IsRestoringFrom before double n) (g.D.Disk.past c.loop-slot.disk)) all (so_far.stands before known) in
    during_failed_sync_of_pages before double _ _ _ (so_far.crash before known) done c.in_err-sync.ensures.goes

pub returns-clause-stands : goal.returns-clause-stands
returns-clause-stands g c = λ before known.
    let so_far = c.loop-slot.invariant in
    let double = c.args.double.now in
    let law = g.met.D.Disk.seen_may_be_left c.loop-slot.disk in
    let all : c.loop-slot.slot ≡ 64 = omega (arith, c.loop-slot.auto.slot-end, c.loop-slot-test.false) in
    let done = subst (λ (n : ℕ). Now (IsRestoringFrom before double n) (g.D.Disk.past c.loop-slot.disk)) all (so_far.stands before known) in
    after_sync_of_pages before double _ _ _ (so_far.crash before known) done law c.in_ok-sync.ensures.goes

pub returns-clause-crash : goal.returns-clause-crash
returns-clause-crash g c = λ before known.
    let so_far = c.loop-slot.invariant in
    let double = c.args.double.now in
    let law = g.met.D.Disk.seen_may_be_left c.loop-slot.disk in
    let all : c.loop-slot.slot ≡ 64 = omega (arith, c.loop-slot.auto.slot-end, c.loop-slot-test.false) in
    let done = subst (λ (n : ℕ). Now (IsRestoringFrom before double n) (g.D.Disk.past c.loop-slot.disk)) all (so_far.stands before known) in
    during_sync_of_pages before double _ _ _ (so_far.crash before known) done law c.in_ok-sync.ensures.goes
