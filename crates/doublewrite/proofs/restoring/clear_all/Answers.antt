use Rattle.std.proofs.Common.{◌≡◌, ℕ, subst, arith}
use Rattle.store_api.specs.Past.{Now}
use Rattle.store_api.proofs.Moments.{Meanwhile-join}
use Rattle.doublewrite.specs.Repairing.{ReadsAs, IsClearingFrom}
use Rattle.doublewrite.proofs.Repairs.{during_failed_sync_of_copies, after_sync_of_copies, during_sync_of_copies}
use Rattle.doublewrite.proofs.restoring.clear_all.Goals as goal

pub returns-in_err-clear_copy-clause-crash : goal.returns-in_err-clear_copy-clause-crash
returns-in_err-clear_copy-clause-crash g c = λ before known.
    let so_far = c.loop-slot.invariant in
    Meanwhile-join (ReadsAs before) _ _ _ (so_far.crash before known) (c.in_err-clear_copy.ensures.crash before (so_far.stands before known))

pub loop-slot-preserved : goal.loop-slot-preserved
loop-slot-preserved g c =
    let so_far = c.loop-slot.invariant in
    record {
      faults = omega (arith, so_far.faults, c.clear_copy.ensures.cause.later);
      stands = λ before known. c.in_ok-clear_copy.ensures.stands before (so_far.stands before known);
      crash = λ before known. Meanwhile-join (ReadsAs before) _ _ _ (so_far.crash before known) (c.clear_copy.ensures.crash before (so_far.stands before known));
    }

pub returns-in_err-sync-clause-crash : goal.returns-in_err-sync-clause-crash
returns-in_err-sync-clause-crash g c = λ before known.
    let so_far = c.loop-slot.invariant in
    let double = c.args.double.now in
    let all : c.loop-slot.slot ≡ 64 = omega (arith, c.loop-slot.auto.slot-end, c.loop-slot-test.false) in
    let done = subst (λ (n : ℕ). Now (IsClearingFrom before double n) (g.D.Disk.past c.loop-slot.disk)) all (so_far.stands before known) in
    during_failed_sync_of_copies before double _ _ _ (so_far.crash before known) done c.in_err-sync.ensures.goes

pub returns-clause-stands : goal.returns-clause-stands
returns-clause-stands g c = λ before known.
    let so_far = c.loop-slot.invariant in
    let double = c.args.double.now in
    let all : c.loop-slot.slot ≡ 64 = omega (arith, c.loop-slot.auto.slot-end, c.loop-slot-test.false) in
    let done = subst (λ (n : ℕ). Now (IsClearingFrom before double n) (g.D.Disk.past c.loop-slot.disk)) all (so_far.stands before known) in
    λ s ticks told. (after_sync_of_copies before double _ _ _ (so_far.crash before known) done c.in_ok-sync.ensures.goes s ticks told).1

pub returns-clause-crash : goal.returns-clause-crash
returns-clause-crash g c = λ before known.
    let so_far = c.loop-slot.invariant in
    let double = c.args.double.now in
    let all : c.loop-slot.slot ≡ 64 = omega (arith, c.loop-slot.auto.slot-end, c.loop-slot-test.false) in
    let done = subst (λ (n : ℕ). Now (IsClearingFrom before double n) (g.D.Disk.past c.loop-slot.disk)) all (so_far.stands before known) in
    during_sync_of_copies before double _ _ _ (so_far.crash before known) done c.in_ok-sync.ensures.goes
