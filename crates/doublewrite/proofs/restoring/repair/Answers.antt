use Rattle.std.proofs.Common.{◌≡◌, ℕ, [], take, Result, Ok, Err, ap, arith}
use Rattle.std.specs.Prelude.{IfErr}
use Rattle.store_api.specs.Causes.{Rose}
use Rattle.store_api.proofs.Moments.{Meanwhile-join}
use Rattle.doublewrite.specs.declared.restoring.RepairBad.{RepairBad}
use Rattle.doublewrite.specs.declared.restoring.RepairBad.TheVariants.{Failed, NoMemory}
use Rattle.doublewrite.specs.Repairing.{ReadsAs, FailedRose}
use Rattle.doublewrite.proofs.Repairs.{after_read, during_read, during_failed_read}
use Rattle.doublewrite.proofs.restoring.repair.Goals as goal

-- whichever the answer is
rose : (before now : ℕ) (bad : RepairBad) → Rose before now → FailedRose before now bad
rose before now Failed risen = risen
rose before now NoMemory risen = tt

if_failed : {T : Type 0} (before now : ℕ) (result : Result T RepairBad) → Rose before now → IfErr result (FailedRose before now)
if_failed before now (Ok done) risen = tt
if_failed before now (Err bad) risen = rose before now bad risen

pub returns-in_err-len-clause-failed : goal.returns-in_err-len-clause-failed
returns-in_err-len-clause-failed g c = if_failed _ _ c.from_residual-in_err-len.result c.in_err-len.ensures.cause.failed

pub returns-in_err-len-clause-crash : goal.returns-in_err-len-clause-crash
returns-in_err-len-clause-crash g c = λ before known. during_failed_read before [] _ _ known c.in_err-len.ensures.goes

pub returns-in_err-repair_from-clause-failed : goal.returns-in_err-repair_from-clause-failed
returns-in_err-repair_from-clause-failed g c =
    if_failed (g.D.Disk.past c.args.disk.now).faults (g.D.Disk.past c.repair_from.new.disk).faults c.from_residual-in_err-repair_from.result
    (omega (arith, c.in_ok-len.ensures.cause.later, c.in_err-repair_from.ensures.cause.failed))

pub returns-in_err-repair_from-clause-crash : goal.returns-in_err-repair_from-clause-crash
returns-in_err-repair_from-clause-crash g c = λ before known.
    let n = c.in_ok-len.len in
    let into = c.read_copies.new.into.items in
    let double = take n c.deref.result.now in
    let is : double ≡ take n into = ap (take n) c.deref.ensures.value in
    let read = during_read before double n into _ _ known c.in_ok-len.ensures.bytes is c.in_ok-len.ensures.goes in
    let ready = after_read before double _ _ known n into c.in_ok-len.ensures.bytes is c.in_ok-len.ensures.goes in
    Meanwhile-join (ReadsAs before) _ _ _ read (c.in_err-repair_from.ensures.crash before ready)

pub returns-clause-repaired : goal.returns-clause-repaired
returns-clause-repaired g c = λ before known.
    let n = c.in_ok-len.len in
    let into = c.read_copies.new.into.items in
    let double = take n c.deref.result.now in
    let is : double ≡ take n into = ap (take n) c.deref.ensures.value in
    let ready = after_read before double _ _ known n into c.in_ok-len.ensures.bytes is c.in_ok-len.ensures.goes in
    c.in_ok-repair_from.ensures.repaired before ready

pub returns-clause-crash : goal.returns-clause-crash
returns-clause-crash g c = λ before known.
    let n = c.in_ok-len.len in
    let into = c.read_copies.new.into.items in
    let double = take n c.deref.result.now in
    let is : double ≡ take n into = ap (take n) c.deref.ensures.value in
    let read = during_read before double n into _ _ known c.in_ok-len.ensures.bytes is c.in_ok-len.ensures.goes in
    let ready = after_read before double _ _ known n into c.in_ok-len.ensures.bytes is c.in_ok-len.ensures.goes in
    Meanwhile-join (ReadsAs before) _ _ _ read (c.in_ok-repair_from.ensures.crash before ready)
