use Rattle.doublewrite.proofs.Repairs.{nothing_to_clear, after_clear, during_clear}
use Rattle.doublewrite.proofs.restoring.clear_copy.Goals as goal

pub returns-in_err-write-in-Some-clause-crash : goal.returns-in_err-write-in-Some-clause-crash
returns-in_err-write-in-Some-clause-crash g c = λ before known.
    let law = g.met.D.Disk.seen_may_be_left c.args.disk.now in
    during_clear before c.args.double.now c.args.slot c.requires c.in-Some.field-0 c.in-Some.ensures _ _ law known _ c.in_err-write-in-Some.ensures.goes

pub returns-in_ok-write-in-Some-clause-stands : goal.returns-in_ok-write-in-Some-clause-stands
returns-in_ok-write-in-Some-clause-stands g c = λ before known.
    let law = g.met.D.Disk.seen_may_be_left c.args.disk.now in
    after_clear before c.args.double.now c.args.slot c.requires c.in-Some.field-0 c.in-Some.ensures _ _ law known c.in_ok-write-in-Some.ensures.goes

pub returns-in_ok-write-in-Some-clause-crash : goal.returns-in_ok-write-in-Some-clause-crash
returns-in_ok-write-in-Some-clause-crash g c = λ before known.
    let law = g.met.D.Disk.seen_may_be_left c.args.disk.now in
    during_clear before c.args.double.now c.args.slot c.requires c.in-Some.field-0 c.in-Some.ensures _ _ law known _ c.in_ok-write-in-Some.ensures.goes

pub returns-in-None-clause-stands : goal.returns-in-None-clause-stands
returns-in-None-clause-stands g c = λ before known. nothing_to_clear before c.args.double.now c.args.slot c.requires c.in-None.ensures (g.D.Disk.past c.args.disk.now) known
