use Rattle.std.proofs.Common.{◌≤◌, ◌-◌, length, drop, arith}
use Rattle.std.proofs.lemmas.List.{length-take, length-drop}
use Rattle.run_outcome.proofs.Sent.{sent_more}
use Rattle.run_outcome.proofs.output.write_all.Goals as goal

pub loop-at-preserved : goal.loop-at-preserved
loop-at-preserved g c =
    let bytes = c.args.bytes.now in
    let at = c.loop-at.at in
    let fits : c.in_ok-at.field-0 ≤ length bytes - at =
    omega (arith, c.in_ok-at.ensures.bound, length-take (length bytes - at) (drop at bytes), length-drop at bytes) in
    record {
      within = omega (arith, c.loop-at.invariant.within);
      taken = sent_more _ _ _ bytes at c.in_ok-at.field-0 fits c.loop-at.invariant.taken c.in_ok-at.ensures.bytes;
      later = omega (arith, c.loop-at.invariant.later, c.in_ok-at.ensures.cause.later);
    }
