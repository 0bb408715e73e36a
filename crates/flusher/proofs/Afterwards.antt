-- What reads give after calls of the log and the doublewrite.
use Rattle.std.proofs.Common.{refl, ◌∙◌, arith}
use Rattle.store_api.specs.Past.{Past}
use Rattle.redo_log.specs.Elsewhere.{LeavesBeside}
use Rattle.doublewrite.specs.Places.{Leads, LeavesPages}

pub leads_join : (old mid new : Past) → Leads LeavesPages old mid → Leads LeavesPages mid new → Leads LeavesPages old new
leads_join old mid new first next = record {
  later = omega (arith, first.later, next.later);
  now = λ s ticks is.
      let between = next.now s ticks is in
      let before = first.now between.0 (omega (arith, next.later, ticks)) between.1 in
      (before.0, before.1, between.2 ∙ before.2);
}
