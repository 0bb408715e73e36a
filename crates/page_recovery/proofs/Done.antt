-- Recovery as a whole: torn pages were put right, and then files were read.
use Rattle.std.proofs.Common.{◌≡◌, ℕ, ◌<◌, Option, Some, List, arith}
use Rattle.store_api.specs.Areas.{State, IsImage, seen_image}
use Rattle.store_api.specs.Past.{Past, Ticks, Now, Meanwhile}
use Rattle.store_api.proofs.Moments.{Meanwhile-weaker}
use Rattle.log_format.specs.declared.group.Group.{Group}
use Rattle.doublewrite.specs.Repairing.{WasRead, ReadsAs, IsRepaired}
use Rattle.page_recovery.specs.declared.bad.RecoverBad.{RecoverBad}
use Rattle.page_recovery.specs.declared.recovering.Recovered.{Recovered}
use Rattle.page_recovery.specs.Looking.{Since}
use Rattle.store_api.specs.Looks.{Looks, LeavesState}
use Rattle.page_recovery.specs.Reading.{StandsIn}
use Rattle.page_recovery.specs.Leaving.{Is, IsStill, StillReads, LeavesRun, LeavesSame}
use Rattle.page_recovery.specs.Recovering.{IsRecovered, IsCause}
use Rattle.page_recovery.proofs.Read.{Cause}
use Rattle.page_recovery.proofs.Kept.{during_repair, still_then, during_reads, same_log, stood_before, leaves_same}
use Rattle.page_recovery.proofs.Brought.{recovered_too, cause_too}

module _ (before : State) (still : IsStill before) (p0 p1 : Past) (known : Now (Is before) p0) (run : Meanwhile (ReadsAs before) p0 p1) where
  module _ (p2 : Past) (repaired : Now IsRepaired p1) (law : (m : ℕ) (s : State) → p1.state_at m ≡ Some s → IsImage s (seen_image s))
      (looks : Looks p1 p2) where
    abbrev Told : State → Type 0
    Told s = Ticks p1.moment × (p1.state_at p1.moment ≡ Some s)

    reads : (s : State) → Told s → StillReads before s
    reads s told = still_then before still p0 p1 known (during_repair before p0 p1 run) s told.0 told.1

    log_is : (s : State) (told : Told s) → s.log.seen ≡ before.log.seen
    log_is s told = same_log before still s (reads s told) (law p1.moment s told.1)

    stood : (s : State) (told : Told s) (page : ℕ) (content : Option (List ℕ)) → page < 65536 → StandsIn s.pages.seen page content → WasRead before page content
    stood s told = stood_before before still s (reads s told) (law p1.moment s told.1) (repaired s told.0 told.1)

    ticks_then : Ticks p2.moment → Ticks p1.moment
    ticks_then ticks = omega (arith, looks.later, ticks)

    pub recovered_then : (r : Recovered) → Since (λ s. IsRecovered (StandsIn s.pages.seen) s.log.seen r) p1 p2
        → Now (λ _. IsRecovered (WasRead before) before.log.seen r) p2
    recovered_then r since = λ s ticks is.
        let from = since s ticks is in
        let told : Told from.0 = (ticks_then ticks, from.1) in
        recovered_too (StandsIn from.0.pages.seen) (WasRead before) from.0.log.seen before.log.seen (log_is from.0 told) (stood from.0 told) r from.2

    pub cause_then : (why : RecoverBad) → Since (Cause why) p1 p2 → Now (λ _. IsCause (WasRead before) before.log.seen why) p2
    cause_then why since = λ s ticks is.
        let from = since s ticks is in
        let told : Told from.0 = (ticks_then ticks, from.1) in
        cause_too (StandsIn from.0.pages.seen) (WasRead before) from.0.log.seen before.log.seen (log_is from.0 told) (stood from.0 told) why from.2

  pub repaired_then : (p2 : Past) → Now IsRepaired p1 → LeavesState p1 p2 → Now (λ s. IsRepaired s × StillReads before s) p2
  repaired_then p2 repaired same = λ s ticks is.
      let then = same s ticks is in
      (repaired s then.0 then.1, still_then before still p0 p1 known (during_repair before p0 p1 run) s then.0 then.1)

  pub crash_then : (p2 : Past) → Looks p1 p2 → Meanwhile (StillReads before) p0 p2
  crash_then p2 looks = during_reads before still p0 p1 known (during_repair before p0 p1 run) p2 looks

pub same_run : (before : State) (still : IsStill before) (run first flushed : ℕ) (groups : List Group) (base : ℕ → List ℕ) (p0 p2 : Past)
    → LeavesRun run first flushed groups base (seen_image before) → Meanwhile (StillReads before) p0 p2
    → Meanwhile (LeavesSame run first flushed groups base before) p0 p2
same_run before still run first flushed groups base p0 p2 leaves reads =
    Meanwhile-weaker (StillReads before) (LeavesSame run first flushed groups base before) p0 p2 reads
    (leaves_same before still run first flushed groups base leaves)
