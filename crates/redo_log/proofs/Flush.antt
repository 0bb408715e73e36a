-- How what the log and the disk stand for goes on through the halves of a flush.
use Rattle.std.proofs.Common.{◌≡◌, ℕ, ◌+◌, ◌-◌, ◌*◌, ◌^◌, ◌<◌, ◌≤◌, Bool, true, false, Some, List, drop, refl, ◌∙◌, subst, arith}
use Rattle.store_api.specs.declared.disk.Area.TheVariants.{Log, Double, Pages}
use Rattle.store_api.specs.Areas.{Contents, State, MayLeave, IsImage, seen_image, Within, Wrote, Synced}
use Rattle.store_api.specs.Past.{Past, Now, Goes, Meanwhile}
use Rattle.store_api.proofs.Moments.{Now-goes, Now-weaker, Meanwhile-none, Meanwhile-goes}
use Rattle.log_format.specs.declared.group.Group.{Group}
use Rattle.redo_log.specs.View.{LogView, all_tried}
use Rattle.redo_log.specs.Logged.{Stands, StandsMeanwhile}
use Rattle.redo_log.specs.Halves.{WrittenView, StandsWritten}
use Rattle.redo_log.proofs.Crash.{holds_prefix}
use Rattle.redo_log.proofs.Flushed.{written, all_tried_logged, sync_failed}
use Rattle.redo_log.proofs.Halves.{all_written, still_logged, rest_logged}

-- the write, as it is meant
pub meant : (log : LogView) (at : ℕ) (bytes : List ℕ) (ok : Bool) (p0 p1 : Past) → at ≡ 512 * log.block → bytes ≡ log.pending
    → Goes (Within Log (Wrote at bytes ok)) p0 p1 → Goes (Within Log (Wrote (512 * log.block) log.pending ok)) p0 p1
meant log at bytes ok p0 p1 is_at is_bytes goes =
    subst (λ (l : List ℕ). Goes (Within Log (Wrote (512 * log.block) l ok)) p0 p1) is_bytes
    (subst (λ (n : ℕ). Goes (Within Log (Wrote n bytes ok)) p0 p1) is_at goes)

-- all blocks of the log, once they are written
abbrev pub whole_of : LogView → WrittenView
whole_of log = record { block = log.block; count = log.count; last = log.next - 1 }

-- the log once a write's groups are flushed
abbrev pub rest_of : WrittenView → LogView → ℕ → LogView
rest_of w log spare =
    record {
      run = log.run;
      block = log.block + w.count;
      pending = drop (512 * w.count) log.pending;
      count = log.count - w.count;
      tried = log.tried - w.count;
      next = log.next;
      flushed = w.last;
      spare = spare;
    }

module _ (first : ℕ) (groups : List Group) (log : LogView) (double pages : Contents) where
  abbrev During : State → Type 0
  During s = StandsMeanwhile log.run first groups log.flushed double pages s

  meanwhile : (s : State) → Stands first groups log double pages s → During s
  meanwhile s stands = record {
    log = λ image left honest. holds_prefix first groups log s.log stands.logged image left honest;
    double_is = stands.double_is;
    pages_is = stands.pages_is;
  }

  -- before the write, with what a read gives
  record IsReady (s : State) : Type 0 where
    stands : Stands first groups log double pages s
    seen : MayLeave s.log s.log.seen

  -- ---- the first half: all blocks are tried

  module _ (tries : log.tried ≤ log.count) where
    meanwhile_tried : (s : State) → Stands first groups (all_tried log) double pages s → During s
    meanwhile_tried s stands = record {
      log = λ image left honest. holds_prefix first groups (all_tried log) s.log stands.logged image left honest;
      double_is = stands.double_is;
      pages_is = stands.pages_is;
    }

    writes : (ok : Bool) (b s : State) → IsReady b → Within Log (Wrote (512 * log.block) log.pending ok) b s
        → Stands first groups (all_tried log) double pages s
    writes ok b s ready within = record {
      logged =
          written first groups (all_tried log) b.log (all_tried_logged first groups log b.log tries ready.stands.logged) ready.seen (omega arith) ok s.log
          within.here;
      double_is = within.elsewhere Double (λ same. cc) ∙ ready.stands.double_is;
      pages_is = within.elsewhere Pages (λ same. cc) ∙ ready.stands.pages_is;
    }

    writes_all : 0 < log.next → (b s : State) → IsReady b → Within Log (Wrote (512 * log.block) log.pending true) b s
        → StandsWritten first groups (whole_of log) (all_tried log) double pages s
    writes_all some b s ready within = record {
      log_is =
          all_written first groups (all_tried log) b.log (all_tried_logged first groups log b.log tries ready.stands.logged) ready.seen s.log within.here some
          refl;
      double_is = within.elsewhere Double (λ same. cc) ∙ ready.stands.double_is;
      pages_is = within.elsewhere Pages (λ same. cc) ∙ ready.stands.pages_is;
    }

    module _ (p0 p1 : Past) (law : (m : ℕ) (s : State) → p0.state_at m ≡ Some s → IsImage s (seen_image s))
        (known : Now (Stands first groups log double pages) p0) (ok : Bool) (write : Goes (Within Log (Wrote (512 * log.block) log.pending ok)) p0 p1) where
      pub after_write : Now (Stands first groups (all_tried log) double pages) p1
      after_write =
          Now-goes IsReady (Stands first groups (all_tried log) double pages) (Within Log (Wrote (512 * log.block) log.pending ok)) p0 p1
          (λ s ticks is. record { stands = known s ticks is; seen = (law p0.moment s is).log }) write (writes ok)

      pub during_write : Meanwhile During p0 p1
      during_write =
          Meanwhile-goes During _ p0 p0 p1 (Meanwhile-none During p0) write
          (Now-weaker (Stands first groups (all_tried log) double pages) During p1 after_write meanwhile_tried)

    pub after_whole_write : (p0 p1 : Past) → ((m : ℕ) (s : State) → p0.state_at m ≡ Some s → IsImage s (seen_image s))
        → Now (Stands first groups log double pages) p0 → 0 < log.next → Goes (Within Log (Wrote (512 * log.block) log.pending true)) p0 p1
        → Now (StandsWritten first groups (whole_of log) (all_tried log) double pages) p1
    after_whole_write p0 p1 law known some write =
        Now-goes IsReady (StandsWritten first groups (whole_of log) (all_tried log) double pages) (Within Log (Wrote (512 * log.block) log.pending true)) p0 p1
        (λ s ticks is. record { stands = known s ticks is; seen = (law p0.moment s is).log }) write (writes_all some)

  -- ---- the second half

  module _ (w : WrittenView) where
    record IsHalf (s : State) : Type 0 where
      stands : StandsWritten first groups w log double pages s
      seen : MayLeave s.log s.log.seen

    fails : (b s : State) → StandsWritten first groups w log double pages b → Within Log (Synced false) b s → Stands first groups log double pages s
    fails b s is within = record {
      logged = sync_failed first groups log b.log s.log (still_logged first groups w log b.log is.log_is) (within.here.failed refl).0 (within.here.failed refl).1;
      double_is = within.elsewhere Double (λ same. cc) ∙ is.double_is;
      pages_is = within.elsewhere Pages (λ same. cc) ∙ is.pages_is;
    }

    module _ (p1 p2 : Past) (known : Now (StandsWritten first groups w log double pages) p1) where
      pub after_failed_sync : Goes (Within Log (Synced false)) p1 p2 → Now (Stands first groups log double pages) p2
      after_failed_sync sync =
          Now-goes (StandsWritten first groups w log double pages) (Stands first groups log double pages) (Within Log (Synced false)) p1 p2 known sync fails

      pub during_failed_sync : Goes (Within Log (Synced false)) p1 p2 → Meanwhile During p1 p2
      during_failed_sync sync =
          Meanwhile-goes During _ p1 p1 p2 (Meanwhile-none During p1) sync
          (Now-weaker (Stands first groups log double pages) During p2 (after_failed_sync sync) meanwhile)

    module _ (run_fits : log.run < 2 ^ 64) (end_fits : log.block + log.count < 2 ^ 64) (spare : ℕ) where
      syncs : (b s : State) → IsHalf b → Within Log (Synced true) b s → Stands first groups (rest_of w log spare) double pages s
      syncs b s half within = record {
        logged = rest_logged first groups w log b.log half.stands.log_is half.seen run_fits end_fits s.log (within.here.done refl) spare;
        double_is = within.elsewhere Double (λ same. cc) ∙ half.stands.double_is;
        pages_is = within.elsewhere Pages (λ same. cc) ∙ half.stands.pages_is;
      }

      -- what holds from then on held all the more of what was flushed before
      flushed_more : log.flushed ≤ w.last → (s : State) → Stands first groups (rest_of w log spare) double pages s → During s
      flushed_more later s stands = record {
        log = λ image left honest.
            let prefix = holds_prefix first groups (rest_of w log spare) s.log stands.logged image left honest in
            record { count = prefix.count; some = prefix.some; all_flushed = omega (arith, prefix.all_flushed, later); scan = prefix.scan };
        double_is = stands.double_is;
        pages_is = stands.pages_is;
      }

      module _ (p1 p2 : Past) (law : (m : ℕ) (s : State) → p1.state_at m ≡ Some s → IsImage s (seen_image s))
          (known : Now (StandsWritten first groups w log double pages) p1) (sync : Goes (Within Log (Synced true)) p1 p2) where
        pub after_sync : Now (Stands first groups (rest_of w log spare) double pages) p2
        after_sync =
            Now-goes IsHalf (Stands first groups (rest_of w log spare) double pages) (Within Log (Synced true)) p1 p2
            (λ s ticks is. record { stands = known s ticks is; seen = (law p1.moment s is).log }) sync syncs

        pub during_sync : log.flushed ≤ w.last → Meanwhile During p1 p2
        during_sync later =
            Meanwhile-goes During _ p1 p1 p2 (Meanwhile-none During p1) sync
            (Now-weaker (Stands first groups (rest_of w log spare) double pages) During p2 after_sync (flushed_more later))
