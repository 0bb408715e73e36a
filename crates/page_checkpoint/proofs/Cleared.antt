-- The calls that write zeros over a log, one after the other.
use Rattle.std.proofs.Common.{◌≡◌, ℕ, Bool, true, false, List, length, replicate, refl, sym, ap, ◌∙◌}
use Rattle.store_api.specs.declared.disk.Area.TheVariants.{Log}
use Rattle.store_api.specs.Areas.{State, Within, Looked, Wrote, Synced}
use Rattle.store_api.specs.Past.{Past, Now, Goes, Meanwhile}
use Rattle.store_api.proofs.Moments.{Now-goes, Now-weaker, Meanwhile-none, Meanwhile-goes}
use Rattle.page_checkpoint.specs.Beginning.{HasBegun}
use Rattle.page_checkpoint.proofs.Clearing.{Ready, Written, looked, wrote, synced, failed}

module _ (capacity run last : ℕ) (base : ℕ → List ℕ) where
  abbrev Begun : State → Type 0
  Begun s = HasBegun capacity run last base s

  module _ (p0 : Past) (known : Now Begun p0) (ok : Bool) (p1 : Past) (look : Goes (Within Log (Looked ok)) p0 p1) where
    pub after_look : Now Begun p1
    after_look = Now-goes Begun Begun (Within Log (Looked ok)) p0 p1 known look (looked capacity run last base ok)

    pub during_look : Meanwhile Begun p0 p1
    during_look = Meanwhile-goes Begun _ p0 p0 p1 (Meanwhile-none Begun p0) look after_look

  module _ (zeros : List ℕ) (are : zeros ≡ replicate (length zeros) 0) (p0 : Past) (long : Now (λ s. length s.log.seen ≡ length zeros) p0)
      (known : Now Begun p0) where
    abbrev Wr : Bool → State → Type 0
    Wr ok s = Written capacity run last base zeros are ok s

    module _ (ok : Bool) (p1 : Past) (write : Goes (Within Log (Wrote 0 zeros ok)) p0 p1) where
      written : Now (Wr ok) p1
      written =
          Now-goes (Ready capacity run last base zeros are) (Wr ok) (Within Log (Wrote 0 zeros ok)) p0 p1
          (λ s ticks is. record { begun = known s ticks is; long = long s ticks is }) write (wrote capacity run last base zeros are ok)

      pub after_write : Now Begun p1
      after_write = Now-weaker (Wr ok) Begun p1 written (λ s is. is.begun)

      pub during_write : Meanwhile Begun p0 p1
      during_write = Meanwhile-goes Begun _ p0 p0 p1 (Meanwhile-none Begun p0) write after_write

      module _ (p2 : Past) (sync : Goes (Within Log (Synced false)) p1 p2) where
        pub after_failed : Now Begun p2
        after_failed = Now-goes (Wr ok) Begun (Within Log (Synced false)) p1 p2 written sync (failed capacity run last base zeros are ok)

        pub during_failed : Meanwhile Begun p0 p2
        during_failed = Meanwhile-goes Begun _ p0 p1 p2 during_write sync after_failed

    module _ (p1 : Past) (write : Goes (Within Log (Wrote 0 zeros true)) p0 p1) (p2 : Past) (sync : Goes (Within Log (Synced true)) p1 p2) where
      pub after_sync : Now Begun p2
      after_sync =
          Now-goes (Wr true) Begun (Within Log (Synced true)) p1 p2 (written true p1 write) sync
          (λ b s is within. (synced capacity run last base zeros are b s is within).0)

      pub during_sync : Meanwhile Begun p0 p2
      during_sync = Meanwhile-goes Begun _ p0 p1 p2 (during_write true p1 write) sync after_sync

-- the log is as long as it was
pub still_long : (n m : ℕ) (p0 p1 : Past) → m ≡ n → Now (λ (s : State). n ≡ length s.log.seen) p0 → Goes (Within Log (Looked true)) p0 p1
    → Now (λ (s : State). length s.log.seen ≡ m) p1
still_long n m p0 p1 same long look =
    Now-goes (λ (s : State). n ≡ length s.log.seen) (λ (s : State). length s.log.seen ≡ m) (Within Log (Looked true)) p0 p1 long look
    (λ b s is within. ap (λ (l : List ℕ). length l) (within.here.seen refl) ∙ (sym is ∙ sym same))
