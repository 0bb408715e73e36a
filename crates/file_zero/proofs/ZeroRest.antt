-- What the write of zeros and the sync behind it make of the log area.
use Rattle.std.proofs.Common.{◌≡◌, ℕ, ◌+◌, ◌-◌, ◌*◌, ◌≤◌, Bool, true, false, Some, List, [], ◌++◌, length, take, replicate, refl, sym, ◌∙◌, ap, subst, arith}
use Rattle.std.specs.Prelude.{All}
use Rattle.std.proofs.lemmas.List.{append-nil, length-replicate, drop_all, take_all}
use Rattle.std.proofs.lemmas.List.Elements.{All-nil, All-push}
use Rattle.store_api.specs.declared.disk.Area.TheVariants.{Log, Double, Pages}
use Rattle.store_api.specs.Areas.{Contents, State, IsImage, seen_image, write_of, Within, Wrote, Synced}
use Rattle.store_api.specs.Past.{Past, Now, Goes, Meanwhile}
use Rattle.store_api.proofs.Moments.{Now-goes, Now-weaker, Meanwhile-none, Meanwhile-goes}
use Rattle.log_format.specs.declared.group.Group.{Group}
use Rattle.law_crashes.specs.RowScan.{HasRowsOnly, IsRowScan}
use Rattle.law_crashes.specs.Since.{LogRests, IsBegun, IsScanned, StillScans}
use Rattle.law_crashes.proofs.AtRest.{left_at_rest}
use Rattle.file_zero.proofs.GoingOn.{rests_scan, goes_on_rows}
use Rattle.file_zero.proofs.Zeroing.{ZerosFrom, zeroing}

module _ (run first block : ℕ) (base : List Group) (rest : ℕ) (double pages : Contents) (p0 : Past) where
  -- before the first call
  record IsReady (s : State) : Type 0 where
    scanned : IsScanned run first block base rest double pages s
    rests : LogRests p0 → s.log.writes ≡ []
    law : IsImage s (seen_image s)

  -- after the write
  record IsWritten (ok : Bool) (s : State) : Type 0 where
    before : State
    ready : IsReady before
    wrote : Wrote (512 * block) (replicate rest 0) ok before.log s.log
    double_is : s.double ≡ double
    pages_is : s.pages ≡ pages

  abbrev During : State → Type 0
  During s = LogRests p0 → StillScans run first base double pages s

  seen_is : (s : State) → IsReady s → LogRests p0 → s.log.synced ≡ s.log.seen
  seen_is s is rest_then = sym (left_at_rest s.log s.log.seen (is.rests rest_then) is.law.log)

  -- the write begins where it is meant to
  lies_within : (b : State) → IsReady b → 512 * block ≤ length b.log.seen
  lies_within b is = omega (arith, is.scanned.long)

  write_at : (b : State) → IsReady b → (write_of b.log.seen (512 * block) (replicate rest 0)).at ≡ 512 * block
  write_at b is = let inside = lies_within b is in omega (arith, inside)

  write_bytes : (b : State) → IsReady b → (write_of b.log.seen (512 * block) (replicate rest 0)).bytes ≡ replicate rest 0
  write_bytes b is =
      let inside = lies_within b is in
      let none : 512 * block - length b.log.seen ≡ 0 = omega (arith, inside) in
      ap (λ (n : ℕ). replicate n 0 ++ replicate rest 0) none

  zeros_at : (b : State) → IsReady b → ZerosFrom block (write_of b.log.seen (512 * block) (replicate rest 0))
  zeros_at b is = record { place = write_at b is; long = rest; zeros = write_bytes b is }

  scans : (ok : Bool) (s : State) → IsWritten ok s → During s
  scans ok s is = λ rest_then. record {
    log = λ image left honest.
        let b = is.before in
        let scanned = is.ready.scanned in
        let w = write_of b.log.seen (512 * block) (replicate rest 0) in
        let none = is.ready.rests rest_then in
        let all = All-push (ZerosFrom block) b.log.writes w (subst (All (ZerosFrom block)) (sym none) (All-nil (ZerosFrom block))) (zeros_at b is.ready) in
        zeroing run first block base b.log.seen s.log scanned.scan scanned.ends (is.wrote.synced ∙ seen_is b is.ready rest_then)
        (subst (All (ZerosFrom block)) (sym is.wrote.writes) all) image left honest;
    double_is = is.double_is;
    pages_is = is.pages_is;
  }

  -- a sync that failed leaves as much open as before it
  failed : (ok : Bool) (b s : State) → IsWritten ok b → Within Log (Synced false) b s → During s
  failed ok b s is within =
      let here = within.here.failed refl in
      let same : IsWritten ok (record {
        log = record { seen = b.log.seen; synced = s.log.synced; writes = s.log.writes };
        double = s.double;
        pages = s.pages;
      }) = record {
        before = is.before;
        ready = is.ready;
        wrote = record { synced = here.0 ∙ is.wrote.synced; writes = here.1 ∙ is.wrote.writes; seen = is.wrote.seen };
        double_is = within.elsewhere Double (λ same. cc) ∙ is.double_is;
        pages_is = within.elsewhere Pages (λ same. cc) ∙ is.pages_is;
      } in
      λ rest_then.
      let scans_so = scans ok _ same rest_then in
      record {
        log =
            λ image left honest. scans_so.log image (record { no_shorter = left.no_shorter; no_longer = left.no_longer; same = left.same })
            (λ k inside passes. honest k inside passes);
        double_is = scans_so.double_is;
        pages_is = scans_so.pages_is;
      }

  -- zeros from the block to the end
  begun : (before b s : State) → IsReady before → b.log.seen ≡ take (512 * block) before.log.seen ++ replicate rest 0 → b.double ≡ double → b.pages ≡ pages
      → Within Log (Synced true) b s → IsBegun run first block base double pages s
  begun before b s is now double_is pages_is within =
      let done = within.here.done refl in
      let scanned = is.scanned in
      record {
        log =
            goes_on_rows run first block base rest before.log.seen s.log scanned.scan scanned.ends scanned.long (ap (λ (c : Contents). c.writes) done)
            (ap (λ (c : Contents). c.synced) done ∙ now);
        double_is = within.elsewhere Double (λ same. cc) ∙ double_is;
        pages_is = within.elsewhere Pages (λ same. cc) ∙ pages_is;
      }

  synced : (b s : State) → IsWritten true b → Within Log (Synced true) b s → IsBegun run first block base double pages s
  synced b s is within =
      let scanned = is.ready.scanned in
      let place = write_at is.before is.ready in
      let bytes = write_bytes is.before is.ready in
      let w = write_of is.before.log.seen (512 * block) (replicate rest 0) in
      let past_end : length is.before.log.seen ≤ w.at + length w.bytes =
      omega (arith, place, ap length bytes, length-replicate {A = ℕ} rest 0, scanned.long) in
      let now : b.log.seen ≡ take (512 * block) is.before.log.seen ++ replicate rest 0 =
      is.wrote.seen refl
      ∙ ap (λ (l : List ℕ). take w.at is.before.log.seen ++ w.bytes ++ l) (drop_all (w.at + length w.bytes) is.before.log.seen past_end)
      ∙ append-nil (take w.at is.before.log.seen ++ w.bytes)
      ∙ (λ i. take (place i) is.before.log.seen ++ bytes i) in
      begun is.before b s is.ready now is.double_is is.pages_is within

  begun_scans : All HasRowsOnly base → (s : State) → IsBegun run first block base double pages s → During s
  begun_scans rows s is = λ rest_then. record {
    log =
        λ image left honest. subst (λ (l : List ℕ). IsRowScan run first l base) (sym (left_at_rest s.log image is.log.rests left))
        (rests_scan run first block base s.log is.log rows);
    double_is = is.double_is;
    pages_is = is.pages_is;
  }

  synced_scans : (b s : State) → IsWritten true b → Within Log (Synced true) b s → During s
  synced_scans b s is within = begun_scans is.ready.scanned.scan.of_rows s (synced b s is within)

  -- ---- where there is nothing behind the groups

  synced_alone : rest ≡ 0 → (b s : State) → IsReady b → Within Log (Synced true) b s → IsBegun run first block base double pages s
  synced_alone none b s is within =
      let now : b.log.seen ≡ take (512 * block) b.log.seen ++ replicate rest 0 =
      sym (take_all (512 * block) b.log.seen (omega (arith, is.scanned.long, none))) ∙ sym (append-nil (take (512 * block) b.log.seen))
      ∙ ap (λ (n : ℕ). take (512 * block) b.log.seen ++ replicate n 0) (sym none) in
      begun b b s is now is.scanned.double_is is.scanned.pages_is within

  alone_scans : rest ≡ 0 → (b s : State) → IsReady b → Within Log (Synced true) b s → During s
  alone_scans none b s is within = begun_scans is.scanned.scan.of_rows s (synced_alone none b s is within)

  failed_alone : (b s : State) → IsReady b → Within Log (Synced false) b s → During s
  failed_alone b s is within =
      let here = within.here.failed refl in
      λ rest_then. record {
        log = λ image left honest.
            let none = is.rests rest_then in
            let same : b.log.seen ≡ image = sym (seen_is b is rest_then) ∙ sym here.0 ∙ sym (left_at_rest s.log image (here.1 ∙ none) left) in
            subst (λ (l : List ℕ). IsRowScan run first l base) same is.scanned.scan;
        double_is = within.elsewhere Double (λ same. cc) ∙ is.scanned.double_is;
        pages_is = within.elsewhere Pages (λ same. cc) ∙ is.scanned.pages_is;
      }

  module _ (law : (m : ℕ) (s : State) → p0.state_at m ≡ Some s → IsImage s (seen_image s))
      (known : Now (IsScanned run first block base rest double pages) p0) where
    ready : Now IsReady p0
    ready = λ s ticks is. record { scanned = known s ticks is; rests = λ rest_then. rest_then s ticks is; law = law p0.moment s is }

    module _ (none : rest ≡ 0) (p1 : Past) where
      pub after_sync_alone : Goes (Within Log (Synced true)) p0 p1 → Now (IsBegun run first block base double pages) p1
      after_sync_alone sync = Now-goes IsReady (IsBegun run first block base double pages) (Within Log (Synced true)) p0 p1 ready sync (synced_alone none)

      pub during_sync_alone : Goes (Within Log (Synced true)) p0 p1 → Meanwhile (λ s. LogRests p0 → StillScans run first base double pages s) p0 p1
      during_sync_alone sync =
          Meanwhile-goes During _ p0 p0 p1 (Meanwhile-none During p0) sync
          (Now-goes IsReady During (Within Log (Synced true)) p0 p1 ready sync (alone_scans none))

      pub during_failed_alone : Goes (Within Log (Synced false)) p0 p1 → Meanwhile (λ s. LogRests p0 → StillScans run first base double pages s) p0 p1
      during_failed_alone sync =
          Meanwhile-goes During _ p0 p0 p1 (Meanwhile-none During p0) sync (Now-goes IsReady During (Within Log (Synced false)) p0 p1 ready sync failed_alone)

    writes : (ok : Bool) (b s : State) → IsReady b → Within Log (Wrote (512 * block) (replicate rest 0) ok) b s → IsWritten ok s
    writes ok b s is within = record {
      before = b;
      ready = is;
      wrote = within.here;
      double_is = within.elsewhere Double (λ same. cc) ∙ is.scanned.double_is;
      pages_is = within.elsewhere Pages (λ same. cc) ∙ is.scanned.pages_is;
    }

    module _ (ok : Bool) (p1 : Past) (write : Goes (Within Log (Wrote (512 * block) (replicate rest 0) ok)) p0 p1) where
      is_written : Now (IsWritten ok) p1
      is_written = Now-goes IsReady (IsWritten ok) (Within Log (Wrote (512 * block) (replicate rest 0) ok)) p0 p1 ready write (writes ok)

      so_far : Meanwhile During p0 p1
      so_far = Meanwhile-goes During _ p0 p0 p1 (Meanwhile-none During p0) write (Now-weaker (IsWritten ok) During p1 is_written (scans ok))

      pub during_write : Meanwhile (λ s. LogRests p0 → StillScans run first base double pages s) p0 p1
      during_write = so_far

      pub during_failed_sync : (p2 : Past) → Goes (Within Log (Synced false)) p1 p2
          → Meanwhile (λ s. LogRests p0 → StillScans run first base double pages s) p0 p2
      during_failed_sync p2 sync =
          Meanwhile-goes During _ p0 p1 p2 so_far sync (Now-goes (IsWritten ok) During (Within Log (Synced false)) p1 p2 is_written sync (failed ok))

    module _ (p1 p2 : Past) (write : Goes (Within Log (Wrote (512 * block) (replicate rest 0) true)) p0 p1) (sync : Goes (Within Log (Synced true)) p1 p2) where
      pub after_sync : Now (IsBegun run first block base double pages) p2
      after_sync = Now-goes (IsWritten true) (IsBegun run first block base double pages) (Within Log (Synced true)) p1 p2 (is_written true p1 write) sync synced

      pub during_sync : Meanwhile (λ s. LogRests p0 → StillScans run first base double pages s) p0 p2
      during_sync =
          Meanwhile-goes During _ p0 p1 p2 (so_far true p1 write) sync
          (Now-goes (IsWritten true) During (Within Log (Synced true)) p1 p2 (is_written true p1 write) sync synced_scans)
