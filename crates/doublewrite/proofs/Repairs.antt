-- What is known of a disk from call to call of a repair.
use Rattle.std.proofs.Common.{◌≡◌, ℕ, ◌+◌, ◌*◌, ◌<◌, Bool, true, false, Some, List, take, replicate, refl, sym, ◌∙◌, ap, subst}
use Rattle.store_api.specs.declared.disk.Area.TheVariants.{Log, Double, Pages}
use Rattle.store_api.specs.Areas.{Contents, State, MayLeave, IsImage, seen_image, Within, Looked, Wrote, Synced, piece}
use Rattle.store_api.specs.Past.{Past, Now, Goes, Meanwhile}
use Rattle.store_api.proofs.Moments.{Now-goes, Now-weaker, Meanwhile-none, Meanwhile-goes}
use Rattle.stored_pages.specs.Reading.{IsGoodPage, IsNewestCopy, place_of}
use Rattle.doublewrite.specs.Repairing.{IsQuietAs, ReadsAs, IsUnharmed, IsRestoringFrom, IsRestored, IsClearingFrom, IsRepaired}
use Rattle.doublewrite.proofs.Repaired.{reads_unharmed, begun, still_unharmed, still_restoring, one_more, wrote_copy, restored_copy, all_restored, reads_restored, still_restored, no_copy_there, wrote_zeros, cleared_one, all_cleared, repaired, good_copy, no_good_copy, newest_too, read_whole}

abbrev pub Law : Past → Type 0
Law p = (m : ℕ) (s : State) → p.state_at m ≡ Some s → IsImage s (seen_image s)

-- the write in an area, as it is meant
pub meant_copy : (at to : ℕ) (bytes page : List ℕ) (ok : Bool) (p0 p1 : Past) → at ≡ to → bytes ≡ page → Goes (Within Double (Wrote at bytes ok)) p0 p1 → Goes (Within Double (Wrote to page ok)) p0 p1
meant_copy at to bytes page ok p0 p1 is_at is_page goes =
    subst (λ (l : List ℕ). Goes (Within Double (Wrote to l ok)) p0 p1) is_page (subst (λ (n : ℕ). Goes (Within Double (Wrote n bytes ok)) p0 p1) is_at goes)

module _ (before : State) where
  -- a call more after which the pages are read as before
  unharmed_goes : (step : State → State → Type 0) (old mid new : Past) → Meanwhile (ReadsAs before) old mid → Goes step mid new → Now (IsUnharmed before) new → Meanwhile (ReadsAs before) old new
  unharmed_goes step old mid new so_far goes now = Meanwhile-goes (ReadsAs before) step old mid new so_far goes (Now-weaker (IsUnharmed before) (ReadsAs before) new now (reads_unharmed before))

  restored_goes : (step : State → State → Type 0) (old mid new : Past) → Meanwhile (ReadsAs before) old mid → Goes step mid new → Now (IsRestored before) new → Meanwhile (ReadsAs before) old new
  restored_goes step old mid new so_far goes now = Meanwhile-goes (ReadsAs before) step old mid new so_far goes (Now-weaker (IsRestored before) (ReadsAs before) new now (reads_restored before))

  module _ (double : List ℕ) where
    -- ---- the copies are read

    read_all : (n : ℕ) (into : List ℕ) (b s : State) → IsQuietAs before b × (take n into ≡ take 262144 b.double.seen) → Within Double (Looked true) b s → double ≡ take n into → IsRestoringFrom before double 0 s
    read_all n into b s known within is =
        let quiet = known.0.1 in
        let here : b ≡ before = known.0.0 in
        let same_double : s.double ≡ before.double =
        (λ i. record { seen = within.here.seen refl i; synced = within.here.synced i; writes = within.here.writes i }) ∙ ap (λ (r : State). r.double) here in
        let same_pages : s.pages ≡ before.pages = within.elsewhere Pages (λ same. cc) ∙ ap (λ (r : State). r.pages) here in
        let same_log : s.log ≡ before.log = within.elsewhere Log (λ same. cc) ∙ ap (λ (r : State). r.log) here in (
          is ∙ known.1 ∙ ap (λ (r : State). take 262144 r.double.seen) here ∙ ap (take 262144) quiet.double_seen,
          still_restoring before before s 0 (begun before quiet) (ap (λ (c : Contents). c.synced) same_pages) (ap (λ (c : Contents). c.writes) same_pages) (ap (λ (c : Contents). c.seen) same_pages) same_double same_log,
        )

    read_none : (b s : State) → IsQuietAs before b → Within Double (Looked false) b s → IsUnharmed before s
    read_none b s known within =
        let here : b ≡ before = known.0 in
        let same_pages : s.pages ≡ before.pages = within.elsewhere Pages (λ same. cc) ∙ ap (λ (r : State). r.pages) here in
        let same_log : s.log ≡ before.log = within.elsewhere Log (λ same. cc) ∙ ap (λ (r : State). r.log) here in
        still_unharmed before before s (begun before known.1).unharmed (ap (λ (c : Contents). c.synced) same_pages) (ap (λ (c : Contents). c.writes) same_pages)
        (within.here.synced ∙ ap (λ (r : State). r.double.synced) here) (within.here.writes ∙ ap (λ (r : State). r.double.writes) here) same_log

    module _ (p0 p1 : Past) (known : Now (IsQuietAs before) p0) where
      pub after_read : (n : ℕ) (into : List ℕ) → Now (λ s. take n into ≡ take 262144 s.double.seen) p0 → double ≡ take n into → Goes (Within Double (Looked true)) p0 p1 → Now (IsRestoringFrom before double 0) p1
      after_read n into bytes is read =
          Now-goes (λ s. IsQuietAs before s × (take n into ≡ take 262144 s.double.seen)) (IsRestoringFrom before double 0) (Within Double (Looked true)) p0 p1 (λ s ticks told. (known s ticks told, bytes s ticks told)) read (λ b s k within. read_all n into b s k within is)

      pub during_failed_read : Goes (Within Double (Looked false)) p0 p1 → Meanwhile (ReadsAs before) p0 p1
      during_failed_read read =
          unharmed_goes _ p0 p0 p1 (Meanwhile-none (ReadsAs before) p0) read (Now-goes (IsQuietAs before) (IsUnharmed before) (Within Double (Looked false)) p0 p1 known read read_none)

    -- ---- one page is put right

    module _ (upto : ℕ) where
      abbrev Here : State → Type 0
      Here = IsRestoringFrom before double upto

      looked : (ok : Bool) (b s : State) → Here b → Within Pages (Looked ok) b s → IsUnharmed before s
      looked ok b s is within =
          let same : s.double ≡ b.double = within.elsewhere Double (λ same. cc) in
          still_unharmed before b s is.1.unharmed within.here.synced within.here.writes (ap (λ (c : Contents). c.synced) same) (ap (λ (c : Contents). c.writes) same) (within.elsewhere Log (λ same. cc))

      pub during_look : (p0 p1 : Past) (ok : Bool) → Now Here p0 → Goes (Within Pages (Looked ok)) p0 p1 → Meanwhile (ReadsAs before) p0 p1
      during_look p0 p1 ok known look =
          unharmed_goes _ p0 p0 p1 (Meanwhile-none (ReadsAs before) p0) look (Now-goes Here (IsUnharmed before) (Within Pages (Looked ok)) p0 p1 known look (looked ok))

      -- what was seen stays seen
      looked_well : (P : List ℕ → Type 0) (b s : State) → Here b × P b.pages.seen → Within Pages (Looked true) b s → Here s × P s.pages.seen
      looked_well P b s is within = (
        (is.0.0, still_restoring before b s upto is.0.1 within.here.synced within.here.writes (within.here.seen refl) (within.elsewhere Double (λ same. cc)) (within.elsewhere Log (λ same. cc))),
        subst P (sym (within.here.seen refl)) is.1,
      )

      after_look : (P : List ℕ → Type 0) (p0 p1 : Past) → Now Here p0 → Now (λ s. P s.pages.seen) p0 → Goes (Within Pages (Looked true)) p0 p1 → Now (λ s. Here s × P s.pages.seen) p1
      after_look P p0 p1 known seen look = Now-goes (λ s. Here s × P s.pages.seen) (λ s. Here s × P s.pages.seen) (Within Pages (Looked true)) p0 p1 (λ s ticks told. (known s ticks told, seen s ticks told)) look (looked_well P)

      -- the slot has no copy to restore
      pub nothing_there : upto < 64 → ((number : ℕ) → number < 65536 → IsGoodPage number (piece 4096 upto double) → ⊥) → (p : Past) → Now Here p → Now (IsRestoringFrom before double (upto + 1)) p
      nothing_there below none p known =
          Now-weaker Here (IsRestoringFrom before double (upto + 1)) p known
          (λ s is. (is.0, one_more before s upto is.1 (λ number small good. absurd (no_good_copy double before.double.synced is.0 upto number below (none number small) good))))

      module _ (below : upto < 64) (number : ℕ) (own : IsGoodPage number (piece 4096 upto double)) where
        one_number : (s : State) → Here s → (other : ℕ) → IsGoodPage other (piece 4096 upto before.double.synced) → other ≡ number
        one_number s is other good = sym good.number_is ∙ (good_copy double before.double.synced is.0 upto number below own).number_is

        -- the page is good in its place already
        pub after_in_place : (p0 p1 : Past) → Now Here p0 → Now (λ s. IsGoodPage number (place_of number s.pages.seen)) p0 → Goes (Within Pages (Looked true)) p0 p1 → Now (IsRestoringFrom before double (upto + 1)) p1
        after_in_place p0 p1 known seen look =
            Now-weaker (λ s. Here s × IsGoodPage number (place_of number s.pages.seen)) (IsRestoringFrom before double (upto + 1)) p1
            (after_look (λ l. IsGoodPage number (place_of number l)) p0 p1 known seen look)
            (λ s is. (
              is.0.0,
              one_more before s upto is.0.1
                  (λ other small good. subst (λ (m : ℕ). IsGoodPage m (place_of m s.pages.seen)) (sym (one_number s is.0 other good)) is.1),
            ))

        -- it isn't, and is written
        module _ (page : List ℕ) (newest : IsNewestCopy double number page) where
          abbrev Torn : State → Type 0
          Torn s = (Here s × (IsGoodPage number (place_of number s.pages.seen) → ⊥)) × MayLeave s.pages s.pages.seen

          wrote_torn : (ok : Bool) (b s : State) → Torn b → Within Pages (Wrote (4096 * number) page ok) b s → IsUnharmed before s
          wrote_torn ok b s is within =
              wrote_copy before b upto is.0.0.1 is.1 number page newest.copy.good (newest_too double before.double.synced is.0.0.0 number page newest) is.0.1 s within.here.synced within.here.writes (within.elsewhere Double (λ same. cc)) (within.elsewhere Log (λ same. cc))

          restored_torn : (b s : State) → Torn b → Within Pages (Wrote (4096 * number) page true) b s → IsRestoringFrom before double (upto + 1) s
          restored_torn b s is within = (
            is.0.0.0,
            restored_copy before b upto is.0.0.1 is.1 number page newest.copy.good (newest_too double before.double.synced is.0.0.0 number page newest) is.0.1 s within.here.synced within.here.writes (within.elsewhere Double (λ same. cc)) (within.elsewhere Log (λ same. cc))
                (within.here.seen refl) (good_copy double before.double.synced is.0.0.0 upto number below own),
          )

          module _ (p0 p1 p2 : Past) (law : Law p1) (known : Now Here p0) (seen : Now (λ s. IsGoodPage number (place_of number s.pages.seen) → ⊥) p0) (look : Goes (Within Pages (Looked true)) p0 p1) where
            torn : Now Torn p1
            torn s ticks told = (after_look (λ l. IsGoodPage number (place_of number l) → ⊥) p0 p1 known seen look s ticks told, (law p1.moment s told).pages)

            pub after_restore : Goes (Within Pages (Wrote (4096 * number) page true)) p1 p2 → Now (IsRestoringFrom before double (upto + 1)) p2
            after_restore write = Now-goes Torn (IsRestoringFrom before double (upto + 1)) (Within Pages (Wrote (4096 * number) page true)) p1 p2 torn write restored_torn

            pub during_restore : (ok : Bool) → Goes (Within Pages (Wrote (4096 * number) page ok)) p1 p2 → Meanwhile (ReadsAs before) p0 p2
            during_restore ok write =
                unharmed_goes _ p0 p1 p2 (during_look p0 p1 true known look) write (Now-goes Torn (IsUnharmed before) (Within Pages (Wrote (4096 * number) page ok)) p1 p2 torn write (wrote_torn ok))

    -- ---- all pages are synced

    abbrev AllRestored : State → Type 0
    AllRestored s = IsRestoringFrom before double 64 s × MayLeave s.pages s.pages.seen

    pages_unsynced : (b s : State) → IsRestoringFrom before double 64 b → Within Pages (Synced false) b s → IsUnharmed before s
    pages_unsynced b s is within =
        let same : s.double ≡ b.double = within.elsewhere Double (λ same. cc) in
        still_unharmed before b s is.1.unharmed (within.here.failed refl).0 (within.here.failed refl).1 (ap (λ (c : Contents). c.synced) same) (ap (λ (c : Contents). c.writes) same) (within.elsewhere Log (λ same. cc))

    pages_synced : (b s : State) → AllRestored b → Within Pages (Synced true) b s → IsClearingFrom before double 0 s
    pages_synced b s is within = (is.0.0, all_restored before b is.0.1 is.1 s (within.here.done refl) (within.elsewhere Double (λ same. cc)) (within.elsewhere Log (λ same. cc)))

    module _ (p0 p1 p2 : Past) (so_far : Meanwhile (ReadsAs before) p0 p1) (known : Now (IsRestoringFrom before double 64) p1) where
      pub during_failed_sync_of_pages : Goes (Within Pages (Synced false)) p1 p2 → Meanwhile (ReadsAs before) p0 p2
      during_failed_sync_of_pages sync = unharmed_goes _ p0 p1 p2 so_far sync (Now-goes (IsRestoringFrom before double 64) (IsUnharmed before) (Within Pages (Synced false)) p1 p2 known sync pages_unsynced)

      module _ (law : Law p1) (sync : Goes (Within Pages (Synced true)) p1 p2) where
        pub after_sync_of_pages : Now (IsClearingFrom before double 0) p2
        after_sync_of_pages = Now-goes AllRestored (IsClearingFrom before double 0) (Within Pages (Synced true)) p1 p2 (λ s ticks told. (known s ticks told, (law p1.moment s told).pages)) sync pages_synced

        pub during_sync_of_pages : Meanwhile (ReadsAs before) p0 p2
        during_sync_of_pages = restored_goes _ p0 p1 p2 so_far sync (Now-weaker (IsClearingFrom before double 0) (IsRestored before) p2 after_sync_of_pages (λ s is. is.1.restored))

    -- ---- one copy is overwritten

    module _ (upto : ℕ) (below : upto < 64) where
      abbrev Clear : State → Type 0
      Clear = IsClearingFrom before double upto

      pub nothing_to_clear : ((number : ℕ) → IsGoodPage number (piece 4096 upto double) → ⊥) → (p : Past) → Now Clear p → Now (IsClearingFrom before double (upto + 1)) p
      nothing_to_clear none p known =
          Now-weaker Clear (IsClearingFrom before double (upto + 1)) p known
          (λ s is. (is.0, no_copy_there before s upto is.1 (λ number good. no_good_copy double before.double.synced is.0 upto number below (none number) good)))

      module _ (number : ℕ) (own : IsGoodPage number (piece 4096 upto double)) where
        zeroed : (ok : Bool) (b s : State) → Clear b × MayLeave b.double b.double.seen → Within Double (Wrote (4096 * upto) (replicate 4096 0) ok) b s → IsRestored before s
        zeroed ok b s is within =
            wrote_zeros before b upto is.0.1 is.1 (read_whole double before.double.synced is.0.0 upto number below own) s within.here.synced within.here.writes (within.elsewhere Pages (λ same. cc)) (within.elsewhere Log (λ same. cc))

        zeroed_well : (b s : State) → Clear b × MayLeave b.double b.double.seen → Within Double (Wrote (4096 * upto) (replicate 4096 0) true) b s → IsClearingFrom before double (upto + 1) s
        zeroed_well b s is within = (
          is.0.0,
          cleared_one before b upto is.0.1 is.1 (read_whole double before.double.synced is.0.0 upto number below own) s within.here.synced within.here.writes (within.elsewhere Pages (λ same. cc)) (within.elsewhere Log (λ same. cc)) (within.here.seen refl),
        )

        module _ (p0 p1 : Past) (law : Law p0) (known : Now Clear p0) where
          clear_there : Now (λ s. Clear s × MayLeave s.double s.double.seen) p0
          clear_there s ticks told = (known s ticks told, (law p0.moment s told).double)

          pub after_clear : Goes (Within Double (Wrote (4096 * upto) (replicate 4096 0) true)) p0 p1 → Now (IsClearingFrom before double (upto + 1)) p1
          after_clear write = Now-goes (λ s. Clear s × MayLeave s.double s.double.seen) (IsClearingFrom before double (upto + 1)) (Within Double (Wrote (4096 * upto) (replicate 4096 0) true)) p0 p1 clear_there write zeroed_well

          pub during_clear : (ok : Bool) → Goes (Within Double (Wrote (4096 * upto) (replicate 4096 0) ok)) p0 p1 → Meanwhile (ReadsAs before) p0 p1
          during_clear ok write =
              restored_goes _ p0 p0 p1 (Meanwhile-none (ReadsAs before) p0) write
              (Now-goes (λ s. Clear s × MayLeave s.double s.double.seen) (IsRestored before) (Within Double (Wrote (4096 * upto) (replicate 4096 0) ok)) p0 p1 clear_there write (zeroed ok))

    -- ---- all copies are synced

    copies_unsynced : (b s : State) → IsClearingFrom before double 64 b → Within Double (Synced false) b s → IsRestored before s
    copies_unsynced b s is within = still_restored before b s is.1.restored (within.elsewhere Pages (λ same. cc)) (within.here.failed refl).0 (within.here.failed refl).1 (within.elsewhere Log (λ same. cc))

    copies_synced : (b s : State) → IsClearingFrom before double 64 b → Within Double (Synced true) b s → IsRestored before s × IsRepaired s
    copies_synced b s is within = (
      all_cleared before b is.1 s (within.here.done refl) (within.elsewhere Pages (λ same. cc)) (within.elsewhere Log (λ same. cc)),
      repaired before b is.1 s (within.here.done refl) (within.elsewhere Pages (λ same. cc)) (within.elsewhere Log (λ same. cc)),
    )

    module _ (p0 p1 p2 : Past) (so_far : Meanwhile (ReadsAs before) p0 p1) (known : Now (IsClearingFrom before double 64) p1) where
      pub during_failed_sync_of_copies : Goes (Within Double (Synced false)) p1 p2 → Meanwhile (ReadsAs before) p0 p2
      during_failed_sync_of_copies sync = restored_goes _ p0 p1 p2 so_far sync (Now-goes (IsClearingFrom before double 64) (IsRestored before) (Within Double (Synced false)) p1 p2 known sync copies_unsynced)

      pub after_sync_of_copies : Goes (Within Double (Synced true)) p1 p2 → Now (λ s. IsRestored before s × IsRepaired s) p2
      after_sync_of_copies sync = Now-goes (IsClearingFrom before double 64) (λ s. IsRestored before s × IsRepaired s) (Within Double (Synced true)) p1 p2 known sync copies_synced

      pub during_sync_of_copies : Goes (Within Double (Synced true)) p1 p2 → Meanwhile (ReadsAs before) p0 p2
      during_sync_of_copies sync = restored_goes _ p0 p1 p2 so_far sync (Now-weaker (λ s. IsRestored before s × IsRepaired s) (IsRestored before) p2 (after_sync_of_copies sync) (λ s is. is.0))

-- the copies are read, and the rest of the repair follows
pub during_read : (before : State) (double : List ℕ) (n : ℕ) (into : List ℕ) (p0 p1 : Past) → Now (IsQuietAs before) p0 → Now (λ s. take n into ≡ take 262144 s.double.seen) p0 → double ≡ take n into → Goes (Within Double (Looked true)) p0 p1 → Meanwhile (ReadsAs before) p0 p1
during_read before double n into p0 p1 known bytes is read =
    unharmed_goes before _ p0 p0 p1 (Meanwhile-none (ReadsAs before) p0) read
    (Now-weaker (IsRestoringFrom before double 0) (IsUnharmed before) p1 (after_read before double p0 p1 known n into bytes is read) (λ s is_there. is_there.1.unharmed))
