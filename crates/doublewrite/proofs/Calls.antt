-- What is known of a disk from call to call, while a batch is staged and placed.
use Rattle.std.proofs.Common.{◌≡◌, ℕ, ◌+◌, ◌*◌, ◌<◌, Bool, true, false, Some, List, [], refl, sym, ◌∙◌, ap, subst, arith}
use Rattle.std.specs.Prelude.{IsTrue}
use Rattle.store_api.specs.declared.disk.Area.TheVariants.{Log, Double, Pages}
use Rattle.store_api.specs.Areas.{Contents, State, MayLeave, IsImage, seen_image, Within, Wrote, Synced, overwritten}
use Rattle.store_api.specs.Past.{Past, Now, Goes, Meanwhile}
use Rattle.store_api.proofs.Moments.{Now-goes, Now-weaker, Meanwhile-none, Meanwhile-goes}
use Rattle.stored_pages.specs.Reading.{place_of}
use Rattle.doublewrite.specs.Batches.{BatchView, StagedView, IsBatch, page_at, number_at}
use Rattle.doublewrite.specs.Kept.{IsReady, IsReadyAs, KeepsPages, IsStaged, IsStagedHonestly, HasHonestReads, HasPlaced}
use Rattle.doublewrite.proofs.Batched.{good_at}
use Rattle.doublewrite.proofs.Copying.{IsCopying, copies_write, keeps_copying, staged}
use Rattle.doublewrite.proofs.Staging.{keeps_staged}
use Rattle.doublewrite.proofs.InPlace.{wrote_one, placed_one, still_honest, sync_failed, synced_all}

-- the write, as it is meant
pub meant : (at to : ℕ) (bytes page : List ℕ) (ok : Bool) (p0 p1 : Past) → at ≡ to → bytes ≡ page → Goes (Within Pages (Wrote at bytes ok)) p0 p1 → Goes (Within Pages (Wrote to page ok)) p0 p1
meant at to bytes page ok p0 p1 is_at is_page goes =
    subst (λ (l : List ℕ). Goes (Within Pages (Wrote to l ok)) p0 p1) is_page (subst (λ (n : ℕ). Goes (Within Pages (Wrote n bytes ok)) p0 p1) is_at goes)

-- ---- the copies

module _ (before : State) (batch : BatchView) (is : IsBatch batch) where
  -- after the write
  record IsCopied (ok : Bool) (s : State) : Type 0 where
    ready : IsReady before
    copying : IsCopying before batch s
    seen : IsTrue ok → s.double.seen ≡ overwritten before.double.seen (copies_write before batch)

  copies : (ok : Bool) (s : State) → IsReady before → Within Double (Wrote 0 batch.bytes ok) before s → IsCopied ok s
  copies ok s ready within = record {
    ready = ready;
    copying = record { synced = within.here.synced; writes = within.here.writes; pages_is = within.elsewhere Pages (λ same. cc); log_is = within.elsewhere Log (λ same. cc) };
    seen = within.here.seen;
  }

  copies_from : (ok : Bool) (b s : State) → IsReadyAs before b → Within Double (Wrote 0 batch.bytes ok) b s → IsCopied ok s
  copies_from ok b s ready within =
      copies ok s (subst IsReady ready.0 ready.1) (subst (λ (r : State). Within Double (Wrote 0 batch.bytes ok) r s) ready.0 within)

  copy_unsynced : (ok : Bool) (b s : State) → IsCopied ok b → Within Double (Synced false) b s → IsCopied false s
  copy_unsynced ok b s is_copied within =
      let so_far = is_copied.copying in
      record {
        ready = is_copied.ready;
        copying = record {
          synced = (within.here.failed refl).0 ∙ so_far.synced;
          writes = (within.here.failed refl).1 ∙ so_far.writes;
          pages_is = within.elsewhere Pages (λ same. cc) ∙ so_far.pages_is;
          log_is = within.elsewhere Log (λ same. cc) ∙ so_far.log_is;
        };
        seen = λ wrong. absurd (cc);
      }

  copy_synced : (b s : State) → IsCopied true b → Within Double (Synced true) b s → IsStagedHonestly before batch s
  copy_synced b s is_copied within =
      let reads = is_copied.seen refl in
      let pages : s.pages ≡ before.pages = within.elsewhere Pages (λ same. cc) ∙ is_copied.copying.pages_is in
      let double = within.here.done refl ∙ ap (λ (l : List ℕ). record { seen = l; synced = l; writes = [] }) reads in (
        staged before batch is is_copied.ready s double pages (within.elsewhere Log (λ same. cc) ∙ is_copied.copying.log_is),
        subst HasHonestReads (sym pages) is_copied.ready.read_pages,
      )

  keeps_copied : (ok : Bool) (s : State) → IsCopied ok s → KeepsPages before batch s
  keeps_copied ok s is_copied = keeps_copying before batch is is_copied.ready s is_copied.copying

  module _ (p0 p1 : Past) (known : Now (IsReadyAs before) p0) (ok : Bool) (write : Goes (Within Double (Wrote 0 batch.bytes ok)) p0 p1) where
    is_copied : Now (IsCopied ok) p1
    is_copied = Now-goes (IsReadyAs before) (IsCopied ok) (Within Double (Wrote 0 batch.bytes ok)) p0 p1 known write (copies_from ok)

    pub during_copy : Meanwhile (KeepsPages before batch) p0 p1
    during_copy =
        Meanwhile-goes (KeepsPages before batch) _ p0 p0 p1 (Meanwhile-none (KeepsPages before batch) p0) write (Now-weaker (IsCopied ok) (KeepsPages before batch) p1 is_copied (keeps_copied ok))

    pub during_failed_copy : (p2 : Past) → Goes (Within Double (Synced false)) p1 p2 → Meanwhile (KeepsPages before batch) p0 p2
    during_failed_copy p2 sync =
        let after = Now-goes (IsCopied ok) (IsCopied false) (Within Double (Synced false)) p1 p2 is_copied sync (copy_unsynced ok) in
        Meanwhile-goes (KeepsPages before batch) _ p0 p1 p2 during_copy sync (Now-weaker (IsCopied false) (KeepsPages before batch) p2 after (keeps_copied false))

  module _ (p0 p1 p2 : Past) (known : Now (IsReadyAs before) p0) (write : Goes (Within Double (Wrote 0 batch.bytes true)) p0 p1) (sync : Goes (Within Double (Synced true)) p1 p2) where
    pub after_copies : Now (IsStagedHonestly before batch) p2
    after_copies = Now-goes (IsCopied true) (IsStagedHonestly before batch) (Within Double (Synced true)) p1 p2 (is_copied p0 p1 known true write) sync copy_synced

    pub during_copies : Meanwhile (KeepsPages before batch) p0 p2
    during_copies =
        Meanwhile-goes (KeepsPages before batch) _ p0 p1 p2 (during_copy p0 p1 known true write) sync
        (Now-weaker (IsStagedHonestly before batch) (KeepsPages before batch) p2 after_copies (λ s there. keeps_staged before batch is s there.0))

-- ---- a page in place

module _ (batch : BatchView) (is : IsBatch batch) (slot : ℕ) (below : slot < batch.count) where
  abbrev at : ℕ
  at = 4096 * number_at batch slot

  abbrev page : List ℕ
  page = page_at batch slot

  module _ (before : State) where
    -- before the write, with what a read gives
    abbrev CanPlace : State → Type 0
    CanPlace s = IsStagedHonestly before batch s × MayLeave s.pages s.pages.seen

    place : (ok : Bool) (b s : State) → CanPlace b → Within Pages (Wrote at page ok) b s → IsStaged before batch s
    place ok b s can within =
        wrote_one before batch is slot below b can.0.0 can.1 s within.here.synced within.here.writes (within.elsewhere Double (λ same. cc)) (within.elsewhere Log (λ same. cc))

    place_honestly : (b s : State) → CanPlace b → Within Pages (Wrote at page true) b s → IsStagedHonestly before batch s
    place_honestly b s can within = (
      place true b s can within,
      still_honest (number_at batch slot) page (good_at batch is slot below).size b.pages s.pages can.1 within.here.synced within.here.writes (within.here.seen refl) can.0.1,
    )

    unsynced : (b s : State) → CanPlace b → Within Pages (Synced false) b s → IsStaged before batch s
    unsynced b s can within =
        sync_failed before batch b can.0.0 can.1 s (within.here.failed refl).0 (within.here.failed refl).1 (within.elsewhere Double (λ same. cc)) (within.elsewhere Log (λ same. cc))

    all_synced : (b s : State) → CanPlace b → Within Pages (Synced true) b s → IsStaged before batch s
    all_synced b s can within =
        synced_all before batch b can.0.0 can.1 s (within.here.done refl) can.0.1 (within.elsewhere Double (λ same. cc)) (within.elsewhere Log (λ same. cc))

    keeps : (s : State) → IsStaged before batch s → KeepsPages before batch s
    keeps s there = keeps_staged before batch is s there

    can_place : (p : Past) → ((m : ℕ) (s : State) → p.state_at m ≡ Some s → IsImage s (seen_image s)) → Now (IsStagedHonestly before batch) p → Now CanPlace p
    can_place p law known s ticks told = (known s ticks told, (law p.moment s told).pages)

    module _ (p0 p1 : Past) (law : (m : ℕ) (s : State) → p0.state_at m ≡ Some s → IsImage s (seen_image s)) (known : Now (IsStagedHonestly before batch) p0) where
      pub after_place : (ok : Bool) → Goes (Within Pages (Wrote at page ok)) p0 p1 → Now (IsStaged before batch) p1
      after_place ok write = Now-goes CanPlace (IsStaged before batch) (Within Pages (Wrote at page ok)) p0 p1 (can_place p0 law known) write (place ok)

      pub after_placed : Goes (Within Pages (Wrote at page true)) p0 p1 → Now (IsStagedHonestly before batch) p1
      after_placed write = Now-goes CanPlace (IsStagedHonestly before batch) (Within Pages (Wrote at page true)) p0 p1 (can_place p0 law known) write place_honestly

      pub during_place : (ok : Bool) → Goes (Within Pages (Wrote at page ok)) p0 p1 → Meanwhile (KeepsPages before batch) p0 p1
      during_place ok write =
          Meanwhile-goes (KeepsPages before batch) _ p0 p0 p1 (Meanwhile-none (KeepsPages before batch) p0) write (Now-weaker (IsStaged before batch) (KeepsPages before batch) p1 (after_place ok write) keeps)

    module _ (p0 p1 p2 : Past) (law0 : (m : ℕ) (s : State) → p0.state_at m ≡ Some s → IsImage s (seen_image s)) (law1 : (m : ℕ) (s : State) → p1.state_at m ≡ Some s → IsImage s (seen_image s))
        (known : Now (IsStagedHonestly before batch) p0) (write : Goes (Within Pages (Wrote at page true)) p0 p1) where
      pub after_sync : (done : Bool) → Goes (Within Pages (Synced done)) p1 p2 → Now (IsStaged before batch) p2
      after_sync true sync = Now-goes CanPlace (IsStaged before batch) (Within Pages (Synced true)) p1 p2 (can_place p1 law1 (after_placed p0 p1 law0 known write)) sync all_synced
      after_sync false sync = Now-goes CanPlace (IsStaged before batch) (Within Pages (Synced false)) p1 p2 (can_place p1 law1 (after_placed p0 p1 law0 known write)) sync unsynced

      pub during_sync : (done : Bool) → Goes (Within Pages (Synced done)) p1 p2 → Meanwhile (KeepsPages before batch) p0 p2
      during_sync done sync =
          Meanwhile-goes (KeepsPages before batch) _ p0 p1 p2 (during_place p0 p1 law0 known true write) sync (Now-weaker (IsStaged before batch) (KeepsPages before batch) p2 (after_sync done sync) keeps)

  -- ---- which pages are in their places

  abbrev placed_to : ℕ → StagedView
  placed_to k = record { batch = batch; placed = k }

  abbrev PlacedTo : ℕ → State → Type 0
  PlacedTo upto s = (k : ℕ) → k < upto → place_of (number_at batch k) s.pages.seen ≡ page_at batch k

  place_more : (b s : State) → HasPlaced (placed_to slot) b × MayLeave b.pages b.pages.seen → Within Pages (Wrote at page true) b s → PlacedTo (slot + 1) s
  place_more b s so_far within = placed_one batch is slot below b so_far.1 s (within.here.seen refl) within.here.synced within.here.writes so_far.0

  all_placed : (b s : State) → PlacedTo (slot + 1) b → Within Pages (Synced true) b s → HasPlaced (placed_to (slot + 1)) s
  all_placed b s so_far within =
      let is_now = within.here.done refl in
      record {
        each = λ k upto. ap (λ (c : Contents). place_of (number_at batch k) c.seen) is_now ∙ so_far k upto;
        synced = λ whole. (ap (λ (c : Contents). c.writes) is_now, ap (λ (c : Contents). c.synced) is_now ∙ sym (ap (λ (c : Contents). c.seen) is_now));
      }

  module _ (p0 p1 : Past) (law : (m : ℕ) (s : State) → p0.state_at m ≡ Some s → IsImage s (seen_image s)) (known : Now (HasPlaced (placed_to slot)) p0) (write : Goes (Within Pages (Wrote at page true)) p0 p1) where
    placed_more : Now (PlacedTo (slot + 1)) p1
    placed_more =
        Now-goes (λ s. HasPlaced (placed_to slot) s × MayLeave s.pages s.pages.seen) (PlacedTo (slot + 1)) (Within Pages (Wrote at page true)) p0 p1 (λ s ticks told. (known s ticks told, (law p0.moment s told).pages)) write place_more

    pub placed_next : slot + 1 < batch.count → Now (HasPlaced (placed_to (slot + 1))) p1
    placed_next more = Now-weaker (PlacedTo (slot + 1)) (HasPlaced (placed_to (slot + 1))) p1 placed_more (λ s so_far. record { each = so_far; synced = λ whole. absurd (omega (arith, whole, more)) })

    pub placed_last : (p2 : Past) → Goes (Within Pages (Synced true)) p1 p2 → Now (HasPlaced (placed_to (slot + 1))) p2
    placed_last p2 sync = Now-goes (PlacedTo (slot + 1)) (HasPlaced (placed_to (slot + 1))) (Within Pages (Synced true)) p1 p2 placed_more sync all_placed
