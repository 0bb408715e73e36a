-- What the laws of checkpoints say of page 0, staged and placed.
use Rattle.std.proofs.Common.{◌≡◌, ◌⊎◌, inl, inr, ⊎_elim, ℕ, ◌+◌, ◌<◌, Some, List, [], length, refl, sym, subst, ◌∙◌}
use Rattle.store_api.specs.Areas.{State, Contents, Image, IsImage, IsHonest}
use Rattle.store_api.specs.Past.{Past, Now, Meanwhile}
use Rattle.log_format.specs.declared.group.Group.{Group}
use Rattle.redo_log.specs.View.{LogView}
use Rattle.redo_log.specs.Logged.{IsLogged, LeavesPrefix}
use Rattle.buffer_pool.specs.Frames.{PoolView, bytes_of}
use Rattle.doublewrite.specs.Batches.{BatchView, StagedView, page_at}
use Rattle.doublewrite.specs.Kept.{IsReady, IsReadyAs, IsStaged, KeepsPages, HasPlaced}
use Rattle.stored_pages.specs.Reading.{IsGoodPage, IsPageIn}
use Rattle.std.proofs.lemmas.Bool.{cases_eq}
use Rattle.law_logged_pages.specs.Stages.{AreBytes}
use Rattle.law_logged_pages.specs.Applied.{logical}
use Rattle.flusher.specs.Flushing.{IsHome, IsNowhere}
use Rattle.law_logged_pages.specs.Keeping.{IsRun, IsPlaced}
use Rattle.page_recovery.specs.Leaving.{IsFileRun, LeavesRun}
use Rattle.page_checkpoint.specs.Checkpoints.{begun, IsClean, IsCheckpoint}
use Rattle.page_checkpoint.specs.declared.checking.NewRun.{NewRun}
use Rattle.page_checkpoint.specs.Header.{IsNextHeader}
use Rattle.page_checkpoint.specs.Beginning.{IsNextRun, HoldsAll, HasBegun, IsUnused, LeavesOne, alone}
use Rattle.page_checkpoint.proofs.Alone.{page_alone}
use Rattle.page_checkpoint.proofs.Ending.{clean, check, run_is, last_is, next_header, new_unused}
use Rattle.page_checkpoint.proofs.Homes.{begun_later, header_home, stays_home, stays_nowhere}
use Rattle.page_checkpoint.proofs.Found.{is_read}
use Rattle.page_checkpoint.proofs.Told.{meanwhile, afterwards}

-- ---- the laws that the checkpoint cites

abbrev pub BeginsLaw : Type 0
BeginsLaw =
    (capacity run first : ℕ) (groups : List Group) (base : ℕ → List ℕ) (batch : BatchView) (before : State) → IsRun first groups base
    → IsCheckpoint capacity run first groups batch before
    → IsFileRun capacity (run + 1) (first + length groups + 1) [] (begun (page_at batch 0) base groups)

abbrev pub CrashLaw : Type 0
CrashLaw =
    (capacity run first flushed : ℕ) (groups : List Group) (base : ℕ → List ℕ) (batch : BatchView) (before s : State) (image : Image) (bytes : List ℕ)
    → IsRun first groups base → IsClean first flushed groups base before → LeavesPrefix run first groups flushed before.log
    → IsCheckpoint capacity run first groups batch before → KeepsPages before batch s → IsImage s image → IsHonest s image
    → IsPageIn image.pages image.double 0 (Some bytes)
    → LeavesRun run first flushed groups base image
    ⊎ LeavesRun (run + 1) (first + length groups + 1) (first + length groups) [] (begun (page_at batch 0) base groups) image

abbrev pub PlacedLaw : Type 0
PlacedLaw =
    (capacity run first flushed : ℕ) (groups : List Group) (base : ℕ → List ℕ) (staged : StagedView) (before s : State) → IsRun first groups base
    → IsClean first flushed groups base before → IsCheckpoint capacity run first groups staged.batch before → IsStaged before staged.batch s
    → HasPlaced staged s → staged.placed ≡ staged.batch.count
    → IsPlaced (first + length groups + 1) (first + length groups) [] (begun (page_at staged.batch 0) base groups) s

abbrev pub LeftLaw : Type 0
LeftLaw = (first : ℕ) (groups : List Group) (log : LogView) (c : Contents) → IsLogged first groups log c → LeavesPrefix log.run first groups log.flushed c

module _ (capacity first : ℕ) (groups : List Group) (base : ℕ → List ℕ) (pool : PoolView) (log : LogView) (next : NewRun) (is : IsNextRun pool log next)
    (header : List ℕ) (good : IsGoodPage 0 header) (front : AreBytes 8 header)
    (becomes : IsNextHeader log.next next.run next.first (bytes_of pool 0) header) where
  abbrev All : State → Type 0
  All b = HoldsAll capacity first groups base pool log b

  same : page_at (alone header) 0 ≡ header
  same = page_alone header good.size

  module _ (law : CrashLaw) (left_law : LeftLaw) where
    leaves_one : (b s : State) → All b → KeepsPages b (alone header) s → LeavesOne log.run first log.flushed groups base (bytes_of pool 0) s
    leaves_one b s all keeps = record {
      header = header;
      is = next_header capacity first groups base pool log next is header good front becomes b all;
      found = λ image left honest none.
          let old = clean capacity first groups base pool log next is header good front becomes b all in
          is_read first log.flushed groups base header good all.file.is
          (becomes.lsn_is ∙ last_is capacity first groups base pool log next is header good front becomes b all) old.all all.file.header.marked b
          all.held.pages s image keeps left honest none;
      each = λ image bytes left honest at.
          subst
          (λ (h : List ℕ). LeavesRun log.run first log.flushed groups base image
          ⊎ LeavesRun (log.run + 1) (first + length groups + 1) (first + length groups) [] (begun h base groups) image)
          same
          (law capacity log.run first log.flushed groups base (alone header) b s image bytes all.file.is
          (clean capacity first groups base pool log next is header good front becomes b all) (left_law first groups log b.log all.held.logged)
          (check capacity first groups base pool log next is header good front becomes b all) keeps left honest at);
    }

    pub crash : (old new : Past) → Now IsReady old → Now All old
        → ((x : State) → Now (IsReadyAs x) old → Meanwhile (KeepsPages x (alone header)) old new)
        → Meanwhile (LeavesOne log.run first log.flushed groups base (bytes_of pool 0)) old new
    crash old new ready held call =
        meanwhile (λ (x : State). KeepsPages x (alone header)) All (LeavesOne log.run first log.flushed groups base (bytes_of pool 0))
        (λ x s keeps. keeps.log_is) old new ready held leaves_one call

  module _ (begins_law : BeginsLaw) (placed_law : PlacedLaw) where
    at_home : (b s : State) → All b → IsStaged b (alone header) s → HasPlaced (record { batch = alone header; placed = 1 }) s → (page : ℕ) → page < 65536
        → IsHome page (begun header base groups page) s ⊎ IsNowhere page (begun header base groups page) s
    at_home b s all staged has page below = elim (cases_eq page 0) [
      | inl first_one ↦
          inl (subst (λ (p : ℕ). IsHome p (begun header base groups p) s) (sym first_one) (header_home header good s has))
      | inr later ↦
          let same_page : logical base groups (length groups) page ≡ begun header base groups page = sym (begun_later header base groups page later) in
          subst (λ (l : List ℕ). IsHome page l s ⊎ IsNowhere page l s) same_page
          (⊎_elim (λ (there : IsHome page (logical base groups (length groups) page) b). inl (stays_home header good b s staged page later _ there))
          (λ (none : IsNowhere page (logical base groups (length groups) page) b). inr (stays_nowhere header good b s staged page later _ none))
          (all.each page below (is.clean page)))
    ]

    has_begun : (b s : State) → All b → IsStaged b (alone header) s → HasPlaced (record { batch = alone header; placed = 1 }) s
        → HasBegun capacity next.run log.next (begun header base groups) s
    has_begun b s all staged has =
        let checked = check capacity first groups base pool log next is header good front becomes b all in
        let last : first + length groups ≡ log.next = sym (last_is capacity first groups base pool log next is header good front becomes b all) in
        let run : log.run + 1 ≡ next.run = sym (run_is capacity first groups base pool log next is header good front becomes b all) in
        let file = begins_law capacity log.run first groups base (alone header) b all.file.is checked in
        let placed = placed_law capacity log.run first log.flushed groups base (record { batch = alone header; placed = 1 }) b s all.file.is
        (clean capacity first groups base pool log next is header good front becomes b all) checked staged has refl in
        let unused = new_unused capacity first groups base pool log next is header good front becomes b all in
        record {
          file =
              subst (λ (n : ℕ). IsFileRun capacity n (log.next + 1) [] (begun header base groups)) run
              (subst (λ (n : ℕ). IsFileRun capacity (log.run + 1) (n + 1) [] (begun header base groups)) last
              (subst (λ (h : List ℕ). IsFileRun capacity (log.run + 1) (first + length groups + 1) [] (begun h base groups)) same file));
          placed =
              subst (λ (n : ℕ). IsPlaced (n + 1) n [] (begun header base groups) s) last
              (subst (λ (h : List ℕ). IsPlaced (first + length groups + 1) (first + length groups) [] (begun h base groups) s) same placed);
          each = at_home b s all staged has;
          unused = subst (λ (n : ℕ). IsUnused n s.log) run (subst (IsUnused (log.run + 1)) (sym staged.log_is) unused);
        }

    pub done : (old new : Past) → Now IsReady old → Now All old → ((x : State) → Now (IsReadyAs x) old → Now (IsStaged x (alone header)) new)
        → Now (HasPlaced (record { batch = alone header; placed = 1 })) new
        → Now (HasBegun capacity next.run log.next (begun header base groups)) new
    done old new ready held call has s ticks told =
        afterwards (λ (x : State). IsStaged x (alone header)) All
        (λ s. HasPlaced (record { batch = alone header; placed = 1 }) s → HasBegun capacity next.run log.next (begun header base groups) s)
        (λ x s staged. staged.log_is) old new ready held has_begun call s ticks told (has s ticks told)
