-- While a checkpoint is made, page 0 can be read from whatever a crash leaves.
use Rattle.std.proofs.Common.{◌≡◌, inr, ⊎_elim, ℕ, ◌+◌, ◌<◌, ◌≤◌, None, List, length, take, drop, replicate, sym, ap, subst, ◌∙◌, arith}
use Rattle.std.specs.Int.{w64, from_be_bytes}
use Rattle.std.proofs.lemmas.List.{drop-replicate, take-replicate}
use Rattle.store_api.specs.Areas.{State, Image, IsImage, IsHonest}
use Rattle.stored_pages.specs.Words.{u64_at, lsn_of}
use Rattle.log_format.specs.declared.group.Group.{Group}
use Rattle.mini_txn.specs.Edits.{blank}
use Rattle.doublewrite.specs.Batches.{page_at}
use Rattle.doublewrite.specs.Kept.{HadCopy, IsPageReady, KeepsPages, WasPage}
use Rattle.stored_pages.specs.Reading.{IsGoodPage, IsPageIn}
use Rattle.law_logged_pages.specs.Applied.{logical}
use Rattle.law_logged_pages.specs.Stages.{WasOnce}
use Rattle.law_logged_pages.specs.Keeping.{IsRun, IsPlaced, durable}
use Rattle.law_logged_pages.proofs.Edits.{lsn-same}
use Rattle.law_logged_pages.proofs.Groups.{lsn_logical}
use Rattle.law_crashes.specs.Header.{HasMagic}
use Rattle.page_checkpoint.specs.Beginning.{alone}
use Rattle.page_checkpoint.proofs.Alone.{page_alone}

-- zeros are no header
no_magic : HasMagic blank → ⊥
unfolding u64_at blank
no_magic is =
    let zeros : take 8 (drop 32 (replicate {A = ℕ} 4096 0)) ≡ replicate 8 0 =
    ap (take 8) (drop-replicate {X = ℕ} 32 4096 0) ∙ take-replicate {X = ℕ} 8 4064 0 (omega arith) in
    let none = ap (from_be_bytes w64) zeros in
    absurd (omega (arith, is, none))

module _ (first flushed : ℕ) (groups : List Group) (base : ℕ → List ℕ) (header : List ℕ) (good : IsGoodPage 0 header) (is : IsRun first groups base)
    (lsn : lsn_of header ≡ first + length groups) (all : flushed + 1 ≡ first + length groups) (marked : HasMagic (base 0)) (b : State)
    (placed : IsPlaced first flushed groups base b) where
  copy_older : (other : List ℕ) → HadCopy 0 b.double other → lsn_of other < first + length groups
  copy_older other had =
      ⊎_elim
      (λ (once : WasOnce base groups (durable first flushed) 0 other).
      let upto : once.after ≤ length groups = omega (arith, once.upto, all) in
      let less = lsn_logical first groups is.each base 0 (is.bases 0) once.after upto in
      omega (arith, less, upto, lsn-same other (logical base groups once.after 0) once.same.same))
      (λ (earlier : lsn_of other < lsn_of (base 0)). omega (arith, earlier, (is.bases 0).before)) (placed.copies 0 other (omega arith) had).once

  ready : IsPageReady (alone header) b 0
  ready = record {
    settled = placed.settled 0 (omega arith);
    older = λ bytes other here had.
        let slot : here.slot ≡ 0 = omega (arith, here.below) in
        let same : bytes ≡ header = sym here.page ∙ ap (page_at (alone header)) slot ∙ page_alone header good.size in
        let less = copy_older other had in
        inr (omega (arith, less, lsn, ap (λ (l : List ℕ). lsn_of l) same));
  }

  pub is_read : (s : State) (image : Image) → KeepsPages b (alone header) s → IsImage s image → IsHonest s image
      → IsPageIn image.pages image.double 0 None → ⊥
  is_read s image keeps left honest none =
      ⊎_elim
      (λ (was : WasPage b 0 None).
      let unwritten = placed.stages 0 None (omega arith) was in no_magic (subst HasMagic unwritten.zeros marked))
      (λ (none : ⊥). none) (keeps.each image left honest 0 None ready none)
