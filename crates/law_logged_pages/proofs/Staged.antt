-- Once the copies of a batch are synced, a crash leaves each page with its old content or with that of the batch.
use Rattle.std.proofs.Common.{◌≡◌, ◌⊎◌, inl, inr, ⊎_elim, ℕ, ◌*◌, ◌<◌, ◌≤◌, Option, Some, None, List, [], length, sym, ap, subst, ◌∙◌, arith}
use Rattle.std.proofs.lemmas.List.Elements.{All-nil}
use Rattle.store_api.specs.Areas.{Contents, State, Image, MayLeave, Misses, IsImage, IsHonest, piece}
use Rattle.store_api.proofs.Pieces.{same_part}
use Rattle.stored_pages.specs.Words.{number_of, lsn_of}
use Rattle.stored_pages.specs.Reading.{IsGoodPage, IsCopyIn, IsPageIn}
use Rattle.doublewrite.specs.Batches.{BatchView, StagedView, IsBatch, IsInBatch, IsInBatchToo, page_at, number_at}
use Rattle.doublewrite.specs.Kept.{HadCopy, IsSettled, WasPage, IsPageReady, KeepsPages, IsStaged}
use Rattle.law_logged_pages.proofs.Placement.{inside, settled_good, was_whole}
use Rattle.law_logged_pages.proofs.Afterwards.{has_or_not, in_batch, length-page, copy_from}

abbrev none_placed : BatchView → StagedView
none_placed batch = record { batch = batch; placed = 0 }

module _ (before s : State) (batch : BatchView) (is : IsBatch batch) (done : IsStaged before batch s) where
  module _ (image : Image) (left : IsImage s image) (honest : IsHonest s image) where
    left_double : MayLeave (record { seen = done.double; synced = done.double; writes = [] }) image.double
    left_double = subst (λ (c : Contents). MayLeave c image.double) done.double_is left.double

    -- the batch's copies are there
    batch_copy : (page k : ℕ) → k < batch.count → number_at batch k ≡ page → IsCopyIn image.double page (page_at batch k)
    batch_copy page k below number =
        let long : length (page_at batch k) ≡ 4096 = length-page (none_placed batch) is k below in
        let within = inside k done.double (ap (λ (l : List ℕ). length l) (done.copies k below) ∙ long) in
        let same : piece 4096 k image.double ≡ piece 4096 k done.double =
        same_part (4096 * k) 4096 image.double done.double (omega (arith, within, left_double.no_shorter)) within
        (λ i from to. left_double.same i (omega (arith, to, within)) (All-nil (Misses i))) in
        record {
          slot = k;
          below = omega (arith, below, is.few);
          stands = same ∙ done.copies k below;
          good = record { size = long; sum = is.sealed k below; number_is = number };
        }

    -- a page that the batch doesn't have is as settled as before
    settled_still : (page : ℕ) → ((k : ℕ) → k < batch.count → number_at batch k ≡ page → ⊥) → IsSettled page before.pages → IsSettled page s.pages
    settled_still page apart settled = done.settled page (λ bytes here. apart here.slot here.below (ap number_of here.page ∙ here.number_is)) settled

    -- a copy that was there before isn't the newest of a page that the batch has
    old_copy : (page : ℕ) (bytes : List ℕ) → IsPageReady batch before page → (IsGoodPage page (piece 4096 page image.pages) → ⊥)
        → ((other : List ℕ) → IsCopyIn image.double page other → lsn_of other ≤ lsn_of bytes) → HadCopy page before.double bytes → IsInBatch batch page bytes
    old_copy page bytes ready bad newest had = elim (has_or_not (none_placed batch) is page batch.count (omega arith)) [
      | inl found ↦
          let here : IsInBatch batch page (page_at batch found.0) = in_batch (none_placed batch) is page found.0 found.1 found.2 in
          let upto = newest (page_at batch found.0) (batch_copy page found.0 found.1 found.2) in
          ⊎_elim
          (λ (same : bytes ≡ page_at batch found.0). subst (IsInBatch batch page) (sym same) here)
          (λ (below : lsn_of bytes < lsn_of (page_at batch found.0)). absurd (omega (arith, below, upto)))
          (ready.older (page_at batch found.0) bytes here had)
      | inr apart ↦
          absurd (⊎_elim
          (λ (settled : IsSettled page before.pages). bad (settled_good page s.pages image.pages (settled_still page apart settled) left.pages))
          (λ (none : (other : List ℕ) → HadCopy page before.double other → ⊥). none bytes had)
          ready.settled)
    ]

    found_either : (page : ℕ) (content : Option (List ℕ)) → IsPageReady batch before page → IsPageIn image.pages image.double page content
        → WasPage before page content ⊎ IsInBatchToo batch page content
    found_either page (Some bytes) ready found = elim found [
      | inl here ↦
          ⊎_elim (λ (in' : IsInBatch batch page bytes). inr in') (λ was. inl (here.1, was))
          (done.held page bytes here.1 (was_whole page page s.pages image.pages bytes honest.pages here.0 here.1))
      | inr copied ↦
          let copy = copied.1.copy in
          let whole = was_whole copy.slot page s.double image.double bytes honest.double copy.stands copy.good in
          let had : HadCopy page s.double bytes = record { slot = copy.slot; below = copy.below; good = copy.good; whole = whole } in
          inr (⊎_elim
          (λ (here : IsInBatch batch page bytes). here)
          (λ (there : HadCopy page before.double bytes). old_copy page bytes ready copied.0 copied.1.newest there)
          (copy_from before s batch done page bytes had))
    ]
    found_either page None ready found = inl (λ settled. elim (has_or_not (none_placed batch) is page batch.count (omega arith)) [
      | inl there ↦ found.1 (page_at batch there.0) (batch_copy page there.0 there.1 there.2)
      | inr apart ↦ found.0 (settled_good page s.pages image.pages (settled_still page apart settled) left.pages)
    ])

  pub staged_keeps : KeepsPages before batch s
  staged_keeps = record { each = λ image left honest page content ready found. found_either image left honest page content ready found; log_is = done.log_is }
