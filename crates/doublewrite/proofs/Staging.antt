-- Once the copies are synced, a crash leaves each page with its old content or with that of the batch.
use Rattle.std.proofs.Common.{◌≡◌, ◌⊎◌, inl, inr, ⊎_elim, ℕ, ◌*◌, ◌<◌, Option, Some, None, List, sym, ◌∙◌, ap, subst, arith}
use Rattle.std.proofs.lemmas.Bool.{cases_lt}
use Rattle.store_api.specs.Areas.{Contents, State, Image, IsImage, IsHonest, WasWhole, piece}
use Rattle.stored_pages.specs.Words.{number_of, lsn_of}
use Rattle.stored_pages.specs.Reading.{IsGoodPage, IsCopyIn, IsNewestCopy, IsPageIn, place_of}
use Rattle.doublewrite.specs.Batches.{BatchView, IsBatch, IsInBatch, IsInBatchToo, number_at}
use Rattle.doublewrite.specs.Kept.{HadCopy, IsSettled, IsPageReady, WasPage, KeepsPages, IsStaged}
use Rattle.doublewrite.proofs.Batched.{good_at, in_or_out}
use Rattle.doublewrite.proofs.Wholes.{left_alone, honest_page, settled_good}

module _ (before : State) (batch : BatchView) (is : IsBatch batch) (s : State) (staged : IsStaged before batch s) (image : Image) (left : IsImage s image) (honest : IsHonest s image) where
  double_is : image.double ≡ staged.double
  double_is =
      let alone = left_alone s.double image.double (ap (λ (c : Contents). c.writes) staged.double_is) left.double in
      alone ∙ ap (λ (c : Contents). c.synced) staged.double_is

  -- the batch's page is among the copies
  own_copy : (number : ℕ) (bytes : List ℕ) → IsInBatch batch number bytes → IsCopyIn image.double number bytes
  own_copy number bytes there = record {
    slot = there.slot;
    below = omega (arith, there.below, is.few);
    stands = ap (piece 4096 there.slot) double_is ∙ staged.copies there.slot there.below ∙ there.page;
    good = subst (λ (n : ℕ). IsGoodPage n bytes) (ap number_of there.page ∙ there.number_is) (subst (IsGoodPage (number_at batch there.slot)) there.page (good_at batch is there.slot there.below));
  }

  -- a copy is the batch's, or was there before
  copy_was : (number : ℕ) (bytes : List ℕ) → IsCopyIn image.double number bytes → IsInBatch batch number bytes ⊎ HadCopy number before.double bytes
  copy_was number bytes copy =
      let stands : piece 4096 copy.slot staged.double ≡ bytes = ap (piece 4096 copy.slot) (sym double_is) ∙ copy.stands in
      elim (cases_lt copy.slot batch.count) [
        | inl own ↦ inl (record { slot = copy.slot; below = own; page = sym (staged.copies copy.slot own) ∙ stands; number_is = copy.good.number_is })
        | inr other ↦
            let whole = staged.others number copy.slot other (subst (IsGoodPage number) (sym stands) copy.good) in
            inr (record { slot = copy.slot; below = copy.below; good = copy.good; whole = subst (WasWhole before.double (4096 * copy.slot)) stands whole })
      ]

  -- a page that isn't the batch's is good in its place still
  good_still : (number : ℕ) → ((bytes : List ℕ) → IsInBatch batch number bytes → ⊥) → IsSettled number before.pages → IsGoodPage number (place_of number image.pages)
  good_still number out settled = settled_good number s.pages image.pages (staged.settled number out settled) left.pages

  -- the newest copy of a page that isn't good in its place is the batch's
  newest_is : (number : ℕ) (bytes : List ℕ) → IsPageReady batch before number → (IsGoodPage number (place_of number image.pages) → ⊥) → IsNewestCopy image.double number bytes → IsInBatch batch number bytes
  newest_is number bytes ready bad copied =
      ⊎_elim
      (λ (own : IsInBatch batch number bytes). own)
      (λ (had : HadCopy number before.double bytes).
      ⊎_elim
      (λ (there : (page : List ℕ) × IsInBatch batch number page).
      ⊎_elim
      (λ (same : bytes ≡ there.0). subst (IsInBatch batch number) (sym same) there.1)
      (λ (older : lsn_of bytes < lsn_of there.0). let newest = copied.newest there.0 (own_copy number there.0 there.1) in absurd (omega (arith, older, newest)))
      (ready.older there.0 bytes there.1 had))
      (λ (out : (page : List ℕ) → IsInBatch batch number page → ⊥).
      ⊎_elim
      (λ (settled : IsSettled number before.pages). absurd (bad (good_still number out settled)))
      (λ (none : (other : List ℕ) → HadCopy number before.double other → ⊥). absurd (none bytes had))
      ready.settled)
      (in_or_out batch number))
      (copy_was number bytes copied.copy)

  place_is : (number : ℕ) (bytes : List ℕ) → place_of number image.pages ≡ bytes → IsGoodPage number bytes → WasPage before number (Some bytes) ⊎ IsInBatchToo batch number (Some bytes)
  place_is number bytes stands good =
      let whole = subst (WasWhole s.pages (4096 * number)) stands (honest_page number number s.pages image.pages honest.pages (subst (IsGoodPage number) (sym stands) good)) in
      ⊎_elim (λ (new : IsInBatch batch number bytes). inr new) (λ (old : WasWhole before.pages (4096 * number) bytes). inl (good, old)) (staged.held number bytes good whole)

  read_staged : (number : ℕ) (content : Option (List ℕ)) → IsPageReady batch before number → IsPageIn image.pages image.double number content → WasPage before number content ⊎ IsInBatchToo batch number content
  read_staged number (Some bytes) ready read = elim read [
    | inl there ↦ place_is number bytes there.0 there.1
    | inr copied ↦ inr (newest_is number bytes ready copied.0 copied.1)
  ]
  read_staged number None ready read =
      ⊎_elim
      (λ (there : (page : List ℕ) × IsInBatch batch number page). absurd (read.1 there.0 (own_copy number there.0 there.1)))
      (λ (out : (page : List ℕ) → IsInBatch batch number page → ⊥). inl (λ settled. read.0 (good_still number out settled)))
      (in_or_out batch number)

pub keeps_staged : (before : State) (batch : BatchView) → IsBatch batch → (s : State) → IsStaged before batch s → KeepsPages before batch s
keeps_staged before batch is s staged = record {
  each = λ image left honest number content ready read. read_staged before batch is s staged image left honest number content ready read;
  log_is = staged.log_is;
}
