-- Once a batch is placed and synced, its pages are good in their places for good.
use Rattle.std.proofs.Common.{◌≡◌, ◌⊎◌, inl, inr, ⊎_elim, ℕ, zero, suc, ◌*◌, ◌<◌, ◌≤◌, Option, Some, None, List, [], length, take, drop, refl, sym, ap, subst}
use Rattle.std.proofs.Common.{◌∙◌, arith, length-drop}
use Rattle.std.specs.Prelude.{All, Contains}
use Rattle.std.proofs.lemmas.Bool.{cases_lt, cases_eq}
use Rattle.std.proofs.lemmas.List.{length-take-le}
use Rattle.std.proofs.lemmas.List.Elements.{All-nil}
use Rattle.store_api.specs.Areas.{Write, Contents, State, Puts, WasWhole, piece}
use Rattle.stored_pages.specs.Words.{number_of}
use Rattle.log_format.specs.declared.group.Group.{Group}
use Rattle.stored_pages.specs.Reading.{IsGoodPage, place_of}
use Rattle.doublewrite.specs.Batches.{BatchView, StagedView, IsBatch, IsInBatch, page_at, number_at}
use Rattle.doublewrite.specs.Kept.{HadCopy, Spares, IsSettled, WasPage, IsStaged, HasPlaced}
use Rattle.law_logged_pages.specs.Stages.{IsStage}
use Rattle.law_logged_pages.specs.Keeping.{IsPlaced, IsOldCopy, MayBePlaced, durable}

-- a copy that is there is the batch's, or was there before
pub copy_from : (before s : State) (batch : BatchView) → IsStaged before batch s → (page : ℕ) (bytes : List ℕ) → HadCopy page s.double bytes
    → IsInBatch batch page bytes ⊎ HadCopy page before.double bytes
copy_from before s batch done page bytes had =
    let whole : WasWhole (record { seen = done.double; synced = done.double; writes = [] }) (4096 * had.slot) bytes =
    subst (λ (c : Contents). WasWhole c (4096 * had.slot) bytes) done.double_is had.whole in
    let stood : take (length bytes) (drop (4096 * had.slot) done.double) ≡ bytes =
    ⊎_elim
    (λ (there : take (length bytes) (drop (4096 * had.slot) done.double) ≡ bytes). there)
    (λ (put : (w : Write) × Contains [] w × Puts (4096 * had.slot) bytes w). absurd (omega (arith, put.1.1)))
    whole in
    let stands : piece 4096 had.slot done.double ≡ bytes = ap (λ (n : ℕ). take n (drop (4096 * had.slot) done.double)) (sym had.good.size) ∙ stood in
    elim (cases_lt had.slot batch.count) [
      | inl own ↦ inl (record { slot = had.slot; below = own; page = sym (done.copies had.slot own) ∙ stands; number_is = had.good.number_is })
      | inr past ↦
          let here : IsGoodPage page (piece 4096 had.slot done.double) = subst (IsGoodPage page) (sym stands) had.good in
          inr (record {
            slot = had.slot;
            below = had.below;
            good = had.good;
            whole = subst (WasWhole before.double (4096 * had.slot)) stands (done.others page had.slot past here);
          })
    ]

module _ (staged : StagedView) (is : IsBatch staged.batch) where
  -- the batch has the page, or hasn't
  pub has_or_not : (page n : ℕ) → n ≤ staged.batch.count
      → ((k : ℕ) × (k < n) × (number_at staged.batch k ≡ page)) ⊎ ((k : ℕ) → k < n → number_at staged.batch k ≡ page → ⊥)
  has_or_not page zero within = inr (λ k below same. absurd (omega (arith, below)))
  has_or_not page (suc n) within = elim (cases_eq (number_at staged.batch n) page) [
    | inl here ↦ inl (n, omega arith, here)
    | inr apart ↦
        elim (has_or_not page n (omega (arith, within))) [
          | inl found ↦ inl (found.0, omega (arith, found.1), found.2)
          | inr none ↦
              inr (λ k below same. elim (cases_lt k n) [
                | inl before ↦ none k before same
                | inr past ↦ let last : k ≡ n = omega (arith, below, past) in apart (subst (λ (j : ℕ). number_at staged.batch j ≡ page) last same)
              ])
        ]
  ]

  pub in_batch : (page k : ℕ) → k < staged.batch.count → number_at staged.batch k ≡ page → IsInBatch staged.batch page (page_at staged.batch k)
  in_batch page k below number = record { slot = k; below = below; page = refl; number_is = number }

  pub length-page : (k : ℕ) → k < staged.batch.count → length (page_at staged.batch k) ≡ 4096
  length-page k below = length-take-le 4096 (drop (4096 * k) staged.batch.bytes) (omega (arith, below, is.whole, length-drop (4096 * k) staged.batch.bytes))

  module _ (s : State) (has : HasPlaced staged s) (all : staged.placed ≡ staged.batch.count) where
    settled_at : (page k : ℕ) → k < staged.batch.count → number_at staged.batch k ≡ page → IsSettled page s.pages
    settled_at page k below number =
        let rest = has.synced all in
        let there : place_of (number_at staged.batch k) s.pages.seen ≡ page_at staged.batch k = has.each k (omega (arith, below, all)) in
        let place : place_of page s.pages.synced ≡ page_at staged.batch k =
        ap (place_of page) rest.1 ∙ ap (λ (n : ℕ). place_of n s.pages.seen) (sym number) ∙ there in
        let good : IsGoodPage page (page_at staged.batch k) = record { size = length-page k below; sum = is.sealed k below; number_is = number } in
        record { good = subst (IsGoodPage page) (sym place) good; spared = subst (All (Spares page)) (sym rest.0) (All-nil (Spares page)) }

    settled_in : (page : ℕ) (bytes : List ℕ) → IsInBatch staged.batch page bytes → IsSettled page s.pages
    settled_in page bytes here = settled_at page here.slot here.below (ap number_of here.page ∙ here.number_is)

    module _ (before : State) (done : IsStaged before staged.batch s) where
      copy_before : (page : ℕ) (bytes : List ℕ) → HadCopy page s.double bytes → ((k : ℕ) → k < staged.batch.count → number_at staged.batch k ≡ page → ⊥)
          → HadCopy page before.double bytes
      copy_before page bytes had apart =
          ⊎_elim
          (λ (here : IsInBatch staged.batch page bytes). absurd (apart here.slot here.below (ap number_of here.page ∙ here.number_is)))
          (λ (there : HadCopy page before.double bytes). there)
          (copy_from before s staged.batch done page bytes had)

      module _ (first flushed : ℕ) (groups : List Group) (base : ℕ → List ℕ) (placed : IsPlaced first flushed groups base before)
          (may : MayBePlaced first flushed groups base staged.batch before) where
        stage_now : (page : ℕ) (content : Option (List ℕ)) → page < 65536 → WasPage s page content → IsStage base groups (durable first flushed) page content
        stage_now page (Some bytes) below was =
            ⊎_elim
            (λ (here : IsInBatch staged.batch page bytes). may.stages page bytes here)
            (λ (whole : WasWhole before.pages (4096 * page) bytes). placed.stages page (Some bytes) below (was.0, whole))
            (done.held page bytes was.0 was.1)
        stage_now page None below was =
            placed.stages page None below (λ settled. was (done.settled page (λ bytes here. was (settled_in page bytes here)) settled))

        settled_now : (page : ℕ) → page < 65536 → IsSettled page s.pages ⊎ ((bytes : List ℕ) → HadCopy page s.double bytes → ⊥)
        settled_now page below = elim (has_or_not page staged.batch.count (omega arith)) [
          | inl found ↦ inl (settled_at page found.0 found.1 found.2)
          | inr apart ↦
              ⊎_elim
              (λ (settled : IsSettled page before.pages).
              inl (done.settled page (λ bytes here. apart here.slot here.below (ap number_of here.page ∙ here.number_is)) settled))
              (λ (none : (bytes : List ℕ) → HadCopy page before.double bytes → ⊥). inr (λ bytes had. none bytes (copy_before page bytes had apart)))
              (placed.settled page below)
        ]

        copies_now : (page : ℕ) (bytes : List ℕ) → page < 65536 → HadCopy page s.double bytes → IsOldCopy base groups (durable first flushed) page bytes
        copies_now page bytes below had =
            ⊎_elim
            (λ (here : IsInBatch staged.batch page bytes).
            record {
              are_bytes = may.are_bytes page bytes here;
              once = inl (may.stages page bytes here);
            })
            (λ (there : HadCopy page before.double bytes). placed.copies page bytes below there)
            (copy_from before s staged.batch done page bytes had)

        pub placed_still : IsPlaced first flushed groups base s
        placed_still = record { stages = stage_now; settled = settled_now; copies = copies_now }
