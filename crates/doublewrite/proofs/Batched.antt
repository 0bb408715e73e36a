-- The pages of a batch.
use Rattle.std.proofs.Common.{◌≡◌, ◌≢◌, ◌⊎◌, inl, inr, ⊎_elim, ℕ, zero, suc, ◌+◌, ◌*◌, ◌<◌, ◌≤◌, List, [], ◌++◌, length, refl, sym, ◌∙◌, ap, subst, arith, length-append}
use Rattle.std.proofs.lemmas.Bool.{cases_lt, cases_eq}
use Rattle.std.proofs.lemmas.List.{take_at, take_all}
use Rattle.store_api.specs.Areas.{PassesSum, piece}
use Rattle.store_api.proofs.Pieces.{piece_front, piece_behind}
use Rattle.stored_pages.specs.Words.{number_of}
use Rattle.stored_pages.specs.Reading.{IsGoodPage}
use Rattle.doublewrite.specs.Batches.{BatchView, IsBatch, IsInBatch, page_at, number_at}
use Rattle.doublewrite.proofs.Bytes.{length-page}

module _ (batch : BatchView) (is : IsBatch batch) where
  pub length-page_at : (k : ℕ) → k < batch.count → length (page_at batch k) ≡ 4096
  length-page_at k below = length-page k batch.bytes (omega (arith, below, is.whole))

  -- each is a good page
  pub good_at : (k : ℕ) → k < batch.count → IsGoodPage (number_at batch k) (page_at batch k)
  good_at k below = record { size = length-page_at k below; sum = is.sealed k below; number_is = refl }

  pub one_number : (j k : ℕ) → j < batch.count → k < batch.count → number_at batch j ≡ number_at batch k → j ≡ k
  one_number j k in_j in_k same = elim (cases_lt j k) [
    | inl before ↦ absurd (is.distinct j k before in_k same)
    | inr from ↦ elim (cases_lt k j) [
      | inl behind ↦ absurd (is.distinct k j behind in_j (sym same))
      | inr to ↦ omega (arith, from, to)
    ]
  ]

  -- it has one content for a page
  pub one_page : (number : ℕ) (bytes other : List ℕ) → IsInBatch batch number bytes → IsInBatch batch number other → bytes ≡ other
  one_page number bytes other this that =
      let slot : this.slot ≡ that.slot = one_number this.slot that.slot this.below that.below (ap number_of this.page ∙ this.number_is ∙ sym (ap number_of that.page ∙ that.number_is)) in
      sym this.page ∙ ap (page_at batch) slot ∙ that.page

pub in_batch_at : (batch : BatchView) (k : ℕ) → k < batch.count → IsInBatch batch (number_at batch k) (page_at batch k)
in_batch_at batch k below = record { slot = k; below = below; page = refl; number_is = refl }

-- a page is in the batch, or it isn't
find_in : (batch : BatchView) (number n : ℕ) → n ≤ batch.count → ((bytes : List ℕ) × IsInBatch batch number bytes) ⊎ ((k : ℕ) → k < n → number_at batch k ≡ number → ⊥)
find_in batch number zero within = inr (λ k below same. absurd (omega (arith, below)))
find_in batch number (suc n) within =
    ⊎_elim
    (λ (here : number_at batch n ≡ number). inl (page_at batch n, record { slot = n; below = omega (arith, within); page = refl; number_is = here }))
    (λ (other : number_at batch n ≡ number → ⊥).
    ⊎_elim
    (λ (found : (bytes : List ℕ) × IsInBatch batch number bytes). inl found)
    (λ (none : (k : ℕ) → k < n → number_at batch k ≡ number → ⊥).
    inr (λ k below same. elim (cases_lt k n) [ inl before ↦ none k before same | inr last ↦ let here : k ≡ n = omega (arith, last, below) in other (subst (λ (m : ℕ). number_at batch m ≡ number) here same) ]))
    (find_in batch number n (omega (arith, within))))
    (cases_eq (number_at batch n) number)

pub in_or_out : (batch : BatchView) (number : ℕ) → ((bytes : List ℕ) × IsInBatch batch number bytes) ⊎ ((bytes : List ℕ) → IsInBatch batch number bytes → ⊥)
in_or_out batch number =
    ⊎_elim
    (λ (found : (bytes : List ℕ) × IsInBatch batch number bytes). inl found)
    (λ (none : (k : ℕ) → k < batch.count → number_at batch k ≡ number → ⊥). inr (λ bytes there. none there.slot there.below (ap number_of there.page ∙ there.number_is)))
    (find_in batch number batch.count (omega arith))

-- ---- one page more

module _ (batch : BatchView) (is : IsBatch batch) (page : List ℕ) (size : length page ≡ 4096) where
  abbrev with_page : BatchView
  with_page = record { count = batch.count + 1; bytes = batch.bytes ++ page }

  pub page_before : (k : ℕ) → k < batch.count → page_at with_page k ≡ page_at batch k
  page_before k below =
      piece_front 4096 batch.count k (batch.bytes ++ page) batch.bytes below
      (take_at batch.bytes page (4096 * batch.count) is.whole ∙ sym (take_all (4096 * batch.count) batch.bytes (omega (arith, is.whole))))

  pub page_last : page_at with_page batch.count ≡ page
  page_last =
      let place : batch.count + 0 ≡ batch.count = omega arith in
      subst (λ (n : ℕ). piece 4096 n (batch.bytes ++ page) ≡ page) place
      (piece_behind 4096 batch.count 0 batch.bytes page is.whole ∙ take_all 4096 page (omega (arith, size)))

  pub added : batch.count < 64 → PassesSum page → ((k : ℕ) → k < batch.count → number_at batch k ≢ number_of page) → IsBatch with_page
  added room sealed apart = record {
    few = omega (arith, room);
    whole = omega (arith, is.whole, size, length-append batch.bytes page);
    sealed = λ k below. elim (cases_lt k batch.count) [
      | inl before ↦ subst PassesSum (sym (page_before k before)) (is.sealed k before)
      | inr last ↦ let here : k ≡ batch.count = omega (arith, last, below) in subst PassesSum (sym (ap (page_at with_page) here ∙ page_last)) sealed
    ];
    distinct = λ j k before below same.
        let in_j : j < batch.count = omega (arith, before, below) in
        let first = ap number_of (page_before j in_j) in
        elim (cases_lt k batch.count) [
          | inl in_k ↦ is.distinct j k before in_k (sym first ∙ same ∙ ap number_of (page_before k in_k))
          | inr last ↦ let here : k ≡ batch.count = omega (arith, last, below) in apart j in_j (sym first ∙ same ∙ ap number_of (ap (page_at with_page) here ∙ page_last))
        ];
  }

pub none_yet : IsBatch (record { count = 0; bytes = [] })
none_yet = record { few = omega arith; whole = refl; sealed = λ k below. absurd (omega (arith, below)); distinct = λ j k before below. absurd (omega (arith, below)) }
