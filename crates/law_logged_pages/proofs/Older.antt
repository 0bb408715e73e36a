-- Copies that are old are older than a page's newest content, or the same.
use Rattle.std.proofs.Common.{◌≡◌, ◌⊎◌, inl, inr, ℕ, ◌<◌, ◌≤◌, List, ◌++◌, length, take, drop, refl, sym, ap, subst, ◌∙◌, arith, take-append-drop}
use Rattle.std.specs.Int.{w64, to_be_bytes, from_be_bytes}
use Rattle.std.proofs.lemmas.Bool.{cases_lt}
use Rattle.std.proofs.lemmas.List.{length-take-le}
use Rattle.std.proofs.lemmas.Nat.{be_bytes_8}
use Rattle.store_api.specs.Areas.{PassesSum}
use Rattle.stored_pages.specs.Words.{lsn_of}
use Rattle.log_format.specs.declared.group.Group.{Group}
use Rattle.law_logged_pages.specs.Applied.{logical}
use Rattle.law_logged_pages.specs.Stages.{AreBytes, SameButSum, WasOnce}
use Rattle.law_logged_pages.specs.Keeping.{IsRun, IsOldCopy}
use Rattle.law_logged_pages.proofs.Edits.{same_sym, same_along, bytes_within, lsn-same}
use Rattle.law_logged_pages.proofs.Groups.{length-logical, not_past, lsn_from, lsn_logical}

-- two pages that pass their sums, and differ in them at most, are one
same_sums : (a b : List ℕ) → length a ≡ 4096 → length b ≡ 4096 → AreBytes 8 a → AreBytes 8 b
    → PassesSum a → PassesSum b → SameButSum a b → a ≡ b
same_sums a b size_a size_b bytes_a bytes_b sum_a sum_b is =
    let same : drop 8 a ≡ drop 8 b = is.same in
    let sums : from_be_bytes w64 (take 8 a) ≡ from_be_bytes w64 (take 8 b) = cc in
    let front_a : to_be_bytes w64 (from_be_bytes w64 (take 8 a)) ≡ take 8 a =
    be_bytes_8 (take 8 a) (from_be_bytes w64 (take 8 a)) (length-take-le 8 a (omega (arith, size_a))) (bytes_within 0 8 a bytes_a) refl in
    let front_b : to_be_bytes w64 (from_be_bytes w64 (take 8 b)) ≡ take 8 b =
    be_bytes_8 (take 8 b) (from_be_bytes w64 (take 8 b)) (length-take-le 8 b (omega (arith, size_b))) (bytes_within 0 8 b bytes_b) refl in
    let front : take 8 a ≡ take 8 b = sym front_a ∙ ap (to_be_bytes w64) sums ∙ front_b in
    sym (take-append-drop 8 a) ∙ ap (λ (l : List ℕ). l ++ drop 8 a) front ∙ ap (λ (l : List ℕ). take 8 b ++ l) same ∙ take-append-drop 8 b

module _ (first : ℕ) (groups : List Group) (base : ℕ → List ℕ) (run : IsRun first groups base) (page : ℕ) (bytes : List ℕ)
    (newest : SameButSum bytes (logical base groups (length groups) page)) (sum : PassesSum bytes) (are_bytes : AreBytes 8 bytes) where
  lsn_is : lsn_of bytes ≡ lsn_of (logical base groups (length groups) page)
  lsn_is = lsn-same bytes (logical base groups (length groups) page) newest.same

  size_is : length bytes ≡ 4096
  size_is = newest.size ∙ length-logical first groups run.each base page (run.bases page) (length groups)

  pub older : (count : ℕ) (other : List ℕ) → count ≤ length groups → length other ≡ 4096 → PassesSum other → IsOldCopy base groups count page other
      → (other ≡ bytes) ⊎ (lsn_of other < lsn_of bytes)
  older count other some size passes old = by_age old.once where
    once_older : WasOnce base groups count page other → (lsn_of other < lsn_of bytes) ⊎ (lsn_of bytes ≤ lsn_of other)
        → (other ≡ bytes) ⊎ (lsn_of other < lsn_of bytes)
    once_older was (inl below) = inr below
    once_older was (inr past) =
        let lsn : lsn_of other ≡ lsn_of (logical base groups was.after page) = lsn-same other (logical base groups was.after page) was.same.same in
        let within : was.after ≤ length groups = omega (arith, was.upto, some) in
        let below = lsn_logical first groups run.each base page (run.bases page) was.after within in
        let stays : logical base groups (length groups) page ≡ logical base groups was.after page =
        not_past first groups run.each base page (run.bases page) was.after (length groups) within within (omega (arith, lsn, lsn_is, past, below)) in
        let same : SameButSum other bytes =
        same_along other (logical base groups was.after page) bytes was.same
        (same_sym bytes (logical base groups was.after page) (subst (SameButSum bytes) stays newest)) in
        inl (same_sums other bytes size size_is old.are_bytes are_bytes passes sum same)

    by_age : WasOnce base groups count page other ⊎ (lsn_of other < lsn_of (base page)) → (other ≡ bytes) ⊎ (lsn_of other < lsn_of bytes)
    by_age (inl was) = once_older was (cases_lt (lsn_of other) (lsn_of bytes))
    by_age (inr before) = let from = lsn_from first groups run.each base page (run.bases page) (length groups) in inr (omega (arith, before, from, lsn_is))
