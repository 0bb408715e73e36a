-- A page that is put in place of another.
use Rattle.std.proofs.Common.{◌≡◌, inl, inr, ℕ, zero, suc, ◌^◌, ◌<◌, Option, Some, None, List, length, take, replicate, refl, sym, ap, subst, ◌∙◌, arith}
use Rattle.std.specs.Prelude.{slice_index_or, slice_set}
use Rattle.std.specs.Int.{w64, from_be_bytes}
use Rattle.std.proofs.lemmas.Bool.{cases_eq}
use Rattle.std.proofs.lemmas.List.{set-set, length-set, get_or-set_same, get_or-set_other, drop-replicate, take-replicate, length-replicate}
use Rattle.stored_pages.specs.Words.{u64_at, lsn_of}
use Rattle.mini_txn.specs.Edits.{blank}
use Rattle.law_logged_pages.specs.Stages.{or_zeros}
use Rattle.law_logged_pages.proofs.Edits.{length-blank}
use Rattle.page_recovery.specs.Pages.{page_of, ArePages, HasInstead}

pub set_again : (slots : List (Option (List ℕ))) (page : ℕ) (slot : Option (List ℕ)) {once twice : List (Option (List ℕ))}
    → once ≡ slice_set slots page None → twice ≡ slice_set once page slot → twice ≡ slice_set slots page slot
set_again slots page slot one two = two ∙ ap (λ (xs : List (Option (List ℕ))). slice_set xs page slot) one ∙ set-set slots page None slot

pub instead : (slots new : List (Option (List ℕ))) (page : ℕ) (bytes : List ℕ) → page < length slots → new ≡ slice_set slots page (Some bytes)
    → HasInstead page bytes slots new
instead slots new page bytes within is =
    subst (HasInstead page bytes slots) (sym is)
    (record {
      count = length-set slots page (Some bytes);
      here = ap or_zeros (get_or-set_same slots page (Some bytes) None within);
      elsewhere = λ other unlike. ap or_zeros (get_or-set_other slots page other (Some bytes) None unlike);
    })

pub pages_instead : (page : ℕ) (bytes : List ℕ) (old new : List (Option (List ℕ))) → ArePages old → HasInstead page bytes old new → length bytes ≡ 4096
    → ArePages new
pages_instead page bytes old new are has size = record {
  whole = λ other. elim (cases_eq other page) [
    | inl same ↦ ap (λ (p : ℕ). length (page_of new p)) same ∙ ap (λ (l : List ℕ). length l) has.here ∙ size
    | inr unlike ↦ ap (λ (l : List ℕ). length l) (has.elsewhere other unlike) ∙ are.whole other
  ];
  few = omega (arith, has.count, are.few);
}

-- a page that isn't there is none, and whole
pub absent_whole : (slot : Option (List ℕ)) → slot ≡ None → length (or_zeros slot) ≡ 4096
absent_whole slot none = ap (λ (s : Option (List ℕ)). length (or_zeros s)) none ∙ length-blank

pub lsn-blank : lsn_of blank ≡ 0
unfolding u64_at blank
lsn-blank =
    ap (from_be_bytes w64) (ap (take 8) (drop-replicate {X = ℕ} 12 4096 0) ∙ take-replicate {X = ℕ} 8 4084 0 (omega arith))

-- a page that is taken out is zeros
pub pages_without : (slots new : List (Option (List ℕ))) (page : ℕ) → page < length slots → ArePages slots → new ≡ slice_set slots page None → ArePages new
pages_without slots new page within are is =
    subst ArePages (sym is)
    (record {
      whole = λ other. elim (cases_eq other page) [
        | inl same ↦
            ap (λ (p : ℕ). length (page_of (slice_set slots page None) p)) same
            ∙ absent_whole (slice_index_or (slice_set slots page None) page None) (get_or-set_same slots page None None within)
        | inr unlike ↦ ap (λ (s : Option (List ℕ)). length (or_zeros s)) (get_or-set_other slots page other None None unlike) ∙ are.whole other
      ];
      few = omega (arith, length-set slots page None, are.few);
    })

-- none is there
pub none_there : (count page : ℕ) → slice_index_or (replicate {A = Option (List ℕ)} count None) page None ≡ None
none_there zero page = refl
none_there (suc count) zero = refl
none_there (suc count) (suc page) = none_there count page

pub pages_none : (count : ℕ) (slots : List (Option (List ℕ))) → count < 2 ^ 32 → slots ≡ replicate count None → ArePages slots
pages_none count slots fits is =
    subst ArePages (sym is)
    (record {
      whole = λ page. absent_whole (slice_index_or (replicate count None) page None) (none_there count page);
      few = omega (arith, length-replicate {A = Option (List ℕ)} count None, fits);
    })

pub length-none : (bytes : List ℕ) → bytes ≡ blank → length bytes ≡ 4096
length-none bytes is = ap (λ (l : List ℕ). length l) is ∙ length-blank
