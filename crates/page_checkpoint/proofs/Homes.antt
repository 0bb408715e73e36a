-- Pages that are in their places stay there while page 0 is staged and placed.
use Rattle.std.proofs.Common.{◌≡◌, ◌≢◌, inl, ⊎_elim, ℕ, ◌+◌, ◌*◌, ◌≤◌, Bool, cond, List, length, take, drop, refl, sym, ap, subst}
use Rattle.std.proofs.Common.{◌∙◌, arith}
use Rattle.std.specs.Prelude.{All, Contains}
use Rattle.std.proofs.lemmas.Bool.{ne_eqb}
use Rattle.std.proofs.lemmas.List.Elements.{All-nil, All-contains}
use Rattle.store_api.specs.Areas.{State, Write, WasWhole, Puts, end_of}
use Rattle.stored_pages.specs.Words.{number_of}
use Rattle.log_format.specs.declared.group.Group.{Group}
use Rattle.stored_pages.specs.Reading.{IsGoodPage, place_of}
use Rattle.doublewrite.specs.Batches.{IsInBatch, page_at}
use Rattle.doublewrite.specs.Kept.{Spares, IsSettled, IsStaged, HasPlaced}
use Rattle.law_logged_pages.specs.Applied.{logical}
use Rattle.law_logged_pages.specs.Stages.{SameButSum}
use Rattle.law_logged_pages.proofs.Edits.{same_itself}
use Rattle.flusher.specs.Flushing.{IsHome, IsNowhere}
use Rattle.flusher.proofs.Homes as homes
use Rattle.page_checkpoint.specs.Checkpoints.{begun}
use Rattle.page_checkpoint.specs.Beginning.{alone}
use Rattle.page_checkpoint.proofs.Alone.{page_alone}

pub begun_later : (header : List ℕ) (base : ℕ → List ℕ) (groups : List Group) (page : ℕ) → page ≢ 0
    → begun header base groups page ≡ logical base groups (length groups) page
begun_later header base groups page later = ap (λ (b : Bool). cond b header (logical base groups (length groups) page)) (ne_eqb page 0 later)

module _ (header : List ℕ) (good : IsGoodPage 0 header) where
  same : page_at (alone header) 0 ≡ header
  same = page_alone header good.size

  -- no other page is in the batch
  not_in : (page : ℕ) (bytes : List ℕ) → page ≢ 0 → IsInBatch (alone header) page bytes → ⊥
  not_in page bytes later here =
      let slot : here.slot ≡ 0 = omega (arith, here.below) in
      let is : bytes ≡ header = sym here.page ∙ ap (page_at (alone header)) slot ∙ same in
      later (sym here.number_is ∙ ap (λ (l : List ℕ). number_of l) is ∙ good.number_is)

  module _ (s : State) (has : HasPlaced (record { batch = alone header; placed = 1 }) s) where
    there : place_of 0 s.pages.synced ≡ header
    there =
        ap (place_of 0) (has.synced refl).1 ∙ ap (λ (p : ℕ). place_of p s.pages.seen) (sym (ap (λ (l : List ℕ). number_of l) same ∙ good.number_is))
        ∙ has.each 0 (omega arith) ∙ same

    pub header_home : IsHome 0 header s
    header_home = record {
      settled = record {
        good = subst (IsGoodPage 0) (sym there) good;
        spared = subst (All (Spares 0)) (sym (has.synced refl).0) (All-nil (Spares 0));
      };
      same = subst (λ (l : List ℕ). SameButSum l header) (sym there) (same_itself header);
    }

  module _ (b s : State) (staged : IsStaged b (alone header) s) (page : ℕ) (later : page ≢ 0) (bytes : List ℕ) where
    pub stays_home : IsHome page bytes b → IsHome page bytes s
    stays_home = homes.stays_home (alone header) b s staged page (λ other here. not_in page other later here) bytes

    pub stays_nowhere : IsNowhere page bytes b → IsNowhere page bytes s
    stays_nowhere = homes.stays_nowhere (alone header) b s staged page (λ other here. not_in page other later here) bytes
