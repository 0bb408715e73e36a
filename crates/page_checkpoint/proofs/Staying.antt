-- Once page 0 is in its place, what stands there are the pages of the new run.
use Rattle.std.proofs.Common.{◌≡◌, ◌≢◌, ◌⊎◌, inl, inr, ⊎_elim, ℕ, ◌+◌, ◌*◌, ◌<◌, ◌≤◌, Option, Some, None, List, [], length, take, drop, sym, ap}
use Rattle.std.proofs.Common.{subst, ◌∙◌, arith}
use Rattle.std.specs.Prelude.{All, Contains}
use Rattle.std.proofs.lemmas.Bool.{cases_eq, cases_lt}
use Rattle.std.proofs.lemmas.List.Elements.{All-nil}
use Rattle.store_api.specs.Areas.{State, Write, WasWhole, Puts}
use Rattle.stored_pages.specs.Words.{lsn_of}
use Rattle.log_format.specs.declared.group.Group.{Group}
use Rattle.stored_pages.specs.Reading.{IsGoodPage, place_of}
use Rattle.doublewrite.specs.Batches.{StagedView, IsInBatch, page_at}
use Rattle.doublewrite.specs.Kept.{HadCopy, Spares, IsSettled, WasPage, IsStaged, HasPlaced}
use Rattle.law_logged_pages.specs.Stages.{AreBytes, SameButSum, WasOnce, IsStage}
use Rattle.law_logged_pages.specs.Applied.{logical}
use Rattle.law_logged_pages.specs.Keeping.{IsRun, IsPlaced, IsOldCopy, durable}
use Rattle.law_logged_pages.proofs.Edits.{lsn-same, same_itself}
use Rattle.law_logged_pages.proofs.Groups.{lsn_logical, lsn_from, not_past}
use Rattle.law_logged_pages.proofs.Afterwards.{copy_from}
use Rattle.page_checkpoint.specs.Checkpoints.{begun, IsClean, IsCheckpoint}
use Rattle.page_checkpoint.proofs.NewRuns.{begun_other, begun_first, size, in_batch, durable_is, copy_older, other_stage}

module _ (capacity run first : ℕ) (groups : List Group) (base : ℕ → List ℕ) (staged : StagedView) (before : State) (is : IsRun first groups base)
    (check : IsCheckpoint capacity run first groups staged.batch before) (flushed : ℕ) (clean : IsClean first flushed groups base before)
    (s : State) (done : IsStaged before staged.batch s) (has : HasPlaced staged s) (all : staged.placed ≡ staged.batch.count) where
  abbrev header : List ℕ
  header = page_at staged.batch 0

  abbrev Begun : ℕ → List ℕ
  Begun = begun header base groups

  abbrev n : ℕ
  n = durable (first + length groups + 1) (first + length groups)

  own : (page : ℕ) (bytes : List ℕ) → IsInBatch staged.batch page bytes → (bytes ≡ header) × (page ≡ 0)
  own = in_batch capacity run first groups base staged.batch before is check

  header_there : IsSettled 0 s.pages
  header_there =
      let rest = has.synced all in
      let first_of : 0 < staged.batch.count = omega (arith, check.alone) in
      let place : place_of 0 s.pages.synced ≡ header =
      ap (place_of 0) rest.1 ∙ ap (λ (p : ℕ). place_of p s.pages.seen) (sym check.number) ∙ has.each 0 (omega (arith, all, check.alone)) in
      let good : IsGoodPage 0 header = record {
        size = size capacity run first groups base staged.batch before is check;
        sum = check.is_batch.sealed 0 first_of;
        number_is = check.number;
      } in record {
        good = subst (IsGoodPage 0) (sym place) good;
        spared = subst (All (Spares 0)) (sym rest.0) (All-nil (Spares 0));
      }

  own_once : (page : ℕ) (bytes : List ℕ) → IsInBatch staged.batch page bytes → WasOnce Begun [] n page bytes
  own_once page bytes here =
      let are = own page bytes here in record {
        after = 0;
        upto = omega arith;
        same = subst (SameButSum bytes) (are.0 ∙ sym (begun_first header base groups page are.1)) (same_itself bytes);
      }

  stage : (page : ℕ) (content : Option (List ℕ)) → page < 65536 → WasPage s page content → IsStage Begun [] n page content
  stage page content below was = elim (cases_eq page 0) [
    | inl same ↦ first_page page content same was
    | inr unlike ↦ later_page page content below unlike was
  ] where
    first_page : (page : ℕ) (content : Option (List ℕ)) → page ≡ 0 → WasPage s page content → IsStage Begun [] n page content
    first_page page None same was = absurd (was (subst (λ (p : ℕ). IsSettled p s.pages) (sym same) header_there))
    first_page page (Some bytes) same was =
        let rest = has.synced all in
        let stood : take (length bytes) (drop (4096 * page) s.pages.synced) ≡ bytes =
        ⊎_elim (λ (there : take (length bytes) (drop (4096 * page) s.pages.synced) ≡ bytes). there)
        (λ (put : (w : Write) × Contains s.pages.writes w × Puts (4096 * page) bytes w).
        let none : Contains [] put.0 = subst (λ (ws : List Write). Contains ws put.0) rest.0 put.1 in absurd (omega (arith, none.1))) was.1 in
        let place : place_of page s.pages.seen ≡ bytes =
        ap (place_of page) (sym rest.1) ∙ (λ i. take (sym was.0.size i) (drop (4096 * page) s.pages.synced)) ∙ stood in
        let there : place_of 0 s.pages.seen ≡ header =
        ap (λ (p : ℕ). place_of p s.pages.seen) (sym check.number) ∙ has.each 0 (omega (arith, all, check.alone)) in
        let are : bytes ≡ header = sym place ∙ ap (λ (p : ℕ). place_of p s.pages.seen) same ∙ there in
        record {
          after = 0;
          upto = omega arith;
          same = subst (SameButSum bytes) (are ∙ sym (begun_first header base groups page same)) (same_itself bytes);
        }

    later_page : (page : ℕ) (content : Option (List ℕ)) → page < 65536 → page ≢ 0 → WasPage s page content → IsStage Begun [] n page content
    later_page page (Some bytes) below unlike was =
        ⊎_elim (λ (here : IsInBatch staged.batch page bytes). own_once page bytes here)
        (λ (whole : WasWhole before.pages (4096 * page) bytes).
        other_stage capacity run first groups base staged.batch before is check flushed clean page (Some bytes) unlike (was.0, whole) (clean.each page below))
        (done.held page bytes was.0 was.1)
    later_page page None below unlike was =
        other_stage capacity run first groups base staged.batch before is check flushed clean page None unlike
        (λ settled. was (done.settled page (λ bytes here. unlike (own page bytes here).1) settled)) (clean.each page below)

  settled : (page : ℕ) → page < 65536 → IsSettled page s.pages ⊎ ((bytes : List ℕ) → HadCopy page s.double bytes → ⊥)
  settled page below = elim (cases_eq page 0) [
    | inl same ↦ inl (subst (λ (p : ℕ). IsSettled p s.pages) (sym same) header_there)
    | inr unlike ↦
        ⊎_elim
        (λ (there : IsSettled page before.pages). inl (done.settled page (λ bytes here. unlike (own page bytes here).1) there))
        (λ (none : (bytes : List ℕ) → HadCopy page before.double bytes → ⊥).
        inr (λ bytes had.
        ⊎_elim (λ (here : IsInBatch staged.batch page bytes). unlike (own page bytes here).1)
        (λ (there : HadCopy page before.double bytes). none bytes there) (copy_from before s staged.batch done page bytes had)))
        (clean.placed.settled page below)
  ]

  -- ---- copies

  old_copy : (page : ℕ) (bytes : List ℕ) → page < 65536 → HadCopy page before.double bytes
      → WasOnce Begun [] n page bytes ⊎ (lsn_of bytes < lsn_of (Begun page))
  old_copy page bytes below had = elim (cases_eq page 0) [
    | inl same ↦
        let less = copy_older capacity run first groups base staged.batch before is check flushed clean page bytes below had in
        inr (omega (arith, less, ap (λ (l : List ℕ). lsn_of l) (begun_first header base groups page same), check.lsn))
    | inr unlike ↦ later_copy unlike (clean.placed.copies page bytes below had).once
  ] where
    later_copy : page ≢ 0 → WasOnce base groups (durable first flushed) page bytes ⊎ (lsn_of bytes < lsn_of (base page))
        → WasOnce Begun [] n page bytes ⊎ (lsn_of bytes < lsn_of (Begun page))
    later_copy unlike (inr earlier) =
        let rises = lsn_from first groups is.each base page (is.bases page) (length groups) in
        inr (omega (arith, earlier, rises, ap (λ (l : List ℕ). lsn_of l) (begun_other header base groups page unlike)))
    later_copy unlike (inl once) =
        let j : ℕ = once.after in
        let upto : j ≤ length groups = omega (arith, once.upto, durable_is capacity run first groups base staged.batch before is check flushed clean) in
        let last : List ℕ = logical base groups (length groups) page in
        elim (cases_lt (lsn_of last) (first + j)) [
          | inl below_it ↦
              let stays : last ≡ logical base groups j page = not_past first groups is.each base page (is.bases page) j (length groups) upto upto below_it in
              inl (record {
                after = 0;
                upto = omega arith;
                same = subst (SameButSum bytes) (sym (begun_other header base groups page unlike ∙ stays)) once.same;
              })
          | inr past ↦
              let less = lsn_logical first groups is.each base page (is.bases page) j upto in
              inr (omega (
                arith,
                past,
                less,
                lsn-same bytes (logical base groups j page) once.same.same,
                ap (λ (l : List ℕ). lsn_of l) (begun_other header base groups page unlike),
              ))
        ]

  copies : (page : ℕ) (bytes : List ℕ) → page < 65536 → HadCopy page s.double bytes → IsOldCopy Begun [] n page bytes
  copies page bytes below had =
      ⊎_elim
      (λ (here : IsInBatch staged.batch page bytes). record {
        are_bytes = subst (AreBytes 8) (sym (own page bytes here).0) check.are_bytes;
        once = inl (own_once page bytes here);
      })
      (λ (there : HadCopy page before.double bytes). record {
        are_bytes = (clean.placed.copies page bytes below there).are_bytes;
        once = old_copy page bytes below there;
      })
      (copy_from before s staged.batch done page bytes had)

  pub placed_new : IsPlaced (first + length groups + 1) (first + length groups) [] Begun s
  placed_new = record { stages = stage; settled = settled; copies = copies }
