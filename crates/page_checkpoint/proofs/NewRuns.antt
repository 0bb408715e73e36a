-- A new run begins with the pages that all groups have left.
use Rattle.std.proofs.Common.{◌≡◌, ◌≢◌, ◌⊎◌, inl, inr, ⊎_elim, ℕ, ◌+◌, ◌*◌, ◌<◌, ◌≤◌, Bool, cond, Option, Some}
use Rattle.std.proofs.Common.{None, List, [], ◌++◌, length, take, drop, refl, sym, ap, subst, ◌∙◌, arith, length-append}
use Rattle.std.specs.Prelude.{All, Contains}
use Rattle.std.proofs.lemmas.Bool.{cases_eq, ne_eqb}
use Rattle.std.proofs.lemmas.List.Elements.{All-nil, All-contains}
use Rattle.store_api.specs.Areas.{State, Image, Write, Contents, Puts, MayLeave, IsImage, IsHonest, IsHonestArea, end_of}
use Rattle.schema_codec.specs.Numbers.{u32_bytes}
use Rattle.schema_codec.proofs.Lengths.{length-u32}
use Rattle.stored_pages.specs.Words.{number_of, lsn_of}
use Rattle.log_format.specs.declared.group.Group.{Group}
use Rattle.log_format.specs.Group.{group_bytes, body}
use Rattle.log_format.specs.Scan.{NoGroup}
use Rattle.redo_log.specs.Logged.{LeavesPrefix}
use Rattle.stored_pages.specs.Reading.{IsGoodPage, IsPageIn, place_of}
use Rattle.doublewrite.specs.Batches.{BatchView, IsInBatch, IsInBatchToo, page_at}
use Rattle.doublewrite.specs.Kept.{HadCopy, Spares, IsSettled, WasPage, IsPageReady, KeepsPages}
use Rattle.law_logged_pages.specs.Applied.{logical}
use Rattle.law_logged_pages.specs.Stages.{SameButSum, WasOnce, IsStage}
use Rattle.law_logged_pages.specs.Heads.{SparesHead}
use Rattle.law_logged_pages.specs.Keeping.{IsRun, durable}
use Rattle.law_logged_pages.proofs.Edits.{lsn-same, same_itself}
use Rattle.law_logged_pages.proofs.Groups.{lsn_logical, length-logical}
use Rattle.law_logged_pages.proofs.Afterwards.{length-page}
use Rattle.mini_txn.proofs.Bodies.{blank_is}
use Rattle.flusher.specs.Flushing.{IsHome, IsNowhere}
use Rattle.page_recovery.specs.Leaving.{IsFileRun, LeavesRun}
use Rattle.page_checkpoint.specs.Checkpoints.{begun, IsClean, IsCheckpoint}

-- ---- the pages of the new run

pub begun_other : (header : List ℕ) (base : ℕ → List ℕ) (groups : List Group) (page : ℕ) → page ≢ 0
    → begun header base groups page ≡ logical base groups (length groups) page
begun_other header base groups page unlike =
    ap (λ (b : Bool). cond b header (logical base groups (length groups) page)) (ne_eqb page 0 unlike)

pub begun_first : (header : List ℕ) (base : ℕ → List ℕ) (groups : List Group) (page : ℕ) → page ≡ 0 → begun header base groups page ≡ header
begun_first header base groups page is = ap (begun header base groups) is

module _ (capacity run first : ℕ) (groups : List Group) (base : ℕ → List ℕ) (batch : BatchView) (before : State) (is : IsRun first groups base)
    (check : IsCheckpoint capacity run first groups batch before) where
  abbrev pub header : List ℕ
  header = page_at batch 0

  pub size : length header ≡ 4096
  size = length-page (record { batch = batch; placed = 0 }) check.is_batch 0 (omega (arith, check.alone))

  pub begins : IsFileRun capacity (run + 1) (first + length groups + 1) [] (begun header base groups)
  begins = record {
    is = record {
      each = tt;
      bases = λ page. elim (cases_eq page 0) [
        | inl same ↦ record {
          size = ap (λ (l : List ℕ). length l) (begun_first header base groups page same) ∙ size;
          before = omega (arith, ap (λ (l : List ℕ). lsn_of l) (begun_first header base groups page same), check.lsn);
        }
        | inr unlike ↦ record {
          size =
              ap (λ (l : List ℕ). length l) (begun_other header base groups page unlike)
              ∙ length-logical first groups is.each base page (is.bases page) (length groups);
          before =
              let lsn = lsn_logical first groups is.each base page (is.bases page) (length groups) (omega arith) in
              omega (arith, ap (λ (l : List ℕ). lsn_of l) (begun_other header base groups page unlike), lsn);
        }
      ];
    };
    spared = All-nil (λ g. All SparesHead g.records);
    header = check.header;
  }

  -- ---- what a crash leaves

  pub in_batch : (page : ℕ) (bytes : List ℕ) → IsInBatch batch page bytes → (bytes ≡ header) × (page ≡ 0)
  in_batch page bytes here =
      let slot : here.slot ≡ 0 = omega (arith, here.below, check.alone) in
      let same : bytes ≡ header = sym here.page ∙ ap (page_at batch) slot in
      (same, sym here.number_is ∙ ap (λ (l : List ℕ). number_of l) same ∙ check.number)

  older_stage : (page after : ℕ) (bytes : List ℕ) → after ≤ length groups → SameButSum bytes (logical base groups after page)
      → lsn_of bytes < first + length groups
  older_stage page after bytes upto same =
      let lsn = lsn_logical first groups is.each base page (is.bases page) after upto in
      omega (arith, lsn-same bytes (logical base groups after page) same.same, lsn, upto)

  module _ (flushed : ℕ) (clean : IsClean first flushed groups base before) where
    pub durable_is : durable first flushed ≡ length groups
    durable_is = omega (arith, clean.all)

    -- what the page was before the checkpoint has a lower LSN
    pub was_older : (page : ℕ) (bytes : List ℕ) → page < 65536 → WasPage before page (Some bytes) → lsn_of bytes < first + length groups
    was_older page bytes below was =
        let once : WasOnce base groups (durable first flushed) page bytes = clean.placed.stages page (Some bytes) below was in
        older_stage page once.after bytes (omega (arith, once.upto, durable_is)) once.same

    pub copy_older : (page : ℕ) (other : List ℕ) → page < 65536 → HadCopy page before.double other → lsn_of other < first + length groups
    copy_older page other below had =
        let old = clean.placed.copies page other below had in
        ⊎_elim
        (λ (once : WasOnce base groups (durable first flushed) page other).
        older_stage page once.after other (omega (arith, once.upto, durable_is)) once.same)
        (λ (earlier : lsn_of other < lsn_of (base page)). omega (arith, earlier, (is.bases page).before))
        old.once

    ready : (page : ℕ) → page < 65536 → IsPageReady batch before page
    ready page below = record {
      settled = clean.placed.settled page below;
      older = λ bytes other here had.
          let same = (in_batch page bytes here).0 in
          let less = copy_older page other below had in
          inr (omega (arith, less, ap (λ (l : List ℕ). lsn_of l) same, check.lsn));
    }

    stood : (page : ℕ) (b : List ℕ) → IsSettled page before.pages → WasPage before page (Some b) → b ≡ place_of page before.pages.synced
    stood page b settled was =
        ⊎_elim
        (λ (there : take (length b) (drop (4096 * page) before.pages.synced) ≡ b).
        sym there ∙ (λ i. take (was.0.size i) (drop (4096 * page) before.pages.synced)))
        (λ (put : (w : Write) × Contains before.pages.writes w × Puts (4096 * page) b w).
        let spares = All-contains (Spares page) before.pages.writes put.0 settled.spared put.1 in
        absurd (⊎_elim
        (λ (early : end_of put.0 ≤ 4096 * page). omega (arith, early, put.2.ends, was.0.size))
        (λ (late : 4096 * (page + 1) ≤ put.0.at). omega (arith, late, put.2.begins)) spares))
        was.1

    -- a page that the checkpoint leaves is what it is after all groups
    pub other_stage : (page : ℕ) (content : Option (List ℕ)) → page ≢ 0 → WasPage before page content
        → IsHome page (logical base groups (length groups) page) before ⊎ IsNowhere page (logical base groups (length groups) page) before
        → IsStage (begun header base groups) [] (durable (first + length groups + 1) (first + length groups)) page content
    other_stage page (Some b) unlike old (inl home) = record {
      after = 0;
      upto = omega arith;
      same =
          subst (SameButSum b) (sym (begun_other header base groups page unlike))
          (subst (λ (l : List ℕ). SameButSum l (logical base groups (length groups) page)) (sym (stood page b home.settled old)) home.same);
    }
    other_stage page (Some b) unlike old (inr nowhere) = absurd (nowhere.no_page b old)
    other_stage page None unlike old (inl home) = absurd (old home.settled)
    other_stage page None unlike old (inr nowhere) = record {
      zeros = begun_other header base groups page unlike ∙ nowhere.zeros ∙ sym blank_is;
      fresh = refl;
    }

    own_number : (page : ℕ) (content : Option (List ℕ)) → IsInBatchToo batch page content → page ≡ 0
    own_number page (Some b) own = (in_batch page b own).1
    own_number page None own = absurd own

    module _ (s : State) (image : Image) (keeps : KeepsPages before batch s) (left : IsImage s image) (honest : IsHonest s image) where
      found : (page : ℕ) (content : Option (List ℕ)) → page < 65536 → IsPageIn image.pages image.double page content
          → WasPage before page content ⊎ IsInBatchToo batch page content
      found page content below at = keeps.each image left honest page content (ready page below) at

      -- two readings of a page have one LSN
      one_lsn : (page : ℕ) (a b : List ℕ) → IsPageIn image.pages image.double page (Some a) → IsPageIn image.pages image.double page (Some b)
          → lsn_of a ≡ lsn_of b
      one_lsn page a b (inl x) (inl y) = ap (λ (l : List ℕ). lsn_of l) (sym x.0 ∙ y.0)
      one_lsn page a b (inl x) (inr y) = absurd (y.0 (subst (IsGoodPage page) (sym x.0) x.1))
      one_lsn page a b (inr x) (inl y) = absurd (x.0 (subst (IsGoodPage page) (sym y.0) y.1))
      one_lsn page a b (inr x) (inr y) =
          let up = y.1.newest a x.1.copy in
          let down = x.1.newest b y.1.copy in
          omega (arith, up, down)

      some_or_none : (page : ℕ) (a : List ℕ) → IsPageIn image.pages image.double page (Some a) → IsPageIn image.pages image.double page None → ⊥
      some_or_none page a (inl x) none = none.0 (subst (IsGoodPage page) (sym x.0) x.1)
      some_or_none page a (inr x) none = none.1 a x.1.copy

      left_log : MayLeave before.log image.log
      left_log = subst (λ (c : Contents). MayLeave c image.log) keeps.log_is left.log

      honest_log : IsHonestArea 512 before.log image.log
      honest_log = subst (λ (c : Contents). IsHonestArea 512 c image.log) keeps.log_is honest.log

      -- page 0 is read as it was
      still_old : (bytes : List ℕ) → IsPageIn image.pages image.double 0 (Some bytes) → WasPage before 0 (Some bytes)
          → LeavesPrefix run first groups flushed before.log → LeavesRun run first flushed groups base image
      still_old bytes at was log = record {
        now = flushed;
        later = omega arith;
        log = log image.log left_log honest_log;
        pages = pages;
      } where
        pages : (page : ℕ) (content : Option (List ℕ)) → page < 65536 → IsPageIn image.pages image.double page content
            → IsStage base groups (durable first flushed) page content
        pages page None below here = ⊎_elim (λ (old : WasPage before page None). clean.placed.stages page None below old) (λ (none : ⊥). absurd none)
            (found page None below here)
        pages page (Some b) below here =
            ⊎_elim (λ (old : WasPage before page (Some b)). clean.placed.stages page (Some b) below old)
            (λ (new : IsInBatch batch page b).
            let are = in_batch page b new in
            let less = was_older 0 bytes (omega arith) was in
            let again : IsPageIn image.pages image.double 0 (Some b) =
            subst (λ (p : ℕ). IsPageIn image.pages image.double p (Some b)) are.1 here in
            let same = one_lsn 0 bytes b at again in
            absurd (omega (arith, less, same, ap (λ (l : List ℕ). lsn_of l) are.0, check.lsn)))
            (found page (Some b) below here)

      -- ---- page 0 is read as it is written

      no_group : (lsn : ℕ) → NoGroup lsn []
      unfolding group_bytes
      no_group lsn g more is_group number spelled =
          absurd (omega (
            arith,
            ap (λ (l : List ℕ). length l) spelled,
            length-append (u32_bytes (length (body g)) ++ body g) more,
            length-append (u32_bytes (length (body g))) (body g),
            length-u32 (length (body g)),
          ))

      abbrev Begun : ℕ → List ℕ
      Begun = begun header base groups

      new_run : (bytes : List ℕ) → IsPageIn image.pages image.double 0 (Some bytes) → IsInBatch batch 0 bytes
          → LeavesRun (run + 1) (first + length groups + 1) (first + length groups) [] Begun image
      new_run bytes at new = record {
        now = first + length groups;
        later = omega arith;
        log = record {
          count = 0;
          some = omega arith;
          all_flushed = omega arith;
          scan = record {
            stream = [];
            payload = record { blocks = 0; good = λ k below. absurd (omega (arith, below)); bad = check.unused image.log left_log honest_log; payload = refl };
            held = record { rest = []; whole = refl; each = tt; ends = no_group (first + length groups + 1 + 0) };
          };
        };
        pages = λ page content below here. elim (cases_eq page 0) [
          | inl same ↦ first_page page content below same here
          | inr unlike ↦
              ⊎_elim (λ (old : WasPage before page content). other_stage page content unlike old (clean.each page below))
              (λ (own : IsInBatchToo batch page content). absurd (unlike (own_number page content own))) (found page content below here)
        ];
      } where
        first_page : (page : ℕ) (content : Option (List ℕ)) → page < 65536 → page ≡ 0 → IsPageIn image.pages image.double page content
            → IsStage Begun [] (durable (first + length groups + 1) (first + length groups)) page content
        first_page page None below same here =
            absurd (some_or_none 0 bytes at (subst (λ (p : ℕ). IsPageIn image.pages image.double p None) same here))
        first_page page (Some b) below same here =
            ⊎_elim
            (λ (old : WasPage before page (Some b)).
            let less = was_older page b below old in
            let lsn = one_lsn 0 bytes b at (subst (λ (p : ℕ). IsPageIn image.pages image.double p (Some b)) same here) in
            absurd (omega (arith, less, lsn, ap (λ (l : List ℕ). lsn_of l) (in_batch 0 bytes new).0, check.lsn)))
            (λ (own : IsInBatch batch page b). record {
              after = 0;
              upto = omega arith;
              same = subst (SameButSum b) ((in_batch page b own).0 ∙ sym (begun_first header base groups page same)) (same_itself b);
            })
            (found page (Some b) below here)

      pub either_run : (bytes : List ℕ) → IsPageIn image.pages image.double 0 (Some bytes) → LeavesPrefix run first groups flushed before.log
          → LeavesRun run first flushed groups base image
          ⊎ LeavesRun (run + 1) (first + length groups + 1) (first + length groups) [] Begun image
      either_run bytes at log =
          ⊎_elim (λ (was : WasPage before 0 (Some bytes)). inl (still_old bytes at was log))
          (λ (new : IsInBatch batch 0 bytes). inr (new_run bytes at new)) (found 0 (Some bytes) (omega arith) at)
