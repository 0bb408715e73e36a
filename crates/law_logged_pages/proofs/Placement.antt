-- Pages that are placed through the doublewrite stay at stages.
use Rattle.std.proofs.Common.{◌≡◌, ◌⊎◌, inl, inr, ⊎_elim, ℕ, ◌+◌, ◌*◌, ◌<◌, ◌≤◌, Option, Some, None, List, ◌++◌, length, drop, sym, subst, arith, length-take}
use Rattle.std.proofs.Common.{length-drop}
use Rattle.std.specs.Prelude.{IsTrue}
use Rattle.std.proofs.lemmas.List.Elements.{All-weaker}
use Rattle.store_api.specs.Areas.{Write, Contents, State, Image, MayLeave, Misses, IsImage, IsHonest, IsHonestArea, WasWhole, PassesSum, piece, end_of}
use Rattle.stored_pages.specs.Words.{lsn_of}
use Rattle.store_api.proofs.Pieces.{same_part}
use Rattle.log_format.specs.declared.group.Group.{Group}
use Rattle.redo_log.specs.Logged.{LeavesPrefix}
use Rattle.stored_pages.specs.Reading.{IsGoodPage, IsPageIn, place_of}
use Rattle.doublewrite.specs.Batches.{BatchView, IsInBatch, IsInBatchToo}
use Rattle.doublewrite.specs.Kept.{HadCopy, Spares, IsSettled, WasPage, IsPageReady, KeepsPages}
use Rattle.law_logged_pages.specs.Stages.{begins_fresh, records_in, WasOnce, IsUnwritten, IsStage}
use Rattle.law_logged_pages.specs.Keeping.{IsRun, Keeps, IsPlaced, IsLoggedBefore, IsOldCopy, MayBePlaced, durable}
use Rattle.law_logged_pages.proofs.Leading.{flushed_once, stage_stays}
use Rattle.law_logged_pages.proofs.Older.{older}

-- ---- pages in an image

pub inside : (k : ℕ) (xs : List ℕ) → length (piece 4096 k xs) ≡ 4096 → 4096 * k + 4096 ≤ length xs
inside k xs size = omega (arith, size, length-take 4096 (drop (4096 * k) xs), length-drop (4096 * k) xs)

misses_place : (page i : ℕ) (w : Write) → 4096 * page ≤ i → i < 4096 * page + 4096 → Spares page w → Misses i w
misses_place page i w from to spares =
    ⊎_elim
    (λ (before : end_of w ≤ 4096 * page). inr (omega (arith, before, from)))
    (λ (behind : 4096 * (page + 1) ≤ w.at). inl (omega (arith, behind, to)))
    spares

-- every crash leaves a settled page good
pub settled_good : (page : ℕ) (c : Contents) (image : List ℕ) → IsSettled page c → MayLeave c image → IsGoodPage page (place_of page image)
settled_good page c image settled left =
    let within = inside page c.synced settled.good.size in
    let same : place_of page image ≡ place_of page c.synced =
    same_part (4096 * page) 4096 image c.synced (omega (arith, within, left.no_shorter)) within
    (λ i from to.
    left.same i (omega (arith, to, within))
    (All-weaker (Spares page) (Misses i) (λ (w : Write) spares. misses_place page i w from to spares) c.writes settled.spared)) in
    subst (IsGoodPage page) (sym same) settled.good

-- good bytes of an honest image stood there whole
pub was_whole : (k page : ℕ) (c : Contents) (image bytes : List ℕ) → IsHonestArea 4096 c image → piece 4096 k image ≡ bytes → IsGoodPage page bytes
    → WasWhole c (4096 * k) bytes
was_whole k page c image bytes honest stands good =
    let here : IsGoodPage page (piece 4096 k image) = subst (IsGoodPage page) (sym stands) good in
    subst (WasWhole c (4096 * k)) stands (honest k (omega (arith, inside k image here.size)) here.sum)

-- ---- no batch is under way

module _ (first flushed : ℕ) (groups : List Group) (base : ℕ → List ℕ) (s : State) (placed : IsPlaced first flushed groups base s) where
  was_found : (image : Image) → IsImage s image → IsHonest s image → (page : ℕ) (content : Option (List ℕ)) → page < 65536
      → IsPageIn image.pages image.double page content → WasPage s page content
  was_found image left honest page (Some bytes) below found = elim found [
    | inl here ↦ (here.1, was_whole page page s.pages image.pages bytes honest.pages here.0 here.1)
    | inr copied ↦
        let copy = copied.1.copy in
        let whole : WasWhole s.double (4096 * copy.slot) bytes = was_whole copy.slot page s.double image.double bytes honest.double copy.stands copy.good in
        let had : HadCopy page s.double bytes = record { slot = copy.slot; below = copy.below; good = copy.good; whole = whole } in
        absurd (⊎_elim
        (λ (settled : IsSettled page s.pages). copied.0 (settled_good page s.pages image.pages settled left.pages))
        (λ (none : (other : List ℕ) → HadCopy page s.double other → ⊥). none bytes had)
        (placed.settled page below))
  ]
  was_found image left honest page None below found = λ settled. found.0 (settled_good page s.pages image.pages settled left.pages)

  pub placed_keep : (run : ℕ) → LeavesPrefix run first groups flushed s.log → Keeps run first flushed groups base s
  placed_keep run log = record {
    log = log;
    pages = λ image left honest page content below found. placed.stages page content below (was_found image left honest page content below found);
  }

-- ---- a batch

-- log before page: the batch's pages are stages
module _ (first flushed : ℕ) (groups : List Group) (base : ℕ → List ℕ) (is : IsRun first groups base) (some : flushed < first + length groups)
    (batch : BatchView)
    (logged : IsLoggedBefore flushed groups base batch)
    (before : State)
    (placed : IsPlaced first flushed groups base before) where
  batch_stage : (page : ℕ) (bytes : List ℕ) → IsInBatch batch page bytes → WasOnce base groups (durable first flushed) page bytes
  batch_stage page bytes here =
      let lsn = logged.log_first page bytes here in
      flushed_once base first groups (durable first flushed) (length groups) page bytes is.each (is.bases page) (omega (arith, some)) (omega (arith, lsn))
      (logged.newest page bytes here)

  batch_older : (page : ℕ) (bytes other : List ℕ) → page < 65536 → IsInBatch batch page bytes → HadCopy page before.double other
      → (other ≡ bytes) ⊎ (lsn_of other < lsn_of bytes)
  batch_older page bytes other below here had =
      let sum : PassesSum bytes = subst PassesSum here.page (logged.is_batch.sealed here.slot here.below) in
      older first groups base is page bytes (logged.newest page bytes here) sum (logged.are_bytes page bytes here) (durable first flushed) other
      (omega (arith, some))
      had.good.size had.good.sum (placed.copies page other below had)

  pub may_be_placed : MayBePlaced first flushed groups base batch before
  may_be_placed = record { is_batch = logged.is_batch; are_bytes = logged.are_bytes; stages = batch_stage; older = batch_older }

module _ (first flushed : ℕ) (groups : List Group) (base : ℕ → List ℕ) (batch : BatchView) (before : State)
    (placed : IsPlaced first flushed groups base before)
    (may : MayBePlaced first flushed groups base batch before) where
  of_either : (page : ℕ) (content : Option (List ℕ)) → page < 65536 → WasPage before page content ⊎ IsInBatchToo batch page content
      → IsStage base groups (durable first flushed) page content
  of_either page (Some bytes) below either =
      ⊎_elim (λ (was : WasPage before page (Some bytes)). placed.stages page (Some bytes) below was)
      (λ (here : IsInBatch batch page bytes). may.stages page bytes here) either
  of_either page None below either = ⊎_elim (λ (was : WasPage before page None). placed.stages page None below was) (λ (none : ⊥). absurd none) either

  pub batch_keeps : (run : ℕ) (s : State) → KeepsPages before batch s → LeavesPrefix run first groups flushed before.log
      → Keeps run first flushed groups base s
  batch_keeps run s keeps log = record {
    log = subst (λ (c : Contents). LeavesPrefix run first groups flushed c) (sym keeps.log_is) log;
    pages = λ image left honest page content below found.
        let ready : IsPageReady batch before page =
        record { settled = placed.settled page below; older = λ bytes other here had. may.older page bytes other below here had } in
        of_either page content below (keeps.each image left honest page content ready found);
  }

-- ---- the log goes on

pub outlast : (first flushed later : ℕ) (groups more : List Group) (base : ℕ → List ℕ) (before s : State) → flushed < first + length groups
    → flushed ≤ later → IsPlaced first flushed groups base before
    → ((page : ℕ) → IsUnwritten base groups page → IsTrue (begins_fresh page (records_in (groups ++ more)))) → s.pages ≡ before.pages → s.double ≡ before.double
    → IsPlaced first later (groups ++ more) base s
outlast first flushed later groups more base before s some upto placed fresh pages double = record {
  stages = λ page content below was. stay page content (placed.stages page content below (was_page page content was));
  settled = λ page below.
      ⊎_elim
      (λ (settled : IsSettled page before.pages). inl (subst (IsSettled page) (sym pages) settled))
      (λ (none : (bytes : List ℕ) → HadCopy page before.double bytes → ⊥).
      inr (λ bytes had. none bytes (subst (λ (c : Contents). HadCopy page c bytes) double had)))
      (placed.settled page below);
  copies = λ page bytes below had.
      let old : IsOldCopy base groups (durable first flushed) page bytes =
      placed.copies page bytes below (subst (λ (c : Contents). HadCopy page c bytes) double had) in
      record { are_bytes = old.are_bytes; once = stay_once page bytes old.once };
} where
  was_page : (page : ℕ) (content : Option (List ℕ)) → WasPage s page content → WasPage before page content
  was_page page (Some bytes) was = (was.0, subst (λ (c : Contents). WasWhole c (4096 * page) bytes) pages was.1)
  was_page page None was = λ settled. was (subst (IsSettled page) (sym pages) settled)

  stay : (page : ℕ) (content : Option (List ℕ)) → IsStage base groups (durable first flushed) page content
      → IsStage base (groups ++ more) (durable first later) page content
  stay page (Some bytes) stage =
      stage_stays base groups more (durable first flushed) (durable first later) page (Some bytes) (omega (arith, upto)) (omega (arith, some))
      (λ none. absurd cc) stage
  stay page None stage =
      stage_stays base groups more (durable first flushed) (durable first later) page None (omega (arith, upto)) (omega (arith, some))
      (λ none. fresh page stage) stage

  stay_once : (page : ℕ) (bytes : List ℕ) → WasOnce base groups (durable first flushed) page bytes ⊎ (lsn_of bytes < lsn_of (base page))
      → WasOnce base (groups ++ more) (durable first later) page bytes ⊎ (lsn_of bytes < lsn_of (base page))
  stay_once page bytes (inl was) = inl (stay page (Some bytes) was)
  stay_once page bytes (inr before) = inr before

pub batch_outlasts : (first flushed later : ℕ) (groups more : List Group) (base : ℕ → List ℕ) (batch : BatchView) (before s : State)
    → flushed < first + length groups → flushed ≤ later → MayBePlaced first flushed groups base batch before → s.double ≡ before.double
    → MayBePlaced first later (groups ++ more) base batch s
batch_outlasts first flushed later groups more base batch before s some upto may double = record {
  is_batch = may.is_batch;
  are_bytes = may.are_bytes;
  stages = λ page bytes here.
      stage_stays base groups more (durable first flushed) (durable first later) page (Some bytes) (omega (arith, upto)) (omega (arith, some))
      (λ none. absurd cc)
      (may.stages page bytes here);
  older = λ page bytes other below here had. may.older page bytes other below here (subst (λ (c : Contents). HadCopy page c other) double had);
}
