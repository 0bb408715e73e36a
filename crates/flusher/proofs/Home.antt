-- A page that became clean stands in its place as it is in the pool.
use Rattle.std.proofs.Common.{◌≡◌, ◌≢◌, ◌⊎◌, inl, inr, ℕ, zero, suc, ◌+◌, ◌<◌, ◌≤◌, Bool, true, false}
use Rattle.std.proofs.Common.{Some, List, [], ◌∷◌, ◌++◌, length, take, drop, refl, sym, ◌∙◌, ap, subst, arith, rules}
use Rattle.std.specs.Prelude.{not, ◌&&◌, ◌||◌, ◌==◌, All}
use Rattle.std.proofs.lemmas.Bool.Decides.{eqb_tells}
use Rattle.store_api.specs.Areas.{State, Write}
use Rattle.store_api.proofs.Pieces.{length-piece}
use Rattle.stored_pages.specs.Words.{lsn_of}
use Rattle.log_format.specs.declared.group.Group.{Group}
use Rattle.log_format.specs.Group.{AreGroups}
use Rattle.log_format.proofs.Groups.{AreGroups-take}
use Rattle.buffer_pool.specs.Frames.{PoolView, is_dirty, bytes_of}
use Rattle.stored_pages.specs.Reading.{IsGoodPage, place_of}
use Rattle.doublewrite.specs.Batches.{BatchView, StagedView, IsInBatch, page_at, number_at}
use Rattle.doublewrite.specs.Kept.{HasPlaced, Spares}
use Rattle.law_logged_pages.specs.Applied.{page_after, logical}
use Rattle.law_logged_pages.specs.Stages.{IsBase}
use Rattle.law_logged_pages.specs.Keeping.{IsRun, MayBePlaced}
use Rattle.law_logged_pages.proofs.Edits.{lsn-same}
use Rattle.law_logged_pages.proofs.Groups.{AreReached, all_reached, reached_stays, after-append, split}
use Rattle.flusher.specs.Cleaning.{is_among, Cleans, waits}
use Rattle.flusher.specs.Flushing.{AreNewest, IsHome}
use Rattle.flusher.proofs.Cleaned.{waits_as_before, settled_same}

-- ---- one LSN, one content

reached_behind : (page lsn : ℕ) (front back : List Group) → AreReached page lsn (front ++ back) → AreReached page lsn back
reached_behind page lsn [] back reached = reached
reached_behind page lsn (g ∷ front) back reached = reached_behind page lsn front back reached.1

same_lsn : (first : ℕ) (groups : List Group) (base : ℕ → List ℕ) (page : ℕ) → AreGroups first groups → IsBase first (base page) → (j m : ℕ)
    → j ≤ m
    → lsn_of (logical base groups m page) ≡ lsn_of (logical base groups j page) → logical base groups m page ≡ logical base groups j page
same_lsn first groups base page are is j m upto lsn =
    let front : List Group = take j groups in
    let back : List Group = drop j (take m groups) in
    let parts = split first groups are base page is j m upto in
    let all = all_reached page first (take m groups) (base page) (AreGroups-take m first groups are) is.size is.before in
    let reached : AreReached page (lsn_of (logical base groups m page)) back = reached_behind page
    (lsn_of (logical base groups m page)) front back (subst (AreReached page (lsn_of (logical base groups m page))) parts all) in
    let stays = reached_stays page back (logical base groups j page) (subst (λ (n : ℕ). AreReached page n back) lsn reached) in
    ap (λ (l : List Group). page_after page l (base page)) parts ∙ (after-append page front back (base page) ∙ stays)

-- ---- the batch's page

or_false : (b d : Bool) → b ≡ false → (b || d) ≡ true → d ≡ true
or_false true d wrong is = absurd cc
or_false false d wrong is = is

and_first : (b d : Bool) → b ≡ false → (b && d) ≡ false
and_first true d wrong = absurd cc
and_first false d wrong = refl

and_second : (b d : Bool) → d ≡ false → (b && d) ≡ false
and_second true d is = is
and_second false d is = refl

abbrev pub IsAmong : BatchView → ℕ → ℕ → ℕ → Type 0
IsAmong batch n page lsn = (k : ℕ) × (k < n) × (number_at batch k ≡ page) × (lsn ≡ lsn_of (page_at batch k))

among_last : (batch : BatchView) (n page lsn : ℕ) → (is_among batch n page lsn ≡ true → IsAmong batch n page lsn)
    → is_among batch (suc n) page lsn ≡ true
    → IsAmong batch (suc n) page lsn
among_last batch n page lsn earlier is = go (eqb_tells (number_at batch n) page) (eqb_tells lsn (lsn_of (page_at batch n))) where
  next : is_among batch n page lsn ≡ true → IsAmong batch (suc n) page lsn
  next rest = let found = earlier rest in (found.0, omega (arith, found.1), found.2, found.3)

  go : (((number_at batch n == page) ≡ true) × (number_at batch n ≡ page)) ⊎ (((number_at batch n == page) ≡ false) × (number_at batch n ≢ page))
      → (((lsn == lsn_of (page_at batch n)) ≡ true) × (lsn ≡ lsn_of (page_at batch n))) ⊎
      (((lsn == lsn_of (page_at batch n)) ≡ false) × (lsn ≢ lsn_of (page_at batch n)))
      → IsAmong batch (suc n) page lsn
  go (inl number) (inl same) = (n, omega arith, number.1, same.1)
  go (inl number) (inr other) =
      next
      (or_false (number_at batch n == page && lsn == lsn_of (page_at batch n)) (is_among batch n page lsn)
      (and_second (number_at batch n == page) (lsn == lsn_of (page_at batch n)) other.0) is)
  go (inr other) test =
      next
      (or_false (number_at batch n == page && lsn == lsn_of (page_at batch n)) (is_among batch n page lsn)
      (and_first (number_at batch n == page) (lsn == lsn_of (page_at batch n)) other.0) is)

found_among : (batch : BatchView) (n page lsn : ℕ) → is_among batch n page lsn ≡ true → IsAmong batch n page lsn
found_among batch zero page lsn is = absurd cc
found_among batch (suc n) page lsn is = among_last batch n page lsn (found_among batch n page lsn) is

was_among : (dirty among : Bool) → dirty ≡ true → (dirty && not among) ≡ false → among ≡ true
was_among true true is clean = refl
was_among true false is clean = absurd cc
was_among false among is clean = absurd cc

-- a page that became clean is one of the batch, as it was taken
pub became_clean : (staged : StagedView) (old new : PoolView) → Cleans staged.batch staged.batch.count old new → (page : ℕ)
    → is_dirty old page ≡ true → is_dirty new page ≡ false → IsAmong staged.batch staged.batch.count page (lsn_of (bytes_of old page))
became_clean staged old new cleans page dirty clean =
    let waited : waits (Some staged) old page ≡ false = sym (waits_as_before staged old new page cleans) ∙ clean in
    let batch = staged.batch in
    found_among batch batch.count page (lsn_of (bytes_of old page))
    (was_among (is_dirty old page) (is_among batch batch.count page (lsn_of (bytes_of old page))) dirty waited)

-- ---- what stands in its place

module _ (first flushed : ℕ) (groups : List Group) (base : ℕ → List ℕ) (staged : StagedView) (run : IsRun first groups base)
    (some : flushed < first + length groups)
    (x s : State) (may : MayBePlaced first flushed groups base staged.batch x)
    (whole : HasPlaced (record { batch = staged.batch; placed = staged.batch.count }) s)
    (old new : PoolView) (newest : AreNewest groups base old) (cleans : Cleans staged.batch staged.batch.count old new) where
  abbrev batch : BatchView
  batch = staged.batch

  good : (k : ℕ) → k < batch.count → IsGoodPage (number_at batch k) (page_at batch k)
  good k below = record {
    size = length-piece 4096 k batch.bytes (omega (arith, below, may.is_batch.whole));
    sum = may.is_batch.sealed k below;
    number_is = refl;
  }

  pub at_home : (page : ℕ) → is_dirty old page ≡ true → is_dirty new page ≡ false → IsHome page (bytes_of new page) s
  at_home page dirty clean =
      let found = became_clean staged old new cleans page dirty clean in
      let k = found.0 in
      let rest = whole.synced refl in
      let place : place_of page s.pages.synced ≡ page_at batch k =
      ap (place_of page) rest.1 ∙ (ap (λ (n : ℕ). place_of n s.pages.seen) (sym found.2) ∙ whole.each k found.1) in
      let there : IsInBatch batch page (page_at batch k) = record { slot = k; below = found.1; page = refl; number_is = found.2 } in
      let was = may.stages page (page_at batch k) there in
      let now = newest.newest page dirty in
      let here_lsn = lsn-same (page_at batch k) (logical base groups was.after page) was.same.same in
      let now_lsn = lsn-same (bytes_of old page) (logical base groups (length groups) page) now.same in
      let lsn : lsn_of (logical base groups (length groups) page) ≡ lsn_of (logical base groups was.after page) = sym now_lsn ∙ (found.3 ∙ here_lsn) in
      let same = same_lsn first groups base page run.each (run.bases page) was.after (length groups) (omega (arith, was.upto, some)) lsn in
      let bytes : bytes_of new page ≡ bytes_of old page = (settled_same (Some batch) old new cleans).bytes page in
      record {
        settled = record {
          good = subst (IsGoodPage page) (sym place) (subst (λ (n : ℕ). IsGoodPage n (page_at batch k)) found.2 (good k found.1));
          spared = subst (λ (ws : List Write). All (Spares page) ws) (sym rest.0) (search rules);
        };
        same = record {
          size = ap length place ∙ (was.same.size ∙ (ap length (sym same) ∙ (sym now.size ∙ ap length (sym bytes))));
          same = ap (drop 8) place ∙ (was.same.same ∙ (ap (drop 8) (sym same) ∙ (sym now.same ∙ ap (drop 8) (sym bytes))));
        };
      }
