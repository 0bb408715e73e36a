-- A batch of changed pages, page by page.
use Rattle.std.proofs.Common.{◌≡◌, ◌≢◌, ⊎_elim, ℕ, zero, suc, ◌+◌, ◌<◌, ◌≤◌, Bool, true, false}
use Rattle.std.proofs.Common.{List, take, length, Option, Some, None, refl, sym, ◌∙◌, ap, subst, arith}
use Rattle.std.specs.Prelude.{not, ◌&&◌, ◌||◌, ◌==◌}
use Rattle.std.specs.Option.{option_map_or}
use Rattle.std.specs.Int.{w64, from_be_bytes}
use Rattle.std.proofs.lemmas.Bool.{cases_lt, eq-eqb}
use Rattle.std.proofs.lemmas.List.{get_or_past}
use Rattle.stored_pages.specs.Words.{u64_at, number_of, lsn_of}
use Rattle.buffer_pool.specs.declared.frame.Content.{Content}
use Rattle.buffer_pool.specs.declared.frame.Content.TheVariants.{Empty, New, Clean, Dirty}
use Rattle.buffer_pool.specs.Frames.{FrameView, PoolView, slot_of, is_pooled, is_dirty, is_page, is_changed, holds_page, bytes_of}
use Rattle.doublewrite.specs.Batches.{BatchView, StagedView, IsBatch, page_at, number_at}
use Rattle.law_logged_pages.specs.Applied.{logical}
use Rattle.law_logged_pages.specs.Stages.{AreBytes, SameButSum}
use Rattle.flusher.specs.Gathering.{IsSealed, Gathers}
use Rattle.flusher.specs.Cleaning.{is_among, waits, count_below}
use Rattle.flusher.specs.Flushing.{AreNewest, AreNewestIn}
use Rattle.flusher.proofs.Counting.{count_less}

-- ---- changed pages of a pool

-- and one of its pages
pub dirty_past : (pool : PoolView) (page : ℕ) → length pool.slots ≤ page → is_dirty pool page ≡ false
dirty_past pool page past = ap (λ (slot : Option FrameView). option_map_or (λ (frame : FrameView). is_changed frame.content) slot false)
    (get_or_past pool.slots page None past)

pub dirty_within : (pool : PoolView) (page : ℕ) → is_dirty pool page ≡ true → page < length pool.slots
dirty_within pool page is = ⊎_elim
    (λ (within : page < length pool.slots). within)
    (λ (past : length pool.slots ≤ page). let no : false ≡ true = sym (dirty_past pool page past) ∙ is in absurd cc)
    (cases_lt page (length pool.slots))

-- ---- one page more

module _ (page : ℕ) (pool : PoolView) (old new : BatchView) (bytes : List ℕ) (so_far : Gathers page pool old) (count : new.count ≡ old.count + 1)
    (earlier : (k : ℕ) → k < old.count → page_at new k ≡ page_at old k) (last : page_at new old.count ≡ bytes)
    (is_sealed : IsSealed page (bytes_of pool page) bytes) (is_changed : is_dirty pool page ≡ true) where
  module _ (P : ℕ → List ℕ → Type 0) (all : (k : ℕ) → k < old.count → P (number_at old k) (page_at old k)) (here : P page bytes) where
    each : (k : ℕ) → k < new.count → P (number_at new k) (page_at new k)
    each k in_k = ⊎_elim
        (λ (before : k < old.count). subst (λ (l : List ℕ). P (number_of l) l) (sym (earlier k before)) (all k before))
        (λ (from : old.count ≤ k).
        let same : old.count ≡ k = omega (arith, from, in_k, count) in
        subst (λ (n : ℕ). P (number_at new n) (page_at new n)) same
        (subst (λ (l : List ℕ). P (number_of l) l) (sym last) (subst (λ (n : ℕ). P n bytes) (sym is_sealed.number_is) here)))
        (cases_lt k old.count)

  pub gathers_more : Gathers (suc page) pool new
  gathers_more = record {
    below = each (λ n l. n < suc page) (λ k in_k. let low = so_far.below k in_k in omega (arith, low)) (omega arith);
    dirty = each (λ n l. is_dirty pool n ≡ true) so_far.dirty is_changed;
    sealed = each (λ n l. IsSealed n (bytes_of pool n) l) so_far.sealed is_sealed;
    none = λ is. absurd (omega (arith, is, count));
  }

-- the page isn't in the batch yet
pub apart : (page : ℕ) (pool : PoolView) (batch : BatchView) → Gathers page pool batch → (k : ℕ) → k < batch.count
    → number_at batch k ≢ page
apart page pool batch so_far k in_k same = let low = so_far.below k in_k in absurd (omega (arith, low, same))

-- ---- what the batch brings

lsn_sealed : (page : ℕ) (old new : List ℕ) → IsSealed page old new → lsn_of new ≡ lsn_of old
unfolding u64_at
lsn_sealed page old new is = ap (λ (l : List ℕ). from_be_bytes w64 (take 8 l)) is.behind

among_at : (batch : BatchView) (n j page lsn : ℕ) → j < n → number_at batch j ≡ page → lsn ≡ lsn_of (page_at batch j)
    → is_among batch n page lsn ≡ true
among_at batch zero j page lsn within number same = absurd (omega (arith, within))
among_at batch (suc n) j page lsn within number same = ⊎_elim
    (λ (before : j < n).
    let rest = among_at batch n j page lsn before number same in
    ap (λ (b : Bool). (number_at batch n == page && lsn == lsn_of (page_at batch n)) || b) rest ∙ or_true
    (number_at batch n == page && lsn == lsn_of (page_at batch n)))
    (λ (from : n ≤ j).
    let last : j ≡ n = omega (arith, from, within) in
    let a : (number_at batch n == page) ≡ true = eq-eqb (number_at batch n) page (ap (number_at batch) (sym last) ∙ number) in
    let b : (lsn == lsn_of (page_at batch n)) ≡ true = eq-eqb lsn (lsn_of (page_at batch n)) (same ∙ ap (λ (m : ℕ). lsn_of (page_at batch m)) last) in
    ap (λ (x : Bool). (x && lsn == lsn_of (page_at batch n)) || is_among batch n page lsn) a ∙ ap (λ (x : Bool). x || is_among batch n page lsn) b)
    (cases_lt j n)
  where
    or_true : (b : Bool) → (b || true) ≡ true
    or_true true = refl
    or_true false = refl

waits_dirty : (a b : Bool) → (a && not b) ≡ true → (a && not false) ≡ true
waits_dirty true b is = refl
waits_dirty false b is = cc

-- fewer pages wait once a batch of them is staged
pub fewer_wait : (upto : ℕ) (pool : PoolView) (staged : StagedView) → Gathers upto pool staged.batch → 0 < staged.batch.count
    → count_below (waits (Some staged) pool) (length pool.slots) < count_below (waits None pool) (length pool.slots)
fewer_wait upto pool staged gathers any =
    let batch = staged.batch in
    let page = number_at batch 0 in
    let dirty = gathers.dirty 0 any in
    let lsn = sym (lsn_sealed page (bytes_of pool page) (page_at batch 0) (gathers.sealed 0 any)) in
    let among = among_at batch batch.count 0 page (lsn_of (bytes_of pool page)) any refl lsn in
    count_less (waits None pool) (waits (Some staged) pool) (length pool.slots) page (dirty_within pool page dirty)
    (ap (λ (b : Bool). b && not false) dirty)
    (ap (λ (b : Bool). is_dirty pool page && not b) among ∙ and_false (is_dirty pool page))
    (λ i is. waits_dirty (is_dirty pool i) (is_among batch batch.count i (lsn_of (bytes_of pool i))) is)
  where
    and_false : (b : Bool) → (b && false) ≡ false
    and_false true = refl
    and_false false = refl

-- the batch's pages are what all groups have left, if the pool's are
pub newest_in : (upto : ℕ) (pool : PoolView) (batch : BatchView) (groups : List _) (base : ℕ → List ℕ) → IsBatch batch
    → Gathers upto pool batch
    → AreNewest groups base pool → AreNewestIn groups base batch
newest_in upto pool batch groups base is gathers newest = record {
  is_batch = is;
  are_bytes = λ page bytes there. subst (AreBytes 8) there.page (gathers.sealed there.slot there.below).front;
  newest = λ page bytes there.
      let sealed = gathers.sealed there.slot there.below in
      let dirty = gathers.dirty there.slot there.below in
      let number : number_at batch there.slot ≡ page = ap number_of there.page ∙ there.number_is in
      let old = newest.newest (number_at batch there.slot) dirty in
      let here : SameButSum (page_at batch there.slot) (logical base groups (length groups) (number_at batch there.slot)) =
      record { size = sealed.size ∙ old.size; same = sealed.same (newest.number (number_at batch there.slot) dirty) ∙ old.same } in
      subst (λ (l : List ℕ). SameButSum l (logical base groups (length groups) page)) there.page
      (subst (λ (n : ℕ). SameButSum (page_at batch there.slot) (logical base groups (length groups) n)) number here);
}
