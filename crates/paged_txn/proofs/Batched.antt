-- What is known of the batch under way is known still after a call of a mini-transaction.
use Rattle.std.proofs.Common.{◌≡◌, ℕ, ◌+◌, ◌<◌, ◌≤◌, Bool, true, false, ◌⊎◌, inl, inr, List, [], ◌∷◌, length, Option, Some, None, refl, sym, ap, subst}
use Rattle.std.proofs.Common.{◌∙◌, cond, arith}
use Rattle.store_api.specs.Past.{Past}
use Rattle.stored_pages.specs.Words.{lsn_of}
use Rattle.log_format.specs.declared.group.Record.{Record}
use Rattle.redo_log.specs.View.{LogView}
use Rattle.buffer_pool.specs.Frames.{FrameView, PoolView, slot_of, is_pooled, is_dirty, bytes_of, is_changed}
use Rattle.mini_txn.specs.declared.dealt.Entry.{Entry}
use Rattle.mini_txn.specs.Dealt.{copy_of, pages_of}
use Rattle.mini_txn.specs.Edits.{blank, edited}
use Rattle.mini_txn.specs.Grouped.{IsGrouped}
use Rattle.mini_txn.specs.View.{body_of, IsStamped, Places}
use Rattle.doublewrite.specs.Batches.{StagedView, page_at, number_at}
use Rattle.flusher.specs.Working.{AreChanged}
use Rattle.paged_txn.specs.View.{is_known, place_in, can_be_read, bytes_in, standing_in, seen_in, IsPaged}
use Rattle.paged_txn.specs.Ending.{LetsGo}
use Rattle.paged_txn.specs.UnderWay.{IsUnderWay, IsFlushed}
use Rattle.paged_txn.proofs.Slots.{IsLetGo}
use Rattle.paged_txn.proofs.Dirty.{dirty_in, HasSame, gone_has, dirty_stands, HasSameChanged}
use Rattle.paged_txn.proofs.Ended.{gone, commit_seen}

-- ---- the batch under way, if there is one

abbrev pub IsWellUnderWay : PoolView → LogView → Past → Option StagedView → Type 0
IsWellUnderWay pool log past None = Unit {0}
IsWellUnderWay pool log past (Some staged) = IsUnderWay pool log past staged

module _ (known : Bool) (pool : PoolView) (log : LogView) (past : Past) (staged : Option StagedView) where
  pub changed_in : IsFlushed known pool log past staged → AreChanged staged pool
  changed_in is = go staged refl where
    go : (w : Option StagedView) → staged ≡ w → AreChanged w pool
    go None none = tt
    go (Some s) some = is.changed s some

  pub under_way_in : IsFlushed known pool log past staged → known ≡ true → IsWellUnderWay pool log past staged
  under_way_in is k = go staged refl where
    go : (w : Option StagedView) → staged ≡ w → IsWellUnderWay pool log past w
    go None none = tt
    go (Some s) some = is.under_way k s some

  pub flushed_by : AreChanged staged pool → (known ≡ true → (page : ℕ) → is_dirty pool page ≡ true → lsn_of (bytes_of pool page) < log.next)
      → (known ≡ true → IsWellUnderWay pool log past staged) → IsFlushed known pool log past staged
  flushed_by changed earlier under = record {
    changed = λ s some. subst (λ (w : Option StagedView). AreChanged w pool) some changed;
    earlier = earlier;
    under_way = λ k s some. subst (IsWellUnderWay pool log past) some (under k);
  }

-- ---- the same pages are changed

module _ (known later : Bool) (pool new : PoolView) (log : LogView) (past now : Past) (staged : Option StagedView) (is : IsFlushed known pool log past staged)
    (was : later ≡ true → known ≡ true) (places : later ≡ true → (q : ℕ) → place_in now q ≡ place_in past q) (same : HasSameChanged pool new) where
  still_changed : (w : Option StagedView) → AreChanged w pool → AreChanged w new
  still_changed None changed = tt
  still_changed (Some s) changed = λ k below. (same (number_at s.batch k)).dirty ∙ changed k below

  still_under_way : (w : Option StagedView) → AreChanged w pool → later ≡ true → IsWellUnderWay pool log past w → IsWellUnderWay new log now w
  still_under_way None changed k under = tt
  still_under_way (Some s) changed k under = record {
    is_batch = under.is_batch;
    some_left = under.some_left;
    earlier = under.earlier;
    same = λ j below as_taken.
        let bytes : bytes_of new (number_at s.batch j) ≡ bytes_of pool (number_at s.batch j) = (same (number_at s.batch j)).bytes (changed j below) in
        ap body_of bytes ∙ under.same j below
        (subst (λ (l : List ℕ). (lsn_of l ≡ lsn_of (page_at s.batch j)) ⊎ (lsn_of (page_at s.batch j) + 1 ≡ log.next)) bytes as_taken);
    placed = λ j below. places k (number_at s.batch j) ∙ under.placed j below;
  }

  pub flushed_still : IsFlushed later new log now staged
  flushed_still =
      let changed = changed_in known pool log past staged is in
      flushed_by later new log now staged (still_changed staged changed)
      (λ k q dirty.
      let before : is_dirty pool q ≡ true = sym (same q).dirty ∙ dirty in
      subst (λ (l : List ℕ). lsn_of l < log.next) (sym ((same q).bytes before)) (is.earlier (was k) q before))
      (λ k. still_under_way staged changed k (under_way_in known pool log past staged is (was k)))

-- ---- a group was appended, and its pages were placed in the pool

-- the page's frame is that of the newest group; where that is an older one, the page is as before
pub record IsRestamped (known : Bool) (lsn : ℕ) (records : List Record) (old new : Option FrameView) : Type 0 where
  pub dirty : dirty_in new ≡ true
  pub lsn_is : lsn_of (bytes_in new) ≡ lsn
  pub body : known ≡ true → records ≡ [] → dirty_in old ≡ true → body_of (bytes_in new) ≡ body_of (bytes_in old)

module _ (known : Bool) (pool new : PoolView) (log later : LogView) (past : Past) (staged : Option StagedView) (records : List Record) (lsn : ℕ)
    (is : IsFlushed known pool log past staged) (grouped : IsGrouped records log later) (newest : lsn + 1 ≡ later.next)
    (each : (q : ℕ) → HasSame (slot_of pool q) (slot_of new q) ⊎ IsRestamped known lsn records (slot_of pool q) (slot_of new q)) where
  next_is : (records ≡ []) × (later.next ≡ log.next) ⊎ (later.next ≡ log.next + 1)
  next_is = go records refl where
    go : (rs : List Record) → records ≡ rs → (records ≡ []) × (later.next ≡ log.next) ⊎ (later.next ≡ log.next + 1)
    go [] none = inl (none, ap (λ (l : LogView). l.next) (grouped.none none))
    go (r ∷ rs) some = inr ((grouped.some (λ none. let clash : r ∷ rs ≡ [] = sym some ∙ none in cc)).next)

  no_less : log.next ≤ later.next
  no_less = elim next_is [ inl same ↦ omega (arith, same.1) | inr more ↦ omega (arith, more) ]

  dirty_still : (q : ℕ) → is_dirty pool q ≡ true → is_dirty new q ≡ true
  dirty_still q dirty = elim (each q) [ inl same ↦ same.dirty ∙ dirty | inr stamped ↦ stamped.dirty ]

  commit_changed : (w : Option StagedView) → AreChanged w pool → AreChanged w new
  commit_changed None changed = tt
  commit_changed (Some s) changed = λ k below. dirty_still (number_at s.batch k) (changed k below)

  module _ (s : StagedView) (k : known ≡ true) (changed : AreChanged (Some s) pool) (under : IsUnderWay pool log past s) (j : ℕ)
      (below : j < s.batch.count) where
    abbrev n : ℕ
    n = number_at s.batch j

    abbrev taken : ℕ
    taken = lsn_of (page_at s.batch j)

    as_before : HasSame (slot_of pool n) (slot_of new n) → (lsn_of (bytes_of pool n) ≡ taken) ⊎ (taken + 1 ≡ log.next)
        → body_of (bytes_of new n) ≡ body_of (page_at s.batch j)
    as_before same was = ap body_of (same.bytes (changed j below)) ∙ under.same j below was

    with_none : records ≡ [] → later.next ≡ log.next → (lsn_of (bytes_of new n) ≡ taken) ⊎ (taken + 1 ≡ later.next)
        → body_of (bytes_of new n) ≡ body_of (page_at s.batch j)
    with_none none next as_taken = elim (each n) [
      | inl same ↦ as_before same (go same as_taken)
      | inr stamped ↦ stamped.body k none (changed j below) ∙ under.same j below (inr (last stamped as_taken))
    ] where
      go : HasSame (slot_of pool n) (slot_of new n) → (lsn_of (bytes_of new n) ≡ taken) ⊎ (taken + 1 ≡ later.next)
          → (lsn_of (bytes_of pool n) ≡ taken) ⊎ (taken + 1 ≡ log.next)
      go same (inl lsn_same) = inl (sym (ap lsn_of (same.bytes (changed j below))) ∙ lsn_same)
      go same (inr last_one) = inr (last_one ∙ next)

      last : IsRestamped known lsn records (slot_of pool n) (slot_of new n) → (lsn_of (bytes_of new n) ≡ taken) ⊎ (taken + 1 ≡ later.next)
          → taken + 1 ≡ log.next
      last stamped (inl lsn_same) = ap (λ m. m + 1) (sym lsn_same ∙ stamped.lsn_is) ∙ newest ∙ next
      last stamped (inr last_one) = last_one ∙ next

    with_some : later.next ≡ log.next + 1 → (lsn_of (bytes_of new n) ≡ taken) ⊎ (taken + 1 ≡ later.next)
        → body_of (bytes_of new n) ≡ body_of (page_at s.batch j)
    with_some next (inr last_one) = let early = under.earlier j below in absurd (omega (arith, early, last_one, next))
    with_some next (inl lsn_same) = elim (each n) [
      | inl same ↦ as_before same (inl (sym (ap lsn_of (same.bytes (changed j below))) ∙ lsn_same))
      | inr stamped ↦ let early = under.earlier j below in absurd (omega (arith, early, lsn_same, stamped.lsn_is, newest, next))
    ]

    as_taken_still : (lsn_of (bytes_of new n) ≡ taken) ⊎ (taken + 1 ≡ later.next) → body_of (bytes_of new n) ≡ body_of (page_at s.batch j)
    as_taken_still as_taken = elim next_is [
      | inl none ↦ with_none none.0 none.1 as_taken
      | inr some ↦ with_some some as_taken
    ]

  commit_under_way : (w : Option StagedView) → AreChanged w pool → known ≡ true → IsWellUnderWay pool log past w → IsWellUnderWay new later past w
  commit_under_way None changed k under = tt
  commit_under_way (Some s) changed k under = record {
    is_batch = under.is_batch;
    some_left = under.some_left;
    earlier = λ j below. let early = under.earlier j below in omega (arith, early, no_less);
    same = as_taken_still s k changed under;
    placed = under.placed;
  }

  commit_earlier : known ≡ true → (q : ℕ) → is_dirty new q ≡ true → lsn_of (bytes_of new q) < later.next
  commit_earlier k q dirty = elim (each q) [
    | inl same ↦
        let before : is_dirty pool q ≡ true = sym same.dirty ∙ dirty in
        let early : lsn_of (bytes_of new q) < log.next = subst (λ (l : List ℕ). lsn_of l < log.next) (sym (same.bytes before)) (is.earlier k q before) in
        omega (arith, early, no_less)
    | inr stamped ↦ omega (arith, stamped.lsn_is, newest)
  ]

  pub commit_flushed : IsFlushed known new later past staged
  commit_flushed =
      let changed = changed_in known pool log past staged is in
      flushed_by known new later past staged (commit_changed staged changed) commit_earlier
      (λ k. commit_under_way staged changed k (under_way_in known pool log past staged is k))

-- ---- what a commit makes of each page

module _ (pool mid new : PoolView) (past : Past) (dealt : List Entry) (records : List Record) (told : Bool) (lsn : ℕ)
    (is : IsPaged pool past dealt records told) (places : Places lsn pool dealt mid []) (goes : LetsGo (pages_of dealt) mid new) where
  mids : (q : ℕ) → (slot_of mid q ≡ slot_of pool q) ⊎ IsStamped q lsn (slot_of mid q)
  mids q = go (places.slot_is q) where
    go : ((slot_of mid q ≡ slot_of pool q) × ((None ≡ copy_of dealt q) ⊎ (is_pooled pool q ≡ false))) ⊎ IsStamped q lsn (slot_of mid q)
        → (slot_of mid q ≡ slot_of pool q) ⊎ IsStamped q lsn (slot_of mid q)
    go (inl same) = inl same.0
    go (inr stamped) = inr stamped

  let_go : (q : ℕ) → IsLetGo (slot_of mid q) (slot_of new q)
  let_go q = gone (is_known told past) past (pages_of dealt) lsn pool mid new is.frames places.fixes places.pooled mids goes q

  stamp_dirty : (q : ℕ) (slot : Option FrameView) → IsStamped q lsn slot → (dirty_in slot ≡ true) × (lsn_of (bytes_in slot) ≡ lsn)
  stamp_dirty q None stamped = absurd stamped
  stamp_dirty q (Some f) stamped = (ap is_changed stamped.0, stamped.2)

  -- without records each page is seen as it stands
  unedited : (q : ℕ) → records ≡ [] → is_dirty pool q ≡ true → seen_in pool past dealt q ≡ body_of (bytes_of pool q)
  unedited q none dirty =
      let standing = (dirty_stands (slot_of pool q) dirty).0 in
      let body : standing_in pool past q ≡ body_of (bytes_of pool q) =
      ap (λ b. cond b (body_of (bytes_of pool q)) (cond (can_be_read (length pool.slots) q (place_in past q)) (body_of (place_in past q)) blank)) standing in
      is.edits q (standing_in pool past q) (λ known there. body) ∙ ap (λ (rs : List Record). edited q rs (standing_in pool past q)) none ∙ body

  pub commit_each : (q : ℕ) → HasSame (slot_of pool q) (slot_of new q) ⊎ IsRestamped (is_known told past) lsn records (slot_of pool q) (slot_of new q)
  commit_each q = elim (mids q) [
    | inl same ↦ inl (subst (λ (s : Option FrameView). HasSame s (slot_of new q)) same (gone_has (slot_of mid q) (slot_of new q) (let_go q)))
    | inr stamped ↦
        let has = gone_has (slot_of mid q) (slot_of new q) (let_go q) in
        let dirty = stamp_dirty q (slot_of mid q) stamped in
        let dirty_now : is_dirty new q ≡ true = has.dirty ∙ dirty.0 in
        inr (record {
          dirty = dirty_now;
          lsn_is = ap lsn_of (has.bytes dirty.0) ∙ dirty.1;
          body = λ k none was.
              let standing = (dirty_stands (slot_of new q) dirty_now).0 in
              let body : standing_in new past q ≡ body_of (bytes_of new q) =
              ap (λ b. cond b (body_of (bytes_of new q))
              (cond (can_be_read (length new.slots) q (place_in past q)) (body_of (place_in past q)) blank)) standing in
              sym body ∙ commit_seen pool mid new past dealt records told lsn is places goes k q ∙ unedited q none was;
        })
  ]

  pub commit_is_flushed : (log later : LogView) (staged : Option StagedView) → IsFlushed (is_known told past) pool log past staged
      → IsGrouped records log later → lsn + 1 ≡ later.next → IsFlushed (is_known told past) new later past staged
  commit_is_flushed log later staged flushed grouped newest =
      commit_flushed (is_known told past) pool new log later past staged records lsn flushed grouped newest commit_each

-- ---- the puts are dropped

pub dropped_changed : (pool new : PoolView) (past : Past) (dealt : List Entry) (records : List Record) (told : Bool) → IsPaged pool past dealt records told
    → LetsGo (pages_of dealt) pool new → HasSameChanged pool new
dropped_changed pool new past dealt records told is goes q = gone_has (slot_of pool q) (slot_of new q)
    (gone (is_known told past) past (pages_of dealt) 0 pool pool new is.frames (λ p. refl) (λ p. refl) (λ p. inl refl) goes q)
