-- A run that ends: what the checkpoint's law asks holds where the disk holds all of the run.
use Rattle.std.proofs.Common.{◌≡◌, ◌⊎◌, inl, inr, ℕ, ◌+◌, ◌-◌, ◌<◌, ◌≤◌, List, [], ◌∷◌, length, take, drop, replicate, refl, sym, ap, subst, ◌∙◌}
use Rattle.std.proofs.Common.{arith, length-append}
use Rattle.std.specs.Int.{w32, w64, from_be_bytes}
use Rattle.std.proofs.lemmas.Bool.{cases_lt}
use Rattle.std.proofs.lemmas.List.{drop-drop, drop-take, take-take}
use Rattle.std.proofs.lemmas.List.Elements.{All-weaker}
use Rattle.store_api.specs.Areas.{State, Write, Contents, MayLeave, IsHonestArea, PassesSum}
use Rattle.stored_pages.specs.Words.{u32_at, u64_at, number_of, lsn_of}
use Rattle.log_format.specs.declared.group.Group.{Group}
use Rattle.log_format.specs.Group.{group_bytes}
use Rattle.log_format.specs.Block.{IsGood, payloads}
use Rattle.log_format.specs.Scan.{stream_of}
use Rattle.log_format.proofs.Groups.{length-group}
use Rattle.redo_log.specs.View.{LogView}
use Rattle.redo_log.specs.Logged.{IsLogged, WritesFront}
use Rattle.redo_log.proofs.Crash.{good_before}
use Rattle.buffer_pool.specs.Frames.{PoolView, bytes_of}
use Rattle.stored_pages.specs.Reading.{IsGoodPage}
use Rattle.doublewrite.specs.Batches.{IsBatch, page_at}
use Rattle.law_logged_pages.specs.Heads.{head_of}
use Rattle.law_logged_pages.specs.Stages.{AreBytes}
use Rattle.law_logged_pages.proofs.Spared.{stage_spares}
use Rattle.page_recovery.specs.Reading.{IsFileHeader}
use Rattle.page_checkpoint.specs.Checkpoints.{IsClean, IsCheckpoint}
use Rattle.page_checkpoint.specs.declared.checking.NewRun.{NewRun}
use Rattle.page_checkpoint.specs.Header.{IsNextHeader}
use Rattle.page_checkpoint.specs.Beginning.{IsNextRun, HoldsAll, IsUnused, alone}
use Rattle.page_checkpoint.proofs.Alone.{page_alone}

-- ---- parts of the head

-- a part of a part
part : (from size at n : ℕ) (l : List ℕ) → from ≤ at → at + n ≤ from + size → take n (drop (at - from) (take size (drop from l))) ≡ take n (drop at l)
part from size at n l low high =
    let parts : (at - from) + (from + size - at) ≡ size = omega (arith, low, high) in
    let place : from + (at - from) ≡ at = omega (arith, low) in
    let cut : drop (at - from) (take size (drop from l)) ≡ take (from + size - at) (drop (at - from) (drop from l)) =
    ap (λ (k : ℕ). drop (at - from) (take k (drop from l))) (sym parts) ∙ drop-take (at - from) (from + size - at) (drop from l) in
    ap (take n) cut ∙ take-take n (from + size - at) (drop (at - from) (drop from l)) (omega (arith, high))
    ∙ ap (take n) (drop-drop (at - from) from l ∙ ap (λ (k : ℕ). drop k l) place)

same_part : (from size at n : ℕ) (a b : List ℕ) → from ≤ at → at + n ≤ from + size → take size (drop from a) ≡ take size (drop from b)
    → take n (drop at a) ≡ take n (drop at b)
same_part from size at n a b low high same =
    sym (part from size at n a low high) ∙ ap (λ (l : List ℕ). take n (drop (at - from) l)) same ∙ part from size at n b low high

-- ---- blocks at the log's beginning

some_stream : (groups : List Group) → 0 < length groups → 0 < length (stream_of groups)
some_stream [] some = absurd (omega (arith, some))
some_stream (g ∷ gs) some = omega (arith, length-append (group_bytes g) (stream_of gs), length-group g)

module _ (first : ℕ) (groups : List Group) (log : LogView) (c : Contents) (is : IsLogged first groups log c) (flushed : log.flushed + 1 ≡ log.next)
    (some : first < log.next) where
  has_block : 0 < log.block
  has_block = elim (cases_lt 0 log.block) [
    | inl any ↦ any
    | inr none ↦
        let zero_is : log.block ≡ 0 = omega (arith, none) in
        let empty : [] ≡ stream_of is.durable = subst (λ (n : ℕ). payloads n c.synced ≡ stream_of is.durable) zero_is is.stored in
        let long = some_stream is.durable (omega (arith, is.flushed, flushed, some)) in
        absurd (omega (arith, ap length empty, long))
  ]

  no_other : (area : List ℕ) → IsGood log.run 0 area → IsGood (log.run + 1) 0 area → ⊥
  no_other area own other = absurd (omega (arith, own.of_run, other.of_run))

  pub nowhere_used : (area : List ℕ) → MayLeave c area → IsHonestArea 512 c area → IsGood (log.run + 1) 0 area → ⊥
  nowhere_used area left honest other = no_other area (good_before first groups log c is area left 0 has_block) other

  pub unused : IsUnused (log.run + 1) c
  unused = record {
    other = λ other. no_other c.synced (is.good 0 has_block) other;
    later =
        All-weaker (WritesFront log.block log.tried log.pending) (λ (w : Write). (512 ≤ w.at) ⊎ (w.bytes ≡ replicate (length w.bytes) 0))
        (λ (w : Write) front. inl (omega (arith, front.place, has_block))) c.writes
        is.writes;
  }

-- ---- the batch

module _ (header : List ℕ) (good : IsGoodPage 0 header) where
  is_alone : page_at (alone header) 0 ≡ header
  is_alone = page_alone header good.size

  pub is_batch : IsBatch (alone header)
  is_batch = record {
    few = omega arith;
    whole = good.size;
    sealed = λ k below.
        let none : 0 ≡ k = omega (arith, below) in
        subst (λ (n : ℕ). PassesSum (page_at (alone header) n)) none (subst PassesSum (sym is_alone) good.sum);
    distinct = λ j k low below. absurd (omega (arith, low, below));
  }

-- ---- the checkpoint

module _ (capacity first : ℕ) (groups : List Group) (base : ℕ → List ℕ) (pool : PoolView) (log : LogView) (next : NewRun) (is : IsNextRun pool log next)
    (header : List ℕ) (good : IsGoodPage 0 header) (front : AreBytes 8 header)
    (becomes : IsNextHeader log.next next.run next.first (bytes_of pool 0) header) (b : State) (all : HoldsAll capacity first groups base pool log b) where
  abbrev page : List ℕ
  page = bytes_of pool 0

  same_head : head_of page ≡ head_of (base 0)
  same_head =
      stage_spares base first groups (length groups) page all.file.is.each (all.file.is.bases 0) all.file.spared
      (record { after = length groups; upto = omega arith; same = all.header })

  old_number : (at n : ℕ) → 32 ≤ at → at + n ≤ 64 → take n (drop at page) ≡ take n (drop at (base 0))
  old_number at n low high = same_part 32 32 at n page (base 0) low high same_head

  new_number : (at n : ℕ) → 32 ≤ at → at + n ≤ 48 → take n (drop at header) ≡ take n (drop at (base 0))
  new_number at n low high =
      same_part 20 28 at n header page (omega (arith, low)) (omega (arith, high)) becomes.middle ∙ old_number at n low (omega (arith, high))

  says_run : u64_at 48 page ≡ log.run
  unfolding u64_at
  says_run = ap (from_be_bytes w64) (old_number 48 8 (omega arith) (omega arith)) ∙ all.file.header.of_run

  says_first : u64_at 56 page ≡ first
  unfolding u64_at
  says_first = ap (from_be_bytes w64) (old_number 56 8 (omega arith) (omega arith)) ∙ all.file.header.begins

  pub last_is : log.next ≡ first + length groups
  last_is = all.held.logged.next

  pub run_is : next.run ≡ log.run + 1
  run_is = omega (arith, is.run_is, says_run)

  pub first_is : next.first ≡ first + length groups + 1
  first_is = omega (arith, is.first_is, last_is)

  new_magic : u64_at 32 header ≡ u64_at 32 (base 0)
  unfolding u64_at
  new_magic = ap (from_be_bytes w64) (new_number 32 8 (omega arith) (omega arith))

  new_version : u32_at 40 header ≡ u32_at 40 (base 0)
  unfolding u32_at
  new_version = ap (from_be_bytes w32) (new_number 40 4 (omega arith) (omega arith))

  new_capacity : u32_at 44 header ≡ u32_at 44 (base 0)
  unfolding u32_at
  new_capacity = ap (from_be_bytes w32) (new_number 44 4 (omega arith) (omega arith))

  new_header : IsFileHeader capacity (log.run + 1) (first + length groups + 1) header
  new_header = record {
    marked = new_magic ∙ all.file.header.marked;
    version = new_version ∙ all.file.header.version;
    pages = new_capacity ∙ all.file.header.pages;
    enough = all.file.header.enough;
    few = all.file.header.few;
    of_run = becomes.of_run ∙ run_is;
    begins = becomes.begins ∙ first_is;
  }

  pub next_header : IsNextHeader (first + length groups) (log.run + 1) (first + length groups + 1) page header
  next_header = record {
    number = becomes.number;
    lsn_is = becomes.lsn_is ∙ last_is;
    of_run = becomes.of_run ∙ run_is;
    begins = becomes.begins ∙ first_is;
    middle = becomes.middle;
    behind = becomes.behind;
  }

  pub clean : IsClean first log.flushed groups base b
  clean = record {
    all = omega (arith, is.flushed, last_is);
    placed = all.held.pages;
    each = λ page below. all.each page below (is.clean page);
  }

  some : first < log.next
  some = omega (arith, is.some, says_first)

  pub new_unused : IsUnused (log.run + 1) b.log
  new_unused = unused first groups log b.log all.held.logged is.flushed some

  pub check : IsCheckpoint capacity log.run first groups (alone header) b
  check = record {
    is_batch = is_batch header good;
    alone = refl;
    number = ap number_of (is_alone header good) ∙ good.number_is;
    are_bytes = subst (AreBytes 8) (sym (is_alone header good)) front;
    lsn = ap lsn_of (is_alone header good) ∙ (becomes.lsn_is ∙ last_is);
    header = subst (IsFileHeader capacity (log.run + 1) (first + length groups + 1)) (sym (is_alone header good)) new_header;
    unused = nowhere_used first groups log b.log all.held.logged is.flushed some;
  }
