-- What the write and the sync of a flush make of a log area.
use Rattle.std.proofs.Common.{◌≡◌, inl, inr, ℕ, ◌+◌, ◌-◌, ◌*◌, ◌^◌, ◌<◌, ◌≤◌, min, max, Bool, true, List, [], ◌++◌, length, take, drop, replicate, get_or, refl, sym, ◌∙◌, ap, subst, arith, append_assoc, length-take, length-drop}
use Rattle.std.specs.Prelude.{All}
use Rattle.std.specs.List.{flat_map}
use Rattle.std.proofs.lemmas.Bool.{cases_lt}
use Rattle.std.proofs.lemmas.List.{take_at, drop_at, take_all, length-take-le, drop-drop}
use Rattle.std.proofs.lemmas.List.Concat.{flat_map-append}
use Rattle.std.proofs.lemmas.List.Elements.{All-push, All-weaker}
use Rattle.store_api.specs.Areas.{Write, Contents, MayLeave, Wrote, piece, write_of, end_of}
use Rattle.store_api.proofs.Pieces.{piece_front, piece-take}
use Rattle.store_api.proofs.Images.{left_behind, ends_by}
use Rattle.log_format.specs.declared.group.Group.{Group}
use Rattle.log_format.specs.Group.{group_bytes}
use Rattle.log_format.specs.Block.{block_bytes, IsGood, payloads}
use Rattle.log_format.specs.Scan.{stream_of}
use Rattle.log_format.proofs.Good.{IsGood-same, IsGood-block, payloads-same, payloads-put}
use Rattle.redo_log.specs.View.{LogView, all_tried}
use Rattle.redo_log.specs.Logged.{WritesFront, IsLogged, GoesOnAt}
use Rattle.redo_log.proofs.Crash.{reach, length-pending, piece-pending, front_stays}

-- only what is on the disk and what was written since matters
pub IsLogged-same : (first : ℕ) (groups : List Group) (log : LogView) (c d : Contents) → IsLogged first groups log c → d.synced ≡ c.synced
    → All (WritesFront log.block log.tried log.pending) d.writes → IsLogged first groups log d
IsLogged-same first groups log c d is same writes = record {
  durable = is.durable;
  waiting = is.waiting;
  split = is.split;
  each = is.each;
  next = is.next;
  flushed = is.flushed;
  good = λ k below. subst (IsGood log.run k) (sym same) (is.good k below);
  bad = λ k behind good. is.bad k behind (subst (IsGood log.run k) same good);
  stored = ap (payloads log.block) same ∙ is.stored;
  blocks = is.blocks;
  writes = writes;
}

pub sync_failed : (first : ℕ) (groups : List Group) (log : LogView) (c d : Contents) → IsLogged first groups log c → d.synced ≡ c.synced
    → d.writes ≡ c.writes → IsLogged first groups log d
sync_failed first groups log c d is same writes =
    IsLogged-same first groups log c d is same (subst (All (WritesFront log.block log.tried log.pending)) (sym writes) is.writes)

-- a write may try more blocks
pub tries_more : (block few many : ℕ) (pending : List ℕ) → few ≤ many → (w : Write) → WritesFront block few pending w → WritesFront block many pending w
tries_more block few many pending more w put = record { place = put.place; blocks = put.blocks; few = omega (arith, put.few, more); front = put.front }

pub all_tried_logged : (first : ℕ) (groups : List Group) (log : LogView) (c : Contents) → log.tried ≤ log.count → IsLogged first groups log c
    → IsLogged first groups (all_tried log) c
all_tried_logged first groups log c tries is = record {
  durable = is.durable;
  waiting = is.waiting;
  split = is.split;
  each = is.each;
  next = is.next;
  flushed = is.flushed;
  good = is.good;
  bad = is.bad;
  stored = is.stored;
  blocks = is.blocks;
  writes =
      All-weaker (WritesFront log.block log.tried log.pending) (WritesFront log.block log.count log.pending)
      (tries_more log.block log.tried log.count log.pending tries) c.writes is.writes;
}

-- ---- the write

module _ (first : ℕ) (groups : List Group) (log : LogView) (c : Contents) (is : IsLogged first groups log c) (seen : MayLeave c c.seen) where
  -- the write goes where it is meant to go
  place : min (512 * log.block) (length c.seen) ≡ 512 * log.block
  place = omega (arith, seen.no_shorter, reach first groups log c is)

  no_gap : replicate (512 * log.block - length c.seen) 0 ++ log.pending ≡ log.pending
  no_gap =
      let none : 512 * log.block - length c.seen ≡ 0 = omega (arith, seen.no_shorter, reach first groups log c is) in
      ap (λ (n : ℕ). replicate n 0 ++ log.pending) none

  pub written : log.count ≤ log.tried → (ok : Bool) (d : Contents) → Wrote (512 * log.block) log.pending ok c d → IsLogged first groups log d
  written tried ok d wrote =
      let w = write_of c.seen (512 * log.block) log.pending in
      let front : WritesFront log.block log.tried log.pending w = record {
        place = place;
        blocks = log.count;
        few = tried;
        front = no_gap ∙ sym (take_all (512 * log.count) log.pending (omega (arith, length-pending first groups log c is)));
      } in
      IsLogged-same first groups log c d is wrote.synced
      (subst (All (WritesFront log.block log.tried log.pending)) (sym wrote.writes) (All-push (WritesFront log.block log.tried log.pending) c.writes w is.writes front))

  length-front : length (take (512 * log.block) c.seen) ≡ 512 * log.block
  length-front = length-take-le (512 * log.block) c.seen (omega (arith, seen.no_shorter, reach first groups log c is))

  -- a read gives the blocks after it
  pub stands_there : (d : Contents) → Wrote (512 * log.block) log.pending true c d → take (512 * log.count) (drop (512 * log.block) d.seen) ≡ log.pending
  stands_there d wrote =
      let front = take (512 * log.block) c.seen in
      let behind = drop (512 * log.block + length log.pending) c.seen in
      let long = length-pending first groups log c is in
      let now : d.seen ≡ front ++ (log.pending ++ behind) =
      wrote.seen refl
      ∙ (λ i. take (place i) c.seen ++ no_gap i ++ drop (place i + length (no_gap i)) c.seen)
      ∙ append_assoc front log.pending behind in
      ap (λ (l : List ℕ). take (512 * log.count) (drop (512 * log.block) l)) now
      ∙ ap (λ (l : List ℕ). take (512 * log.count) l) (drop_at front (log.pending ++ behind) (512 * log.block) length-front)
      ∙ take_at log.pending behind (512 * log.count) long

-- ---- the sync

module _ (first : ℕ) (groups : List Group) (log : LogView) (c : Contents) (is : IsLogged first groups log c) (seen : MayLeave c c.seen)
    (there : take (512 * log.count) (drop (512 * log.block) c.seen) ≡ log.pending) where
  inside : 512 * (log.block + log.count) ≤ length c.seen
  inside =
      omega (
        arith,
        ap length there,
        length-pending first groups log c is,
        length-take (512 * log.count) (drop (512 * log.block) c.seen),
        length-drop (512 * log.block) c.seen,
        seen.no_shorter,
        reach first groups log c is,
      )

  same_before : take (512 * log.block) c.seen ≡ take (512 * log.block) c.synced
  same_before = front_stays first groups log c is c.seen seen

  put_behind : (j : ℕ) → j < log.count → piece 512 (log.block + j) c.seen ≡ block_bytes log.run (log.block + j) (get_or is.blocks.parts j [])
  put_behind j below =
      let at : 512 * (log.block + j) ≡ 512 * log.block + 512 * j = omega arith in
      ap (λ (n : ℕ). take 512 (drop n c.seen)) at
      ∙ ap (λ (l : List ℕ). take 512 l) (sym (drop-drop (512 * j) (512 * log.block) c.seen))
      ∙ sym (piece-take 512 log.count j (drop (512 * log.block) c.seen) below)
      ∙ ap (λ (l : List ℕ). piece 512 j l) there
      ∙ piece-pending first groups log c is j below

  ends : All (λ (w : Write). end_of w ≤ 512 * (log.block + log.count)) c.writes
  ends =
      All-weaker (WritesFront log.block log.tried log.pending) (λ (w : Write). end_of w ≤ 512 * (log.block + log.count))
      (λ (w : Write) put. omega (arith, put.place, ap length put.front, length-take (512 * put.blocks) log.pending, length-pending first groups log c is))
      c.writes is.writes

  no_longer : length c.seen ≤ max (length c.synced) (512 * (log.block + log.count))
  no_longer = omega (arith, seen.no_longer, ends_by c.writes (length c.synced) (512 * (log.block + log.count)) ends)

  bad_behind : (k : ℕ) → log.block + log.count ≤ k → IsGood log.run k c.seen → ⊥
  bad_behind k from good =
      let within : 512 * (k + 1) ≤ length c.synced = omega (arith, good.inside, no_longer, from) in
      let before =
      All-weaker (λ (w : Write). end_of w ≤ 512 * (log.block + log.count)) (λ (w : Write). end_of w ≤ 512 * k)
      (λ (w : Write) le. omega (arith, le, from)) c.writes ends in
      let same : piece 512 k c.seen ≡ piece 512 k c.synced = left_behind c c.seen seen (512 * k) 512 (omega (arith, within)) before in
      is.bad k (omega (arith, from)) (IsGood-same log.run k c.seen c.synced within same good)

  module _ (run_fits : log.run < 2 ^ 64) (end_fits : log.block + log.count < 2 ^ 64) where
    good_now : (k : ℕ) → k < log.block + log.count → IsGood log.run k c.seen
    good_now k below = elim (cases_lt k log.block) [
      | inl before ↦
          IsGood-same log.run k c.synced c.seen (omega (arith, inside, below)) (sym (piece_front 512 log.block k c.seen c.synced before same_before))
          (is.good k before)
      | inr from ↦
          let j = k - log.block in
          let number : log.block + j ≡ k = omega (arith, from) in
          IsGood-block log.run k (get_or is.blocks.parts j []) c.seen run_fits (omega (arith, below, end_fits)) (omega (arith, inside, below))
          (subst (λ (m : ℕ). piece 512 m c.seen ≡ block_bytes log.run m (get_or is.blocks.parts j [])) number (put_behind j (omega (arith, below, from))))
    ]

    stored_now : payloads (log.block + log.count) c.seen ≡ stream_of groups
    stored_now =
        let parts = is.blocks.parts in
        let taken : take log.count parts ≡ parts = take_all log.count parts (omega (arith, is.blocks.count)) in
        payloads-put log.run log.block log.count parts c.seen is.blocks.small (omega (arith, is.blocks.count)) put_behind
        ∙ ap (λ (l : List ℕ). l ++ flat_map (λ (p : List ℕ). p) (take log.count parts))
        (payloads-same log.block c.seen c.synced (λ k below. piece_front 512 log.block k c.seen c.synced below same_before) ∙ is.stored)
        ∙ ap (λ (l : List (List ℕ)). stream_of is.durable ++ flat_map (λ (p : List ℕ). p) l) taken
        ∙ ap (λ (l : List ℕ). stream_of is.durable ++ l) is.blocks.whole
        ∙ sym (flat_map-append group_bytes is.durable is.waiting)
        ∙ ap stream_of (sym is.split)

    -- all groups are on the disk
    pub flushed : (d : Contents) → d ≡ record { seen = c.seen; synced = c.seen; writes = [] }
        → GoesOnAt log.run first (log.block + log.count) groups d
    flushed d is_now = subst (GoesOnAt log.run first (log.block + log.count) groups) (sym is_now) (record {
      rests = refl;
      each = is.each;
      good = good_now;
      bad = bad_behind;
      stored = stored_now;
    })
