-- How a log goes on between the two halves of a flush, and after the second.
use Rattle.std.proofs.Common.{◌≡◌, true, ℕ, ◌+◌, ◌-◌, ◌*◌, ◌^◌, ◌<◌, ◌≤◌, List, [], ◌∷◌, ◌++◌, length, take, drop, sym, ◌∙◌, ap, subst, arith, append_assoc, length-append}
use Rattle.std.specs.Prelude.{All}
use Rattle.std.proofs.Math.Seq.{take-append-add, drop-append-add}
use Rattle.std.proofs.lemmas.List.{append-nil, take-take, take-append-le, length-take-le, drop_at}
use Rattle.std.proofs.lemmas.List.Concat.{flat_map-append}
use Rattle.std.proofs.lemmas.List.Elements.{All-nil, All-weaker}
use Rattle.store_api.specs.Areas.{Write, Contents, MayLeave, Wrote}
use Rattle.log_format.specs.declared.group.Group.{Group}
use Rattle.log_format.specs.Group.{group_bytes, IsGroup}
use Rattle.log_format.specs.Block.{AreBlocks, payload_of}
use Rattle.log_format.specs.Scan.{stream_of}
use Rattle.log_format.proofs.Blocks.{AreBlocks-none, AreBlocks-append}
use Rattle.log_format.proofs.Groups.{AreGroups-push}
use Rattle.log_format.proofs.Open.{AreBlocks-more}
use Rattle.redo_log.specs.View.{LogView, Stay}
use Rattle.redo_log.specs.Logged.{WritesFront, IsLogged, GoesOnAt}
use Rattle.redo_log.specs.Halves.{WrittenView, front_log, IsWritten}
use Rattle.redo_log.proofs.Crash.{length-pending}
use Rattle.redo_log.proofs.Flushed.{written, tries_more, stands_there, flushed}

-- a write of a front of some blocks is one of a front of those with more behind
pub front_longer : (block tried : ℕ) (front back : List ℕ) → 512 * tried ≤ length front → (w : Write) → WritesFront block tried front w
    → WritesFront block tried (front ++ back) w
front_longer block tried front back long w put = record {
  place = put.place;
  blocks = put.blocks;
  few = put.few;
  front = put.front ∙ sym (take-append-le (512 * put.blocks) front back (omega (arith, long, put.few)));
}

-- and of those that stay, where others come behind them
pub front_kept : (block tried kept : ℕ) (pending put : List ℕ) → tried ≤ kept → 512 * kept ≤ length pending → (w : Write)
    → WritesFront block tried pending w → WritesFront block tried (take (512 * kept) pending ++ put) w
front_kept block tried kept pending put within long w is =
    front_longer block tried (take (512 * kept) pending) put (omega (arith, within, length-take-le (512 * kept) pending long)) w (record {
      place = is.place;
      blocks = is.blocks;
      few = is.few;
      front = is.front ∙ sym (take-take (512 * is.blocks) (512 * kept) pending (omega (arith, is.few, within)));
    })

stream-append : (xs ys : List Group) → stream_of (xs ++ ys) ≡ stream_of xs ++ stream_of ys
stream-append xs ys = flat_map-append group_bytes xs ys

-- ---- after the first half

module _ (first : ℕ) (groups : List Group) (log : LogView) (c : Contents) (is : IsLogged first groups log c) (seen : MayLeave c c.seen) (d : Contents)
    (wrote : Wrote (512 * log.block) log.pending true c d) (some : 0 < log.next) (tried : log.tried ≡ log.count) where
  -- the log is its own front
  own_front : IsLogged first groups log d → IsLogged first groups (front_log (record { block = log.block; count = log.count; last = log.next - 1 }) log log.pending) d
  own_front now = record {
    durable = now.durable;
    waiting = now.waiting;
    split = now.split;
    each = now.each;
    next = omega (arith, now.next, some);
    flushed = now.flushed;
    good = now.good;
    bad = now.bad;
    stored = now.stored;
    blocks = now.blocks;
    writes =
        All-weaker (WritesFront log.block log.tried log.pending) (WritesFront log.block log.count log.pending)
        (tries_more log.block log.tried log.count log.pending (omega (arith, tried))) d.writes now.writes;
  }

  pub all_written : IsWritten first groups (record { block = log.block; count = log.count; last = log.next - 1 }) log d
  all_written = record {
    sent = groups;
    later = [];
    split = sym (append-nil groups);
    each = is.each;
    next = is.next;
    front = log.pending;
    back = [];
    parts = sym (append-nil log.pending);
    more = 0;
    number = omega arith;
    tried = omega (arith, tried);
    written = own_front (written first groups log c is seen (omega (arith, tried)) true d wrote);
    behind = AreBlocks-none log.run (log.block + log.count);
    seen = stands_there first groups log c is seen d wrote;
  }

-- ---- between the halves

module _ (first : ℕ) (groups : List Group) (w : WrittenView) (log : LogView) (c : Contents) (is : IsWritten first groups w log c) where
  abbrev front : LogView
  front = front_log w log is.front

  pub length-front : length is.front ≡ 512 * w.count
  length-front = length-pending first is.sent front c is.written

  -- the log stands for all its groups
  pub still_logged : IsLogged first groups log c
  still_logged = record {
    durable = is.written.durable;
    waiting = is.written.waiting ++ is.later;
    split =
        is.split ∙ ap (λ (l : List Group). l ++ is.later) is.written.split ∙ append_assoc is.written.durable is.written.waiting is.later;
    each = is.each;
    next = is.next;
    flushed = is.written.flushed;
    good = is.written.good;
    bad = is.written.bad;
    stored = is.written.stored;
    blocks =
        subst (λ (bytes : List ℕ). AreBlocks log.run log.block bytes log.count log.pending) (sym (stream-append is.written.waiting is.later))
        (subst (λ (n : ℕ). AreBlocks log.run log.block (stream_of is.written.waiting ++ stream_of is.later) n log.pending) (sym is.number)
        (subst (λ (l : List ℕ). AreBlocks log.run log.block (stream_of is.written.waiting ++ stream_of is.later) (w.count + is.more) l) (sym is.parts)
        (AreBlocks-append log.run log.block (stream_of is.written.waiting) (stream_of is.later) w.count is.more is.front is.back is.written.blocks is.behind)));
    writes =
        subst (λ (l : List ℕ). All (WritesFront log.block log.tried l) c.writes) (sym is.parts)
        (All-weaker (WritesFront log.block w.count is.front) (WritesFront log.block log.tried (is.front ++ is.back))
        (λ (x : Write) put. tries_more log.block w.count log.tried (is.front ++ is.back) is.tried x
        (front_longer log.block w.count is.front is.back (omega (arith, length-front)) x put))
        c.writes is.written.writes);
  }

  -- a group more
  pub written_more : (g : Group) → IsGroup g → g.lsn ≡ log.next → (kept : ℕ) → Stay kept log → (n : ℕ) (blocks : List ℕ)
      → AreBlocks log.run (log.block + kept) (payload_of (drop (512 * kept) log.pending) ++ group_bytes g) n blocks → (spare : ℕ)
      → IsWritten first (groups ++ g ∷ []) w (record {
        run = log.run;
        block = log.block;
        pending = take (512 * kept) log.pending ++ blocks;
        count = kept + n;
        tried = log.tried;
        next = log.next + 1;
        flushed = log.flushed;
        spare = spare;
      }) c
  written_more g is_group number kept stay n blocks put spare =
      let behind = kept - w.count in
      let within : w.count + behind ≡ kept = omega (arith, is.tried, stay.tried) in
      let place : log.block + kept ≡ log.block + w.count + behind = omega (arith, within) in
      let far : 512 * kept ≡ length is.front + 512 * behind = omega (arith, within, length-front) in
      let kept_front : take (512 * kept) log.pending ≡ is.front ++ take (512 * behind) is.back =
      (λ i. take (far i) (is.parts i)) ∙ take-append-add is.front is.back (512 * behind) in
      let open_back : drop (512 * kept) log.pending ≡ drop (512 * behind) is.back =
      (λ i. drop (far i) (is.parts i)) ∙ drop-append-add is.front is.back (512 * behind) in
      let alone : group_bytes g ≡ stream_of (g ∷ []) = sym (append-nil (group_bytes g)) in
      record {
        sent = is.sent;
        later = is.later ++ g ∷ [];
        split = ap (λ (l : List Group). l ++ g ∷ []) is.split ∙ append_assoc is.sent is.later (g ∷ []);
        each = AreGroups-push first groups g is.each is_group (number ∙ is.next);
        next = omega (arith, is.next, length-append groups (g ∷ []));
        front = is.front;
        back = take (512 * behind) is.back ++ blocks;
        parts = ap (λ (l : List ℕ). l ++ blocks) kept_front ∙ append_assoc is.front (take (512 * behind) is.back) blocks;
        more = behind + n;
        number = omega (arith, within);
        tried = is.tried;
        written = is.written;
        behind =
            subst (λ (l : List ℕ). AreBlocks log.run (log.block + w.count) l (behind + n) (take (512 * behind) is.back ++ blocks))
            (ap (λ (l : List ℕ). stream_of is.later ++ l) alone ∙ sym (stream-append is.later (g ∷ [])))
            (AreBlocks-more log.run (log.block + w.count) (stream_of is.later) is.more is.back is.behind behind
            (omega (arith, within, stay.few, is.number)) (omega (arith, within, stay.most, is.number)) (group_bytes g) n blocks
            (subst (λ (l : List ℕ). AreBlocks log.run (log.block + w.count + behind) (payload_of l ++ group_bytes g) n blocks) open_back
            (subst (λ (m : ℕ). AreBlocks log.run m (payload_of (drop (512 * kept) log.pending) ++ group_bytes g) n blocks) place put)));
        seen = is.seen;
      }

  -- ---- after the second half

  module _ (seen : MayLeave c c.seen) (run_fits : log.run < 2 ^ 64) (end_fits : log.block + log.count < 2 ^ 64) (d : Contents)
      (now : d ≡ record { seen = c.seen; synced = c.seen; writes = [] }) (spare : ℕ) where
    sent_stands : GoesOnAt log.run first (log.block + w.count) is.sent d
    sent_stands = flushed first is.sent front c is.written seen is.seen run_fits (omega (arith, end_fits, is.number)) d now

    -- what is left of the log
    pub rest_logged : IsLogged first groups (record {
      run = log.run;
      block = log.block + w.count;
      pending = drop (512 * w.count) log.pending;
      count = log.count - w.count;
      tried = log.tried - w.count;
      next = log.next;
      flushed = w.last;
      spare = spare;
    }) d
    rest_logged =
        let left : is.back ≡ drop (512 * w.count) log.pending =
        sym (ap (λ (l : List ℕ). drop (512 * w.count) l) is.parts ∙ drop_at is.front is.back (512 * w.count) length-front) in
        let many : is.more ≡ log.count - w.count = omega (arith, is.number) in
        record {
          durable = is.sent;
          waiting = is.later;
          split = is.split;
          each = is.each;
          next = is.next;
          flushed = is.written.next;
          good = sent_stands.good;
          bad = sent_stands.bad;
          stored = sent_stands.stored;
          blocks =
              subst (λ (l : List ℕ). AreBlocks log.run (log.block + w.count) (stream_of is.later) (log.count - w.count) l) left
              (subst (λ (m : ℕ). AreBlocks log.run (log.block + w.count) (stream_of is.later) m is.back) many is.behind);
          writes = subst (All (WritesFront (log.block + w.count) (log.tried - w.count) (drop (512 * w.count) log.pending))) (sym sent_stands.rests)
              (All-nil (WritesFront (log.block + w.count) (log.tried - w.count) (drop (512 * w.count) log.pending)));
        }
