-- What a step leaves to be done.
use Rattle.std.proofs.Common.{◌≡◌, inl, inr, ℕ, ◌-◌, ◌<◌, Bool, true, false, Option, Some, None, length, refl, ◌∙◌, ap, arith}
use Rattle.std.specs.Prelude.{not, ◌&&◌}
use Rattle.inno_types.specs.Order.{IsBelow}
use Rattle.stored_pages.specs.Words.{lsn_of}
use Rattle.buffer_pool.specs.Frames.{PoolView, is_dirty, bytes_of}
use Rattle.doublewrite.specs.Batches.{BatchView, StagedView}
use Rattle.flusher.specs.Cleaning.{is_among, waits, count_below, to_go, Settles, finished}
use Rattle.flusher.specs.Working.{IsBegun, GoesOn}
use Rattle.flusher.proofs.Counting.{count_same}
use Rattle.flusher.proofs.Gathered.{fewer_wait}
use Rattle.flusher.proofs.Cleaned.{waits_as_before}

-- a batch was staged
pub begun_nears : (pool : PoolView) (new : Option StagedView) → IsBegun pool new → IsBelow (to_go new pool) (to_go None pool)
begun_nears pool None begun = absurd begun
begun_nears pool (Some staged) begun = inl (fewer_wait begun.upto pool staged begun.gathers begun.some)

and_true : (b : Bool) → (b && not false) ≡ b
and_true true = refl
and_true false = refl

-- a page was placed
pub placed_nears : (staged : StagedView) (new : Option StagedView) (old_pool new_pool : PoolView) → staged.placed < staged.batch.count
    → GoesOn staged new
    → Settles (finished (Some staged) new) old_pool new_pool → IsBelow (to_go new new_pool) (to_go (Some staged) old_pool)
placed_nears staged None old_pool new_pool within goes cleans =
    let length_same : length new_pool.slots ≡ length old_pool.slots = cleans.slots in
    let each : (page : ℕ) → waits None new_pool page ≡ waits (Some staged) old_pool page = λ page. and_true (is_dirty new_pool page)
    ∙ waits_as_before staged old_pool new_pool page cleans in
    let same = count_same (waits (Some staged) old_pool) (waits None new_pool) (length new_pool.slots) each in
    let waiting : count_below (waits None new_pool) (length new_pool.slots) ≡ count_below (waits (Some staged) old_pool) (length old_pool.slots) =
    same ∙ ap (count_below (waits (Some staged) old_pool)) length_same in
    let left : 0 < staged.batch.count - staged.placed = omega (arith, within) in
    inr (waiting, inl left)
placed_nears staged (Some next) old_pool new_pool within goes same =
    let batch : next.batch ≡ staged.batch = goes.0 in
    let waiting : count_below (waits (Some next) new_pool) (length new_pool.slots) ≡ count_below (waits (Some staged) old_pool) (length old_pool.slots) =
    ap (λ (pool : PoolView). count_below (waits (Some next) pool) (length pool.slots)) same
    ∙ ap (λ (b : BatchView). count_below (λ page. is_dirty old_pool page && not (is_among b b.count page (lsn_of (bytes_of old_pool page))))
    (length old_pool.slots)) batch in
    let count : next.batch.count ≡ staged.batch.count = ap (λ (b : BatchView). b.count) batch in
    let left : next.batch.count - next.placed < staged.batch.count - staged.placed = omega (arith, within, goes.1, count) in
    inr (waiting, inl left)
