use Rattle.std.proofs.Common.{◌≡◌, ◌≤◌, ℕ, List, false, refl, sym, subst, ◌∙◌, length}
use Rattle.stored_pages.specs.Words.{u32_at}
use Rattle.buffer_pool.specs.Frames.{is_standing}
use Rattle.mini_txn.proofs.Meeting.{none_stands, blank_counts}
use Rattle.mini_txn.proofs.work.pool_counts_few.Goals as goal

pub returns-else-is_standing : goal.returns-else-is_standing
returns-else-is_standing c =
    let pool = c.args.pool.now in
    let none : is_standing pool 0 ≡ false = sym c.is_standing.ensures ∙ c.if-is_standing.false in
    (λ h. subst (λ (l : List ℕ). u32_at 44 l ≤ length pool.slots) (sym (none_stands pool 0 none)) (blank_counts (length pool.slots)), λ h. refl)
