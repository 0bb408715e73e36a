use Rattle.std.proofs.Common.{◌≡◌, ◌++◌, ◌∷◌, [], true, sym, subst, ◌∙◌}
use Rattle.buffer_pool.specs.Frames.{PoolView, is_pooled}
use Rattle.mini_txn.specs.View.{Places}
use Rattle.mini_txn.proofs.Placed.{last_places, lost_places, unread_places}
use Rattle.mini_txn.proofs.placing.place_entry.Goals as goal
use Rattle.mini_txn.proofs.placing.place_entry.Goals.{else-entry-via-then-entry+else-is_pooled, else-entry-via-else-entry}

pub returns-then-is_pooled : goal.returns-then-is_pooled
returns-then-is_pooled c = λ front.
    let entry = c.args.entry.now in
    let there : is_pooled c.args.pool.now entry.page ≡ true = sym c.is_pooled.ensures ∙ c.if-is_pooled.true in
    let done = c.place.ensures in
    subst (λ (p : PoolView). Places c.args.lsn c.args.pool.now (front ++ entry ∷ []) p front) (sym done.2)
    (last_places c.args.lsn c.args.pool.now front entry done.0 c.if-entry.true there done.1.number done.1.lsn_is done.1.behind)

pub returns-else-entry : goal.returns-else-entry
returns-else-entry c = elim c.else-entry.branch [
  | else-entry-via-then-entry+else-is_pooled w ↦ λ front. lost_places c.args.lsn c.args.pool.now front c.args.entry.now w.if-entry.true
      (sym w.is_pooled.ensures ∙ w.if-is_pooled.false)
  | else-entry-via-else-entry w ↦ λ front. unread_places c.args.lsn c.args.pool.now front c.args.entry.now w.if-entry.false
]
