use Rattle.std.proofs.Common.{◌≡◌, ◌∙◌, inl, inr, get_or, set, sym, ap, length, arith, length-set}
use Rattle.std.specs.Prelude.{None, ◌==◌, not, filter}
use Rattle.std.proofs.lemmas.Bool.{cases_lt}
use Rattle.lock_lists.specs.Places.{Granted, locks_of, holds_at, is_of}
use Rattle.lock_lists.proofs.Locks.{emptied_behind, emptied_others, only_others}
use Rattle.lock_lists.proofs.granted.GrantedLocks.end.Goals as goal

pub loop-place-preserved : goal.loop-place-preserved
loop-place-preserved c =
    let places = c.loop-place.self.places in
    let place = c.in-Some.place in
    let so_far = c.loop-place.invariant in
    let last = c.in-Some.ensures.found in
    let now : c.take_out.new.self.places ≡ set places place None = ap (λ (g : Granted). g.places) c.take_out.ensures in
    let below = last.below in
    record {
      within = omega (arith, so_far.within, below, ap length now, length-set places place None);
      behind = λ i from. ap (λ ps. holds_at (is_of c.args.txn) (get_or ps i None)) now ∙ emptied_behind c.args.txn places c.loop-place.limit place last so_far.behind i from;
      others = ap (λ ps. filter (λ l. not (l.txn == c.args.txn)) (locks_of ps)) now
          ∙ emptied_others c.args.txn places c.loop-place.limit place last so_far.behind ∙ so_far.others;
      stays = ap (λ (g : Granted). g.room) c.take_out.ensures ∙ so_far.stays;
    }

pub returns-clause-locks : goal.returns-clause-locks
returns-clause-locks c =
    let places = c.loop-place.self.places in
    let so_far = c.loop-place.invariant in
    let none = c.in_default.ensures.none in
    sym (only_others c.args.txn places (λ i lt. elim (cases_lt i c.loop-place.limit) [
      | inl below ↦ none.none i below
      | inr past ↦ so_far.behind i past
    ])) ∙ so_far.others
