use Rattle.std.proofs.Common.{◌≡◌, ℕ, List, length, ap, ◌∙◌}
use Rattle.mini_txn.specs.View.{stamped}
use Rattle.mini_txn.proofs.Bodies.{length-stamped}
use Rattle.page_recovery.proofs.pages.PageBytes.stamped.Goals as goal

size : (page lsn : ℕ) (old now new : List ℕ) → new ≡ stamped page lsn now → now ≡ old → length old ≡ 4096 → length new ≡ 4096
size page lsn old now new is same long = ap (λ (l : List ℕ). length l) (is ∙ ap (stamped page lsn) same) ∙ length-stamped page lsn old long

pub invariant_of-self : goal.invariant_of-self
invariant_of-self c =
    size c.args.page c.args.lsn c.self.inside.bytes.value c.deref_mut.result.now c.stamp_over.new.bytes
    c.stamp_over.ensures c.deref_mut.ensures.value c.self.invariant

pub returns-clause-size : goal.returns-clause-size
returns-clause-size c =
    size c.args.page c.args.lsn c.self.inside.bytes.value c.deref_mut.result.now c.stamp_over.new.bytes
    c.stamp_over.ensures c.deref_mut.ensures.value c.self.invariant
