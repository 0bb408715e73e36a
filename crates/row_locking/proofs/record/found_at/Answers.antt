use Rattle.std.proofs.Common.{inl, ◌∙◌, sym}
use Rattle.row_locking.proofs.Visiting.{marked_so}
use Rattle.row_locking.proofs.record.found_at.Goals as goal

pub returns-then-head : goal.returns-then-head
returns-then-head c coded code =
    inl (marked_so c.in-Some.head coded (sym c.in-Some.is ∙ c.read_head.ensures.back _ coded _ code.numbers code.record_is) c.if-head.true)

pub returns-in_default : goal.returns-in_default
returns-in_default c coded code = c.in_default.not-Some _ (c.read_head.ensures.back _ coded _ code.numbers code.record_is)
