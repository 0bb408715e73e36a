use Rattle.std.proofs.Common.{ℕ, List, subst, arith}
use Rattle.std.specs.Prelude.{MatchOption}
use Rattle.stored_pages.specs.Reading.{IsGoodPage}
use Rattle.stored_pages.proofs.Newest.{inside}
use Rattle.stored_pages.proofs.copies.number_of_copy.Goals as goal

pub returns-then-double-slot : goal.returns-then-double-slot
returns-then-double-slot c = λ number good. let within = inside c.args.slot c.args.double.now good.size in absurd (omega (arith, within, c.if-double-slot.true))

pub returns-else-double-slot : goal.returns-else-double-slot
returns-else-double-slot c =
    subst (λ (l : List ℕ). MatchOption c.good_number.result ((number : ℕ) → IsGoodPage number l → ⊥) (λ number. IsGoodPage number l)) c.copy_at.ensures.value c.good_number.ensures
