-- How what was known of a disk before some calls goes on over them.
use Rattle.std.proofs.Common.{ℕ, arith}
use Rattle.store_api.specs.Areas.{State}
use Rattle.store_api.specs.Past.{Past, Now}
use Rattle.store_api.specs.Looks.{Looks, LeavesState}
use Rattle.page_recovery.specs.Looking.{Since}

pub Since-looks : (P : State → Type 0) (old new : Past) → Looks old new → Now P old → Since P old new
Since-looks P old new looks known = λ s ticks is.
    let from = looks.each new.moment s ticks looks.later (omega arith) is in
    (from.0, from.1, known from.0 (omega (arith, looks.later, ticks)) from.1)

pub Since-stays : (P : State → Type 0) (old new : Past) → LeavesState old new → Now P new → Since P old new
Since-stays P old new stays known = λ s ticks is. let from = stays s ticks is in (s, from.1, known s ticks is)
