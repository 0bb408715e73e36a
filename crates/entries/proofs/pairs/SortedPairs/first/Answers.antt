use Rattle.std.specs.Prelude.{option_map}
use Rattle.std.specs.Map.Iter.{deref_pair}
use Rattle.entries.proofs.Kept.{first_of, shown_first}
use Rattle.entries.proofs.pairs.SortedPairs.first.Goals as goal

pub returns-clause-found : goal.returns-clause-found
returns-clause-found c =
    rw (← c.self.view_is)
    (first_of _ c.self.inside.stored.entries c.range-pairs.result c.next.new.self (option_map deref_pair c.next.result)
    (c.range-pairs.ensures.between tt) (shown_first deref_pair c.next.result _ _ c.next.ensures.steps))
