use Rattle.std.proofs.Common.{rules, sym, ◌∙◌}
use Rattle.world_lists.proofs.{Calls.kept_on, Calls.same_no_more, Searching.held_by}
use Rattle.world_lists.proofs.steps.WorldListsSharedLists.lock.Goals as goal

pub invariant_of-self : goal.invariant_of-self
invariant_of-self g c = kept_on c.self.invariant (same_no_more _) (search rules)

pub returns-in-Some-clause-held : goal.returns-in-Some-clause-held
returns-in-Some-clause-held g c = held_by c.args.session c.self.invariant c.self.view_is (sym c.without.ensures ∙ c.in-Some.is)
