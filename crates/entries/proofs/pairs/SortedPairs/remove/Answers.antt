use Rattle.std.proofs.Common.{subst, sym, ap, ◌∙◌}
use Rattle.std.specs.Prelude.{is_some}
use Rattle.entries.specs.Pairs.{AreSound}
use Rattle.entries.proofs.Edits.{sound_without}
use Rattle.entries.proofs.Kept.{got, removed, removed_if}
use Rattle.entries.proofs.pairs.SortedPairs.remove.Goals as goal

pub invariant_of-self : goal.invariant_of-self
invariant_of-self c =
    subst AreSound (sym (c.remove.ensures.entries ∙ removed c.args.key.now c.self.inside.stored.entries))
    (sound_without c.args.key.now c.self.inside.stored.entries c.self.invariant)

pub returns-clause-found : goal.returns-clause-found
returns-clause-found c =
    rw (← c.self.view_is) (c.is_some.ensures ∙ ap is_some (c.remove.ensures.value ∙ got c.args.key.now c.self.inside.stored.entries))

pub returns-clause-removed : goal.returns-clause-removed
returns-clause-removed c =
    rw (← c.self.view_is, c.is_some.ensures)
    (removed_if c.args.key.now c.self.inside.stored.entries c.remove.new.self.entries c.remove.result c.remove.ensures.entries
    c.remove.ensures.unchanged)

pub returns-clause-sound : goal.returns-clause-sound
returns-clause-sound c = invariant_of-self c
