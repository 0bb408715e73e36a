use Rattle.std.proofs.Common.{◌≡◌, List, subst, sym, true}
use Rattle.std.specs.Prelude.{is_some}
use Rattle.entries.specs.Pairs.{Pair, AreSound, value_of, with_pair}
use Rattle.entries.proofs.Kept.{put_copy, sound_put}
use Rattle.entries.proofs.pairs.SortedPairs.resize.Goals as goal

is_put : (c : goal.Joined-branch-4) → c.insert.new.self.entries ≡ with_pair c.args.key.now c.args.value.now c.self.inside.stored.entries
is_put c =
    put_copy c.args.key.now c.args.value.now c.in_ok-copied.field-0 c.in_ok-copied-2.field-0 c.self.inside.stored.entries c.insert.new.self.entries
    c.in_ok-copied.ensures c.in_ok-copied-2.ensures c.in_ok-insert.ensures.entries

pub invariant_of-self-2 : goal.invariant_of-self-2
invariant_of-self-2 c =
    subst AreSound (sym (is_put c))
    (sound_put c.args.key.now c.args.value.now c.self.inside.stored.entries c.self.invariant
    (subst (λ (pairs : List Pair). is_some (value_of c.args.key.now pairs) ≡ true) (sym c.self.view_is) c.requires.there) c.requires.fits)

pub returns-clause-ok : goal.returns-clause-ok
returns-clause-ok c = rw (← c.self.view_is) (is_put c)

pub returns-clause-sound : goal.returns-clause-sound
returns-clause-sound c = invariant_of-self-2 c
