use Rattle.entries.proofs.Kept.{put_new_is, put_new_sound, put_new_kept}
use Rattle.entries.proofs.pairs.SortedPairs.insert.Goals as goal

pub invariant_of-self-2 : goal.invariant_of-self-2
invariant_of-self-2 c =
    put_new_sound c.args.key.now c.args.value.now c.in_ok-copied.field-0 c.in_ok-copied-2.field-0 c.self.inside.stored.entries c.put_new.new.stored.entries
    c.in_ok-copied.ensures c.in_ok-copied-2.ensures c.put_new.result c.self.invariant c.requires c.put_new.ensures.ok c.put_new.ensures.err

pub returns-clause-kept : goal.returns-clause-kept
returns-clause-kept c =
    rw (← c.self.view_is)
    (put_new_kept c.args.key.now c.args.value.now c.in_ok-copied.field-0 c.in_ok-copied-2.field-0 c.self.inside.stored.entries c.put_new.new.stored.entries
    c.in_ok-copied.ensures c.in_ok-copied-2.ensures c.put_new.result c.put_new.ensures.kept)

pub returns-clause-ok : goal.returns-clause-ok
returns-clause-ok c =
    rw (← c.self.view_is)
    (put_new_is c.args.key.now c.args.value.now c.in_ok-copied.field-0 c.in_ok-copied-2.field-0 c.self.inside.stored.entries c.put_new.new.stored.entries
    c.in_ok-copied.ensures c.in_ok-copied-2.ensures c.put_new.result c.put_new.ensures.ok)

pub returns-clause-sound : goal.returns-clause-sound
returns-clause-sound c = invariant_of-self-2 c
