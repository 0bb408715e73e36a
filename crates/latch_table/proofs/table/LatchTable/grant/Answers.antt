use Rattle.std.proofs.Common.{◌<◌, ◌++◌, ◌∷◌, [], List, length, length-append, subst, sym, arith}
use Rattle.latch_table.specs.declared.latches.Latch.{Latch}
use Rattle.latch_table.specs.Held.{AreSound, IsFree, targets_of}
use Rattle.latch_table.proofs.Soundness.{sound_with, length_sound}
use Rattle.latch_table.proofs.table.LatchTable.grant.Goals as goal

pub push_reserved-requires : goal.push_reserved-requires
push_reserved-requires c =
    let asked = c.args.asked in
    let kept = c.give_back.new.held in
    let room = subst (λ (held : List Latch). length (targets_of asked.actor held) < 64) (sym c.self.view_is) c.requires.room in
    let free = subst (λ (held : List Latch). IsFree asked held) (sym c.self.view_is) c.requires.free in
    let sound = subst (λ held. AreSound (held ++ asked ∷ [])) (sym c.give_back.ensures.items)
    (sound_with _ c.self.invariant.0 asked c.requires.known room free) in
    omega (arith, length_sound _ sound, length-append kept.items (asked ∷ []), kept.ok.0, c.give_back.ensures.capacity, c.self.invariant.1)

pub invariant_of-self : goal.invariant_of-self
invariant_of-self c =
    let asked = c.args.asked in
    let room = subst (λ (held : List Latch). length (targets_of asked.actor held) < 64) (sym c.self.view_is) c.requires.room in
    let free = subst (λ (held : List Latch). IsFree asked held) (sym c.self.view_is) c.requires.free in
    let sound = subst (λ held. AreSound (held ++ asked ∷ [])) (sym c.give_back.ensures.items)
    (sound_with _ c.self.invariant.0 asked c.requires.known room free) in (
      subst AreSound (sym c.push_reserved.ensures.items) sound,
      omega (arith, c.push_reserved.ensures.capacity, c.give_back.ensures.capacity, c.self.invariant.1),
    )

pub returns-then-not-is_covered-clause-apart : goal.returns-then-not-is_covered-clause-apart
returns-then-not-is_covered-clause-apart c = (invariant_of-self c).0.apart
