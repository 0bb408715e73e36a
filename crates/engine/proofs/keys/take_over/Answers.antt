use Rattle.std.proofs.Common.{ℕ, ap, subst, sym}
use Rattle.law_stored_rows.specs.Tables.{what_is_there}
use Rattle.list_world.specs.Parts.{world_of}
use Rattle.list_world.specs.Memory.{at_hand, no_page_of_index}
use Rattle.row_changes.specs.{Keys.IsChangingKeys, Keys.ChangesKeys, declared.keys_change.KeysChange.KeysChange, InPlace.reached_at}
use Rattle.row_changes.specs.{Reached.Done}
use Rattle.engine.proofs.Taking.{Steps, taking_next, taking_lacks, taken_rows, taken_awaits, taken_rest, taken_later}
use Rattle.engine.proofs.keys.take_over.Goals as goal

pub advance-requires : goal.advance-requires
advance-requires c = (c.loop.invariant.chains, what_is_there c.loop.invariant.chains, c.loop.invariant.holds)

pub is_over-requires : goal.is_over-requires
is_over-requires c =
    let mid = world_of c.loop.world in
    let new = world_of c.advance.new.world in
    λ why is. taking_lacks _ (world_of c.args.world.now) mid new c.loop.change c.loop.invariant (at_hand c.loop.world) (at_hand c.advance.new.world)
    (no_page_of_index c.loop.world) c.requires.nobody c.advance.new.self why
    (λ chains holds. subst (ChangesKeys 0 chains (what_is_there chains) mid new c.loop.change) (ap (reached_at c.advance.new.self) is)
    (c.advance.ensures.changes chains (what_is_there chains) holds))

pub returns-then-branch : goal.returns-then-branch
returns-then-branch c =
    let mid = world_of c.loop.world in
    let new = world_of c.advance.new.world in
    let steps : Steps _ (world_of c.args.world.now) mid new c.loop.change c.loop.invariant Done =
    λ chains holds. subst (ChangesKeys 0 chains (what_is_there chains) mid new c.loop.change)
    (ap (reached_at c.advance.new.self) (c.is_over.ensures.over search)) (c.advance.ensures.changes chains (what_is_there chains) holds) in
    λ table key row is. record {
      rows = λ chains starts. taken_rows _ (world_of c.args.world.now) mid new c.loop.change c.loop.invariant steps chains
          (subst (IsChangingKeys chains (what_is_there chains) (world_of c.args.world.now)) (sym is) starts);
      awaits = taken_awaits _ (world_of c.args.world.now) mid new c.loop.change c.loop.invariant c.advance.ensures.awaits;
      rest = taken_rest _ (world_of c.args.world.now) mid new c.loop.change c.loop.invariant steps;
      later = taken_later _ (world_of c.args.world.now) mid new c.loop.change c.loop.invariant steps;
    }

pub loop-preserved : goal.loop-preserved
loop-preserved c =
    let mid = world_of c.loop.world in
    let new = world_of c.advance.new.world in
    taking_next _ (world_of c.args.world.now) mid new c.loop.change c.loop.invariant c.advance.new.self
    (λ chains holds. subst (ChangesKeys 0 chains (what_is_there chains) mid new c.loop.change)
    (ap (reached_at c.advance.new.self) (c.is_over.ensures.went search)) (c.advance.ensures.changes chains (what_is_there chains) holds))
    c.advance.ensures.awaits
