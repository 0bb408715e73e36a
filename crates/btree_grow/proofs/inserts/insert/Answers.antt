use Rattle.std.proofs.Common.{◌∙◌, ap}
use Rattle.std.specs.Prelude.{ℕ, List}
use Rattle.entries.proofs.Edits.{on_err}
use Rattle.btree_change.specs.Trees.{DoesInsert}
use Rattle.btree_change.specs.declared.leaf_changes.Insertion.TheVariants.{Added}
use Rattle.btree_change.proofs.Steps.{ends_given_up, ends_committed, given_up_whole, leaf_found}
use Rattle.btree_grow.proofs.Inserting as inserting
use Rattle.btree_grow.proofs.inserts.insert.Goals as goal

pub insert_in-requires-clause-leaf : goal.insert_in-requires-clause-leaf
insert_in-requires-clause-leaf g c =
    leaf_found c.args.tree c.args.key.now c.in_ok-leaf.leaf (g.M.Mtr.state c.args.m.now)
    (g.M.Mtr.state c.leaf_of.new.m) c.in_ok-leaf.ensures.reads (λ told. (c.requires.tree told).whole) c.in_ok-leaf.ensures.holds

pub returns-in_ok-settle-in-Ok-Added-clause-done : goal.returns-in_ok-settle-in-Ok-Added-clause-done
returns-in_ok-settle-in-Ok-Added-clause-done g c =
    λ told.
    let does = rw c.in-Ok-Added.field-0-is at c.in-Ok-Added.ensures.done in
    let committed = c.in_ok-settle-in-Ok-Added.ensures.committed in
    let told_c = committed.goes.told told in
    let told_b = c.insert_in.ensures.touches.goes.told told_c in
    inserting.added_alone c.args.tree c.args.key.now c.args.value.now (g.M.Mtr.state c.args.m.now).standing
    (g.M.Mtr.state c.settle.new.m).standing c.in_ok-leaf.leaf (c.requires.tree (c.in_ok-leaf.ensures.reads.goes.told told_b))
    (c.in_ok-leaf.ensures.holds told_b)
    (λ r apart. ap (λ (f : ℕ → List ℕ). f r) (committed.standing told) ∙ c.insert_in.ensures.touches.elsewhere told_c r apart ∙ ap
    (λ (f : ℕ → List ℕ). f r) (c.in_ok-leaf.ensures.reads.seen told_b))
    (inserting.moved (λ old new. DoesInsert c.args.tree c.args.key.now c.args.value.now old new Added) (g.M.Mtr.state c.leaf_of.new.m).seen
    (g.M.Mtr.state c.args.m.now).standing (g.M.Mtr.state c.insert_in.new.m).seen (g.M.Mtr.state c.settle.new.m).standing
    (c.in_ok-leaf.ensures.reads.seen told_b) (committed.standing told) (does told_c))

pub returns-in_ok-settle-in-Ok-Added-clause-ends : goal.returns-in_ok-settle-in-Ok-Added-clause-ends
returns-in_ok-settle-in-Ok-Added-clause-ends g c =
    ends_committed c.in_ok-leaf.leaf (g.M.Mtr.state c.args.m.now) (g.M.Mtr.state c.leaf_of.new.m) (g.M.Mtr.state c.insert_in.new.m)
    (g.M.Mtr.state c.settle.new.m) c.in_ok-leaf.ensures.reads c.insert_in.ensures.touches c.in_ok-settle-in-Ok-Added.ensures.committed

pub returns-in_err-settle-in-Ok-Added-clause-ends : goal.returns-in_err-settle-in-Ok-Added-clause-ends
returns-in_err-settle-in-Ok-Added-clause-ends g c =
    ends_given_up (g.M.Mtr.state c.args.m.now) (g.M.Mtr.state c.settle.new.m)
    (given_up_whole c.in_ok-leaf.leaf (g.M.Mtr.state c.args.m.now) (g.M.Mtr.state c.leaf_of.new.m) (g.M.Mtr.state c.insert_in.new.m)
    (g.M.Mtr.state c.settle.new.m) c.in_ok-leaf.ensures.reads c.insert_in.ensures.touches c.in_err-settle-in-Ok-Added.ensures.given_up)

pub returns-in_err-settle-in-Ok-Added-clause-kept : goal.returns-in_err-settle-in-Ok-Added-clause-kept
returns-in_err-settle-in-Ok-Added-clause-kept g c =
    on_err c.from_residual-in_err-settle-in-Ok-Added.result
    (given_up_whole c.in_ok-leaf.leaf (g.M.Mtr.state c.args.m.now) (g.M.Mtr.state c.leaf_of.new.m) (g.M.Mtr.state c.insert_in.new.m)
    (g.M.Mtr.state c.settle.new.m) c.in_ok-leaf.ensures.reads c.insert_in.ensures.touches c.in_err-settle-in-Ok-Added.ensures.given_up)

pub returns-in-Ok-Present-clause-ends : goal.returns-in-Ok-Present-clause-ends
returns-in-Ok-Present-clause-ends g c =
    ends_given_up (g.M.Mtr.state c.args.m.now) (g.M.Mtr.state c.give_up.new.self)
    (given_up_whole c.in_ok-leaf.leaf (g.M.Mtr.state c.args.m.now) (g.M.Mtr.state c.leaf_of.new.m) (g.M.Mtr.state c.insert_in.new.m)
    (g.M.Mtr.state c.give_up.new.self) c.in_ok-leaf.ensures.reads c.insert_in.ensures.touches c.give_up.ensures)

pub returns-in-Ok-Crowded-clause-ends : goal.returns-in-Ok-Crowded-clause-ends
returns-in-Ok-Crowded-clause-ends g c =
    inserting.ends_after (g.M.Mtr.state c.args.m.now) (g.M.Mtr.state c.give_up-in-Ok-Crowded.new.self)
    (g.M.Mtr.state c.insert_crowded.new.m) (given_up_whole c.in_ok-leaf.leaf (g.M.Mtr.state c.args.m.now)
    (g.M.Mtr.state c.leaf_of.new.m) (g.M.Mtr.state c.insert_in.new.m)
    (g.M.Mtr.state c.give_up-in-Ok-Crowded.new.self) c.in_ok-leaf.ensures.reads c.insert_in.ensures.touches c.give_up-in-Ok-Crowded.ensures)
    c.insert_crowded.ensures.ends

pub returns-in-Err-clause-ends : goal.returns-in-Err-clause-ends
returns-in-Err-clause-ends g c =
    ends_given_up (g.M.Mtr.state c.args.m.now) (g.M.Mtr.state c.give_up-in-Err.new.self)
    (given_up_whole c.in_ok-leaf.leaf (g.M.Mtr.state c.args.m.now) (g.M.Mtr.state c.leaf_of.new.m) (g.M.Mtr.state c.insert_in.new.m)
    (g.M.Mtr.state c.give_up-in-Err.new.self) c.in_ok-leaf.ensures.reads c.insert_in.ensures.touches c.give_up-in-Err.ensures)

pub returns-in-Err-clause-kept : goal.returns-in-Err-clause-kept
returns-in-Err-clause-kept g c =
    (given_up_whole c.in_ok-leaf.leaf (g.M.Mtr.state c.args.m.now) (g.M.Mtr.state c.leaf_of.new.m) (g.M.Mtr.state c.insert_in.new.m)
    (g.M.Mtr.state c.give_up-in-Err.new.self) c.in_ok-leaf.ensures.reads c.insert_in.ensures.touches c.give_up-in-Err.ensures)
