use Rattle.std.proofs.Common.{◌≡◌, ℕ, List, subst, arith}
use Rattle.std.specs.Prelude.{MatchBool}
use Rattle.std.proofs.lemmas.Result.{err_from_is_err_and}
use Rattle.page_format.specs.Words.{level_of}
use Rattle.btree.specs.declared.page.Down.{Down}
use Rattle.btree.specs.declared.page.Down.TheVariants.{Child}
use Rattle.btree.specs.Descents.{IsReadable, Leads}
use Rattle.btree.proofs.Standing.{reached_readable, at_child, not_deep}
use Rattle.btree.proofs.Steps.{gives_up_none, gives_up_then, idle_after, hindered_by}
use Rattle.btree_change.specs.Edits.{HasRoom}
use Rattle.btree_split.proofs.Followed.{followed_none, followed_on, at_leaf}
use Rattle.btree_split.proofs.way.lowest_room.Goals as goal

pub loop-init : goal.loop-init
loop-init g c = record {
  reads = gives_up_none (g.M.Mtr.state c.args.m.now) c.requires.idle;
  idle = c.requires.idle;
  few = omega arith;
  followed = λ told. followed_none c.args.tree (g.M.Mtr.state c.args.m.now).standing c.args.key.now (c.requires.tree told);
}

pub returns-in_err-step_down-clause-reason : goal.returns-in_err-step_down-clause-reason
returns-in_err-step_down-clause-reason g c =
    let pages = (g.M.Mtr.state c.args.m.now).standing in
    let so_far = c.loop.invariant in
    let reads = gives_up_then _ _ _ so_far.reads c.in_ok-room.ensures.reads in
    let p = err_from_is_err_and c.from_residual-in_err-step_down.result c.from_residual-in_err-step_down.ensures.1 in
    rw (p.1, p.2)
    (hindered_by c.loop.page (IsReadable c.args.tree) _ _ _ c.in_err-step_down.field-0.0 reads c.in_err-step_down.ensures.reads
    (λ told. reached_readable c.args.tree pages (c.requires.tree (reads.goes.told told)) c.args.key.now c.loop.counter c.loop.page
    (so_far.followed (c.in_ok-room.ensures.reads.goes.told told)).reached)
    c.in_err-step_down.ensures.reason)

pub returns-in-Leaf-clause-lowest : goal.returns-in-Leaf-clause-lowest
returns-in-Leaf-clause-lowest g c = λ told.
    let pages = (g.M.Mtr.state c.args.m.now).standing in
    let so_far = c.loop.invariant in
    let told_room = c.in_ok-step_down.ensures.reads.goes.told told in
    let told_loop = c.in_ok-room.ensures.reads.goes.told told_room in
    let reads = gives_up_then _ _ _ so_far.reads c.in_ok-room.ensures.reads in
    let leads = subst (λ (d : Down). Leads c.args.tree c.args.key.now ((g.M.Mtr.state c.room_on.new.m).standing c.loop.page) d) c.in-Leaf.is
    (c.in_ok-step_down.ensures.leads told) in
    let leaf : level_of (pages c.loop.page) ≡ 0 =
    subst (λ (f : ℕ → List ℕ). level_of (f c.loop.page) ≡ 0) (reads.standing told_room) leads in
    let room : MatchBool c.in_ok-room.room (HasRoom (pages c.loop.page)) (HasRoom (pages c.loop.page) → ⊥) =
    subst (λ (f : ℕ → List ℕ). MatchBool c.in_ok-room.room (HasRoom (f c.loop.page)) (HasRoom (f c.loop.page) → ⊥)) (so_far.reads.standing told_loop)
    (c.in_ok-room.ensures.room told_room) in
    at_leaf c.args.tree pages c.args.key.now c.loop.counter c.loop.page c.loop.so_far.above c.loop.so_far.full (so_far.followed told_loop)
    c.further-here.result.above c.further-here.result.full (λ way ends. c.further-here.ensures.ends pages way room ends)
    (c.requires.tree (so_far.reads.goes.told told_loop)) leaf

pub loop-preserved : goal.loop-preserved
loop-preserved g c =
    let pages = (g.M.Mtr.state c.args.m.now).standing in
    let so_far = c.loop.invariant in
    let reads = gives_up_then _ _ _ so_far.reads c.in_ok-room.ensures.reads in
    let step = c.in_ok-step_down.ensures in
    record {
      reads = gives_up_then _ _ _ reads step.reads;
      idle = idle_after _ _ step.reads;
      few = let more = c.further-here.ensures.few in let few = so_far.few in omega (arith, more, few);
      followed = λ told.
          let told_room = step.reads.goes.told told in
          let told_loop = c.in_ok-room.ensures.reads.goes.told told_room in
          let leads = subst (λ (d : Down). Leads c.args.tree c.args.key.now ((g.M.Mtr.state c.room_on.new.m).standing c.loop.page) d) c.in-Child.is
          (step.leads told) in
          let room : MatchBool c.in_ok-room.room (HasRoom (pages c.loop.page)) (HasRoom (pages c.loop.page) → ⊥) =
          subst (λ (f : ℕ → List ℕ). MatchBool c.in_ok-room.room (HasRoom (f c.loop.page)) (HasRoom (f c.loop.page) → ⊥)) (so_far.reads.standing told_loop)
          (c.in_ok-room.ensures.room told_room) in
          let followed = so_far.followed told_loop in
          followed_on c.args.tree pages c.args.key.now c.loop.counter c.loop.page c.loop.so_far.above c.loop.so_far.full followed
          c.further-here.result.above c.further-here.result.full (λ way ends. c.further-here.ensures.ends pages way room ends) c.in-Child.child
          (at_child c.args.tree pages (c.requires.tree (so_far.reads.goes.told told_loop)) c.args.key.now c.loop.counter c.loop.page followed.reached
          c.in-Child.child
          (subst (λ (f : ℕ → List ℕ). Leads c.args.tree c.args.key.now (f c.loop.page) (Child c.in-Child.child)) (reads.standing told_room) leads));
    }

pub returns-clause-reason : goal.returns-clause-reason
returns-clause-reason g c = λ told.
    let so_far = c.loop.invariant in
    absurd (not_deep c.args.tree (g.M.Mtr.state c.args.m.now).standing (c.requires.tree (so_far.reads.goes.told told)) c.args.key.now c.loop.counter c.loop.page
    (so_far.followed told).reached (omega arith))
