use Rattle.std.specs.Prelude.{ℕ, Option, unwrap_or}
use Rattle.std.proofs.Common.{◌∙◌, ap, arith}
use Rattle.lock_table.specs.Empty.{IsEmptyFor}
use Rattle.lock_table.specs.Keys.{IsShort}
use Rattle.std.proofs.lemmas.List.Elements.{All-push}
use Rattle.inno_types.specs.declared.lock.Edge.{Edge}
use Rattle.deadlock.proofs.Along.{along_more, along_all, along_first, along_long, next_holder, all_but_last, length_but_last}
use Rattle.deadlock.proofs.search.edges_along.Goals as goal

pub loop-i-preserved : goal.loop-i-preserved
loop-i-preserved c =
    let taken = rw c.unwrap-key.ensures at c.pop.ensures.items in
    record {
      along =
          rw c.push_reserved.ensures.items
          (along_more _ _ _ _ _ _ c.loop-i.invariant.along c.loop-i-test.true c.edge_between.ensures.waiter
          (c.edge_between.ensures.holder
          ∙ c.unwrap_or-holder.ensures
          ∙ ap (λ (r : Option ℕ). unwrap_or r c.args.start) c.copied.ensures
          ∙ c.get.ensures.lookup.4 (omega arith) c.args.start
          ∙ next_holder c.args.start c.args.path.now c.loop-i.i c.requires.way.begins c.loop-i-test.true)
          c.edge_between.ensures.first);
      room = omega (arith, c.push_reserved.ensures.capacity, c.loop-i.invariant.room);
      keys = omega (arith, length_but_last _ _ _ taken, c.loop-i.invariant.keys);
      hold = all_but_last (IsEmptyFor 67) _ _ _ taken c.loop-i.invariant.hold;
      short = rw c.push_reserved.ensures.items (All-push (λ (e : Edge). IsShort e.lock.spot.key) _ _ c.loop-i.invariant.short c.edge_between.ensures.short);
    }

pub returns-clause-cycle : goal.returns-clause-cycle
returns-clause-cycle c =
    rw c.from_vec.ensures
    (along_all c.args.start c.args.locks.now.granted c.args.locks.now.waiting c.args.path.now c.loop-i.edges.items c.loop-i.i c.requires.way c.loop-i.invariant.along c.loop-i-test.false)

pub returns-clause-first : goal.returns-clause-first
returns-clause-first c =
    rw c.from_vec.ensures
    (along_first c.args.start c.args.locks.now.granted c.args.locks.now.waiting c.args.path.now c.loop-i.edges.items c.loop-i.i c.requires.way c.loop-i.invariant.along c.loop-i-test.false)

pub returns-clause-long : goal.returns-clause-long
returns-clause-long c = rw c.from_vec.ensures (along_long _ _ c.args.path.now c.loop-i.edges.items c.loop-i.i c.loop-i.invariant.along c.loop-i-test.false)
