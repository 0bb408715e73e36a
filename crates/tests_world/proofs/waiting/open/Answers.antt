use Rattle.std.proofs.Common.{sym, refl, ◌∙◌}
use Rattle.inno_types.specs.declared.lock.Level.TheVariants.{RepeatableRead}
use Rattle.world.specs.EngineCalls.{fresh_session}
use Rattle.tests_world.proofs.Keeping.{the_session, the_work, has_begun, opened, others_stay, one_more, where_ok}
use Rattle.tests_world.proofs.waiting.open.Goals as goal

pub add_begin-requires : goal.add_begin-requires
add_begin-requires g c =
    let old = g.W.World.state c.args.world.now in
    let mid = g.W.World.state c.begin.new.self in
    let begins = c.in_ok-txn.ensures.ok fresh_session c.requires.fresh in (
      the_session c.args.s RepeatableRead old,
      the_work c.args.s RepeatableRead old,
      has_begun c.args.s RepeatableRead old mid c.requires.fresh begins,
      sym c.in_ok-txn.ensures.number,
      refl,
    )

pub returns-clause-here : goal.returns-clause-here
returns-clause-here g c =
    let old = g.W.World.state c.args.world.now in
    let mid = g.W.World.state c.begin.new.self in
    let new = g.W.World.state c.add_begin.new.self in
    let begins = c.in_ok-txn.ensures.ok fresh_session c.requires.fresh in
    where_ok c.add_begin.result (opened c.args.s RepeatableRead old mid new c.in_ok-txn.txn c.requires.fresh begins) c.add_begin.ensures.ok

pub returns-clause-others : goal.returns-clause-others
returns-clause-others g c =
    let old = g.W.World.state c.args.world.now in
    let mid = g.W.World.state c.begin.new.self in
    let new = g.W.World.state c.add_begin.new.self in
    let begins = c.in_ok-txn.ensures.ok fresh_session c.requires.fresh in
    where_ok c.add_begin.result (others_stay c.args.s RepeatableRead old mid new c.in_ok-txn.txn c.requires.fresh begins) c.add_begin.ensures.ok

pub returns-clause-begun : goal.returns-clause-begun
returns-clause-begun g c =
    let old = g.W.World.state c.args.world.now in
    let mid = g.W.World.state c.begin.new.self in
    let new = g.W.World.state c.add_begin.new.self in
    let begins = c.in_ok-txn.ensures.ok fresh_session c.requires.fresh in
    where_ok c.add_begin.result (one_more c.args.s RepeatableRead old mid new c.in_ok-txn.txn c.requires.fresh begins) c.add_begin.ensures.ok
