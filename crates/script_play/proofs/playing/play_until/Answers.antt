use Rattle.std.proofs.lemmas.Grind.{common_steps}
use Rattle.std.proofs.Common.{◌≡◌, take, subst, arith}
use Rattle.script_play.specs.Sessions.{Settles}
use Rattle.script_play.proofs.playing.play_until.Goals as goal

pub returns-clause-known : goal.returns-clause-known
returns-clause-known g c =
    let e : c.loop-next.next ≡ c.max-until.result = omega (arith, c.loop-next-test.false) in
    subst (λ n. Settles (take n c.args.items.now) c.loop-next.places (g.E.Sessions.shown c.args.engine.now) (g.E.Sessions.shown c.loop-next.engine)) e
    c.loop-next.invariant.settles

pub settle-requires-clause-starts : goal.settle-requires-clause-starts
settle-requires-clause-starts g c = grind (arith, common_steps) steps 2000000

pub returns-in_err-settle-clause-settles : goal.returns-in_err-settle-clause-settles
returns-in_err-settle-clause-settles g c = grind (arith, common_steps) steps 2000000

pub returns-clause-settles : goal.returns-clause-settles
returns-clause-settles g c = grind (arith, common_steps) steps 2000000
