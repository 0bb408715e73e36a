use Rattle.std.proofs.Common.{◌∙◌, arith}
use Rattle.script_play.proofs.Places.{other_item}
use Rattle.script_play.proofs.playing.skip_others.Goals as goal

pub loop-next-preserved : goal.loop-next-preserved
loop-next-preserved c =
    other_item c.args.s c.loop-next.next c.args.items.now c.index-items-next.result (omega (arith, c.loop-next-test.true))
    c.if-items-next.false ∙ c.loop-next.invariant
