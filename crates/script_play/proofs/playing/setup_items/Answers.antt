use Rattle.std.proofs.Common.{◌≡◌, ap, sym, ◌∙◌}
use Rattle.std.proofs.lemmas.List.Elements.{All-more}
use Rattle.script_play.proofs.playing.setup_items.Goals as goal

pub loop-place-preserved : goal.loop-place-preserved
loop-place-preserved c =
    All-more (λ x. x.s ≡ 0) c.args.items.now c.loop-place.place c.index-items-place.result c.loop-place-test.true c.loop-place.invariant
    (ap (λ x. x.s) (sym c.index-items-place.is) ∙ c.if-item-ne0.false)
