use Rattle.std.proofs.Common.{◌∙◌}
use Rattle.mtr.proofs.Behind.{u32-behind}
use Rattle.mtr.proofs.reading.u32_on.Goals as goal

pub returns-clause-value : goal.returns-clause-value
returns-clause-value g c = λ told.
    let shown = c.in_ok-bytes.ensures.shown told in
    c.read_u32.ensures ∙ u32-behind c.args.at _ _ c.requires.begins shown.same
