use Rattle.std.proofs.Common.{ℕ, List, ap, ◌∙◌}
use Rattle.std.specs.Prelude.{slice_set}
use Rattle.std.proofs.lemmas.List.Edits.{fill_more}
use Rattle.page_format.proofs.edits.clear.Goals as goal

pub loop-byte-preserved : goal.loop-byte-preserved
loop-byte-preserved c = ap (λ (l : List ℕ). slice_set l c.loop-byte.byte-index 0) c.loop-byte.invariant ∙ fill_more c.loop-byte.byte-index 0 _ c.loop-byte-test.true
