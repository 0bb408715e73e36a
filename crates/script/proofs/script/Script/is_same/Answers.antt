use Rattle.std.proofs.Common.{◌≡◌, ◌∙◌, sym}
use Rattle.std.proofs.lemmas.Bool.{MatchBool-at_true}
use Rattle.script.proofs.Same.{same_parts}
use Rattle.script.proofs.script.Script.is_same.Goals as goal

pub returns : goal.returns
returns c =
    same_parts c.args.self.now c.args.other.now c.same_ticks.result
    (sym c.as_slice.ensures ∙ MatchBool-at_true _ _ c.if-not-same_names.false c.same_names.ensures ∙ c.as_slice-2.ensures)
    (sym c.as_slice-3.ensures ∙ MatchBool-at_true _ _ c.if-not-same_items.false c.same_items.ensures ∙ c.as_slice-4.ensures)
    (rw (sym c.as_slice-5.ensures, sym c.as_slice-6.ensures) c.same_ticks.ensures)
