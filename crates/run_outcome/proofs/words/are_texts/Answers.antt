use Rattle.std.proofs.Common.{◌∙◌, sym, subst, take, arith}
use Rattle.std.specs.Prelude.{All}
use Rattle.std.proofs.lemmas.List.{length-take, get_or-take}
use Rattle.std.proofs.lemmas.List.Elements.{All-push}
use Rattle.run_outcome.specs.Words.{IsText}
use Rattle.run_outcome.proofs.Fronts.{one_more}
use Rattle.run_outcome.proofs.words.are_texts.Goals as goal

pub returns-then-not-is_text : goal.returns-then-not-is_text
returns-then-not-is_text c = λ all.
    c.if-not-is_text.ensures (subst IsText (sym (c.as_slice.ensures ∙ c.word-item.is)) (all c.loop-word.word-index c.word-item.result c.loop-word-test.true))

pub loop-word-preserved : goal.loop-word-preserved
loop-word-preserved c =
    subst (All IsText) (sym (one_more c.loop-word.word-index c.args.words.now c.word-item.result c.loop-word-test.true))
    (All-push IsText (take c.loop-word.word-index c.args.words.now) _ c.loop-word.invariant
    (subst IsText (c.as_slice.ensures ∙ c.word-item.is) c.if-not-is_text.ensures))

pub returns : goal.returns
returns c = λ k d h.
    let i = c.loop-word.word-index in
    let words = c.args.words.now in
    subst IsText (get_or-take i words k d (omega (arith, h, c.loop-word-test.false)))
    (c.loop-word.invariant k d (omega (arith, h, c.loop-word-test.false, length-take i words)))
