use Rattle.std.proofs.Common.{List, ℕ, sym, subst, arith}
use Rattle.std.proofs.lemmas.List.{get_or_default}
use Rattle.sql_grammar.specs.Words.{spelling}
use Rattle.sql_prefix.specs.Prefix.{GoesOn}
use Rattle.sql_prefix.proofs.Finished.{none_more, none_at_all, one_there}
use Rattle.sql_prefix.proofs.prefix.goes_on_by_one_word.Goals as goal

pub loop-word-init : goal.loop-word-init
loop-word-init c = λ k x l f p. omega (arith, l)

pub loop-word-preserved : goal.loop-word-preserved
loop-word-preserved c =
    none_more (λ w. GoesOn c.args.bytes.now (spelling w)) c.args.words.now c.loop-word.word-index _ c.loop-word-test.true
    (get_or_default _ _ _ _ c.loop-word-test.true)
    (λ p. let e = c.in_ok-goes_on_by.ensures.1 (subst (λ (bytes : List ℕ). GoesOn c.args.bytes.now bytes) (sym c.spelling.ensures) p) in absurd (cc))
    c.loop-word.invariant

pub returns-then-branch : goal.returns-then-branch
returns-then-branch c =
    one_there (λ w. GoesOn c.args.bytes.now (spelling w)) c.args.words.now c.loop-word.word-index _ c.loop-word-test.true
    (get_or_default _ _ _ _ c.loop-word-test.true)
    (subst (λ (bytes : List ℕ). GoesOn c.args.bytes.now bytes) c.spelling.ensures (c.in_ok-goes_on_by.ensures.0 c.if-branch.true))

pub returns : goal.returns
returns c =
    none_at_all (λ w. GoesOn c.args.bytes.now (spelling w)) c.args.words.now c.loop-word.word-index c.loop-word-test.false c.loop-word.invariant
