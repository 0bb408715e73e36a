use Rattle.std.proofs.Common.{List, ℕ, sym, subst, arith}
use Rattle.std.proofs.lemmas.List.{get_or_default}
use Rattle.sql_prefix.specs.Endings as spelled
use Rattle.sql_prefix.specs.Prefix.{IsCutOff}
use Rattle.sql_prefix.proofs.Finished.{none_more, none_at_all, one_there}
use Rattle.sql_prefix.proofs.prefix.goes_on_by_one.Goals as goal

pub loop-end-init : goal.loop-end-init
loop-end-init c = λ k x l f p. omega (arith, l)

pub loop-end-preserved : goal.loop-end-preserved
loop-end-preserved c =
    none_more (λ e. IsCutOff c.args.bytes.now (spelled.token_end e)) c.args.ends.now c.loop-end.end-index _ c.loop-end-test.true
    (get_or_default _ _ _ _ c.loop-end-test.true)
    (λ p. let e = c.in_ok-is_cut_off.ensures.1 (subst (λ (bytes : List ℕ). IsCutOff c.args.bytes.now bytes) (sym c.token_end.ensures) p) in absurd (cc))
    c.loop-end.invariant

pub returns-then-branch : goal.returns-then-branch
returns-then-branch c =
    one_there (λ e. IsCutOff c.args.bytes.now (spelled.token_end e)) c.args.ends.now c.loop-end.end-index _ c.loop-end-test.true
    (get_or_default _ _ _ _ c.loop-end-test.true)
    (subst (λ (bytes : List ℕ). IsCutOff c.args.bytes.now bytes) c.token_end.ensures (c.in_ok-is_cut_off.ensures.0 c.if-branch.true))

pub returns : goal.returns
returns c =
    none_at_all (λ e. IsCutOff c.args.bytes.now (spelled.token_end e)) c.args.ends.now c.loop-end.end-index c.loop-end-test.false c.loop-end.invariant
