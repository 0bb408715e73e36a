use Rattle.std.proofs.Common.{arith}
use Rattle.std.proofs.lemmas.Grind.{common_steps}
use Rattle.std.proofs.Common.{◌∙◌, sym, ap, ◌++◌, drop, List, ℕ}
use Rattle.std.proofs.lemmas.List.{take-append-drop}
use Rattle.script_play.proofs.playing.join_all.Goals as goal

pub returns-in_err-join-clause-named : goal.returns-in_err-join-clause-named
returns-in_err-join-clause-named g c =
    let i = c.loop-name.name-index in
    let names = c.args.names.now in (
      drop i names,
      sym (ap (λ (list : List (List ℕ)). list ++ drop i names) (c.in_err-join.ensures.err.names ∙ c.loop-name.invariant.names)
          ∙ take-append-drop i names),
    )

pub loop-name-preserved : goal.loop-name-preserved
loop-name-preserved g c = grind (arith, common_steps) steps 2000000

pub returns-clause-named : goal.returns-clause-named
returns-clause-named g c = grind (arith, common_steps) steps 2000000

pub returns-clause-names : goal.returns-clause-names
returns-clause-names g c = grind (arith, common_steps) steps 2000000
