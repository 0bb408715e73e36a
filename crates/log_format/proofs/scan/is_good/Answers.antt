use Rattle.std.proofs.Common.{arith}
use Rattle.std.proofs.lemmas.Grind.{common_steps}
use Rattle.std.proofs.Common.{sym, ap, ◌∙◌}
use Rattle.std.proofs.lemmas.Bool.{eqb-true, eq-eqb}
use Rattle.std.proofs.lemmas.List.{take_rest}
use Rattle.sum64.specs.Fnv.{fnv_of}
use Rattle.log_format.proofs.scan.is_good.Goals as goal
use Rattle.log_format.proofs.scan.is_good.Goals.{then-u64_at-fnv, else-u64_at-fnv}

pub returns-then-u64_at-run : goal.returns-then-u64_at-run
returns-then-u64_at-run c = elim c.if-u64_at-fnv.branch [
  | then-u64_at-fnv w ↦
      let sum = sym c.u64_at.ensures.number ∙ w.if-u64_at-fnv.true ∙ c.fnv.ensures ∙ ap fnv_of (take_rest c.args.block.now 8) in
      let run = sym w.u64_at-then-u64_at-fnv.ensures.number ∙ eqb-true _ _ (sym w.value-is ∙ c.if-u64_at-run.true) in
      let number = c.u64_at-then-u64_at-run.ensures.number in (
        (λ h. (sum, run, sym number ∙ eqb-true _ _ h)),
        (λ h. eq-eqb _ _ (number ∙ h.2)),
      )
  | else-u64_at-fnv w ↦ absurd (w.if-u64_at-fnv.false (eqb-true _ _ (sym w.value-is ∙ c.if-u64_at-run.true)))
]

pub returns-else-u64_at-run : goal.returns-else-u64_at-run
returns-else-u64_at-run c = grind (arith, common_steps) steps 2000000
