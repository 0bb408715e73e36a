use Rattle.std.proofs.Common.{arith}
use Rattle.std.proofs.lemmas.Grind.{common_steps, elements}
use Rattle.std.proofs.Common.{◌≡◌, Some, sym, ◌∙◌, refl}
use Rattle.script.proofs.Obeyed.{obeys}
use Rattle.script.proofs.reading.Reading.obey.Goals as goal

pub returns-clause-told : goal.returns-clause-told
returns-clause-told c =
    obeys c.args.allowed c.args.bytes.now c.args.self.now c.hear.new.self c.in-Some.directive c.in-Some.rest.now (sym c.in_ok-directive.ensures.value
    ∙ rw c.in-Some.is refl) c.in_ok-hear.ensures.told

pub returns-in_default-clause-nearer : goal.returns-in_default-clause-nearer
returns-in_default-clause-nearer c = grind (arith, common_steps) steps 2000000

pub returns-in_default-clause-statement : goal.returns-in_default-clause-statement
returns-in_default-clause-statement c = grind (arith, common_steps) steps 2000000

pub returns-in_default-clause-told : goal.returns-in_default-clause-told
returns-in_default-clause-told c = grind (arith, common_steps) steps 2000000

pub returns-in_default-clause-within : goal.returns-in_default-clause-within
returns-in_default-clause-within c = grind (arith, common_steps) steps 2000000

pub returns-in_err-hear-clause-told : goal.returns-in_err-hear-clause-told
returns-in_err-hear-clause-told c = grind (arith, elements) steps 2000000
