-- An engine that threads share takes every item.
use Rattle.std.proofs.Common.{List, [], ◌∷◌}
use Rattle.std.specs.Prelude.{All}
use Rattle.std.specs.List.{AllByRecursion}
use Rattle.std.proofs.lemmas.List.Elements.{All-from_recursion}
use Rattle.script.specs.declared.script.ScriptItem.{ScriptItem}

each : (script : List ScriptItem) → AllByRecursion (λ x. Unit {0}) script
each [] = tt
each (x ∷ script) = (tt, each script)

pub all_taken : (script : List ScriptItem) → All (λ x. Unit {0}) script
all_taken script = All-from_recursion (λ x. Unit {0}) script (each script)
