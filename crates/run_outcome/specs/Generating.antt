-- The text of a script that is generated, and why there is none.
use Rattle.std.specs.Prelude.{◌≡◌, ℕ, List, Option, None, Some}
use Rattle.script.specs.declared.script.ScriptBad.{ScriptBad}
use Rattle.script.specs.declared.script.ScriptBad.TheVariants as bad
use Rattle.script.specs.Writing.{script_text}
use Rattle.script_generator.specs.Generated.{generated}
use Rattle.run_outcome.specs.declared.words.Asked.{Asked}
use Rattle.run_outcome.specs.declared.outcome.Fault.{Fault}
use Rattle.run_outcome.specs.declared.outcome.Fault.TheVariants.{ScriptBad as BadScript, Limit, NoMemory}
use Rattle.run_outcome.specs.Faults.{IsOutputFault}

abbrev pub generated_text : Asked → List ℕ
generated_text asked = script_text (generated asked.number asked.sessions asked.transfers)

abbrev pub script_fault : ScriptBad → Fault
script_fault (bad.Line line) = BadScript line
script_fault (bad.Limit what found most) = Limit what found most
script_fault bad.NoMemory = NoMemory

-- A script that passes a limit is refused for that, and no other is.
abbrev pub IsGenerateFault : Option ScriptBad → Fault → Type 0
IsGenerateFault None fault = IsOutputFault fault
IsGenerateFault (Some why) fault = fault ≡ script_fault why
