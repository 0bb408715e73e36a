use Rattle.std.proofs.Common.{◌≡◌, ◌++◌, drop}
use Rattle.script.specs.Writing.{script_text, text_from}
use Rattle.script.proofs.writing.push_script.Given as goal

-- what is written, and what is written of the items that are left
abbrev pub invariant-loop-count : goal.invariant-loop-count
invariant-loop-count l = l.out.items ++ text_from l.names l.named l.last l.count l.ticks (drop l.count l.script.items) ≡ l.fn.out.items ++ script_text l.script
