use Rattle.std.proofs.Common.{◌≡◌, ◌++◌, take}
use Rattle.std.specs.List.{flat_map}
use Rattle.script.specs.Writing.{tick_text}
use Rattle.script.proofs.writing.push_ticks.Given as goal

abbrev pub invariant-loop-tick : goal.invariant-loop-tick
invariant-loop-tick l = l.out.items ≡ l.fn.out.items ++ flat_map tick_text (take l.tick-index l.ticks)
