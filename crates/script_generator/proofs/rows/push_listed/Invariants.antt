use Rattle.std.proofs.Common.{◌≡◌, ◌++◌, take}
use Rattle.std.specs.Prelude.{codes}
use Rattle.std.specs.List.{flat_map}
use Rattle.script_generator.specs.Dump.{behind_comma, value_text}
use Rattle.script_generator.proofs.rows.push_listed.Given as goal

abbrev pub invariant-loop-value : goal.invariant-loop-value
invariant-loop-value l = l.out.items ≡ l.initial.out.items ++ flat_map (behind_comma (codes ",") value_text) (take l.value-index l.others)
