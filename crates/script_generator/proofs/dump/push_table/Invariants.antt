use Rattle.std.proofs.Common.{◌≡◌, ◌++◌, take}
use Rattle.std.specs.List.{flat_map}
use Rattle.script_generator.specs.Dump.{insert_text}
use Rattle.script_generator.proofs.dump.push_table.Given as goal

abbrev pub invariant-loop-row : goal.invariant-loop-row
invariant-loop-row l = l.out.items ≡ l.initial.out.items ++ flat_map (insert_text l.schema.name) (take l.row-index l.rows)
