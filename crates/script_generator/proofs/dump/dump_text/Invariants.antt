use Rattle.std.proofs.Common.{◌≡◌, ◌++◌, drop}
use Rattle.script_generator.specs.Dump.{tables_text, text_of}
use Rattle.script_generator.proofs.dump.dump_text.Given as goal

-- what is written, and the tables that are left
abbrev pub invariant-loop-table : goal.invariant-loop-table
invariant-loop-table l = l.out.items ++ tables_text l.db l.table (drop l.table l.schemas) ≡ text_of l.db
