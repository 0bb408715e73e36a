use Rattle.row_changes.proofs.{Keying.put_went, Keying.put_done, Keying.put_waits}
use Rattle.row_changes.proofs.keys_change.KeysChange.advance.Goals as goal

abbrev pub returns-in-Went-clause-changes : goal.returns-in-Went-clause-changes
returns-in-Went-clause-changes g c = λ chains beside p. put_went _ _ _ _ _ p _ c.in-Some.is c.step.new.self c.in-Went.ensures.puts

abbrev pub returns-in-Done-clause-changes : goal.returns-in-Done-clause-changes
returns-in-Done-clause-changes g c = λ chains beside p. put_done _ _ _ _ _ p _ c.in-Some.is c.in-Done.ensures.puts

abbrev pub returns-in-Hindered-clause-changes : goal.returns-in-Hindered-clause-changes
returns-in-Hindered-clause-changes g c = λ chains beside p. put_waits _ _ _ _ _ p _ c.in-Some.is c.args.actor _ c.in-Hindered.why c.in-Hindered.ensures.puts
