use Rattle.std.proofs.Common.{◌≡◌, ◌++◌, drop}
use Rattle.inno_model.specs.Text.{sections, text}
use Rattle.script.proofs.printing.transcript.Given as goal

-- what is written, and the sections of the sessions that are left
abbrev pub invariant-loop-s : goal.invariant-loop-s
invariant-loop-s l = l.out.items ++ sections l.s (drop l.s l.history.names) l.history.past ≡ text l.history
