use Rattle.std.proofs.Common.{◌≡◌, ◌+◌, drop}
use Rattle.script.specs.Reading.{number_of}
use Rattle.script.proofs.reading.place_of.Given as goal

-- the place is among the names that are left
abbrev pub invariant-loop-i : goal.invariant-loop-i
invariant-loop-i l = number_of l.name l.names ≡ l.i + number_of l.name (drop l.i l.names)
