use Rattle.std.proofs.Common.{◌-◌, length}
use Rattle.script.specs.Reading.{IsPlaced}
use Rattle.script.proofs.Sound.{IsSound}
use Rattle.script.proofs.Meaning.{LeadsTo}
use Rattle.script.proofs.reading.read_script.Given as goal

abbrev pub invariant-loop-reading : goal.invariant-loop-reading
invariant-loop-reading l = record {
  placed : IsPlaced (length l.bytes) l.reading;
  sound : IsSound l.allowed l.reading.script l.reading.s;
  leads : LeadsTo l.allowed l.bytes l.reading;
}

abbrev pub decreases-loop-reading : goal.decreases-loop-reading
decreases-loop-reading l = length l.bytes - l.reading.at
