use Rattle.std.proofs.Common.{◌-◌, ◌<◌}
use Rattle.sql_prefix.specs.Prefix.{IsBetween}
use Rattle.sql_prefix.proofs.place.longest_prefix.Given as goal

abbrev pub invariant-searching : goal.invariant-searching
invariant-searching l = IsBetween l.bytes l.low l.high × (0 < l.step)

abbrev pub decreases-searching : goal.decreases-searching
decreases-searching l = l.high - l.low
