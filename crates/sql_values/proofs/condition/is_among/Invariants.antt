use Rattle.std.proofs.Common.{◌≡◌, drop}
use Rattle.inno_db.specs.Conditions.{is_in, or_of}
use Rattle.inno_db.specs.Seen.{seen}
use Rattle.sql_values.proofs.condition.is_among.Given as goal

-- what is found so far, or the rest, is the whole
abbrev pub invariant-loop-literal : goal.invariant-loop-literal
invariant-loop-literal l =
    or_of l.found (is_in (seen l.datum) (drop l.literal-index l.literals)) ≡ is_in (seen l.datum) l.literals
