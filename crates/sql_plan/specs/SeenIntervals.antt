-- Intervals of values that are seen where they stand.
use Rattle.std.specs.Prelude.{Option, Some, None}
use Rattle.inno_types.specs.declared.value.Value.{Value}
use Rattle.inno_db.specs.declared.datum.Datum.{Datum}
use Rattle.inno_db.specs.Seen.{seen}
use Rattle.sql_plan.specs.declared.interval.Limit.{Limit}
use Rattle.sql_plan.specs.declared.interval.Limit.TheVariants.{Open, With, Without}
use Rattle.sql_plan.specs.declared.interval.Interval.{Interval}

abbrev pub seen_limit : Limit Datum → Limit Value
seen_limit Open = Open
seen_limit (With datum) = With (seen datum)
seen_limit (Without datum) = Without (seen datum)

abbrev pub seen_interval : Interval Datum → Interval Value
seen_interval values = record { none = values.none; low = seen_limit values.low; high = seen_limit values.high }

abbrev pub interval_if : Option (Interval Datum) → Option (Interval Value)
interval_if None = None
interval_if (Some values) = Some (seen_interval values)

abbrev pub seen_if : Option Datum → Option Value
seen_if None = None
seen_if (Some datum) = Some (seen datum)
