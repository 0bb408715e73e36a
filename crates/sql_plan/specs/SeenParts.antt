-- Parts whose values are seen where they stand.
use Rattle.std.specs.Prelude.{Option, Some, None}
use Rattle.inno_types.specs.declared.value.Value.{Value}
use Rattle.inno_db.specs.declared.datum.Datum.{Datum}
use Rattle.sql_plan.specs.declared.part.Bounding.{Bounding}
use Rattle.sql_plan.specs.SeenIntervals.{seen_interval}

abbrev pub seen_part : Bounding Datum → Bounding Value
seen_part part = record { place = part.place; values = seen_interval part.values }

abbrev pub part_if : Option (Bounding Datum) → Option (Bounding Value)
part_if None = None
part_if (Some part) = Some (seen_part part)
