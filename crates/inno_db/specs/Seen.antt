-- The value that is seen where it stands.
use Rattle.inno_types.specs.declared.value.Value.{Value}
use Rattle.inno_types.specs.declared.value.Value.TheVariants as value
use Rattle.inno_db.specs.declared.datum.Datum.{Datum}
use Rattle.inno_db.specs.declared.datum.Datum.TheVariants.{Null, Int, Text}

abbrev pub seen : Datum → Value
seen Null = value.Null
seen (Int n) = value.Int n
seen (Text text) = value.Text text.now
