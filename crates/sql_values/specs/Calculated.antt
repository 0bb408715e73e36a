-- What is calculated: a value that is seen where it stands, or a refusal.
use Rattle.std.specs.Prelude.{ℤ, Option, Some, None, Result, Ok, Err}
use Rattle.inno_types.specs.declared.value.Value.TheVariants.{Int}
use Rattle.inno_types.specs.declared.reply.SqlError.{SqlError}
use Rattle.inno_types.specs.declared.reply.SqlError.TheVariants.{OutOfRange}
use Rattle.inno_db.specs.declared.datum.Datum.{Datum}
use Rattle.inno_db.specs.Expressions.{Valued}
use Rattle.inno_db.specs.Seen.{seen}

abbrev pub valued : Result Datum SqlError → Valued
valued (Ok datum) = Ok (seen datum)
valued (Err error) = Err error

-- what a checked operation on 64 bits gives
abbrev pub number_or_refusal : Option ℤ → Valued
number_or_refusal (Some n) = Ok (Int n)
number_or_refusal None = Err OutOfRange
