-- What callers are told of a row under a condition or assignments.
use Rattle.std.specs.Prelude.{◌≡◌, Bool, true, false, List, Option, Some, None, Result, Ok, Err}
use Rattle.inno_types.specs.declared.value.Value.{Value}
use Rattle.inno_types.specs.declared.reply.SqlError.{SqlError}
use Rattle.inno_db.specs.declared.truth.Truth.{Truth}
use Rattle.inno_db.specs.declared.truth.Truth.TheVariants.{True, False, Unknown}
use Rattle.sql_plan.specs.declared.row.AssignBad.{AssignBad}
use Rattle.sql_plan.specs.declared.row.AssignBad.TheVariants.{Fail, NoMemory}

abbrev pub known : Truth → Option Bool
known True = Some true
known False = Some false
known Unknown = None

-- the answer is this row or this refusal, unless memory ran out
abbrev pub IsAnswer : Result (List Value) AssignBad → Result (List Value) SqlError → Type 0
IsAnswer (Ok row) outcome = outcome ≡ Ok row
IsAnswer (Err (Fail error)) outcome = outcome ≡ Err error
IsAnswer (Err NoMemory) outcome = Unit {0}
