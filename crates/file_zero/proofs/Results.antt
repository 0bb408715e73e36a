-- What holds whatever a result is.
use Rattle.std.specs.Prelude.{Result, Ok, Err, OnOk}

pub on_ok : {T E : Type 0} (P : Type 0) (result : Result T E) → P → OnOk result P
on_ok P (Ok x) holds = holds
on_ok P (Err e) holds = tt
