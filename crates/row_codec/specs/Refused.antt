-- Why a record is refused.
use Rattle.std.specs.Prelude.{◌≡◌, Result, Ok, Err}
use Rattle.key_codec.specs.declared.read.KeyBad.{KeyBad}
use Rattle.key_codec.specs.declared.read.KeyBad.TheVariants as KeyBads
use Rattle.row_codec.specs.declared.refused.RowBad.{RowBad}
use Rattle.row_codec.specs.declared.refused.RowBad.TheVariants.{Shape, NoMemory}

-- the answer is this value, unless memory ran out
abbrev pub IsOrNoMemory : {T : Type 0} → Result T RowBad → T → Type 0
IsOrNoMemory (Ok x) value = x ≡ value
IsOrNoMemory (Err NoMemory) value = Unit {0}
IsOrNoMemory (Err Shape) value = ⊥

-- what a refused key makes of the record
abbrev pub refusal_of : KeyBad → RowBad
refusal_of KeyBads.Bad = Shape
refusal_of KeyBads.NoMemory = NoMemory
