-- Why a key is refused.
use Rattle.std.specs.Prelude.{◌≡◌, Result, Ok, Err}
use Rattle.key_codec.specs.declared.read.KeyBad.{KeyBad}
use Rattle.key_codec.specs.declared.read.KeyBad.TheVariants.{Bad, NoMemory}

-- the answer is this value, unless memory ran out
abbrev pub IsOrNoMemory : {T : Type 0} → Result T KeyBad → T → Type 0
IsOrNoMemory (Ok x) value = x ≡ value
IsOrNoMemory (Err NoMemory) value = Unit {0}
IsOrNoMemory (Err Bad) value = ⊥
