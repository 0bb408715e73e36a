-- Which bytes are a script, what they say, and why other bytes are none.
use Rattle.std.specs.Prelude.{◌≡◌, ℕ, ◌<◌, ◌≤◌, List, length, All, Result, Ok, Err, false}
use Rattle.inno_types.specs.declared.reply.Item.TheVariants.{Sql}
use Rattle.script.specs.declared.script.Script.{Script}
use Rattle.script.specs.declared.script.Directives.{Directives}
use Rattle.script.specs.declared.script.ScriptBad.{ScriptBad}
use Rattle.script.specs.declared.script.ScriptBad.TheVariants.{NoMemory}
use Rattle.script.specs.declared.reading.Reading.{Reading}
use Rattle.script.specs.Reading.{begun, step, finished}

-- From here on the bytes are read part by part, to their end or to the first part that is none.
pub data Reads (allowed : Directives) (bytes : List ℕ) : Reading → Result Script ScriptBad → Type 0 where
  ended : {reading : Reading} → length bytes ≤ reading.at → Reads allowed bytes reading (finished bytes reading)
  stopped : {reading : Reading} {bad : ScriptBad} → reading.at < length bytes → step allowed bytes reading ≡ Err bad → Reads allowed bytes reading (Err bad)
  more : {reading next : Reading} {meaning : Result Script ScriptBad} → reading.at < length bytes → step allowed bytes reading ≡ Ok next → Reads allowed bytes next meaning → Reads allowed bytes reading meaning

-- what the bytes are: a script, or none for this reason
abbrev pub Means : Directives → List ℕ → Result Script ScriptBad → Type 0
Means allowed bytes meaning = Reads allowed bytes begun meaning

abbrev pub Spells : Directives → List ℕ → Script → Type 0
Spells allowed bytes script = Means allowed bytes (Ok script)

abbrev pub IsScript : Directives → List ℕ → Type 0
IsScript allowed bytes = (script : Script) × Spells allowed bytes script

-- each item belongs to a session that has a name, and where signals aren't allowed each is a statement
pub record IsPlayable (allowed : Directives) (script : Script) : Type 0 where
  pub named : All (λ item. item.s < length script.names) script.items
  pub statements : allowed.signals ≡ false → All (λ item. (text : List ℕ) × (item.item ≡ Sql text)) script.items

-- The bytes are no script, for this reason alone. Of want of memory nothing is said.
abbrev pub IsRefused : Directives → List ℕ → ScriptBad → Type 0
IsRefused allowed bytes NoMemory = Unit {0}
IsRefused allowed bytes bad = Means allowed bytes (Err bad) × (IsScript allowed bytes → ⊥)
