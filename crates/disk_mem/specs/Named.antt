-- Which calls of an object in memory fail: those whose numbers it was made with.
use Rattle.std.specs.Prelude.{◌≡◌, ◌⊎◌, ℕ, Bool, true, false, List, ◌==◌, OnErr, Result, is_ok}
use Rattle.std.specs.List.{list_any}
use Rattle.store_api.specs.Past.{Past, Ticks}
use Rattle.disk_mem.specs.declared.disk.MemDisk.{MemDisk}
use Rattle.disk_mem.specs.declared.source.MemSource.{MemSource}
use Rattle.disk_mem.specs.declared.sink.MemSink.{MemSink}
use Rattle.disk_mem.specs.Replay.{Tells}

-- the numbers of the calls that are to fail, counted from 1
abbrev pub disk_fails : MemDisk → List ℕ
disk_fails d = d.fail

abbrev pub source_fails : MemSource → List ℕ
source_fails s = s.fail

abbrev pub sink_fails : MemSink → List ℕ
sink_fails s = s.fail

-- how many calls were made
abbrev pub source_calls : MemSource → ℕ
source_calls s = s.calls

abbrev pub sink_calls : MemSink → ℕ
sink_calls s = s.calls

abbrev pub is_named : List ℕ → ℕ → Bool
is_named named number = list_any (λ n. n == number) named

-- A call of a disk fails where its number is named. Another one fails only where the disk tells no more, or its clock ends.
pub record Obeys {T E : Type 0} (named : List ℕ) (number : ℕ) (past : Past) (result : Result T E) : Type 0 where
  pub fails : is_named named number ≡ true → is_ok result ≡ false
  pub spares : OnErr result ((is_named named number ≡ true) ⊎ (Ticks past.moment → Tells past → ⊥))
