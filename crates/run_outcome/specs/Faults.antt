-- What a run's fault says: of the words, the script, the sink and memory, and what is printed under it.
use Rattle.std.specs.Prelude.{◌≡◌, ℕ, List, Option, Bool, true, false}
use Rattle.std.specs.Io.KnownBytes.{Appends}
use Rattle.inno_types.specs.declared.reply.Reply.TheVariants as replies
use Rattle.inno_model.specs.declared.event.Event.{Event}
use Rattle.inno_model.specs.declared.event.Event.TheVariants.{Ended, Stopped}
use Rattle.store_api.specs.declared.answers.MountBad.{MountBad}
use Rattle.store_api.specs.declared.answers.MountBad.TheVariants as refusals
use Rattle.script.specs.declared.script.Directives.{Directives}
use Rattle.script.specs.declared.script.ScriptBad.TheVariants.{Line, Limit as LimitPassed}
use Rattle.script.specs.Script.{IsRefused}
use Rattle.run_outcome.specs.declared.outcome.Fault.{Fault}
use Rattle.run_outcome.specs.declared.outcome.Fault.TheVariants.{Nothing, Usage, ScriptBad, ScriptRead, OutputWrite, DiskFault, File, Limit, NoMemory, LackedMemory}
use Rattle.run_outcome.specs.declared.words.Way.{Way}
use Rattle.run_outcome.specs.declared.words.Way.TheVariants.{InTurn, OnThreads}
use Rattle.run_outcome.specs.Streams.{AppendsFront}

-- Under `run` time passes by the clock, so a tick is a bad line there.
abbrev pub allowed : Way → Directives
allowed InTurn = record { signals = true; ticks = true }
allowed OnThreads = record { signals = true; ticks = false }

abbrev pub status_of : Fault → ℕ
status_of Nothing = 0
status_of Usage = 1
status_of (ScriptBad line) = 2
status_of ScriptRead = 3
status_of OutputWrite = 4
status_of DiskFault = 5
status_of (File bad) = 6
status_of (Limit what found most) = 7
status_of NoMemory = 8
status_of LackedMemory = 8

-- a fault of the script's bytes or its size, or of memory
abbrev pub IsInputFault : Fault → Type 0
IsInputFault (ScriptBad line) = Unit {0}
IsInputFault ScriptRead = Unit {0}
IsInputFault (Limit what found most) = Unit {0}
IsInputFault NoMemory = Unit {0}
IsInputFault other = ⊥

-- none, or a fault of the sink or of memory
abbrev pub IsOutputFault : Fault → Type 0
IsOutputFault Nothing = Unit {0}
IsOutputFault OutputWrite = Unit {0}
IsOutputFault NoMemory = Unit {0}
IsOutputFault other = ⊥

-- the same, or a fault of the disk, or memory was lacking before
abbrev pub IsPlayedFault : Fault → Type 0
IsPlayedFault DiskFault = Unit {0}
IsPlayedFault LackedMemory = Unit {0}
IsPlayedFault other = IsOutputFault other

-- The fault of a script that was played: of memory for the text, of the disk, of the sink, or at last of memory before.
abbrev pub told : Bool → Bool → Fault → Fault
told failed sufficed NoMemory = NoMemory
told true sufficed other = DiskFault
told false false Nothing = LackedMemory
told false sufficed other = other

-- why files are refused, as a fault
abbrev pub fault_of : MountBad → Fault
fault_of refusals.Disk = DiskFault
fault_of refusals.NoMemory = NoMemory
fault_of (refusals.TooLarge rows) = Limit 5 rows 1000000
fault_of bad = File bad

-- a session was answered that memory was lacking
abbrev pub answers_no_memory : Event → Bool
answers_no_memory (Ended s j replies.NoMemory) = true
answers_no_memory other = false

-- the entry says that the engine stopped
abbrev pub stops : Event → Bool
stops (Stopped cause) = true
stops other = false

-- What a sink was given: the text, or after its own fault a front of it, which may have come behind one of the disk. Where there
-- was no memory for the text, it was given nothing; what was lacking before that keeps nothing from it.
abbrev pub IsPrinted : Fault → Option (List ℕ) → Option (List ℕ) → List ℕ → Type 0
IsPrinted Nothing old new text = Appends old new text
IsPrinted OutputWrite old new text = AppendsFront old new text
IsPrinted DiskFault old new text = AppendsFront old new text
IsPrinted LackedMemory old new text = Appends old new text
IsPrinted other old new text = new ≡ old

-- why the bytes of the source are no script
abbrev pub Refuses : Way → Fault → List ℕ → Type 0
Refuses way (ScriptBad line) bytes = IsRefused (allowed way) bytes (Line line)
Refuses way (Limit what found most) bytes = IsRefused (allowed way) bytes (LimitPassed what found most)
Refuses way other bytes = Unit {0}
