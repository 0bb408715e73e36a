-- What every run keeps, whatever its words ask for, and what its fault says.
use Rattle.std.specs.Prelude.{◌≡◌, ◌⊎◌, ℕ, ◌≤◌, true, false, List, [], ◌∷◌, Option, None, Some}
use Rattle.std.specs.List.{list_any}
use Rattle.store_api.specs.declared.answers.MountBad.{MountBad}
use Rattle.store_api.specs.Past.{Past, Now}
use Rattle.store_api.specs.Causes.{Rose}
use Rattle.sql_grammar.specs.Grammar.{Spells as SpellsStatement}
use Rattle.inno_model.specs.declared.event.Event.{Event}
use Rattle.inno_model.specs.Recorded.{Recorded}
use Rattle.sql_history.specs.Legal.{IsLegal}
use Rattle.sql_history.specs.Serial.{IsSetUp}
use Rattle.sql_history.specs.Counts.{has_stopped}
use Rattle.session_engine.specs.Places.{HasExactPlaces}
use Rattle.law_histories.specs.Space.{ends_without_want}
use Rattle.file_zero.specs.Looks.{Had}
use Rattle.file_zero.specs.Making.{HasBytes, IsNotMade}
use Rattle.file_zero.specs.Refused.{IsRefused as AreRefused, HasTooMany}
use Rattle.law_crashes.specs.Files.{LeavesFiles}
use Rattle.law_crashes.specs.Since.{KeepsSince}
use Rattle.script.specs.declared.script.Script.{Script}
use Rattle.script.specs.Script.{Spells, IsScript}
use Rattle.run_outcome.specs.declared.outcome.Fault.{Fault}
use Rattle.run_outcome.specs.declared.outcome.Fault.TheVariants.{Nothing, Usage, ScriptBad as BadScript, ScriptRead, OutputWrite, DiskFault, File, Limit}
use Rattle.run_outcome.specs.declared.outcome.Fault.TheVariants.{NoMemory, LackedMemory}
use Rattle.run_outcome.specs.declared.reports.Report.{Report}
use Rattle.run_outcome.specs.Reports.{IsReported, IsReportedWhole}
use Rattle.script.specs.declared.script.ScriptBad.{ScriptBad}
use Rattle.script_generator.specs.Generated.{generated}
use Rattle.run_outcome.specs.declared.words.Asked.{Asked}
use Rattle.run_outcome.specs.declared.words.Way.{Way}
use Rattle.run_outcome.specs.Words.{NoDump, NoCheck, NoGen, NoLoad}
use Rattle.run_outcome.specs.Generating.{script_fault}
use Rattle.run_outcome.specs.Faults.{allowed, IsOutputFault, Refuses, answers_no_memory}
use Rattle.script_play.specs.Sessions.{AreNamed, FollowsScript, HasPlayed, HasAnswered}

-- ---- every run. `disk` is what is known of the disk as the run begins, `disk'` as it ends.

-- What a run records, and what its fault says of that.
pub record IsRecorded (disk disk' : Past) (fault : Fault) (past : List Event) : Type 0 where
  -- each entry might come when it came: so a reply is what its statement answers there
  pub legal : IsLegal SpellsStatement past
  -- the reply to a text that is no statement names its first bad byte
  pub exact : HasExactPlaces past
  -- the setup part has ended all its items when another session starts one
  pub set_up : IsSetUp past
  -- an item that ends for want of pages names fewer that are free than it needs
  pub for_pages : list_any ends_without_want past ≡ false
  -- only a disk that has failed stops the engine
  pub stopped : has_stopped past ≡ true → Rose disk.faults disk'.faults
  -- and such a stop is told, whatever became of the sink, unless there was no memory for the text
  pub stop_told : has_stopped past ≡ true → (fault ≡ DiskFault) ⊎ (fault ≡ NoMemory)
  -- without a fault the engine has not stopped
  pub served : fault ≡ Nothing → has_stopped past ≡ false
  -- without a fault no session was answered NO MEMORY
  pub replied : fault ≡ Nothing → list_any answers_no_memory past ≡ false

-- What is printed of a history. `taken` is what the sink has taken before, `faults` how often it has failed.
pub record Prints (report : Report) (fault : Fault) (taken taken' : Option (List ℕ)) (faults faults' : ℕ) (history : Recorded) : Type 0 where
  -- all of the report, or the front of it that came before a fault of the disk or of the sink
  pub printed : IsReported report fault taken taken' history
  -- where the disk failed, all of it, unless the sink failed too
  pub whole : fault ≡ DiskFault → (Rose faults faults' → ⊥) → IsReportedWhole report taken taken' history

-- ---- faults

-- the words or the script are why, and the disk is not met
abbrev pub IsBeforeDisk : Fault → Type 0
IsBeforeDisk Usage = Unit {0}
IsBeforeDisk (BadScript line) = Unit {0}
IsBeforeDisk ScriptRead = Unit {0}
IsBeforeDisk other = ⊥

-- the files are not what is wrong
abbrev pub SparesFiles : Fault → Type 0
SparesFiles (File bad) = ⊥
SparesFiles (Limit what found most) = ⊥
SparesFiles other = Unit {0}

-- The sessions have played, and the engine was closed: all its commits are on the disk. The sink may have failed since, or a
-- session may have been answered that memory was lacking.
abbrev pub HasClosed : Fault → Type 0
HasClosed Nothing = Unit {0}
HasClosed OutputWrite = Unit {0}
HasClosed LackedMemory = Unit {0}
HasClosed other = ⊥

-- What the files hold was shown, or a front of it.
abbrev pub HasShown : Fault → Type 0
HasShown Nothing = Unit {0}
HasShown OutputWrite = Unit {0}
HasShown other = ⊥

-- What is printed is the history: nothing else is asked for.
abbrev pub PrintsHistory : List (List ℕ) → Type 0
PrintsHistory words = NoDump words × NoCheck words × NoGen words × NoLoad words

-- What may come of a script that could be read: the disk and the files are why only where they show it.
abbrev pub IsMountFault : Past → Past → Fault → Type 0
IsMountFault old new DiskFault = Rose old.faults new.faults
IsMountFault old new (File bad) = AreRefused old new bad
IsMountFault old new (Limit what found most) = (what ≡ 5) × (most ≡ 1000000) × Now (HasTooMany found) new
IsMountFault old new other = IsOutputFault other

-- the same where sessions play, which may lack memory
abbrev pub IsPlayFault : Past → Past → Fault → Type 0
IsPlayFault old new LackedMemory = Unit {0}
IsPlayFault old new other = IsMountFault old new other

-- What may come of making files. They are made where all three were empty, and nowhere else.
abbrev pub IsMakeFault : Past → Past → Fault → Type 0
IsMakeFault old new Nothing = Had (HasBytes 0) old new
IsMakeFault old new DiskFault = Rose old.faults new.faults
IsMakeFault old new (File bad) = IsNotMade old new bad
IsMakeFault old new other = ⊥

-- what may come of a generated script: a limit of its own, or a fault of the sink or of memory
abbrev pub IsMadeUp : Fault → Type 0
IsMadeUp (Limit what found most) = what ≤ 2
IsMadeUp other = IsOutputFault other

-- What a fault says of the bytes of the source: a script comes first, before the files and what is printed. Where the bytes
-- weren't read, and where memory was lacking, it says nothing. The fifth limit is that of the rows in the files.
abbrev pub Judges : Way → Fault → List ℕ → Type 0
Judges way Nothing bytes = IsScript (allowed way) bytes
Judges way OutputWrite bytes = IsScript (allowed way) bytes
Judges way DiskFault bytes = IsScript (allowed way) bytes
Judges way (File bad) bytes = IsScript (allowed way) bytes
Judges way LackedMemory bytes = IsScript (allowed way) bytes
Judges way (Limit what found most) bytes = (what ≡ 5) ⊎ Refuses way (Limit what found most) bytes
Judges way other bytes = Refuses way other bytes

-- the sessions are the first that the bytes name, and each has started the first of the items that they give it
abbrev pub Follows : Way → List ℕ → List (List ℕ) → List Event → Type 0
Follows way bytes names past =
    IsScript (allowed way) bytes → (script : Script) × Spells (allowed way) bytes script × AreNamed script names × FollowsScript script.items past

-- each session of the bytes has started all of its items, and each of them was answered
abbrev pub Plays : Way → List ℕ → List (List ℕ) → List Event → Type 0
Plays way bytes names past = (script : Script) × Spells (allowed way) bytes script × HasPlayed script names past × HasAnswered script past

-- the script that these numbers make
abbrev pub script_of : Asked → Script
script_of asked = generated asked.number asked.sessions asked.transfers

-- A generated script that passes a limit is refused for that before the disk is met. Any other runs as one that was read.
abbrev pub IsLoadFault : Option ScriptBad → Past → Past → Fault → Type 0
IsLoadFault None old new fault = IsPlayFault old new fault
IsLoadFault (Some why) old new fault = fault ≡ script_fault why

-- What a crash leaves of the files at any moment of a call, whose history this is. Where no engine was mounted, it stands for
-- what the files stood for before. Else it stands for the database after the first so many commits of the history, with every
-- one among them that was acknowledged by then.
abbrev pub KeepsFiles : Past → Past → List Event → Type 0
KeepsFiles old new [] = LeavesFiles old new
KeepsFiles old new (e ∷ past) = KeepsSince old new (e ∷ past)

-- What becomes of files that stand for a database: every command but `init` keeps it.
pub record KeepsDatabase (disk disk' : Past) (fault : Fault) (past : List Event) : Type 0 where
  -- whatever a crash left at a moment of the run holds the first so many commits, with all that were acknowledged by then
  pub crash : KeepsFiles disk disk' past
  -- files that are refused are what they are told to be
  pub refused : (bad : MountBad) → fault ≡ File bad → AreRefused disk disk' bad

-- A fault is seen in what surrounds the run: the counts of failures of the source and of the sink, and the disk.
pub record HasCause {D : Type 0} (given left : D) (disk disk' : Past) (source source' sink sink' : ℕ) (fault : Fault) : Type 0 where
  -- the source has failed
  pub script_read : fault ≡ ScriptRead → Rose source source'
  -- the sink has failed
  pub output_write : fault ≡ OutputWrite → Rose sink sink'
  -- the disk has failed
  pub disk_fault : fault ≡ DiskFault → Rose disk.faults disk'.faults
  -- words and scripts are refused before the disk is met
  pub before_disk : IsBeforeDisk fault → left ≡ given

-- The sessions of a history are those of a script, and do what it says.
pub record PlaysScript (script : Script) (fault : Fault) (history : Recorded) : Type 0 where
  -- they have the script's names
  pub named : AreNamed script history.names
  -- each has started the first of its items, in their order
  pub follows : FollowsScript script.items history.past
  -- without a fault each has started all of them
  pub played : fault ≡ Nothing → HasPlayed script history.names history.past
  -- and each of them was answered
  pub answered : fault ≡ Nothing → HasAnswered script history.past
