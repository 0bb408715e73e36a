-- What `run` does for each command, in the order of README, and for words that are none.
-- `disk` is what is known of the disk as the run begins, `taken` what the sink has taken by then, and `disk'` and `taken'` are
-- the same as it ends. Words that name a command, but are no texts, end with Usage: a clause on faults asks for `IsCommand`.
use Rattle.std.specs.Prelude.{◌≡◌, ◌⊎◌, ℕ, List, [], Option, Some, IfSome}
use Rattle.store_api.specs.Past.{Past, Now, Meanwhile}
use Rattle.store_api.specs.Causes.{Rose}
use Rattle.inno_db.specs.Database.{Database}
use Rattle.inno_model.specs.declared.event.Event.{Event}
use Rattle.inno_model.specs.Recorded.{Recorded}
use Rattle.law_crashes.specs.Files.{Files, IsAtRest}
use Rattle.file_zero.specs.Making.{AreEmpty, AreNew, AreBeingMade, IsPageAlone}
use Rattle.file_zero.specs.Looks.{Had}
use Rattle.file_zero.specs.Reading.{HoldsDatabase}
use Rattle.file_zero.specs.Refused.{HasTooMany, HasFewRows}
use Rattle.durable_engine.specs.Whole.{HoldsAll}
use Rattle.script.specs.Script.{IsScript}
use Rattle.script_generator.specs.Dump.{text_of as dump_of}
use Rattle.script_generator.specs.Generated.{passed}
use Rattle.run_outcome.specs.declared.outcome.Fault.{Fault}
use Rattle.run_outcome.specs.declared.outcome.Fault.TheVariants.{Nothing, DiskFault, Limit}
use Rattle.run_outcome.specs.declared.reports.Report.TheVariants.{Totals}
use Rattle.run_outcome.specs.Words.{IsCommand, asked_in, way_in}
use Rattle.run_outcome.specs.Shown.{counts_text}
use Rattle.run_outcome.specs.Reports.{IsReported, IsReportedWhole}
use Rattle.run_outcome.specs.Generating.{generated_text, IsGenerateFault}
use Rattle.run_outcome.specs.Faults.{allowed, IsPrinted}
use Rattle.script_play.specs.Sessions.{AreNamed, FollowsScript, HasPlayed, HasAnswered}
use Rattle.script_runner.specs.Run.{SparesFiles, HasClosed, HasShown, IsMountFault, IsMakeFault, IsLoadFault, Judges, Plays, script_of}

-- `init FILE` makes the files of a database.
pub record DoesInit (words : List (List ℕ)) (disk disk' : Past) (fault : Fault) (past : List Event) : Type 0 where
  -- no session joins
  pub init : past ≡ []
  -- it fails with the disk, or at a file that is not empty, and then the files are as they were
  pub init_fault : IsCommand words → IsMakeFault disk disk' fault
  -- while empty files become a database, a crash leaves no page 0 that can be read, or files that are made
  pub init_crash : Now AreEmpty disk → Meanwhile AreBeingMade disk disk'
  -- files that are made have page 0 alone
  pub made : fault ≡ Nothing → Now IsPageAlone disk'
  -- and stand for a database without tables
  pub new : fault ≡ Nothing → Now IsAtRest disk → Now AreNew disk'

-- `run FILE SCRIPT` plays a script, each session on a thread; `play FILE SCRIPT` makes the same steps in turn. `source` has
-- the bytes of the script, and `reads` and `writes` count the failures of the source and of the sink.
pub record DoesScript (words : List (List ℕ)) (source : Option (List ℕ)) (reads reads' writes writes' : ℕ) (disk disk' : Past) (fault : Fault)
    (status : ℕ) (history : Recorded) : Type 0 where
  -- where the engine was closed, whatever a crash leaves from now on holds every commit
  pub durable : HasClosed fault → HoldsAll disk disk' history.past
  -- without a fault each session has started all items of the script, and each of them was answered
  pub played : fault ≡ Nothing → IfSome source (λ bytes. Plays (way_in words) bytes history.names history.past)
  -- bytes that are no script are refused for what is wrong with them, and no others are
  pub judged : IfSome source (Judges (way_in words) fault)
  -- where bytes that are a script pass a limit, it is the files that have too many rows
  pub too_large : (bytes : List ℕ) (rows most : ℕ) → source ≡ Some bytes → IsScript (allowed (way_in words)) bytes → fault ≡ Limit 5 rows most
      → (most ≡ 1000000) × Now (HasTooMany rows) disk'
  -- where the bytes are a script, nothing around the run fails and the files are good, it ends with status 0, or lacks memory
  pub complete : (bytes : List ℕ) → IsCommand words → source ≡ Some bytes → IsScript (allowed (way_in words)) bytes → (Rose reads reads' → ⊥)
      → (Rose writes writes' → ⊥) → (Rose disk.faults disk'.faults → ⊥) → SparesFiles fault → (status ≡ 0) ⊎ (status ≡ 8)

-- `dump FILE` prints the database as SQL.
pub record DoesDump (words : List (List ℕ)) (taken taken' : Option (List ℕ)) (disk disk' : Past) (fault : Fault) (past : List Event) : Type 0 where
  -- no session joins
  pub dump : past ≡ []
  -- the text is that of the database that the files stand for
  pub dumped : (db : Database) → Files disk disk' db → IsPrinted fault taken taken' (dump_of db)
  -- whatever the files are, it is that of a database that they held, of few enough rows
  pub held : HasShown fault → (db : Database) × Had (HoldsDatabase db) disk disk' × HasFewRows db × IsPrinted fault taken taken' (dump_of db)
  -- it fails with the disk, the sink or memory, or at files that are refused
  pub shown_fault : IsCommand words → IsMountFault disk disk' fault
  -- where the disk fails, nothing is printed
  pub quiet : fault ≡ DiskFault → taken' ≡ taken

-- `check FILE` prints what is counted in the database.
pub record DoesCheck (words : List (List ℕ)) (taken taken' : Option (List ℕ)) (disk disk' : Past) (fault : Fault) (past : List Event) : Type 0 where
  -- no session joins
  pub check : past ≡ []
  -- the counts are those of the database that the files stand for
  pub checked : (db : Database) → Files disk disk' db → IsPrinted fault taken taken' (counts_text db)
  -- whatever the files are, it is that of a database that they held, of few enough rows
  pub held : HasShown fault → (db : Database) × Had (HoldsDatabase db) disk disk' × HasFewRows db × IsPrinted fault taken taken' (counts_text db)
  -- it fails with the disk, the sink or memory, or at files that are refused
  pub shown_fault : IsCommand words → IsMountFault disk disk' fault
  -- where the disk fails, nothing is printed
  pub quiet : fault ≡ DiskFault → taken' ≡ taken

-- `gen NUMBER SESSIONS TXNS` prints a generated script.
pub record DoesGen {D S : Type 0} (words : List (List ℕ)) (given left : D) (source source' : S) (taken taken' : Option (List ℕ)) (fault : Fault)
    (past : List Event) : Type 0 where
  -- the text is that of the script that the numbers define
  pub generated : IsPrinted fault taken taken' (generated_text (asked_in 2 words))
  -- it fails with the sink or memory, or for the limit that such a script passes
  pub limited : IsCommand words → IsGenerateFault (passed (asked_in 2 words).sessions (asked_in 2 words).transfers) fault
  -- no session joins
  pub unplayed : past ≡ []
  -- the disk is not met
  pub gen_disk : left ≡ given
  -- nor is a source
  pub gen_source : source' ≡ source

-- `load FILE NUMBER SESSIONS TXNS` plays a generated script, each session on a thread, and prints a line of what it has done.
pub record DoesLoad {S : Type 0} (words : List (List ℕ)) (source source' : S) (taken taken' : Option (List ℕ)) (writes writes' : ℕ) (disk disk' : Past)
    (fault : Fault) (history : Recorded) : Type 0 where
  -- the line counts the commits of the history, and sums up what its accounts hold
  pub loaded : IsReported (Totals (asked_in 3 words)) fault taken taken' history
  -- where the disk failed, it is all there, unless the sink failed too
  pub load_whole : fault ≡ DiskFault → (Rose writes writes' → ⊥) → IsReportedWhole (Totals (asked_in 3 words)) taken taken' history
  -- the sessions are those of the script that the numbers define
  pub load_named : AreNamed (script_of (asked_in 3 words)) history.names
  -- each has started the first of its items, in their order
  pub load_follows : FollowsScript (script_of (asked_in 3 words)).items history.past
  -- without a fault each has started all of them, and each of them was answered
  pub load_played : fault ≡ Nothing
      → HasPlayed (script_of (asked_in 3 words)) history.names history.past × HasAnswered (script_of (asked_in 3 words)) history.past
  -- where the engine was closed, whatever a crash leaves from now on holds every commit
  pub durable : HasClosed fault → HoldsAll disk disk' history.past
  -- it fails for the limit that such a script passes, or as a script that was read
  pub load_fault : IsCommand words → IsLoadFault (passed (asked_in 3 words).sessions (asked_in 3 words).transfers) disk disk' fault
  -- no source is met
  pub load_source : source' ≡ source

-- Words that are no command: nothing is met, recorded or printed.
pub record DoesNothing {D S K : Type 0} (given left : D) (source source' : S) (sink sink' : K) (past : List Event) : Type 0 where
  -- the disk is as it was given
  pub unmet : left ≡ given
  -- the source is unread
  pub unread : source' ≡ source
  -- the sink has taken nothing
  pub unprinted : sink' ≡ sink
  -- no session joins
  pub unplayed : past ≡ []
