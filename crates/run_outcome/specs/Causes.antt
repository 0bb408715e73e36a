-- What is said of the cause of a fault: on standard error, on a line before the status.
use Rattle.std.specs.Prelude.{ℕ, List, [], ◌++◌, ◌==◌, if◌then◌else◌, codes}
use Rattle.std.specs.Fmt.{decimal}
use Rattle.store_api.specs.declared.disk.Area.{Area}
use Rattle.store_api.specs.declared.disk.Area.TheVariants.{Log, Double, Pages}
use Rattle.store_api.specs.declared.answers.MountBad.{MountBad}
use Rattle.store_api.specs.declared.answers.MountBad.TheVariants as mount
use Rattle.run_outcome.specs.declared.outcome.Fault.{Fault}
use Rattle.run_outcome.specs.declared.outcome.Fault.TheVariants.{Nothing, Usage, ScriptBad, ScriptRead, OutputWrite, DiskFault, File, Limit, NoMemory, LackedMemory}

-- ---- the script, and limits

abbrev pub script_bad_text : List ℕ → ℕ → List ℕ
script_bad_text script line =
    script ++ (codes ", line " ++ (decimal line ++ codes ": no directive, or a text, a quoted name or a comment that does not end"))

abbrev pub limited : ℕ → List ℕ
limited what =
    if what == 1 then codes " sessions"
    else (if what == 2 then codes " items"
    else (if what == 3 then codes " bytes of a statement"
    else (if what == 4 then codes " bytes"
    else codes " rows")))

-- what passes a limit: the files have too many rows, and all else is of the script
abbrev pub whose : ℕ → List ℕ → List ℕ → List ℕ
whose what file script = if what == 5 then file else script

-- what was found, and the most
abbrev pub limit_text : List ℕ → ℕ → ℕ → ℕ → List ℕ
limit_text name what found most =
    name ++ (codes ": " ++ (decimal found ++ (limited what ++ (codes ", at most " ++ decimal most))))

-- ---- the files

abbrev pub disk_fault_text : List ℕ → List ℕ
disk_fault_text file = file ++ codes ": one of the files .log, .dbl and .pag cannot be read, written or synced"

abbrev pub damaged : Area → List ℕ
damaged Log = codes "damaged block of the log: "
damaged Double = codes "damaged copy of a page: "
damaged Pages = codes "damaged page: "

abbrev pub damage_text : List ℕ → Area → ℕ → ℕ → ℕ → List ℕ
damage_text file area place stored computed =
    file ++ (codes ": " ++ (damaged area ++ (decimal place ++ (codes ", stored sum " ++ (decimal stored ++ (codes ", computed sum " ++ decimal computed))))))

-- what is wrong with the files
abbrev pub file_text : List ℕ → MountBad → List ℕ
file_text file mount.Disk = file ++ codes ": cannot be read, written or synced"
file_text file mount.NotInitialised = file ++ codes ": no database was made there"
file_text file (mount.Version found) = file ++ (codes ": a format of another version: " ++ decimal found)
file_text file (mount.Damaged area place stored computed) = damage_text file area place stored computed
file_text file mount.NoMemory = file ++ codes ": not enough memory"
file_text file (mount.Malformed page rule) = file ++ (codes ": page " ++ (decimal page ++ (codes " breaks rule " ++ decimal rule)))
file_text file (mount.NotEmpty bytes) = file ++ (codes ": not empty, bytes: " ++ decimal bytes)
file_text file (mount.TooLarge rows) = file ++ (codes ": too many rows: " ++ decimal rows)

-- ---- faults, over the words that name the files and the script

abbrev pub cause_text : List ℕ → List ℕ → Fault → List ℕ
cause_text file script Nothing = []
cause_text file script Usage = codes "usage: innod init, dump or check FILE, innod run or play FILE SCRIPT, innod gen NUMBER SESSIONS TXNS, or innod load FILE NUMBER SESSIONS TXNS"
cause_text file script (ScriptBad line) = script_bad_text script line
cause_text file script ScriptRead = script ++ codes ": cannot be read"
cause_text file script OutputWrite = codes "standard output: cannot be written"
cause_text file script DiskFault = disk_fault_text file
cause_text file script (File bad) = file_text file bad
cause_text file script (Limit what found most) = limit_text (whose what file script) what found most
cause_text file script NoMemory = codes "not enough memory"
cause_text file script LackedMemory = codes "not enough memory"
