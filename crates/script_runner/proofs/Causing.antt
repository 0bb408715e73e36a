-- What each fault says of the disk, the source and the sink, by where it came.
use Rattle.std.proofs.Common.{◌≡◌, ◌⊎◌, ℕ, Bool, true, false, Option, None, Some, List, [], ◌++◌, take, refl, sym, ap, subst, ◌∙◌, inl, inr}
use Rattle.std.specs.Prelude.{IfSome, IfOk, Result, Ok, Err, is_err}
use Rattle.store_api.specs.declared.answers.MountBad.{MountBad}
use Rattle.store_api.specs.declared.answers.MountBad.TheVariants as refusals
use Rattle.store_api.specs.Past.{Past}
use Rattle.store_api.specs.Causes.{Rose}
use Rattle.std.proofs.lemmas.List.{append-nil}
use Rattle.std.specs.Io.KnownBytes.{Appends}
use Rattle.inno_model.specs.declared.event.Event.{Event}
use Rattle.inno_model.specs.Recorded.{Recorded}
use Rattle.inno_model.specs.Text.{text, sections}
use Rattle.file_zero.specs.Refused.{IsRefused}
use Rattle.script.specs.Script.{Spells, IsScript}
use Rattle.script.specs.declared.script.Script.{Script}
use Rattle.run_outcome.specs.declared.outcome.Fault.{Fault}
use Rattle.run_outcome.specs.declared.outcome.Fault.TheVariants.{Nothing, Usage, ScriptBad, ScriptRead, OutputWrite, DiskFault, File, Limit, NoMemory, LackedMemory}
use Rattle.run_outcome.specs.declared.reports.Report.TheVariants.{Transcript}
use Rattle.run_outcome.specs.declared.words.Way.{Way}
use Rattle.run_outcome.specs.Faults.{allowed, fault_of, IsInputFault, IsPlayedFault, IsPrinted, Refuses}
use Rattle.script_runner.specs.Run.{IsRecorded, Prints, HasCause, HasClosed, HasShown, IsMountFault, IsPlayFault, IsMakeFault, IsMadeUp, IsBeforeDisk, Judges}
use Rattle.run_outcome.proofs.Telling.{all_is_front}

-- ---- a history without entries

pub nothing_recorded : (disk disk' : Past) (fault : Fault) (past : List Event) → past ≡ [] → IsRecorded disk disk' fault past
nothing_recorded disk disk' fault past none =
    subst (IsRecorded disk disk' fault) (sym none)
    (record {
      legal = tt;
      exact = tt;
      set_up = tt;
      for_pages = refl;
      stopped = λ is. cc;
      stop_told = λ is. cc;
      served = λ is. refl;
      replied = λ is. refl;
    })

-- the text of a history that nobody has joined
pub no_text : (history : Recorded) → history.names ≡ [] → text history ≡ []
no_text history names = ap (λ (all : List (List ℕ)). sections 0 all history.past) names

pub appends_none : (known : Option (List ℕ)) (bytes : List ℕ) → bytes ≡ [] → Appends known known bytes
appends_none None bytes none = tt
appends_none (Some old) bytes none = sym (ap (λ (more : List ℕ). old ++ more) none ∙ append-nil old)

-- nothing is printed of it
pub nothing_printed : (fault : Fault) (known : Option (List ℕ)) (bytes : List ℕ) → bytes ≡ [] → IsPrinted fault known known bytes
nothing_printed Nothing known bytes none = appends_none known bytes none
nothing_printed OutputWrite known bytes none = all_is_front known known bytes (appends_none known bytes none)
nothing_printed DiskFault known bytes none = all_is_front known known bytes (appends_none known bytes none)
nothing_printed LackedMemory known bytes none = appends_none known bytes none
nothing_printed other known bytes none = refl

pub nothing_prints : (fault : Fault) (known : Option (List ℕ)) (faults faults' : ℕ) (history : Recorded) → history.names ≡ []
    → Prints Transcript fault known known faults faults' history
nothing_prints fault known faults faults' history names =
    record {
      printed = nothing_printed fault known (text history) (no_text history names);
      whole = λ is fails. appends_none known (text history) (no_text history names);
    }

-- ---- files that are refused

pub mount_fault : (old new : Past) (bad : MountBad) → IsRefused old new bad → IsMountFault old new (fault_of bad)
mount_fault old new refusals.NoMemory p = tt
mount_fault old new (refusals.TooLarge rows) p = (refl, refl, p)
mount_fault old new other p = p

-- and where sessions are to play
pub play_fault : (old new : Past) (f : Fault) → IsMountFault old new f → IsPlayFault old new f
play_fault old new LackedMemory is = tt
play_fault old new other is = is

-- what comes of a script that was played
pub played_fault : (old new : Past) (f : Fault) → IsPlayedFault f → (f ≡ DiskFault → Rose old.faults new.faults) → IsPlayFault old new f
played_fault old new Nothing is failed = tt
played_fault old new OutputWrite is failed = tt
played_fault old new NoMemory is failed = tt
played_fault old new LackedMemory is failed = tt
played_fault old new DiskFault is failed = failed refl
played_fault old new other is failed = absurd is

-- ---- an engine that was closed

-- its disk has not failed
pub closed_well : (failed : Bool) (f : Fault) → (failed ≡ true → (f ≡ DiskFault) ⊎ (f ≡ NoMemory)) → HasClosed f → failed ≡ false
closed_well false f tells closed = refl
closed_well true f tells closed = elim (tells refl) [
  | inl is ↦ absurd (subst HasClosed is closed)
  | inr is ↦ absurd (subst HasClosed is closed)
]

-- where none was mounted, none was closed
pub refused_unclosed : (bad : MountBad) → HasClosed (fault_of bad) → ⊥
refused_unclosed refusals.Disk closed = closed
refused_unclosed refusals.NoMemory closed = closed
refused_unclosed (refusals.TooLarge rows) closed = closed
refused_unclosed other closed = closed

pub input_unclosed : (f : Fault) → IsInputFault f → HasClosed f → ⊥
input_unclosed Nothing is closed = is
input_unclosed OutputWrite is closed = is
input_unclosed LackedMemory is closed = is
input_unclosed other is closed = closed

-- nor was anything shown
pub refused_unshown : (bad : MountBad) → HasShown (fault_of bad) → ⊥
refused_unshown refusals.Disk shown = shown
refused_unshown refusals.NoMemory shown = shown
refused_unshown (refusals.TooLarge rows) shown = shown
refused_unshown other shown = shown

-- a refusal is a fault
pub fault_told : (bad : MountBad) (f : Fault) → f ≡ fault_of bad → f ≡ Nothing → ⊥
fault_told refusals.Disk f is none = (let e = sym is ∙ none in cc)
fault_told refusals.NoMemory f is none = (let e = sym is ∙ none in cc)
fault_told (refusals.TooLarge rows) f is none = (let e = sym is ∙ none in cc)
fault_told other f is none = (let e = sym is ∙ none in cc)

-- nothing was printed of them
pub refused_printed : (bad : MountBad) (known : Option (List ℕ)) (bytes : List ℕ) → IsPrinted (fault_of bad) known known bytes
refused_printed refusals.Disk known bytes = record { count = 0; front = appends_none known (take 0 bytes) refl }
refused_printed refusals.NoMemory known bytes = refl
refused_printed (refusals.TooLarge rows) known bytes = refl
refused_printed other known bytes = refl

-- where there was no error
pub where_no_err : {T E P : Type 0} (result : Result T E) → is_err result ≡ false → IfOk result (λ value. P) → P
where_no_err (Ok value) none p = p
where_no_err (Err error) none p = cc

-- ---- where the faults come from

mount_met : (old new : Past) (f : Fault) → IsPlayFault old new f → IsBeforeDisk f → ⊥
mount_met old new Usage is before = is
mount_met old new (ScriptBad line) is before = is
mount_met old new ScriptRead is before = is
mount_met old new other is before = before

make_met : (old new : Past) (f : Fault) → IsMakeFault old new f → IsBeforeDisk f → ⊥
make_met old new Usage is before = is
make_met old new (ScriptBad line) is before = is
make_met old new ScriptRead is before = is
make_met old new other is before = before

pub mount_caused : {D : Type 0} (given left : D) (old new : Past) (source source' sink sink' : ℕ) (f : Fault) → IsPlayFault old new f
    → (f ≡ OutputWrite → Rose sink sink') → HasCause given left old new source source' sink sink' f
mount_caused given left old new source source' sink sink' f is wrote =
    record {
      script_read = λ e. absurd (subst (IsPlayFault old new) e is);
      output_write = wrote;
      disk_fault = λ e. subst (IsPlayFault old new) e is;
      before_disk = λ before. absurd (mount_met old new f is before);
    }

pub make_caused : {D : Type 0} (given left : D) (old new : Past) (source source' sink sink' : ℕ) (f : Fault) → IsMakeFault old new f
    → HasCause given left old new source source' sink sink' f
make_caused given left old new source source' sink sink' f is =
    record {
      script_read = λ e. absurd (subst (IsMakeFault old new) e is);
      output_write = λ e. absurd (subst (IsMakeFault old new) e is);
      disk_fault = λ e. subst (IsMakeFault old new) e is;
      before_disk = λ before. absurd (make_met old new f is before);
    }

pub made_up_caused : {D : Type 0} (given left : D) (old new : Past) (source source' sink sink' : ℕ) (f : Fault) → IsMadeUp f
    → (f ≡ OutputWrite → Rose sink sink') → left ≡ given → HasCause given left old new source source' sink sink' f
made_up_caused given left old new source source' sink sink' f is wrote same =
    record {
      script_read = λ e. absurd (subst IsMadeUp e is);
      output_write = wrote;
      disk_fault = λ e. absurd (subst IsMadeUp e is);
      before_disk = λ before. same;
    }

pub input_caused : {D : Type 0} (given left : D) (old new : Past) (source source' sink sink' : ℕ) (f : Fault) → IsInputFault f
    → (f ≡ ScriptRead → Rose source source') → left ≡ given → HasCause given left old new source source' sink sink' f
input_caused given left old new source source' sink sink' f is read same =
    record {
      script_read = read;
      output_write = λ e. absurd (subst IsInputFault e is);
      disk_fault = λ e. absurd (subst IsInputFault e is);
      before_disk = λ before. same;
    }

pub usage_caused : {D : Type 0} (given left : D) (old new : Past) (source source' sink sink' : ℕ) (f : Fault) → f ≡ Usage → left ≡ given
    → HasCause given left old new source source' sink sink' f
usage_caused given left old new source source' sink sink' f is same =
    record {
      script_read = λ e. (let both = sym is ∙ e in cc);
      output_write = λ e. (let both = sym is ∙ e in cc);
      disk_fault = λ e. (let both = sym is ∙ e in cc);
      before_disk = λ before. same;
    }

-- ---- a script that was read

pub not_usage : (old new : Past) (f : Fault) → IsPlayFault old new f → f ≡ Usage → ⊥
not_usage old new f is u = subst (IsPlayFault old new) u is

pub not_read : (old new : Past) (f : Fault) → IsPlayFault old new f → f ≡ ScriptRead → ⊥
not_read old new f is u = subst (IsPlayFault old new) u is

pub mount_file : (old new : Past) (f : Fault) (bad : MountBad) → IsPlayFault old new f → f ≡ File bad → IsRefused old new bad
mount_file old new f bad is u = subst (IsPlayFault old new) u is

judged_as : (way : Way) (old new : Past) (f : Fault) (bytes : List ℕ) → IsPlayFault old new f → IsScript (allowed way) bytes → Judges way f bytes
judged_as way old new Nothing bytes is script = script
judged_as way old new OutputWrite bytes is script = script
judged_as way old new DiskFault bytes is script = script
judged_as way old new (File bad) bytes is script = script
judged_as way old new LackedMemory bytes is script = script
judged_as way old new (ScriptBad line) bytes is script = absurd is
judged_as way old new (Limit what found most) bytes is script = inl is.0
judged_as way old new other bytes is script = tt

pub judged : (way : Way) (old new : Past) (f : Fault) (left : Option (List ℕ)) (script : Script) → IsPlayFault old new f
    → IfSome left (λ bytes. Spells (allowed way) bytes script) → IfSome left (Judges way f)
judged way old new f None script is spells = tt
judged way old new f (Some bytes) script is spells = judged_as way old new f bytes is (script, spells)

-- ---- a script that could not be read

-- it tells no wrong words
pub input_not_usage : (f : Fault) → IsInputFault f → f ≡ Usage → ⊥
input_not_usage f is u = subst IsInputFault u is

refused_as : (way : Way) (f : Fault) (bytes : List ℕ) → IsInputFault f → Refuses way f bytes → Judges way f bytes
refused_as way (ScriptBad line) bytes is p = p
refused_as way ScriptRead bytes is p = tt
refused_as way (Limit what found most) bytes is p = inr p
refused_as way NoMemory bytes is p = tt
refused_as way other bytes is p = absurd is

pub judged_refused : (way : Way) (f : Fault) (left : Option (List ℕ)) → IsInputFault f → IfSome left (Refuses way f) → IfSome left (Judges way f)
judged_refused way f None is p = tt
judged_refused way f (Some bytes) is p = refused_as way f bytes is p

-- bytes that are a script pass no limit
pub no_limit : (way : Way) (f : Fault) (left : Option (List ℕ)) (bytes : List ℕ) (what found most : ℕ) → IfSome left (Refuses way f) → left ≡ Some bytes
    → IsScript (allowed way) bytes → f ≡ Limit what found most → ⊥
no_limit way f left bytes what found most p is script u =
    (subst (λ (g : Fault). Refuses way g bytes) u (subst (λ (o : Option (List ℕ)). IfSome o (Refuses way f)) is p)).1 script
