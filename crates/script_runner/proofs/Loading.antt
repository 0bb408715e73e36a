-- What comes of a generated script: a limit of its own, or what comes of one that was read.
use Rattle.std.proofs.Common.{◌≡◌, ℕ, ◌≤◌, Bool, true, false, if◌then◌else◌, Option, None, Some, List, [], refl, sym, ap, subst, arith}
use Rattle.store_api.specs.Past.{Past}
use Rattle.inno_model.specs.Recorded.{Recorded}
use Rattle.inno_model.specs.Text.{items}
use Rattle.script.specs.declared.script.Script.{Script}
use Rattle.script.specs.declared.script.ScriptBad.{ScriptBad}
use Rattle.script.specs.declared.script.ScriptBad.TheVariants as bad
use Rattle.script.specs.Reading.{over, most_sessions, most_items}
use Rattle.script.specs.declared.script.Limited.TheVariants as limited
use Rattle.script_generator.specs.Generated.{passed}
use Rattle.run_outcome.specs.declared.words.Asked.{Asked}
use Rattle.run_outcome.specs.declared.outcome.Fault.{Fault}
use Rattle.run_outcome.specs.declared.outcome.Fault.TheVariants.{Nothing, ScriptBad as BadScript, ScriptRead, OutputWrite, Limit}
use Rattle.run_outcome.specs.declared.outcome.Fault.TheVariants.{NoMemory}
use Rattle.run_outcome.specs.declared.reports.Report.TheVariants.{Totals}
use Rattle.run_outcome.specs.Faults.{IsInputFault, IsOutputFault, IsPrinted}
use Rattle.run_outcome.specs.Generating.{IsGenerateFault}
use Rattle.run_outcome.specs.Reports.{totals_text}
use Rattle.script_play.proofs.Places.{follows_nothing, nobody_named}
use Rattle.script_runner.specs.Run.{Prints, PlaysScript, IsMountFault, IsMadeUp, IsLoadFault}
use Rattle.script_runner.proofs.Causing.{play_fault}

-- a limit of the script, and not of the rows in the files
abbrev IsOfScript : Option ScriptBad → Type 0
IsOfScript None = Unit {0}
IsOfScript (Some (bad.Limit what found most)) = what ≤ 2
IsOfScript (Some other) = ⊥

one_of : (first second : Bool)
    → IsOfScript (if first then Some (over limited.Sessions most_sessions) else (if second then Some (over limited.Items most_items) else None))
one_of true second = omega arith
one_of false true = omega arith
one_of false false = tt

made_output : (f : Fault) → IsOutputFault f → IsMadeUp f
made_output Nothing is = tt
made_output OutputWrite is = tt
made_output NoMemory is = tt
made_output other is = absurd is

made_by : (limit : Option ScriptBad) (f : Fault) → IsOfScript limit → IsGenerateFault limit f → IsMadeUp f
made_by None f few is = made_output f is
made_by (Some (bad.Limit what found most)) f few is = subst IsMadeUp (sym is) few
made_by (Some other) f few is = absurd few

pub made_up : (sessions transfers : ℕ) (f : Fault) → IsGenerateFault (passed sessions transfers) f → IsMadeUp f
made_up sessions transfers f is = made_by (passed sessions transfers) f (one_of _ _) is

pub made_not_read : (f : Fault) → IsMadeUp f → f ≡ ScriptRead → ⊥
made_not_read f is u = subst IsMadeUp u is

-- ---- a script that was not made is not played

mount_output : (old new : Past) (f : Fault) → IsOutputFault f → IsMountFault old new f
mount_output old new Nothing is = tt
mount_output old new OutputWrite is = tt
mount_output old new NoMemory is = tt
mount_output old new other is = absurd is

pub load_refused : (limit : Option ScriptBad) (old new : Past) (f : Fault) → IsGenerateFault limit f → IsLoadFault limit old new f
load_refused None old new f is = play_fault old new f (mount_output old new f is)
load_refused (Some why) old new f is = is

input_printed : (f : Fault) (known : Option (List ℕ)) (bytes : List ℕ) → IsInputFault f → IsPrinted f known known bytes
input_printed (BadScript line) known bytes is = refl
input_printed ScriptRead known bytes is = refl
input_printed (Limit what found most) known bytes is = refl
input_printed NoMemory known bytes is = refl
input_printed other known bytes is = absurd is

pub load_unprinted : (asked : Asked) (f : Fault) (known : Option (List ℕ)) (faults faults' : ℕ) (history : Recorded) → IsInputFault f
    → Prints (Totals asked) f known known faults faults' history
load_unprinted asked f known faults faults' history is =
    record {
      printed = λ keyed. input_printed f known (totals_text asked history) is;
      whole = λ e fails. absurd (subst IsInputFault e is);
    }

-- nothing is played of it
pub load_unplayed : (script : Script) (f : Fault) (history : Recorded) → IsInputFault f → history.names ≡ [] → history.past ≡ []
    → PlaysScript script f history
load_unplayed script f history is names past =
    record {
      named = nobody_named script history.names names;
      follows = follows_nothing script.items history.past (λ s. ap (items s) past);
      played = λ none. absurd (subst IsInputFault none is);
      answered = λ none. absurd (subst IsInputFault none is);
    }
