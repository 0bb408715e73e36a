-- What the fault of a script that was played tells.
use Rattle.std.proofs.Common.{◌≡◌, ◌⊎◌, ◌||◌, ◌&&◌, ℕ, Bool, true, false, Option, List, [], ◌∷◌, ◌++◌, length, reverse, refl, sym, ap, subst, ◌∙◌, inl, inr}
use Rattle.std.specs.List.{list_any}
use Rattle.std.proofs.Math.Seq.{take-length}
use Rattle.std.specs.Io.KnownBytes.{Appends}
use Rattle.inno_model.specs.declared.event.Event.{Event}
use Rattle.inno_model.specs.declared.event.Event.TheVariants as events
use Rattle.sql_history.specs.Counts.{has_stopped}
use Rattle.run_outcome.specs.declared.outcome.Fault.{Fault}
use Rattle.run_outcome.specs.declared.outcome.Fault.TheVariants.{Nothing, OutputWrite, DiskFault, NoMemory}
use Rattle.inno_model.specs.Recorded.{Recorded}
use Rattle.inno_model.specs.Text.{text}
use Rattle.run_outcome.specs.declared.reports.Report.{Report}
use Rattle.run_outcome.specs.declared.reports.Report.TheVariants.{Transcript, Totals}
use Rattle.run_outcome.specs.Reports.{IsReported, IsReportedWhole, totals_text}
use Rattle.run_outcome.specs.Streams.{AppendsFront}
use Rattle.run_outcome.specs.Faults.{told, stops, IsOutputFault, IsPlayedFault, IsPrinted}

pub stops_once : (past : List Event) → list_any stops past ≡ has_stopped past
stops_once [] = refl
stops_once (events.Stopped cause ∷ past) = refl
stops_once (other ∷ past) = stops_once past

-- all of the text is a front of it
pub all_is_front : (old new : Option (List ℕ)) (text : List ℕ) → Appends old new text → AppendsFront old new text
all_is_front old new text all = record { count = length text; front = subst (Appends old new) (sym (take-length text)) all }

pub told_printed : (failed sufficed : Bool) (printed : Fault) (old new : Option (List ℕ)) (text : List ℕ) → IsOutputFault printed
    → IsPrinted printed old new text → IsPrinted (told failed sufficed printed) old new text
told_printed failed sufficed NoMemory old new text is p = p
told_printed true sufficed Nothing old new text is p = all_is_front old new text p
told_printed true sufficed OutputWrite old new text is p = p
told_printed false true Nothing old new text is p = p
told_printed false false Nothing old new text is p = p
told_printed false sufficed OutputWrite old new text is p = p
told_printed failed sufficed other old new text is p = absurd is

pub told_causes : (failed sufficed : Bool) (printed : Fault) → IsOutputFault printed → IsPlayedFault (told failed sufficed printed)
told_causes failed sufficed NoMemory is = tt
told_causes true sufficed Nothing is = tt
told_causes true sufficed OutputWrite is = tt
told_causes false true Nothing is = tt
told_causes false false Nothing is = tt
told_causes false sufficed OutputWrite is = tt
told_causes failed sufficed other is = absurd is

-- a fault of the disk comes only where it failed
pub told_failed : (failed sufficed : Bool) (printed : Fault) → IsOutputFault printed → told failed sufficed printed ≡ DiskFault → failed ≡ true
told_failed true sufficed printed is t = refl
told_failed false sufficed NoMemory is t = cc
told_failed false true Nothing is t = cc
told_failed false false Nothing is t = cc
told_failed false sufficed OutputWrite is t = cc
told_failed false sufficed other is t = absurd is

-- the text is printed whole where the disk failed, unless the sink did
pub told_whole : (failed sufficed : Bool) (printed : Fault) (old new : Option (List ℕ)) (text : List ℕ) → IsOutputFault printed
    → IsPrinted printed old new text → (printed ≡ OutputWrite → ⊥) → told failed sufficed printed ≡ DiskFault → Appends old new text
told_whole failed sufficed NoMemory old new text is p unlike t = cc
told_whole failed sufficed Nothing old new text is p unlike t = p
told_whole failed sufficed OutputWrite old new text is p unlike t = absurd (unlike refl)
told_whole failed sufficed other old new text is p unlike t = absurd is

-- and where it failed, that is told, unless there was no memory for the text
pub told_where_failed : (failed sufficed : Bool) (printed : Fault) → IsOutputFault printed → failed ≡ true
    → (told failed sufficed printed ≡ DiskFault) ⊎ (told failed sufficed printed ≡ NoMemory)
told_where_failed false sufficed printed is f = cc
told_where_failed true sufficed NoMemory is f = inr refl
told_where_failed true sufficed Nothing is f = inl refl
told_where_failed true sufficed OutputWrite is f = inl refl
told_where_failed true sufficed other is f = absurd is

-- no fault is told where none came
pub told_nothing : (failed sufficed : Bool) (printed : Fault) → told failed sufficed printed ≡ Nothing → (failed ≡ false) × (sufficed ≡ true)
told_nothing failed sufficed NoMemory t = cc
told_nothing false true printed t = (refl, refl)
told_nothing true sufficed Nothing t = cc
told_nothing false false Nothing t = cc
told_nothing true sufficed other t = cc
told_nothing false false other t = search

pub told_output : (failed sufficed : Bool) (printed : Fault) → IsOutputFault printed → told failed sufficed printed ≡ OutputWrite → printed ≡ OutputWrite
told_output failed sufficed NoMemory is t = cc
told_output true sufficed Nothing is t = cc
told_output false true Nothing is t = cc
told_output false false Nothing is t = cc
told_output failed sufficed OutputWrite is t = refl
told_output failed sufficed other is t = absurd is

-- ---- whatever is printed

pub told_reported : (report : Report) (failed sufficed : Bool) (printed : Fault) (old new : Option (List ℕ)) (history : Recorded) → IsOutputFault printed
    → IsReported report printed old new history → IsReported report (told failed sufficed printed) old new history
told_reported Transcript failed sufficed printed old new history is p = told_printed failed sufficed printed old new (text history) is p
told_reported (Totals asked) failed sufficed printed old new history is p =
    λ keyed. told_printed failed sufficed printed old new (totals_text asked history) is (p keyed)

pub told_reported_whole : (report : Report) (failed sufficed : Bool) (printed : Fault) (old new : Option (List ℕ)) (history : Recorded)
    → IsOutputFault printed → IsReported report printed old new history → (printed ≡ OutputWrite → ⊥)
    → told failed sufficed printed ≡ DiskFault → IsReportedWhole report old new history
told_reported_whole Transcript failed sufficed printed old new history is p unlike t =
    told_whole failed sufficed printed old new (text history) is p unlike t
told_reported_whole (Totals asked) failed sufficed printed old new history is p unlike t =
    λ mounted keyed. told_whole failed sufficed printed old new (totals_text asked history) is (p keyed) unlike t
