-- What is printed of a history: what its sessions were answered, or what a generated script has done.
use Rattle.std.specs.Prelude.{◌≡◌, ℕ, List, [], Option}
use Rattle.std.specs.Io.KnownBytes.{Appends}
use Rattle.inno_db.specs.Keyed.{IsKeyed}
use Rattle.inno_model.specs.Recorded.{Recorded}
use Rattle.inno_model.specs.Past.{opening}
use Rattle.inno_model.specs.Text.{text}
use Rattle.run_outcome.specs.Report.{report_text}
use Rattle.run_outcome.specs.declared.words.Asked.{Asked}
use Rattle.run_outcome.specs.declared.outcome.Fault.{Fault}
use Rattle.run_outcome.specs.declared.reports.Report.{Report}
use Rattle.run_outcome.specs.declared.reports.Report.TheVariants.{Transcript, Totals}
use Rattle.run_outcome.specs.Faults.{IsPrinted}

abbrev pub totals_text : Asked → Recorded → List ℕ
totals_text asked history = report_text asked.sessions asked.transfers history.past

-- Of the accounts it tells where each row of the opening stood at its key.
abbrev pub IsReported : Report → Fault → Option (List ℕ) → Option (List ℕ) → Recorded → Type 0
IsReported Transcript fault old new history = IsPrinted fault old new (text history)
IsReported (Totals asked) fault old new history = IsKeyed (opening history.past) → IsPrinted fault old new (totals_text asked history)

-- The same, of which all was taken. Where no engine was mounted, nothing was done.
abbrev pub IsReportedWhole : Report → Option (List ℕ) → Option (List ℕ) → Recorded → Type 0
IsReportedWhole Transcript old new history = Appends old new (text history)
IsReportedWhole (Totals asked) old new history =
    (history.past ≡ [] → ⊥) → IsKeyed (opening history.past) → Appends old new (totals_text asked history)
