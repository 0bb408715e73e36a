-- What is printed and played where no engine was mounted, and why a history can be replayed.
use Rattle.std.proofs.Common.{◌≡◌, ℕ, Option, List, [], ◌∷◌, refl, ap}
use Rattle.store_api.specs.declared.answers.MountBad.{MountBad}
use Rattle.inno_model.specs.declared.event.Event.{Event}
use Rattle.inno_model.specs.declared.event.Event.TheVariants.{Opened}
use Rattle.inno_model.specs.Recorded.{Recorded}
use Rattle.inno_model.specs.Text.{items}
use Rattle.sql_grammar.specs.Grammar.{Spells}
use Rattle.sql_history.specs.Legal.{IsLegal}
use Rattle.script.specs.declared.script.Script.{Script}
use Rattle.run_outcome.specs.Replay.{OpensOnce}
use Rattle.run_outcome.specs.Faults.{fault_of}
use Rattle.run_outcome.specs.declared.reports.Report.{Report}
use Rattle.run_outcome.specs.declared.reports.Report.TheVariants.{Transcript, Totals}
use Rattle.run_outcome.specs.Reports.{totals_text}
use Rattle.script_play.proofs.Places.{follows_nothing, nobody_named}
use Rattle.script_runner.specs.Run.{Prints, PlaysScript}
use Rattle.script_runner.proofs.Causing.{nothing_prints, refused_printed, fault_told}

pub refused_prints : (report : Report) (bad : MountBad) (known : Option (List ℕ)) (faults faults' : ℕ) (history : Recorded) → history.names ≡ []
    → history.past ≡ [] → Prints report (fault_of bad) known known faults faults' history
refused_prints Transcript bad known faults faults' history names past = nothing_prints (fault_of bad) known faults faults' history names
refused_prints (Totals asked) bad known faults faults' history names past =
    record {
      printed = λ keyed. refused_printed bad known (totals_text asked history);
      whole = λ is fails mounted keyed. absurd (mounted past);
    }

-- nor are sessions played
pub refused_plays : (script : Script) (bad : MountBad) (history : Recorded) → history.names ≡ [] → history.past ≡ []
    → PlaysScript script (fault_of bad) history
refused_plays script bad history names past =
    record {
      named = nobody_named script history.names names;
      follows = follows_nothing script.items history.past (λ s. ap (items s) past);
      played = λ none. absurd (fault_told bad (fault_of bad) refl none);
      answered = λ none. absurd (fault_told bad (fault_of bad) refl none);
    }

-- a legal history opens once
pub opens_once : (past : List Event) → IsLegal Spells past → OpensOnce past
opens_once [] legal = tt
opens_once (Opened db ∷ past) legal = legal.0
opens_once (other ∷ past) legal = opens_once past legal.1
