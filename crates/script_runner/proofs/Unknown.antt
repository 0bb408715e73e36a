-- Words that are no command do nothing, even where they would be one if they were texts.
use Rattle.std.proofs.Common.{◌≡◌, ℕ, Option, None, Some, List, [], refl, sym, ap, subst, ◌∙◌}
use Rattle.std.specs.Prelude.{IfSome}
use Rattle.store_api.specs.Past.{Past}
use Rattle.inno_model.specs.declared.event.Event.{Event}
use Rattle.inno_model.specs.Recorded.{Recorded}
use Rattle.inno_model.specs.Text.{items}
use Rattle.file_zero.specs.Making.{AreBeingMade}
use Rattle.script_generator.specs.Dump.{text_of as dump_of}
use Rattle.run_outcome.specs.declared.outcome.Fault.{Fault}
use Rattle.run_outcome.specs.declared.outcome.Fault.TheVariants.{Nothing, Usage}
use Rattle.run_outcome.specs.declared.words.Way.{Way}
use Rattle.run_outcome.specs.Words.{IsCommand, asked_in, way_in}
use Rattle.run_outcome.specs.Shown.{counts_text}
use Rattle.run_outcome.specs.Reports.{totals_text}
use Rattle.run_outcome.specs.Generating.{generated_text}
use Rattle.run_outcome.specs.Faults.{IsPrinted}
use Rattle.script_play.proofs.Places.{follows_nothing, nobody_named}
use Rattle.script_runner.specs.Run.{Judges, HasClosed, HasShown, script_of}
use Rattle.script_runner.specs.Commands.{DoesInit, DoesScript, DoesDump, DoesCheck, DoesGen, DoesLoad}
use Rattle.script_runner.proofs.Untouched.{no_while}

told : (fault : Fault) → fault ≡ Usage → fault ≡ Nothing → ⊥
told fault is none = (let both = sym is ∙ none in cc)

-- nothing is printed
printed : (fault : Fault) (taken : Option (List ℕ)) (bytes : List ℕ) → fault ≡ Usage → IsPrinted fault taken taken bytes
printed fault taken bytes is = subst (λ (f : Fault). IsPrinted f taken taken bytes) (sym is) refl

judged : (way : Way) (source : Option (List ℕ)) → IfSome source (Judges way Usage)
judged way None = tt
judged way (Some bytes) = tt

pub unknown_init : (words : List (List ℕ)) (disk : Past) (fault : Fault) (past : List Event) → (IsCommand words → ⊥) → fault ≡ Usage → past ≡ []
    → DoesInit words disk disk fault past
unknown_init words disk fault past unknown is none =
    record {
      init = none;
      init_fault = λ known. absurd (unknown known);
      init_crash = λ empty. no_while AreBeingMade disk;
      made = λ good. absurd (told fault is good);
      new = λ good. absurd (told fault is good);
    }

pub unknown_script : (words : List (List ℕ)) (source : Option (List ℕ)) (reads writes : ℕ) (disk : Past) (fault : Fault) (status : ℕ) (history : Recorded)
    → (IsCommand words → ⊥) → fault ≡ Usage → DoesScript words source reads reads writes writes disk disk fault status history
unknown_script words source reads writes disk fault status history unknown is =
    record {
      durable = λ closed. absurd (subst HasClosed is closed);
      played = λ good. absurd (told fault is good);
      judged = subst (λ (f : Fault). IfSome source (Judges (way_in words) f)) (sym is) (judged (way_in words) source);
      too_large = λ bytes rows most at script limit. (let both = sym is ∙ limit in cc);
      complete = λ bytes known. absurd (unknown known);
    }

pub unknown_dump : (words : List (List ℕ)) (taken : Option (List ℕ)) (disk : Past) (fault : Fault) (past : List Event) → (IsCommand words → ⊥)
    → fault ≡ Usage → past ≡ [] → DoesDump words taken taken disk disk fault past
unknown_dump words taken disk fault past unknown is none =
    record {
      dump = none;
      dumped = λ db files. printed fault taken (dump_of db) is;
      held = λ shown. absurd (subst HasShown is shown);
      shown_fault = λ known. absurd (unknown known);
      quiet = λ failed. refl;
    }

pub unknown_check : (words : List (List ℕ)) (taken : Option (List ℕ)) (disk : Past) (fault : Fault) (past : List Event) → (IsCommand words → ⊥)
    → fault ≡ Usage → past ≡ [] → DoesCheck words taken taken disk disk fault past
unknown_check words taken disk fault past unknown is none =
    record {
      check = none;
      checked = λ db files. printed fault taken (counts_text db) is;
      held = λ shown. absurd (subst HasShown is shown);
      shown_fault = λ known. absurd (unknown known);
      quiet = λ failed. refl;
    }

pub unknown_gen : {D S : Type 0} (words : List (List ℕ)) (given left : D) (source : S) (taken : Option (List ℕ)) (fault : Fault) (past : List Event)
    → (IsCommand words → ⊥) → fault ≡ Usage → past ≡ [] → left ≡ given → DoesGen words given left source source taken taken fault past
unknown_gen words given left source taken fault past unknown is none same =
    record {
      generated = printed fault taken (generated_text (asked_in 2 words)) is;
      limited = λ known. absurd (unknown known);
      unplayed = none;
      gen_disk = same;
      gen_source = refl;
    }

pub unknown_load : {S : Type 0} (words : List (List ℕ)) (source : S) (taken : Option (List ℕ)) (writes : ℕ) (disk : Past) (fault : Fault)
    (history : Recorded) → (IsCommand words → ⊥) → fault ≡ Usage → history.names ≡ [] → history.past ≡ []
    → DoesLoad words source source taken taken writes writes disk disk fault history
unknown_load words source taken writes disk fault history unknown is names past =
    record {
      loaded = λ keyed. printed fault taken (totals_text (asked_in 3 words) history) is;
      load_whole = λ failed. (let both = sym is ∙ failed in cc);
      load_named = nobody_named (script_of (asked_in 3 words)) history.names names;
      load_follows = follows_nothing (script_of (asked_in 3 words)).items history.past (λ s. ap (items s) past);
      load_played = λ good. absurd (told fault is good);
      durable = λ closed. absurd (subst HasClosed is closed);
      load_fault = λ known. absurd (unknown known);
      load_source = refl;
    }
