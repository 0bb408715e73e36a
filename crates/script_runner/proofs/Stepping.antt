-- A step of the engine starts no item.
use Rattle.std.proofs.Common.{◌≡◌, ℕ, Bool, true, false, cond, List, [], ◌∷◌, ◌++◌, refl, ap, sym, subst, ◌∙◌, inl, inr}
use Rattle.std.specs.List.{AllByRecursion}
use Rattle.store_api.specs.declared.answers.Progress.{Progress}
use Rattle.store_api.specs.declared.answers.Progress.TheVariants as progress
use Rattle.inno_types.specs.declared.reply.Cause.{Cause}
use Rattle.inno_types.specs.declared.reply.Reply.{Reply}
use Rattle.inno_types.specs.declared.reply.Reply.TheVariants as replies
use Rattle.inno_model.specs.Recorded.{Extends}
use Rattle.script_play.proofs.SetUp.{extends_on}
use Rattle.inno_model.specs.declared.event.Event.{Event}
use Rattle.inno_model.specs.declared.event.Event.TheVariants as events
use Rattle.inno_model.specs.Past.{is_of}
use Rattle.inno_model.specs.Text.{items}
use Rattle.sql_history.specs.Counts.{has_stopped}
use Rattle.inno_model.specs.declared.board.Phase.{Phase}
use Rattle.inno_model.specs.declared.board.Phase.TheVariants as phases
use Rattle.session_engine.specs.Calls.{KeepsItems, HasGiven}
use Rattle.durable_engine.specs.Seats.{halted, ended, phase_at}
use Rattle.durable_engine.specs.StoppedCalls.{is_at_work, has_left}
use Rattle.durable_engine.specs.State.{State}
use Rattle.durable_engine.specs.Calls.{GoesOn, StepsBy}
use Rattle.script_play.specs.Sessions.{StartsNothing}
use Rattle.script_runner.specs.Engines.{shown_of}

item_kept : (e : Event) (h : List Event) (s : ℕ) → KeepsItems e → items s (e ∷ h) ≡ items s h
item_kept (events.Started t j item) h s keeps = absurd keeps
item_kept e h s keeps = refl

items_kept : (es h : List Event) (s t : ℕ) → AllByRecursion (λ e. (is_of t e ≡ true) × KeepsItems e) es → items s (es ++ h) ≡ items s h
items_kept [] h s t each = refl
items_kept (e ∷ es) h s t each = item_kept e (es ++ h) s each.0.1 ∙ items_kept es h s t each.1

goes_on : (t : ℕ) (old new : List Event) → GoesOn t old new → (s : ℕ) → items s new ≡ items s old
goes_on t old new goes s = ap (items s) goes.past_is ∙ items_kept goes.entries old s t goes.each

-- the entries of a stop start nothing
told_once : (b : Bool) (cause : Cause) (past : List Event) (s : ℕ) → items s (cond b past (events.Stopped cause ∷ past)) ≡ items s past
told_once true cause past s = refl
told_once false cause past s = refl

ended_kept : (phase : Phase) (t j s : ℕ) (past : List Event) → items s (ended t j phase past) ≡ items s past
ended_kept phases.Busy t j s past = refl
ended_kept other t j s past = refl

stopped_kept : (cause : Cause) (phase : Phase) (t j s : ℕ) (past : List Event) → items s (ended t j phase (halted cause past)) ≡ items s past
stopped_kept cause phase t j s past = ended_kept phase t j s (halted cause past) ∙ told_once (has_stopped past) cause past s

-- a signal starts nothing
given_kept : (t : ℕ) (old past : List Event) → HasGiven t old past → (s : ℕ) → items s past ≡ items s old
given_kept t old past (inl same) s = ap (items s) same
given_kept t old past (inr given) s = ap (items s) given.2

-- ---- what a step adds stands behind what was there

given_on : (t : ℕ) (old past : List Event) → HasGiven t old past → Extends old past
given_on t old past (inl same) = ([], same)
given_on t old past (inr given) = (events.Signal given.0 ∷ [], given.2)

ended_on : (t j : ℕ) (reply : Reply) (old past new : List Event) → Extends old past → new ≡ events.Ended t j reply ∷ past → Extends old new
ended_on t j reply old past new more is = (events.Ended t j reply ∷ more.0, is ∙ ap (λ list. events.Ended t j reply ∷ list) more.1)

told_on : (b : Bool) (cause : Cause) (past : List Event) → Extends past (cond b past (events.Stopped cause ∷ past))
told_on true cause past = ([], refl)
told_on false cause past = (events.Stopped cause ∷ [], refl)

halted_on : (phase : Phase) (t j : ℕ) (past : List Event) → Extends past (ended t j phase past)
halted_on phases.Busy t j past = (events.Ended t j replies.Stopped ∷ [], refl)
halted_on other t j past = ([], refl)

stopped_on : (cause : Cause) (phase : Phase) (t j : ℕ) (past new : List Event) → new ≡ ended t j phase (halted cause past) → Extends past new
stopped_on cause phase t j past new is =
    subst (Extends past) (sym is)
    (extends_on past (halted cause past) (ended t j phase (halted cause past)) (told_on (has_stopped past) cause past)
    (halted_on phase t j (halted cause past)))

pub starts_nothing : {D : Type 0} (t moment : ℕ) (answer : Progress) (old new : State D) → StepsBy t answer old new
    → StartsNothing (shown_of moment old) (shown_of moment new)
starts_nothing t moment progress.Went old new steps =
    record { names = steps.0.names_stay; moment = refl; entries = (steps.1.entries, steps.1.past_is); items = goes_on t old.past new.past steps.1 }
starts_nothing t moment (progress.Waiting blockers) old new steps =
    record { names = steps.0.names_stay; moment = refl; entries = ([], steps.1); items = λ s. ap (items s) steps.1 }
starts_nothing t moment progress.NoMemory old new steps =
    record { names = steps.0.names_stay; moment = refl; entries = ([], steps.1); items = λ s. ap (items s) steps.1 }
starts_nothing t moment progress.NotYet old new steps =
    record { names = steps.0.names_stay; moment = refl; entries = ([], steps.1); items = λ s. ap (items s) steps.1 }
starts_nothing t moment (progress.Done reply) old new steps =
    record {
      names = steps.0.names_stay;
      moment = refl;
      entries = elim steps.1 [
        | inl ends ↦ ended_on t _ reply old.past ends.0.0 new.past (given_on t old.past ends.0.0 ends.0.1) ends.0.2
        | inr goes ↦ ([], goes.2)
      ];
      items = λ s. elim steps.1 [
        | inl ends ↦ ap (items s) ends.0.2 ∙ given_kept t old.past ends.0.0 ends.0.1 s
        | inr goes ↦ ap (items s) goes.2
      ];
    }
starts_nothing t moment (progress.Stopped cause) old new steps =
    record {
      names = steps.0.names_stay;
      moment = refl;
      entries = stopped_on _ (phase_at old.seats t) t _ old.past new.past steps.2.past_is;
      items = λ s. ap (items s) steps.2.past_is ∙ stopped_kept _ (phase_at old.seats t) t _ s old.past;
    }
starts_nothing t moment other old new steps = elim steps [ ]

-- who has nothing to do and hasn't left is idle
pub idle : (phase : Phase) → is_at_work phase ≡ false → has_left phase ≡ false → phase ≡ phases.Idle
idle phases.Idle rests there = refl
idle phases.Busy rests there = cc
idle phases.Leaving rests there = cc
idle phases.Left rests there = cc
