-- What sessions of an engine keep: no item of an idle one is under way, and one that hasn't joined is idle.
use Rattle.std.proofs.Common.{◌≡◌, ◌≢◌, ℕ, ◌+◌, ◌<◌, ◌≤◌, true, None, List, [], ◌∷◌}
use Rattle.std.proofs.Common.{length, refl, sym, ap, ◌∙◌, subst, arith, eq-eqb, ne_eqb, length-append, inl, inr}
use Rattle.std.specs.Prelude.{Result, Ok, Err, OnOk, OnErr}
use mathlib.Core.Logic.{dite}
use native.Mathlib.Decide.{ℕ_discrete}
use Rattle.inno_types.specs.declared.reply.Item.{Item}
use Rattle.inno_types.specs.declared.reply.Reply.{Reply}
use Rattle.inno_types.specs.declared.reply.Reply.TheVariants as replies
use Rattle.inno_types.specs.declared.reply.Cause.TheVariants.{Disk}
use Rattle.inno_model.specs.declared.event.Event.{Event}
use Rattle.inno_model.specs.declared.event.Event.TheVariants.{Ended}
use Rattle.inno_model.specs.Past.{started, under_way}
use Rattle.store_api.specs.declared.answers.Progress.{Progress}
use Rattle.store_api.specs.declared.answers.Progress.TheVariants as progress
use Rattle.inno_model.specs.declared.board.Phase.{Phase}
use Rattle.inno_model.specs.declared.board.Phase.TheVariants.{Idle, Busy, Leaving, Left}
use Rattle.durable_engine.specs.Seats.{phase_at, halted, ended, phase_after}
use Rattle.durable_engine.specs.StoppedCalls.{is_at_work}
use Rattle.durable_engine.specs.State.{State}
use Rattle.durable_engine.specs.Calls.{OthersStay, SameState, Joins, Starts, Leaves, EndsBy, StepsBy}
use Rattle.shared_engine.specs.Shown.{AreAtRest}
use Rattle.shared_engine.proofs.Turning.{same_item, halt, given_same}

no_idle : (p : Phase) → is_at_work p ≡ true → p ≡ Idle → ⊥
no_idle Idle works is = absurd (cc)
no_idle Busy works is = absurd (cc)
no_idle Leaving works is = absurd (cc)
no_idle Left works is = absurd (cc)

-- what a call of a session does to what is under way
record Turns {D : Type 0} (s : ℕ) (a b : State D) : Type 0 where
  pub others : (y : ℕ) → y ≢ s → under_way y b.past ≡ under_way y a.past
  pub own : phase_at b.seats s ≡ Idle → under_way s b.past ≡ None

module _ {D : Type 0} where
  rests_on : (s : ℕ) (a b : State D) → AreAtRest a → s < length a.names → b.names ≡ a.names → OthersStay s a.seats b.seats → Turns s a b → AreAtRest b
  rests_on s a b rest joined names others turns = record {
    rests = λ y idle. dite (ℕ_discrete y s)
        (λ same. subst (λ (x : ℕ). under_way x b.past ≡ None) (sym same) (turns.own (subst (λ (x : ℕ). phase_at b.seats x ≡ Idle) same idle)))
        (λ apart. turns.others y apart ∙ rest.rests y (sym (others y apart) ∙ idle));
    unjoined = λ y beyond.
        let far : length a.names ≤ y = subst (λ (l : List (List ℕ)). length l ≤ y) names beyond in
        others y (λ same. absurd (omega (arith, same))) ∙ rest.unjoined y far;
  }

  -- the entry by which an item ends
  ended_turns : (s j : ℕ) (reply : Reply) (a b : State D) (past : List Event) → b.past ≡ Ended s j reply ∷ past
      → ((y : ℕ) → under_way y past ≡ under_way y a.past) → Turns s a b
  ended_turns s j reply a b past is same = record {
    others = λ y apart. ap (under_way y) is ∙ rw (ne_eqb s y (λ one. apart (sym one))) (same y);
    own = λ idle. ap (under_way s) is ∙ rw (eq-eqb s s refl) refl;
  }

  done_turns : (s : ℕ) (reply : Reply) (a b : State D) → EndsBy s reply a b → Turns s a b
  done_turns s reply a b (inl e) = ended_turns s (started s a.past) reply a b e.0.0 e.0.2 (λ y. given_same s a.past e.0.0 e.0.1 y)
  done_turns s reply a b (inr e) = record { others = λ y apart. ap (under_way y) e.2; own = λ idle. let left = e.3 in absurd (cc) }

  halted_turns : (s : ℕ) (a b : State D) (p : Phase) → is_at_work p ≡ true → b.past ≡ ended s (started s a.past) p (halted Disk a.past)
      → phase_at b.seats s ≡ phase_after p → Turns s a b
  halted_turns s a b Idle works past phase = absurd (cc)
  halted_turns s a b Left works past phase = absurd (cc)
  halted_turns s a b Busy works past phase =
      let h = halt a.past in
      ended_turns s (started s a.past) replies.Stopped a b (halted Disk a.past) past (λ y. ap (under_way y) h.1.past_is ∙ h.1.same y)
  halted_turns s a b Leaving works past phase =
      let h = halt a.past in record {
        others = λ y apart. ap (under_way y) (past ∙ h.1.past_is) ∙ h.1.same y;
        own = λ idle. absurd (cc);
      }

  going_turns : (s : ℕ) (a b : State D) → b.past ≡ a.past → is_at_work (phase_at b.seats s) ≡ true → Turns s a b
  going_turns s a b past works = record {
    others = λ y apart. ap (under_way y) past;
    own = λ idle. absurd (no_idle (phase_at b.seats s) works idle);
  }

  pub stepped_rests : (s : ℕ) (answer : Progress) (a b : State D) → AreAtRest a → s < length a.names → is_at_work (phase_at a.seats s) ≡ true
      → StepsBy s answer a b → AreAtRest b
  stepped_rests s progress.Went a b rest joined works h = rests_on s a b rest joined h.0.names_stay h.0.others_stay (record {
    others = λ y apart. ap (under_way y) h.1.past_is ∙ same_item s y h.1.entries a.past h.1.each;
    own = λ idle. absurd (no_idle (phase_at b.seats s) h.2 idle);
  })
  stepped_rests s (progress.Waiting blockers) a b rest joined works h = rests_on s a b rest joined h.0.names_stay h.0.others_stay (going_turns s a b h.1 h.2)
  stepped_rests s progress.NoMemory a b rest joined works h = rests_on s a b rest joined h.0.names_stay h.0.others_stay (going_turns s a b h.1 h.2)
  stepped_rests s progress.NotYet a b rest joined works h = rests_on s a b rest joined h.0.names_stay h.0.others_stay (going_turns s a b h.1 h.2)
  stepped_rests s (progress.Done reply) a b rest joined works h = rests_on s a b rest joined h.0.names_stay h.0.others_stay (done_turns s reply a b h.1)
  stepped_rests s (progress.Stopped cause) a b rest joined works h =
      rests_on s a b rest joined h.0.names_stay h.0.others_stay (halted_turns s a b (phase_at a.seats s) works h.2.past_is h.2.phase_is)
  stepped_rests s other a b rest joined works h = elim h [ ]
  -- ---- by a call's answer
