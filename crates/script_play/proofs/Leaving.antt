-- A step by which a session leaves, or nears that, makes no call.
use Rattle.std.proofs.Common.{◌≡◌, ℕ, zero, suc, ◌⊎◌, List, [], false, refl, sym, ap, subst, ◌∙◌, inl, inr, arith}
use Rattle.std.specs.Prelude.{Option, None, Some}
use Rattle.inno_types.specs.declared.reply.Reply.{Reply}
use Rattle.inno_model.specs.declared.event.Event.{Event}
use Rattle.inno_model.specs.Recorded.{Extends}
use Rattle.inno_model.specs.declared.board.Board.{Board}
use Rattle.inno_model.specs.declared.board.Phase.{Phase}
use Rattle.inno_model.specs.declared.board.Phase.TheVariants.{Leaving, Left}
use Rattle.inno_model.specs.Boards.{calls_of, phase_of}
use Rattle.inno_model.proofs.Places.{kept_calls}
use Rattle.turn_engine.specs.Calls.{Makes, StepsBy, has_left}

pub no_calls : (a b : Board) (phase : Phase) → Makes 0 a b [] phase → (x : ℕ) → calls_of x b.past ≡ calls_of x a.past
no_calls a b phase makes zero = makes.own
no_calls a b phase makes (suc x) = kept_calls (suc x) a b (makes.grows (suc x) (λ same. absurd (omega (arith, same))))

-- what a session's calls add stands behind what was there
pub made_on : (a b : Board) (calls : List Event) (phase : Phase) → Makes 0 a b calls phase → Extends a.past b.past
made_on a b calls phase makes = let kept = makes.grows 1 (λ same. absurd (omega (arith, same))) in (kept.newer, kept.past)

-- what a step leaves of one that is on its way out
pub record LeavesOn (a b : Board) : Type 0 where
  pub names : b.names ≡ a.names
  pub calls : (x : ℕ) → calls_of x b.past ≡ calls_of x a.past
  pub extends : Extends a.past b.past
  pub phase : (phase_of b 0 ≡ Leaving) ⊎ (phase_of b 0 ≡ Left)

steps_by : (a b : Board) (answer : Option Reply) → StepsBy 0 a Leaving answer b → LeavesOn a b
steps_by a b None steps = record { names = steps.names; calls = no_calls a b Leaving steps; extends = made_on a b [] Leaving steps; phase = inl steps.phase_is }
steps_by a b (Some reply) steps = record { names = steps.names; calls = no_calls a b Left steps; extends = made_on a b [] Left steps; phase = inr steps.phase_is }

pub leaves_on : (a b : Board) (answer : Option Reply) → phase_of a 0 ≡ Leaving → StepsBy 0 a (phase_of a 0) answer b → LeavesOn a b
leaves_on a b answer leaving steps = steps_by a b answer (subst (λ phase. StepsBy 0 a phase answer b) leaving steps)

pub still_leaving : (a : Board) → (phase_of a 0 ≡ Leaving) ⊎ (phase_of a 0 ≡ Left) → has_left (phase_of a 0) ≡ false → phase_of a 0 ≡ Leaving
still_leaving a either not_left = elim either [
  | inl leaving ↦ leaving
  | inr left ↦ (let e = sym (ap has_left left) ∙ not_left in cc)
]
