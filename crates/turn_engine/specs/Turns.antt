-- What a seat knows between two turns, and what a turn does.
use Rattle.std.specs.Prelude.{◌≡◌, ℕ, ◌<◌, List, [], ◌∷◌, ◌++◌, length, Option, Some, None}
use Rattle.inno_types.specs.declared.reply.Reply.{Reply}
use Rattle.inno_model.specs.declared.event.Event.{Event}
use Rattle.inno_model.specs.declared.event.Event.TheVariants.{Ended}
use Rattle.inno_model.specs.Past.{started}
use Rattle.inno_model.specs.Recorded.{Extends}
use Rattle.atomic_table.specs.Table.{Me}
use Rattle.store_api.specs.declared.answers.Progress.{Progress}
use Rattle.store_api.specs.declared.answers.Progress.TheVariants.{Waiting, NotYet, NoMemory}
use Rattle.inno_model.specs.declared.board.Phase.{Phase}
use Rattle.inno_model.specs.declared.board.Phase.TheVariants.{Idle, Busy, Left}
use Rattle.inno_model.specs.declared.board.Board.{Board}
use Rattle.inno_model.specs.Boards.{calls_of, places_of, phase_of}
use Rattle.turn_rule.specs.declared.rule.View.{View}
use Rattle.turn_rule.specs.Steps.{IsAtRest}
use Rattle.turn_engine.specs.declared.turn.Stepped.{Stepped}
use Rattle.turn_engine.specs.declared.turn.Stepped.TheVariants.{Over, GoesOn}

-- the seat of this session is at rest, with no other joined into it, and knows the session's name and the places of its calls
pub record Rests {E : Type 0} (m : Me (Option E) View) (number : ℕ) : Type 0 where
  pub at_rest : IsAtRest m number
  pub alone : m.0.joined ≡ []
  pub named : number < length m.0.mine.seen.names
  pub placed : m.0.mine.own ≡ places_of number m.0.mine.seen.past

-- From a to b, as the seat of a session has seen it: the history has grown, of the session's calls by these, the newest
-- first, and the session is this far. Session 0 sees nobody join.
pub record Went (s : ℕ) (a b : Board) (calls : List Event) (phase : Phase) : Type 0 where
  pub extends : Extends a.past b.past
  pub own : calls_of s b.past ≡ calls ++ calls_of s a.past
  pub phase_is : phase_of b s ≡ phase
  pub names : s ≡ 0 → b.names ≡ a.names

-- the item ended with the reply, or the session has left
abbrev pub EndWent : ℕ → Board → Phase → Reply → Board → Type 0
EndWent s a Busy reply b = Went s a b (Ended s (started s a.past) reply ∷ []) Idle
EndWent s a other reply b = Went s a b [] Left

-- the step ended what was under way, or that goes on
abbrev pub StepWent : ℕ → Board → Phase → Option Reply → Board → Type 0
StepWent s a phase (Some reply) b = EndWent s a phase reply b
StepWent s a phase None b = Went s a b [] phase

-- the reply with which what was under way is over
abbrev pub reply_in : Stepped → Option Reply
reply_in (Over reply) = Some reply
reply_in (GoesOn pause) = None

-- the step can't go on before others have brought something about, or memory has come free
abbrev pub HasToWait : Progress → Type 0
HasToWait (Waiting blockers) = Unit {0}
HasToWait NotYet = Unit {0}
HasToWait NoMemory = Unit {0}
HasToWait other = ⊥

-- From a to b, as session 0 has seen it, session n has joined under this name. It is idle and has not called, and nor has
-- session 0.
pub record HasJoined (name : List ℕ) (a b : Board) (n : ℕ) : Type 0 where
  pub extends : Extends a.past b.past
  pub own : calls_of 0 b.past ≡ calls_of 0 a.past
  pub phase_stays : phase_of b 0 ≡ phase_of a 0
  pub names : b.names ≡ a.names ++ name ∷ []
  pub number : n ≡ length a.names
  pub idle : phase_of b n ≡ Idle
  pub no_calls : calls_of n b.past ≡ []
