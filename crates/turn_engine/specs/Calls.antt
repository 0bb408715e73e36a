-- What each call of an engine does to its board.
use Rattle.std.specs.Prelude.{◌≡◌, ℕ, ◌+◌, Bool, true, false, List, [], ◌∷◌, ◌++◌, length, Option, Some, None}
use Rattle.inno_types.specs.declared.reply.Reply.{Reply}
use Rattle.inno_types.specs.declared.reply.Reply.TheVariants as replies
use Rattle.inno_model.specs.declared.event.Event.{Event}
use Rattle.inno_model.specs.declared.event.Event.TheVariants.{Ended}
use Rattle.inno_model.specs.Past.{started}
use Rattle.store_api.specs.declared.answers.Progress.{Progress}
use Rattle.store_api.specs.declared.answers.Progress.TheVariants.{Done, Stopped}
use Rattle.inno_model.specs.declared.board.Phase.{Phase}
use Rattle.inno_model.specs.declared.board.Phase.TheVariants.{Idle, Busy, Leaving, Left}
use Rattle.inno_model.specs.declared.board.Board.{Board}
use Rattle.inno_model.specs.Boards.{calls_of, phase_of, Grows}

-- From a to b the session has made these calls, the newest first, and then it is this far. What is others' stays.
pub record Makes (s : ℕ) (a b : Board) (calls : List Event) (phase : Phase) : Type 0 where
  pub grows : Grows s a b
  pub names : b.names ≡ a.names
  pub own : calls_of s b.past ≡ calls ++ calls_of s a.past
  pub phase_is : phase_of b s ≡ phase

-- A session of this name has joined, which is idle. Nobody has called.
pub record Joins (name : List ℕ) (a b : Board) : Type 0 where
  pub grows : Grows 0 a b
  pub names : b.names ≡ a.names ++ name ∷ []
  pub own : calls_of 0 b.past ≡ calls_of 0 a.past
  pub phase_stays : phase_of b 0 ≡ phase_of a 0
  pub idle : phase_of b (length a.names) ≡ Idle

-- the number of the session's next item
abbrev pub item_number : ℕ → Board → ℕ
item_number s b = started s b.past + 1

abbrev pub IsUnderWay : Phase → Type 0
IsUnderWay Busy = Unit {0}
IsUnderWay Leaving = Unit {0}
IsUnderWay other = ⊥

abbrev pub has_left : Phase → Bool
has_left Left = true
has_left other = false

-- the reply with which a step ends what was under way
abbrev pub reply_of : Progress → Option Reply
reply_of (Done reply) = Some reply
reply_of (Stopped cause) = Some replies.Stopped
reply_of other = None

-- the session's item has ended with the reply, or its ending has come to its end
abbrev pub EndsBy : ℕ → Board → Phase → Reply → Board → Type 0
EndsBy s a Busy reply b = Makes s a b (Ended s (started s a.past) reply ∷ []) Idle
EndsBy s a other reply b = Makes s a b [] Left

-- what a step does to a session in this phase: it ends what was under way, or that goes on
abbrev pub StepsBy : ℕ → Board → Phase → Option Reply → Board → Type 0
StepsBy s a phase (Some reply) b = EndsBy s a phase reply b
StepsBy s a phase None b = Makes s a b [] phase
