-- What was played is what the bytes say. Where nothing was started, every script is followed so far.
use Rattle.std.proofs.Common.{◌≡◌, ℕ, List, []}
use Rattle.std.specs.Prelude.{Option, None, Some, IfSome}
use Rattle.inno_model.specs.declared.event.Event.{Event}
use Rattle.inno_model.specs.Text.{items}
use Rattle.script.specs.declared.script.Script.{Script}
use Rattle.script.specs.Script.{Spells}
use Rattle.run_outcome.specs.declared.words.Way.{Way}
use Rattle.run_outcome.specs.Faults.{allowed}
use Rattle.script_runner.specs.Run.{Follows, Plays}
use Rattle.script_play.specs.Sessions.{AreNamed, FollowsScript, HasPlayed, HasAnswered}
use Rattle.script_play.proofs.Places.{follows_nothing, nobody_named}

pub nothing_follows : (way : Way) (left : Option (List ℕ)) (names : List (List ℕ)) (past : List Event) → names ≡ [] → ((s : ℕ) → items s past ≡ [])
    → IfSome left (λ bytes. Follows way bytes names past)
nothing_follows way None names past none nothing = tt
nothing_follows way (Some bytes) names past none nothing = λ is. (is.0, is.1, nobody_named is.0 names none, follows_nothing is.0.items past nothing)

pub spelled_follows : (way : Way) (left : Option (List ℕ)) (script : Script) (names : List (List ℕ)) (past : List Event)
    → IfSome left (λ bytes. Spells (allowed way) bytes script) → AreNamed script names → FollowsScript script.items past
    → IfSome left (λ bytes. Follows way bytes names past)
spelled_follows way None script names past spells named follows = tt
spelled_follows way (Some bytes) script names past spells named follows = λ is. (script, spells, named, follows)

pub spelled_plays : (way : Way) (left : Option (List ℕ)) (script : Script) (names : List (List ℕ)) (past : List Event)
    → IfSome left (λ bytes. Spells (allowed way) bytes script)
    → HasPlayed script names past → HasAnswered script past → IfSome left (λ bytes. Plays way bytes names past)
spelled_plays way None script names past spells played answered = tt
spelled_plays way (Some bytes) script names past spells played answered = (script, spells, played, answered)
