-- What a script that is played on threads begins with.
use Rattle.std.proofs.Common.{◌≡◌, ℕ, List, [], ◌∷◌, ◌++◌, take, drop, sym, ap, ◌∙◌, inl, inr}
use Rattle.std.proofs.lemmas.List.{take-append-drop}
use Rattle.inno_model.specs.Text.{items}
use Rattle.script.specs.declared.script.Script.{Script}
use Rattle.script.specs.declared.script.ScriptItem.{ScriptItem}
use Rattle.inno_model.specs.declared.board.Board.{Board}
use Rattle.inno_model.specs.Boards.{calls_of}
use Rattle.turn_engine.specs.Sessions.{setup, IsUncalled}
use Rattle.script_play.specs.Sessions.{AreNamed, FollowsScript}
use Rattle.script_play.proofs.Places.{nobody_named, follows_nothing}
use Rattle.script_play.proofs.Calls.{items_by_calls}

-- so many of the sessions have joined
pub named_so_far : (script : Script) (names others : List (List ℕ)) (n : ℕ) → script.names ≡ setup ∷ others → names ≡ (setup ∷ []) ++ take n others
    → AreNamed script names
named_so_far script names others n all so_far = (
  drop n others,
  all ∙ (ap (λ list. setup ∷ list) (sym (take-append-drop n others)) ∙ ap (λ list. list ++ drop n others) (sym so_far)),
)

pub uncalled_named : (script : Script) (others : List (List ℕ)) (b : Board) → script.names ≡ setup ∷ others → IsUncalled b → AreNamed script b.names
uncalled_named script others b all uncalled = elim uncalled.names [
  | inl none ↦ nobody_named script b.names none
  | inr one ↦ named_so_far script b.names others 0 all one
]

pub uncalled_follows : (script : List ScriptItem) (b : Board) → ((x : ℕ) → calls_of x b.past ≡ []) → FollowsScript script b.past
uncalled_follows script b none = follows_nothing script b.past (λ s. items_by_calls s b.past ∙ ap (items s) (none s))
