-- Where a session's calls stand in the history.
use Rattle.std.proofs.Common.{◌≡◌, ℕ, suc, ◌≤◌, Bool, true, false, cond, List, [], ◌∷◌, ◌++◌, length, refl, ap, ◌∙◌, arith}
use Rattle.std.proofs.lemmas.List.Elements.{filter-append}
use Rattle.inno_model.specs.declared.event.Event.{Event}
use Rattle.inno_model.specs.declared.board.Board.{Board}
use Rattle.inno_model.specs.Boards.{is_call, calls_of, places_of, Keeps}

pub calls_of-append : (x : ℕ) (a b : List Event) → calls_of x (a ++ b) ≡ calls_of x a ++ calls_of x b
calls_of-append x a b = filter-append (is_call x) a b

-- an entry that is no call of the session
passed : (b : Bool) (e : Event) (rest : List Event) (n : ℕ) (ps qs : List ℕ) → cond b (e ∷ rest) rest ≡ [] → (rest ≡ [] → ps ≡ qs) → cond b (n ∷ ps) ps ≡ qs
passed true e rest n ps qs none' h = absurd (cc)
passed false e rest n ps qs none' h = h none'

-- entries without a call of the session leave its places
pub places_stay : (x : ℕ) (newer past : List Event) → calls_of x newer ≡ [] → places_of x (newer ++ past) ≡ places_of x past
places_stay x [] past quiet = refl
places_stay x (e ∷ newer) past quiet = passed (is_call x e) e (calls_of x newer) (length (newer ++ past)) (places_of x (newer ++ past)) (places_of x past) quiet (places_stay x newer past)

pub places_none : (x : ℕ) (past : List Event) → calls_of x past ≡ [] → places_of x past ≡ []
places_none x [] quiet = refl
places_none x (e ∷ past) quiet = passed (is_call x e) e (calls_of x past) (length past) (places_of x past) [] quiet (places_none x past)

pub kept_calls : (x : ℕ) (a b : Board) → Keeps x a b → calls_of x b.past ≡ calls_of x a.past
kept_calls x a b k = ap (calls_of x) k.past ∙ (calls_of-append x k.newer a.past ∙ ap (λ l. l ++ calls_of x a.past) k.quiet)

pub kept_places : (x : ℕ) (a b : Board) → Keeps x a b → places_of x b.past ≡ places_of x a.past
kept_places x a b k = ap (places_of x) k.past ∙ places_stay x k.newer a.past k.quiet
