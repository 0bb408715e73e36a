-- The rule of the turnstile: what holds between any two steps.
use Rattle.std.specs.Prelude.{◌≡◌, ◌≢◌, ℕ, ◌+◌, ◌<◌, ◌≤◌, true, false, List, [], ◌∷◌, ◌⊎◌, length, Option, Some}
use mathlib.Core.Option.{Option as Maybe, some, none}
use lib.ListN.{get_elem?}
use Rattle.atomic_table.specs.Table.{State}
use Rattle.inno_model.specs.declared.board.Board.{Board}
use Rattle.inno_model.specs.Boards.{calls_of, places_of, Keeps}
use Rattle.turn_rule.specs.declared.rule.Claim.{Claim}
use Rattle.turn_rule.specs.declared.rule.View.{View}

-- What the rule says of a session of a seat.
pub record IsKept (history : Board) (seated : ℕ) (seat_of : ℕ → ℕ) (seat : ℕ) (c : Claim) : Type 0 where
  -- what was seen is a prefix of the history, and since then nobody has called for the session
  pub seen : Keeps c.number c.seen history
  -- its own entries are its Started and Ended entries in the history, by place, each once
  pub own : c.own ≡ places_of c.number history.past
  -- it is of this seat and of no other
  pub owned : seat_of c.number ≡ seat
  pub named : c.number < seated

abbrev pub AllKept : Board → ℕ → (ℕ → ℕ) → ℕ → List Claim → Type 0
AllKept history seated seat_of seat [] = Unit {0}
AllKept history seated seat_of seat (c ∷ cs) = IsKept history seated seat_of seat c × AllKept history seated seat_of seat cs

-- the session is one of these
abbrev pub Among : List Claim → ℕ → Type 0
Among [] x = ⊥
Among (c ∷ cs) x = (c.number ≡ x) ⊎ Among cs x

-- none of these is a session twice
abbrev pub AreApart : List Claim → Type 0
AreApart [] = Unit {0}
AreApart (c ∷ cs) = (Among cs c.number → ⊥) × AreApart cs

-- the session is the seat's own, or of a seat that was joined into it
abbrev pub HasSession : View → ℕ → Type 0
HasSession v x = ((v.live ≡ true) × (v.mine.number ≡ x)) ⊎ Among v.joined x

-- The seat is the holder of the turn; it has seen the whole history, and word 0 is its session's number plus 1.
pub record HoldsTurn (turn : ℕ) (history : Board) (seated holder seat : ℕ) (v : View) : Type 0 where
  pub live : v.live ≡ true
  pub is_holder : seat ≡ holder
  pub seen : v.mine.seen ≡ history
  pub counted : v.seated ≡ seated
  pub number : turn ≡ v.mine.number + 1

-- what the rule says of one seat
pub record IsSeat (turn : ℕ) (history : Board) (seated : ℕ) (seat_of : ℕ → ℕ) (holder seat : ℕ) (v : View) : Type 0 where
  pub mine : v.live ≡ true → IsKept history seated seat_of seat v.mine
  pub joined : AllKept history seated seat_of seat v.joined
  pub apart : v.live ≡ true → AreApart (v.mine ∷ v.joined)
  pub holds : v.turn ≡ true → HoldsTurn turn history seated holder seat v

-- the engine lies in the slot, and each session whose name stands has a seat
pub record IsHome {E : Type 0} (board : E → Board) (history : Board) (seated : ℕ) (homes : List (Maybe (Option E))) : Type 0 where
  pub engine : E
  pub slot : homes ≡ some (Some engine) ∷ []
  pub shows : board engine ≡ history
  pub all : seated ≡ length history.names

-- the engine is out with the seat that holds the turn
pub record IsOut {E : Type 0} (holder : ℕ) (homes : List (Maybe (Option E))) (views : List View) : Type 0 where
  pub slot : homes ≡ none ∷ []
  pub view : View
  pub at : get_elem? views holder ≡ some view
  pub turn : view.turn ≡ true

-- each session below the number is of its seat
abbrev pub AreSeated : List View → (ℕ → ℕ) → ℕ → Type 0
AreSeated views seat_of seated = (x : ℕ) → x < seated → (v : View) × (get_elem? views (seat_of x) ≡ some v) × HasSession v x

pub record IsTurnKept {E : Type 0} (board : E → Board) (s : State (Option E) View) : Type 0 where
  -- 0 while the turn is free, else the number of the holder's session plus 1
  pub turn : ℕ
  -- that of the engine at home, else what the holder of the turn has seen
  pub history : Board
  -- the sessions of the seats are those below this number
  pub seated : ℕ
  -- the seat of each session, and the one seat that holds the turn
  pub seat_of : ℕ → ℕ
  pub holder : ℕ
  pub words : s.words ≡ turn ∷ length history.past ∷ []
  pub home : turn ≡ 0 → IsHome board history seated s.homes
  pub out : turn ≢ 0 → IsOut holder s.homes s.views
  pub seats : (j : ℕ) (v : View) → get_elem? s.views j ≡ some v → IsSeat turn history seated seat_of holder j v
  -- a session of no seat has no Started or Ended entry
  pub unseated : (x : ℕ) → seated ≤ x → calls_of x history.past ≡ []
  pub covered : AreSeated s.views seat_of seated
  -- The sessions of the seats are those whose names stand in the history, save the last one's while the holder of
  -- the turn has published that name and not yet split its seat.
  pub named : seated ≤ length history.names
  pub last : length history.names ≤ seated + 1

abbrev pub claim : ℕ → Board → List ℕ → Claim
claim number seen own = record { number = number; seen = seen; own = own }

-- a seat of one session, which does not hold the turn
abbrev pub view_of : Claim → View
view_of mine = record { live = true; turn = false; seated = 0; mine = mine; joined = [] }

-- the seat of session 0, which has not called yet
abbrev pub first_view : Board → View
first_view b = view_of (claim 0 b [])
