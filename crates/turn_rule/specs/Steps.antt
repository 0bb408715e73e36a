-- What each kind of step asks, and what it tells its seat.
use Rattle.std.specs.Prelude.{◌≡◌, ℕ, ◌+◌, ◌==◌, ◌<◌, ◌≤◌, true, false, List, [], ◌∷◌, ◌++◌, length, Option, None, Some, MatchBool}
use Rattle.atomic_table.specs.Table.{Me, Step}
use Rattle.inno_model.specs.declared.board.Board.{Board}
use Rattle.inno_model.specs.Boards.{calls_of, places_of, Keeps, Grows}
use Rattle.turn_rule.specs.declared.rule.Claim.{Claim}
use Rattle.turn_rule.specs.declared.rule.View.{View}
use Rattle.turn_rule.specs.Turnstile.{claim, view_of, Among}

-- enter: the seat holds the turn, and has seen the board of the engine
abbrev pub entered : View → Board → View
entered v b = record { live = v.live; turn = true; seated = length b.names; mine = claim v.mine.number b v.mine.own; joined = v.joined }

-- publish: what the seat has seen grows, and with it the session's own entries
abbrev pub published : View → Board → View
published v b = record { live = v.live; turn = v.turn; seated = v.seated; mine = claim v.mine.number b (places_of v.mine.number b.past); joined = v.joined }

-- depart
abbrev pub idle : View → View
idle v = record { live = v.live; turn = false; seated = v.seated; mine = v.mine; joined = v.joined }

-- split: the holder has given a seat to one session more
abbrev pub counted : View → View
counted v = record { live = v.live; turn = v.turn; seated = v.seated + 1; mine = v.mine; joined = v.joined }

-- the new seat has seen what the holder had, and has no own entries
abbrev pub newcomer : View → View
newcomer v = view_of (claim v.seated v.mine.seen [])

-- join
abbrev pub with_sessions : View → View → View
with_sessions v w = record { live = v.live; turn = v.turn; seated = v.seated; mine = v.mine; joined = v.joined ++ w.mine ∷ w.joined }

-- a seat that was joined into another
abbrev pub spent : View
spent = record { live = false; turn = false; seated = 0; mine = claim 0 (record { names = []; past = []; phases = [] }) []; joined = [] }

-- The seat of this session is at rest: it holds neither a slot nor the turn, and was not joined into another.
pub record IsAtRest {E : Type 0} (m : Me (Option E) View) (number : ℕ) : Type 0 where
  pub slot : m.1 ≡ []
  pub live : m.0.live ≡ true
  pub idle : m.0.turn ≡ false
  pub number_is : m.0.mine.number ≡ number

module _ {E : Type 0} (board : E → Board) where
  abbrev pub Mine : Type 0
  Mine = Me (Option E) View

  -- The seat holds the turn and the slot with the engine, and nobody has called for its session since it last saw the board.
  pub record Entered (m w : Mine) : Type 0 where
    pub engine : E
    pub view : w.0 ≡ entered m.0 (board engine)
    pub slot : w.1 ≡ (0, Some engine) ∷ []
    pub keeps : Keeps m.0.mine.number m.0.mine.seen (board engine)
    pub own : m.0.mine.own ≡ places_of m.0.mine.number (board engine).past
    pub unseated : (x : ℕ) → length (board engine).names ≤ x → calls_of x (board engine).past ≡ []

  -- word 0 was 0 and the seat has entered, or the seat has missed and nothing has changed
  abbrev pub Tried : Step (Option E) → Mine → ℕ → Mine → Type 0
  Tried step m found w = MatchBool (found == 0) (Entered m w) (w ≡ m)

  -- The seat has the turn and the engine, which it has taken out of its slot.
  pub record HasTurn (m : Mine) (e : E) (w : Mine) : Type 0 where
    pub view : w.0 ≡ entered m.0 (board e)
    pub slot : w.1 ≡ (0, None) ∷ []
    pub keeps : Keeps m.0.mine.number m.0.mine.seen (board e)
    pub own : m.0.mine.own ≡ places_of m.0.mine.number (board e).past
    pub unseated : (x : ℕ) → length (board e).names ≤ x → calls_of x (board e).past ≡ []

  -- The seat may hand back this engine, whose history has this length: it has grown by its session's calls alone, and
  -- nobody has joined it.
  pub record MayHandBack (m : Mine) (e : E) (len : ℕ) : Type 0 where
    pub slot : m.1 ≡ (0, None) ∷ []
    pub turn : m.0.turn ≡ true
    pub settled : m.0.seated ≡ length m.0.mine.seen.names
    pub grows : Grows m.0.mine.number m.0.mine.seen (board e)
    pub same_names : (board e).names ≡ m.0.mine.seen.names
    pub len_is : len ≡ length (board e).past

  -- the seat has seen what the engine shows that it holds in its slot
  abbrev pub HasPublished : Mine → Mine → Type 0
  HasPublished m w = (e : E) → m.1 ≡ (0, Some e) ∷ [] → w ≡ (published m.0 (board e), m.1)

  abbrev pub Shown : Step (Option E) → Mine → ℕ → Mine → Type 0
  Shown step m stored w = HasPublished m w

  -- The seat may publish this length: of the engine that it holds in its slot, which has grown by its session's calls
  -- and by at most one name.
  pub record MayPublish (m : Mine) (len : ℕ) : Type 0 where
    pub engine : E
    pub slot : m.1 ≡ (0, Some engine) ∷ []
    pub turn : m.0.turn ≡ true
    pub settled : m.0.seated ≡ length m.0.mine.seen.names
    pub grows : Grows m.0.mine.number m.0.mine.seen (board engine)
    pub few : length (board engine).names ≤ length m.0.mine.seen.names + 1
    pub len_is : len ≡ length (board engine).past

  -- The seat may depart: it has published all that the engine shows, which is in the slot, and each name has its seat.
  pub record MayDepart (m : Mine) : Type 0 where
    pub engine : E
    pub slot : m.1 ≡ (0, Some engine) ∷ []
    pub turn : m.0.turn ≡ true
    pub seen : m.0.mine.seen ≡ board engine
    pub all : m.0.seated ≡ length m.0.mine.seen.names

abbrev pub Departed : {E : Type 0} → Step (Option E) → Me (Option E) View → ℕ → Me (Option E) View → Type 0
Departed step m stored w = w ≡ (idle m.0, [])

-- the holder of the turn may split its seat: the last name has none yet
pub record MaySplit (v : View) : Type 0 where
  pub turn : v.turn ≡ true
  pub owes : v.seated < length v.mine.seen.names

-- the board has the session's own entries and no other calls of it, and goes on from what its seat had seen
pub record Holds (b : Board) (c : Claim) : Type 0 where
  pub keeps : Keeps c.number c.seen b
  pub own : c.own ≡ places_of c.number b.past

abbrev pub AllHeld : Board → List Claim → Type 0
AllHeld b [] = Unit {0}
AllHeld b (c ∷ cs) = Holds b c × AllHeld b cs

-- the seat of session 0, once the seats of all other sessions were joined into it
pub record IsLast (v : View) : Type 0 where
  pub live : v.live ≡ true
  pub idle : v.turn ≡ false
  pub first : v.mine.number ≡ 0
  pub all : (x : ℕ) → x < length v.mine.seen.names → Among (v.mine ∷ v.joined) x

-- what the last seat knows of the engine: it has the sessions' entries, and none of a session that never joined
pub record Closes {E : Type 0} (board : E → Board) (v : View) (e : E) : Type 0 where
  pub held : AllHeld (board e) (v.mine ∷ v.joined)
  pub unseated : (x : ℕ) → length (board e).names ≤ x → calls_of x (board e).past ≡ []
