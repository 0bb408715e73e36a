-- Whose calls stand on a board, and what stays on it while others call.
use Rattle.std.specs.Prelude.{◌≡◌, ◌≢◌, ℕ, ◌==◌, ◌<◌, Bool, false, List, [], ◌∷◌, ◌++◌, filter, length, slice_index_or, if◌then◌else◌}
use Rattle.inno_model.specs.declared.event.Event.{Event}
use Rattle.inno_model.specs.declared.event.Event.TheVariants.{Started, Ended}
use Rattle.inno_model.specs.declared.board.Phase.{Phase}
use Rattle.inno_model.specs.declared.board.Phase.TheVariants.{Idle}
use Rattle.inno_model.specs.declared.board.Board.{Board}

-- the entry is a Started or an Ended of the session
abbrev pub is_call : ℕ → Event → Bool
is_call x (Started s j item) = s == x
is_call x (Ended s j reply) = s == x
is_call x other = false

-- the session's calls in a past, the newest first
abbrev pub calls_of : ℕ → List Event → List Event
calls_of x past = filter (is_call x) past

-- The places of these, the newest first. The oldest entry of a history stands at place 0.
abbrev pub places_of : ℕ → List Event → List ℕ
places_of x [] = []
places_of x (e ∷ past) = if is_call x e then length past ∷ places_of x past else places_of x past

-- how far the session is; one that hasn't joined is idle
abbrev pub phase_of : Board → ℕ → Phase
phase_of b x = slice_index_or b.phases x Idle

-- From a to b the history has gone on without a call of the session, which is as far as it was.
-- For session 0, which alone lets others join, nobody has joined.
pub record Keeps (x : ℕ) (a b : Board) : Type 0 where
  pub newer : List Event
  pub past : b.past ≡ newer ++ a.past
  pub quiet : calls_of x newer ≡ []
  pub phase : phase_of b x ≡ phase_of a x
  pub joined : List (List ℕ)
  pub names : b.names ≡ a.names ++ joined
  pub alone : x ≡ 0 → joined ≡ []

-- from a to b the session alone has called: all others keep what is theirs
abbrev pub Grows : ℕ → Board → Board → Type 0
Grows x a b = (y : ℕ) → y ≢ x → Keeps y a b
