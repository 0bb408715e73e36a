-- That a world agrees with its past.
use Rattle.std.specs.Prelude.{◌≡◌, ℕ, ◌+◌, List, [], ◌∷◌, map, length, Option, option_map}
use Rattle.inno_types.specs.declared.value.Schema.{Schema}
use Rattle.inno_model.specs.{declared.event.Event.Event, Past.own, Past.started}
use Rattle.read_view.specs.Sight.{Sight}
use Rattle.row_versions.specs.{declared.place.Place.Place, Chains.Chains}
use Rattle.law_past_agreement.specs.Slots.{Slot}
use Rattle.law_past_agreement.specs.Slots as slots
use Rattle.law_past_agreement.specs.{Rows.place_in, Agreement.IsAgreed}
use Rattle.world.specs.State.{WorldState, Session, Work, Seen, HasWork}

-- ---- sessions and transactions

-- the view as it is asked
abbrev pub sight_of : Seen → Sight
sight_of seen = record { active = seen.active; own = 0; next = seen.next }

-- an open transaction whose changes were made at these places
abbrev pub work_at : List (Option Place) → Work → slots.Work
work_at places work = record { txn = work.txn; level = work.level; id = work.id; view = option_map sight_of work.view; places = places }

-- a session with what the past says of its items and changes
abbrev pub slot_of : List Event → List Schema → ℕ → Session → Slot
slot_of past schemas s session = record { started = started s past; work = option_map (work_at (map (place_in schemas) (own s past))) session.work }

-- the sessions from this number on
abbrev pub slots_from : ℕ → List Event → List Schema → List Session → List Slot
slots_from s past schemas [] = []
slots_from s past schemas (session ∷ sessions) = slot_of past schemas s session ∷ slots_from (s + 1) past schemas sessions

-- The world's tables, transactions and sessions are what its past says, and so are these rows.
pub record Agrees (chains : Chains) (state : WorldState) : Type 0 where
  pub lists : IsAgreed state.names state.past state.schemas chains state.txns (slots_from 0 state.past state.schemas state.sessions)
  pub count : length state.sessions ≡ length state.names
  pub own : (s : ℕ) (session : Session) (work : Work) → HasWork s session work state → work.own ≡ length (own s state.past)
