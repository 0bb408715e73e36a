-- What a history shows: the names of the sessions, and the entries, the newest first.
use Rattle.std.specs.Prelude.{◌≡◌, ℕ, List, ◌++◌, refl}
use Rattle.std.specs.Coded.{Coded, code_by, coded×, coded_list, coded_ℕ}
use Rattle.inno_model.specs.declared.event.Event.{Event}
use Rattle.inno_model.specs.contracts.event.Event as of_event

pub record Recorded : Type 0 where
  pub names : List (List ℕ)
  pub past : List Event
  -- how many more entries take no memory
  pub room : ℕ

abbrev pub recorded_code : Coded Recorded
recorded_code =
    code_by (List (List ℕ) × (List Event × ℕ))
    (coded× (coded_list (coded_list coded_ℕ)) (coded× (coded_list of_event.the_row.coded) coded_ℕ))
    (λ r. (r.names, (r.past, r.room))) (λ p. record { names = p.0; past = p.1.0; room = p.1.1 }) (λ _. refl)

-- The names and entries stay. Of the room nothing is said.
pub record SameEntries (old new : Recorded) : Type 0 where
  pub names : new.names ≡ old.names
  pub past : new.past ≡ old.past

-- new is old with newer entries
abbrev pub Extends : List Event → List Event → Type 0
Extends old new = (newer : List Event) × (new ≡ newer ++ old)
