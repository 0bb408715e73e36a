-- Entries that a step of a session adds to the history of an engine that logs its commits, the oldest first.
use Rattle.std.specs.Prelude.{◌≡◌, ◌⊎◌, ℕ, Bool, true, false, List, [], ◌∷◌}
use Rattle.std.specs.List.{AllByRecursion}
use Rattle.inno_model.specs.declared.event.Event.{Event}
use Rattle.inno_model.specs.declared.event.Event.TheVariants.{Begin, Changed}
use Rattle.commit_log.specs.View.{is_acknowledgement, IsEntryOf}
use Rattle.commit_log.specs.Room.{HasRecord}

abbrev pub tells_change : Event → Bool
tells_change (Changed s change) = true
tells_change other = false

abbrev pub TellNone : List Event → Type 0
TellNone entries = AllByRecursion (λ e. tells_change e ≡ false) entries

-- One of them tells a change at most, which has a record in the log; before it nothing comes but the opening of its
-- transaction.
abbrev pub TellsOne : List Event → Type 0
TellsOne [] = Unit {0}
TellsOne (Begin s n level ∷ later) = TellsOne later
TellsOne (Changed s change ∷ later) = HasRecord change × TellNone later
TellsOne (other ∷ later) = TellNone later

-- The session's own entries, or signals, none of which acknowledges a commit. Where they tell a change, there is room for it.
pub record MayEnter (s : ℕ) (ready : Bool) (entries : List Event) : Type 0 where
  pub mine : AllByRecursion (λ e. IsEntryOf s e × (is_acknowledgement e ≡ false)) entries
  pub tells : ((ready ≡ true) × TellsOne entries) ⊎ TellNone entries
