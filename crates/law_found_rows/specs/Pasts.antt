-- How a history goes on by a step of a session.
use Rattle.std.specs.Prelude.{◌≡◌, ◌⊎◌, ℕ, List, ◌∷◌}
use Rattle.inno_model.specs.declared.event.Event.{Event}
use Rattle.law_past_agreement.specs.Order.{IsNoOthers}

-- No entry has come, or one of this session, or a signal.
abbrev pub AddsAtMostOne : ℕ → List Event → List Event → Type 0
AddsAtMostOne t old new = (new ≡ old) ⊎ ((e : Event) × IsNoOthers t e × (new ≡ e ∷ old))
