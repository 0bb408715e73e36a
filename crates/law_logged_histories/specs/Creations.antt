-- Histories in which each table that was made is committed. Any crate may cite it.
use Rattle.std.specs.Prelude.{◌≡◌, ℕ, false, List}
use Rattle.std.specs.List.{list_any}
use Rattle.inno_model.specs.declared.event.Event.{Event}
use Rattle.inno_model.specs.Past.{own}
use Rattle.law_past_agreement.specs.Order.{is_creation}

-- no open transaction has made a table
abbrev pub HasNoOpenCreation : List Event → Type 0
HasNoOpenCreation past = (s : ℕ) → list_any is_creation (own s past) ≡ false
