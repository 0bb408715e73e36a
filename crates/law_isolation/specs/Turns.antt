-- Histories in which the sessions take turns: while one is at work, no other adds an entry.
use Rattle.std.specs.Prelude.{◌≡◌, ◌≢◌, ℕ, List, [], ◌∷◌, Bool, true, false, ◌||◌, Option, Some, is_some}
use Rattle.inno_types.specs.declared.reply.Item.{Item}
use Rattle.inno_types.specs.declared.reply.Item.TheVariants.{Sql}
use Rattle.inno_model.specs.declared.event.Event.{Event}
use Rattle.inno_model.specs.Past.{is_of, under_way, level}

abbrev pub is_statement : Option Item → Bool
is_statement (Some (Sql text)) = true
is_statement other = false

-- The session has a transaction open, or a statement under way. (One that has begun no transaction yet counts too: below
-- REPEATABLE READ it may already have read rows, each at a moment of its own.)
abbrev pub is_at_work : ℕ → List Event → Bool
is_at_work s past = is_some (level s past) || is_statement (under_way s past)

-- each entry of a session comes while no other is at work
abbrev pub IsSerial : List Event → Type 0
IsSerial [] = Unit {0}
IsSerial (e ∷ past) = ((s other : ℕ) → is_of s e ≡ true → other ≢ s → is_at_work other past ≡ false) × IsSerial past

-- no session but this one adds entries
abbrev pub IsOfOne : ℕ → List Event → Type 0
IsOfOne s [] = Unit {0}
IsOfOne s (e ∷ past) = ((other : ℕ) → is_of other e ≡ true → other ≡ s) × IsOfOne s past
