-- What sessions have made of a script, by their own entries, and what the threads that play them answer for.
use Rattle.std.specs.Prelude.{◌≡◌, ℕ, ◌+◌, ◌<◌, false, List, [], ◌∷◌, ◌++◌, length, None}
use Rattle.std.specs.List.{AllByRecursion}
use Rattle.atomic_table.specs.Seated.{TableId}
use Rattle.inno_types.specs.declared.reply.Item.{Item}
use Rattle.inno_model.specs.declared.event.Event.{Event}
use Rattle.inno_model.specs.Past.{under_way}
use Rattle.inno_model.specs.Recorded.{Extends}
use Rattle.inno_model.specs.Boards.{calls_of}
use Rattle.inno_model.specs.Text.{items}
use Rattle.script.specs.declared.script.Script.{Script}
use Rattle.script.specs.declared.script.ScriptItem.{ScriptItem}
use Rattle.turn_engine.specs.Sessions.{Sitting, own}
use Rattle.script_play.specs.Sessions.{items_of}
use Rattle.script_play.specs.declared.parts.Part.{Part}
use Rattle.script_play.specs.declared.parts.Part.TheVariants.{Running, Ended}

-- a session of the hall that has made no call
abbrev pub IsNew : TableId → Sitting → Type 0
IsNew hall s = (s.hall ≡ hall) × (own s ≡ []) × (s.lost ≡ false)

-- The session has started the first of its items, and none is left under way.
pub record HasBegun (script : List ScriptItem) (s : Sitting) : Type 0 where
  pub left : List Item
  pub items_are : items_of s.number script ≡ items s.number (own s) ++ left
  pub rests : under_way s.number (own s) ≡ None

-- it has started all of them, unless it was lost
abbrev pub IsWhole : List ScriptItem → Sitting → Type 0
IsWhole script s = s.lost ≡ false → items s.number (own s) ≡ items_of s.number script

abbrev pub HasBegunIn : TableId → List ScriptItem → Sitting → Type 0
HasBegunIn hall script s = (s.hall ≡ hall) × HasBegun script s

abbrev pub HasPlayedIn : TableId → List ScriptItem → Sitting → Type 0
HasPlayedIn hall script s = HasBegunIn hall script s × IsWhole script s

-- each session of the script has played
pub record IsAll (script : Script) (first : Sitting) (receipts : List Sitting) : Type 0 where
  pub named : first.seen.names ≡ script.names
  pub kept : first.lost ≡ false
  pub whole : AllByRecursion (IsWhole script.items) receipts

-- The first session's calls were over while no other session had made one, and it has made none since.
pub record HasSetUp (first : Sitting) : Type 0 where
  pub before : List Event
  pub seen : Extends before first.seen.past
  pub over : own first ≡ calls_of first.number before
  pub alone : (x : ℕ) → 0 < x → x < length first.seen.names → calls_of x before ≡ []

-- the receipt of a session of this number, which has played the script in this hall
abbrev pub IsPlayed : TableId → List ScriptItem → ℕ → Sitting → Type 0
IsPlayed hall script number s = (s.number ≡ number) × HasPlayedIn hall script s

abbrev pub number_of : {E : Type 0} → Part E → ℕ
number_of (Running child) = child.promise.session.value.number
number_of (Ended receipt) = receipt.number

-- a session that plays the script in this hall, or has played it there
abbrev pub IsPart : {E : Type 0} → TableId → Script → Part E → Type 0
IsPart hall script (Running child) = (child.promise.hall.value ≡ hall) × (child.promise.script.value ≡ script)
IsPart hall script (Ended receipt) = HasPlayedIn hall script.items receipt

-- these numbers count up from the first
abbrev pub AreNumbered : ℕ → List ℕ → Type 0
AreNumbered first [] = Unit {0}
AreNumbered first (n ∷ numbers) = (n ≡ first) × AreNumbered (first + 1) numbers
