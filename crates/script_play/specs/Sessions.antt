-- What contracts see of sessions, and what calls do to it.
use Rattle.std.specs.Prelude.{◌≡◌, ℕ, ◌+◌, ◌*◌, ◌<◌, ◌≤◌, ◌==◌, if◌then◌else◌, Bool, true, false, List, [], ◌∷◌, ◌++◌}
use Rattle.std.specs.Prelude.{length, take, slice_index_or, All, None}
use Rattle.inno_types.specs.declared.reply.Item.{Item}
use Rattle.inno_model.specs.declared.event.Event.{Event}
use Rattle.inno_model.specs.declared.event.Event.TheVariants.{Started}
use Rattle.inno_model.specs.Past.{under_way}
use Rattle.inno_model.specs.Recorded.{Extends}
use Rattle.inno_model.specs.Text.{items, answers}
use Rattle.sql_history.specs.Serial.{IsSetUp}
use Rattle.script.specs.declared.script.Script.{Script}
use Rattle.script.specs.declared.script.ScriptItem.{ScriptItem}
use Rattle.script.specs.declared.script.Tick.{Tick}

-- the names by number, what has happened, the newest entry first, the moment of the steps to come, in seconds, who is at work
-- and who has left, and what each has before it at most
pub record Shown : Type 0 where
  pub names : List (List ℕ)
  pub past : List Event
  pub moment : ℕ
  pub is_working : ℕ → Bool
  pub has_left : ℕ → Bool
  pub to_go : ℕ → List ℕ

abbrev pub IsJoined : ℕ → Shown → Type 0
IsJoined s shown = s < length shown.names

pub record IsIdle (s : ℕ) (shown : Shown) : Type 0 where
  pub rests : shown.is_working s ≡ false
  pub is_there : shown.has_left s ≡ false

-- Nobody joins, nothing is started, and no time passes. Entries may be added.
pub record StartsNothing (old new : Shown) : Type 0 where
  pub names : new.names ≡ old.names
  pub moment : new.moment ≡ old.moment
  pub entries : Extends old.past new.past
  pub items : (s : ℕ) → items s new.past ≡ items s old.past

pub record Joins (name : List ℕ) (old new : Shown) : Type 0 where
  pub names : new.names ≡ old.names ++ name ∷ []
  pub moment : new.moment ≡ old.moment
  pub items : (s : ℕ) → items s new.past ≡ items s old.past

-- the session starts an item, its next
pub record Starts (s : ℕ) (item : Item) (old new : Shown) : Type 0 where
  pub names : new.names ≡ old.names
  pub moment : new.moment ≡ old.moment
  pub number : ℕ
  pub past : new.past ≡ Started s number item ∷ old.past

-- The session is the next to leave: the lowest that can, but the setup part only once no other is there.
pub record IsNextToLeave (s : ℕ) (shown : Shown) : Type 0 where
  pub joined : IsJoined s shown
  pub idle : IsIdle s shown
  pub lowest : (t : ℕ) → 0 < t → t < s → IsIdle t shown → ⊥
  pub last : s ≡ 0 → (t : ℕ) → 0 < t → IsJoined t shown → shown.has_left t ≡ true

-- ---- scripts

-- the items of a session, in the order of the script
abbrev pub items_of : ℕ → List ScriptItem → List Item
items_of s [] = []
items_of s (x ∷ script) = if x.s == s then x.item ∷ items_of s script else items_of s script

-- each item belongs to a session that has a name
abbrev pub HaveNames : Script → Type 0
HaveNames script = All (λ item. item.s < length script.names) script.items

-- how much time passes by the script
abbrev pub seconds_in : List Tick → ℕ
seconds_in [] = 0
seconds_in (tick ∷ ticks) = tick.seconds + seconds_in ticks

-- From one moment to the other so many times 50 seconds pass, after which no wait goes on.
abbrev pub PassesWaits : ℕ → ℕ → Type 0
PassesWaits from to = (waits : ℕ) × (to ≡ from + 50 * waits)

-- Each session has started those of its items that stand before its place in the script.
pub record HasStarted (script : List ScriptItem) (places : List ℕ) (past : List Event) : Type 0 where
  pub within : All (λ place. place ≤ length script) places
  pub items : (s : ℕ) → items s past ≡ items_of s (take (slice_index_or places s 0) script)

-- each session has started the first of its items in the script, and nothing else
abbrev pub FollowsScript : List ScriptItem → List Event → Type 0
FollowsScript script past = (s : ℕ) → (left : List Item) × (items_of s script ≡ items s past ++ left)

-- these are the first of the script's sessions, by their names
abbrev pub AreNamed : Script → List (List ℕ) → Type 0
AreNamed script names = (left : List (List ℕ)) × (script.names ≡ names ++ left)

-- each session of the script has started all of its items
pub record HasPlayed (script : Script) (names : List (List ℕ)) (past : List Event) : Type 0 where
  pub names_are : names ≡ script.names
  pub items : (s : ℕ) → items s past ≡ items_of s script.items

-- each of them was answered
abbrev pub HasAnswered : Script → List Event → Type 0
HasAnswered script past = (s : ℕ) → length (answers s past) ≡ length (items_of s script.items)

-- no item is left under way
abbrev pub AllRest : List Event → Type 0
AllRest past = (s : ℕ) → under_way s past ≡ None

-- The setup part is over: none of its items is under way, and all were, before another session started one.
pub record IsOver (past : List Event) : Type 0 where
  pub rests : under_way 0 past ≡ None
  pub first : IsSetUp past

-- a step of play: nobody joins, and each session is where its place says
pub record Plays (script : List ScriptItem) (places : List ℕ) (old new : Shown) : Type 0 where
  pub names : new.names ≡ old.names
  pub count : length places ≡ length new.names
  pub started : HasStarted script places new.past

-- the same, at one moment
pub record Settles (script : List ScriptItem) (places : List ℕ) (old new : Shown) : Type 0 where
  pub names : new.names ≡ old.names
  pub moment : new.moment ≡ old.moment
  pub count : length places ≡ length new.names
  pub started : HasStarted script places new.past

-- sessions over a past in which nothing was started, before any time has passed
pub record IsNew (shown : Shown) : Type 0 where
  pub names : shown.names ≡ []
  pub moment : shown.moment ≡ 0
  pub items : (s : ℕ) → items s shown.past ≡ []
