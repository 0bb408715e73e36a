-- That rows, transactions and sessions agree with the past.
use Rattle.std.specs.Prelude.{◌≡◌, ◌≢◌, ℕ, ◌+◌, ◌<◌, ◌≤◌, ◌^◌, ◌⊎◌, Bool, true, false, if◌then◌else◌, Option, Some, None, List, [], ◌∷◌, ◌++◌, map}
use Rattle.std.specs.Prelude.{length, slice_index_or}
use Rattle.std.specs.List.{AllByRecursion, list_any}
use Rattle.inno_types.specs.{declared.value.Value.Value, declared.value.Schema.Schema, declared.lock.Level.Level, declared.reply.Item.Item}
use Rattle.inno_db.specs.declared.change.Change.{Change}
use Rattle.inno_model.specs.declared.event.Event.{Event}
use Rattle.inno_model.specs.Past.{level, txn, own, view_of, commits, committed, started, under_way, of_item, IsOpen, awaits_ack}
use Rattle.read_view.specs.Sight.{Sight, is_seen}
use Rattle.txn_table.specs.Txns.{Txns}
use Rattle.row_versions.specs.{declared.place.Place.Place, declared.version.Version.Version, Chains.Chains, Chains.versions_at, Chains.first_seen}
use Rattle.row_versions.specs.{Chains.newest}
use Rattle.law_past_agreement.specs.Ids.{given, id_of, is_among, is_settled, txns_of}
use Rattle.law_past_agreement.specs.{Order.IsOrdered, Order.created, Slots.Work, Slots.Slot, Slots.fresh}
use Rattle.law_past_agreement.specs.Rows.{place_in, is_at, row_of, row_at, row_opened, IsNeeded}

abbrev pub IsCommitted : List Event → ℕ → Type 0
IsCommitted h id = (n : ℕ) × (is_among h n id ≡ true)

-- the id was written before this history, or its transaction has committed in it
abbrev pub IsSettled : List Event → ℕ → Type 0
IsSettled h id = (id ≡ 0) ⊎ IsCommitted h id

-- the transaction of the id has committed or is open
abbrev pub IsStanding : List Event → ℕ → Type 0
IsStanding h id = IsCommitted h id ⊎ ((s : ℕ) × IsOpen s h × (id_of h s ≡ id) × (0 < id))

-- The view's ids say the same as its number, of each writer of a standing version but the reader. What was written before
-- this history is seen, and later ids are not.
pub record IsViewOf (h : List Event) (s n : ℕ) (sight : Sight) : Type 0 where
  pub is-view : view_of s h ≡ Some n
  pub within : n ≤ commits h
  pub alike : (id : ℕ) → IsStanding h id → id ≢ id_of h s → is_seen sight id ≡ is_among h n id
  pub earlier : is_seen sight 0 ≡ true
  pub later : (id : ℕ) → given h < id → is_seen sight id ≡ false

abbrev pub ViewAgrees : List Event → ℕ → Option Sight → Type 0
ViewAgrees h s None = view_of s h ≡ None
ViewAgrees h s (Some sight) = (n : ℕ) × IsViewOf h s n sight

-- what is kept of a session's open transaction is what the past says
pub record IsWorkOf (schemas : List Schema) (h : List Event) (s : ℕ) (w : Work) : Type 0 where
  pub level_is : level s h ≡ Some w.level
  pub txn_is : txn s h ≡ w.txn
  pub id_is : id_of h s ≡ w.id
  pub places_are : map (place_in schemas) (own s h) ≡ w.places
  pub view_is : ViewAgrees h s w.view

pub record IsIdle (h : List Event) (s : ℕ) : Type 0 where
  pub level_is : level s h ≡ None
  pub own_is : own s h ≡ []

abbrev pub WorkAgrees : List Schema → List Event → ℕ → Option Work → Type 0
WorkAgrees schemas h s None = IsIdle h s
WorkAgrees schemas h s (Some w) = IsWorkOf schemas h s w

pub record SlotAgrees (schemas : List Schema) (h : List Event) (s : ℕ) (slot : Slot) : Type 0 where
  pub started_is : started s h ≡ slot.started
  pub work_is : WorkAgrees schemas h s slot.work

-- a transaction's changes that the test picks, as versions
abbrev pub versions_of : ℕ → (Change → Bool) → List Change → List Version
versions_of id at [] = []
versions_of id at (change ∷ changes) = if at change then record { writer = id; row = row_of change } ∷ versions_of id at changes else versions_of id at changes

-- The versions of a place, whose changes the test picks, are those of the writer's open transaction, and behind them
-- settled ones. Of these the first that is among the first n commits, or older, is the row that the commits leave of what
-- stood there at the opening: for each n that somebody may read.
pub record AreVersionsBy (h : List Event) (writer : ℕ) (opened : Option (List Value)) (at : Change → Bool) (versions : List Version) : Type 0 where
  pub behind : List Version
  pub parts : versions ≡ versions_of (id_of h writer) at (own writer h) ++ behind
  pub alone : (s : ℕ) → s ≢ writer → list_any at (own s h) ≡ false
  pub are_settled : AllByRecursion (λ v. IsSettled h v.writer) behind
  pub reads : (n : ℕ) → IsNeeded h n → first_seen (is_settled h n) behind ≡ row_at opened at (committed n h)

-- at most one open transaction has changes of the place
abbrev pub AreVersions : List Event → Option (List Value) → (Change → Bool) → List Version → Type 0
AreVersions h opened at versions = (writer : ℕ) × AreVersionsBy h writer opened at versions

-- All versions are older than this history, and the newest has the row that stood there at the opening.
pub record IsOpenedWith (row : Option (List Value)) (versions : List Version) : Type 0 where
  pub older : AllByRecursion (λ v. v.writer ≡ 0) versions
  pub row_is : newest versions ≡ row

-- ---- the room by which transactions and items can end

-- the entries by which a transaction can end: one to undo each change, and then one or two
abbrev pub owed_by_txn : Option Level → ℕ → Bool → ℕ
owed_by_txn (Some level) changes acks = changes + 2
owed_by_txn None changes true = 1
owed_by_txn None changes false = 0

-- the entry by which an item ends
abbrev pub owed_by_item : Option Item → ℕ
owed_by_item (Some item) = 1
owed_by_item None = 0

abbrev pub owed_by : List Event → ℕ → ℕ
owed_by h s = owed_by_txn (level s h) (length (own s h)) (awaits_ack (of_item s h)) + owed_by_item (under_way s h)

-- Who may write isn't spoken of: of each place at most one open transaction has changes.
pub record IsAgreed (names : List (List ℕ)) (h : List Event) (schemas : List Schema) (chains : Chains) (txns : Txns) (slots : List Slot)
    : Type 0 where
  pub ordered : IsOrdered h
  pub small : length h < 2 ^ 63
  pub tables : schemas ≡ created h
  pub txns_are : txns ≡ txns_of h
  pub sessions : (s : ℕ) → SlotAgrees schemas h s (slice_index_or slots s fresh)
  pub rows : (place : Place) → AreVersions h (row_opened h place) (is_at schemas place) (versions_at place chains)
  -- nothing is owed to a session that hasn't joined
  pub strangers : (s : ℕ) → length names ≤ s → owed_by h s ≡ 0
