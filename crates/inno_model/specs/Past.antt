-- What the entries of a history say. A past lists them from the newest to the oldest, so each line says what the
-- newest entry makes of what was before it. Lists of changes stand newest first too.
use Rattle.std.specs.Prelude.{◌≡◌, ℕ, ◌+◌, ◌-◌, List, [], ◌∷◌, ◌++◌, ◌==◌, Bool, true, false, nat_lt, if◌then◌else◌, length, drop, Option, None, Some, is_some}
use Rattle.std.specs.List.{list_any}
use Rattle.std.specs.FinMap.{from_entries}
use Rattle.inno_types.specs.declared.lock.Level.{Level}
use Rattle.inno_types.specs.declared.reply.Item.{Item}
use Rattle.inno_db.specs.Database.{Database}
use Rattle.inno_db.specs.Changes.{apply_one}
use Rattle.inno_db.specs.declared.change.Change.{Change}
use Rattle.inno_model.specs.declared.event.Event.{Event}
use Rattle.inno_model.specs.declared.event.Event.TheVariants.{Opened, Begin, Started, View, Changed, Waits, Victim, Undone, Ended, Committed, Acked, RolledBack}

-- the entry is one of the session
abbrev pub is_of : ℕ → Event → Bool
is_of s (Begin t txn level) = t == s
is_of s (Started t j item) = t == s
is_of s (View t) = t == s
is_of s (Changed t change) = t == s
is_of s (Waits t lock blockers at) = t == s
is_of s (Victim t cycle) = t == s
is_of s (Undone t keep) = t == s
is_of s (Ended t j reply) = t == s
is_of s (Committed t) = t == s
is_of s (Acked t moment) = t == s
is_of s (RolledBack t) = t == s
is_of s other = false

-- ---- items

-- how many items of the session have been started
abbrev pub started : ℕ → List Event → ℕ
started s [] = 0
started s (Started t j item ∷ past) = if t == s then started s past + 1 else started s past
started s (other ∷ past) = started s past

-- the item of the session that has started and not ended
abbrev pub under_way : ℕ → List Event → Option Item
under_way s [] = None
under_way s (Started t j item ∷ past) = if t == s then Some item else under_way s past
under_way s (Ended t j reply ∷ past) = if t == s then None else under_way s past
under_way s (other ∷ past) = under_way s past

-- the past before the session's last item
abbrev pub before_item : ℕ → List Event → List Event
before_item s [] = []
before_item s (Started t j item ∷ past) = if t == s then past else before_item s past
before_item s (other ∷ past) = before_item s past

-- the session's entries since its last item was started
abbrev pub of_item : ℕ → List Event → List Event
of_item s [] = []
of_item s (Started t j item ∷ past) = if t == s then [] else of_item s past
of_item s (e ∷ past) = if is_of s e then e ∷ of_item s past else of_item s past

-- such an entry stands in the session's last item
abbrev pub did : (Event → Bool) → ℕ → List Event → Bool
did test s past = list_any test (of_item s past)

abbrev pub begins_txn : Event → Bool
begins_txn (Begin t txn level) = true
begins_txn other = false

abbrev pub takes_view : Event → Bool
takes_view (View t) = true
takes_view other = false

abbrev pub commits_txn : Event → Bool
commits_txn (Committed t) = true
commits_txn other = false

abbrev pub rolls_back_txn : Event → Bool
rolls_back_txn (RolledBack t) = true
rolls_back_txn other = false

-- an entry by which the item has come to the end of its changes
abbrev pub closes : Event → Bool
closes (Undone t keep) = true
closes (Committed t) = true
closes (RolledBack t) = true
closes (Ended t j reply) = true
closes other = false

-- the newest entry of the item is a commit: its reply may not be given before it is acknowledged
abbrev pub awaits_ack : List Event → Bool
awaits_ack (Committed t ∷ entries) = true
awaits_ack other = false

-- ---- transactions

-- how many transactions were begun
abbrev pub begins : List Event → ℕ
begins [] = 0
begins (Begin s txn level ∷ past) = begins past + 1
begins (other ∷ past) = begins past

-- the level of the session's open transaction
abbrev pub level : ℕ → List Event → Option Level
level s [] = None
level s (Begin t txn l ∷ past) = if t == s then Some l else level s past
level s (Committed t ∷ past) = if t == s then None else level s past
level s (RolledBack t ∷ past) = if t == s then None else level s past
level s (other ∷ past) = level s past

-- the number of the session's last transaction, in order of begin
abbrev pub txn : ℕ → List Event → ℕ
txn s [] = 0
txn s (Begin t n l ∷ past) = if t == s then n else txn s past
txn s (other ∷ past) = txn s past

abbrev pub level_or : Option Level → Level → Level
level_or None before = before
level_or (Some level) before = level

-- the session has an open transaction
abbrev pub IsOpen : ℕ → List Event → Type 0
IsOpen s past = is_some (level s past) ≡ true

abbrev pub IsClosed : ℕ → List Event → Type 0
IsClosed s past = level s past ≡ None

-- of changes that stand newest first, those that were made first
abbrev pub oldest : ℕ → List Change → List Change
oldest keep changes = drop (length changes - keep) changes

-- the changes of the session's open transaction that stand
abbrev pub own : ℕ → List Event → List Change
own s [] = []
own s (Begin t txn level ∷ past) = if t == s then [] else own s past
own s (Changed t change ∷ past) = if t == s then change ∷ own s past else own s past
own s (Undone t keep ∷ past) = if t == s then oldest keep (own s past) else own s past
own s (Committed t ∷ past) = if t == s then [] else own s past
own s (RolledBack t ∷ past) = if t == s then [] else own s past
own s (other ∷ past) = own s past

-- ---- databases

-- how many transactions were committed
abbrev pub commits : List Event → ℕ
commits [] = 0
commits (Committed s ∷ past) = commits past + 1
commits (other ∷ past) = commits past

-- the changes of the first n transactions that were committed
abbrev pub committed : ℕ → List Event → List Change
committed n [] = []
committed n (Committed s ∷ past) = if nat_lt (commits past) n then own s past ++ committed n past else committed n past
committed n (other ∷ past) = committed n past

-- the database at the opening
abbrev pub opening : List Event → Database
opening [] = record { schemas = []; rows = from_entries [] }
opening (Opened db ∷ past) = db
opening (other ∷ past) = opening past

-- a database after changes that stand newest first
abbrev pub changed : Database → List Change → Database
changed db [] = db
changed db (change ∷ earlier) = apply_one (changed db earlier) change

-- the database after the first n commits
abbrev pub db_after : ℕ → List Event → Database
db_after n past = changed (opening past) (committed n past)

-- how many transactions were committed before the last view of the session's transaction
abbrev pub view_of : ℕ → List Event → Option ℕ
view_of s [] = None
view_of s (View t ∷ past) = if t == s then Some (commits past) else view_of s past
view_of s (Begin t txn level ∷ past) = if t == s then None else view_of s past
view_of s (other ∷ past) = view_of s past

-- what the session sees under a view of the first n commits: these, and its own changes
abbrev pub snapshot : ℕ → ℕ → List Event → Database
snapshot s n past = changed (opening past) (own s past ++ committed n past)

-- the latest committed rows, and the session's own
abbrev pub current : ℕ → List Event → Database
current s past = snapshot s (commits past) past
