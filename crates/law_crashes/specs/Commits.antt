-- The commits of a past, those of them that the log has groups for, and those that were acknowledged.
use Rattle.std.specs.Prelude.{ℕ, ◌+◌, max, Bool, true, false, List, [], ◌∷◌, ◌++◌, ◌==◌, nat_lt, if◌then◌else◌}
use Rattle.inno_db.specs.declared.change.Change.{Change}
use Rattle.inno_model.specs.declared.event.Event.{Event}
use Rattle.inno_model.specs.declared.event.Event.TheVariants.{Opened, Committed, Acked}
use Rattle.inno_model.specs.Past.{own, commits}
use Rattle.log_format.specs.declared.group.Group.{Group}
use Rattle.law_crashes.specs.Records.{records_of}

abbrev pub is_none : List Change → Bool
is_none [] = true
is_none (c ∷ cs) = false

-- how many commits had changes: only these are logged
abbrev pub logged : List Event → ℕ
logged [] = 0
logged (Committed s ∷ past) = if is_none (own s past) then logged past else logged past + 1
logged (other ∷ past) = logged past

-- their groups, numbered from the first
abbrev pub groups_of : ℕ → List Event → List Group
groups_of first [] = []
groups_of first (Committed s ∷ past) =
    if is_none (own s past) then groups_of first past else groups_of first past ++ record { lsn = first + logged past; records = records_of (own s past) } ∷ []
groups_of first (other ∷ past) = groups_of first past

-- The greatest number of commits among which there are at most k with changes.
abbrev pub fitting : ℕ → List Event → ℕ
fitting k [] = 0
fitting k (Committed s ∷ past) = if nat_lt k (logged (Committed s ∷ past)) then fitting k past else commits past + 1
fitting k (other ∷ past) = fitting k past

-- the number of commits up to the session's last one
abbrev pub place : ℕ → List Event → ℕ
place s [] = 0
place s (Committed t ∷ past) = if t == s then commits past + 1 else place s past
place s (other ∷ past) = place s past

-- how many of these had changes
abbrev pub logged_by : ℕ → List Event → ℕ
logged_by s [] = 0
logged_by s (Committed t ∷ past) = if t == s then logged (Committed t ∷ past) else logged_by s past
logged_by s (other ∷ past) = logged_by s past

-- the first so many commits hold all that were acknowledged by a moment
abbrev pub acked_by : ℕ → List Event → ℕ
acked_by m [] = 0
acked_by m (Acked s moment ∷ past) = if nat_lt m moment then acked_by m past else max (place s past) (acked_by m past)
acked_by m (other ∷ past) = acked_by m past

-- so many groups hold all that were acknowledged
abbrev pub acked_logged : List Event → ℕ
acked_logged [] = 0
acked_logged (Acked s moment ∷ past) = max (logged_by s past) (acked_logged past)
acked_logged (other ∷ past) = acked_logged past

-- the latest moment at which one was acknowledged
abbrev pub last_acked : List Event → ℕ
last_acked [] = 0
last_acked (Acked s moment ∷ past) = max moment (last_acked past)
last_acked (other ∷ past) = last_acked past

-- an entry that neither opens a database nor acknowledges a commit
abbrev pub is_plain : Event → Bool
is_plain (Opened db) = false
is_plain (Acked s moment) = false
is_plain other = true

-- one of a session's work, which leaves the log as it is
abbrev pub leaves_log : Event → Bool
leaves_log (Opened db) = false
leaves_log (Committed s) = false
leaves_log (Acked s moment) = false
leaves_log other = true
