-- The rules by which locks are taken, and the lock that each gives.
use Rattle.std.specs.Prelude.{◌≡◌, ℕ, Bool, true, false, ◌==◌, ◌&&◌, ◌*◌, ◌/◌, ◌%◌, not, is_some, Option, None, Some, if◌then◌else◌}
use Rattle.inno_types.specs.declared.lock.LockKind.{LockKind}
use Rattle.inno_types.specs.declared.lock.LockKind.TheVariants.{Rec, Gap, NextKey, Intent}
use Rattle.inno_types.specs.declared.lock.Mode.{Mode}
use Rattle.inno_types.specs.declared.lock.Mode.TheVariants.{S, X}
use Rattle.inno_types.specs.declared.lock.Level.{Level}
use Rattle.inno_types.specs.declared.lock.Reason.{Reason}
use Rattle.inno_types.specs.declared.lock.Lock.{Lock}
use Rattle.lock_rules.specs.declared.rule.Rule.{Rule}
use Rattle.lock_rules.specs.declared.rule.Rule.TheVariants.{UniqueFound, UniqueMarked, UniqueAbsent, RangeRecord, PastRange, ClusteredOfEntry, ToInsert, Inserted, DuplicateCheck, Changed, LowerSearch, RecordWent, CopiedOnInsert}
use Rattle.lock_rules.specs.declared.rule.Place.{Place}
use Rattle.lock_rules.specs.declared.rule.Place.TheVariants.{Within, Past, New}
use Rattle.lock_rules.specs.declared.rule.Case.{Case}
use Rattle.lock_rules.specs.Kinds.{is_upper, same_kind, same_mode}
use Rattle.lock_rules.specs.Spots.{same_spot}
use Rattle.lock_rules.specs.Conflicts.{same_reason}
use Rattle.lock_rules.specs.Ranges.{is_within, is_past, is_single}

-- what a lock's reason shows of its rule
abbrev pub number_of : Rule → ℕ
number_of UniqueFound = 1
number_of UniqueMarked = 2
number_of UniqueAbsent = 3
number_of RangeRecord = 4
number_of PastRange = 5
number_of ClusteredOfEntry = 6
number_of ToInsert = 7
number_of Inserted = 8
number_of DuplicateCheck = 9
number_of Changed = 10
number_of LowerSearch = 11
number_of RecordWent = 12
number_of CopiedOnInsert = 13

-- at which levels the rule is one
abbrev pub is_for : Rule → Level → Bool
is_for UniqueFound level = is_upper level
is_for UniqueMarked level = is_upper level
is_for UniqueAbsent level = is_upper level
is_for RangeRecord level = is_upper level
is_for PastRange level = is_upper level
is_for LowerSearch level = not (is_upper level)
is_for rule level = true

abbrev pub rule_kind : Rule → LockKind
rule_kind UniqueFound = Rec
rule_kind UniqueMarked = NextKey
rule_kind UniqueAbsent = Gap
rule_kind RangeRecord = NextKey
rule_kind PastRange = Gap
rule_kind ClusteredOfEntry = Rec
rule_kind ToInsert = Intent
rule_kind Inserted = Rec
rule_kind DuplicateCheck = Rec
rule_kind Changed = Rec
rule_kind LowerSearch = Rec
rule_kind RecordWent = Gap
rule_kind CopiedOnInsert = Gap

-- the mode of the search or of the old lock, save where the rule has its own
abbrev pub rule_mode : Rule → Mode → Mode
rule_mode ToInsert mode = X
rule_mode Inserted mode = X
rule_mode DuplicateCheck mode = S
rule_mode Changed mode = X
rule_mode rule mode = mode

-- a search of the clustered index for one key, which finds one record at most
abbrev pub is_unique : Case → Bool
is_unique c = c.index % 8 == 0 && is_single c.range

-- a record that the search visits in its range
abbrev pub is_visited : Case → Place → Bool
is_visited c Within = c.spot.index == c.index && is_within c.range c.spot.key
is_visited c Past = false
is_visited c New = false

-- the first record past the range of the search, or the supremum
abbrev pub is_passed : Case → Place → Bool
is_passed c Within = false
is_passed c Past = c.spot.index == c.index && is_past c.range c.spot.key
is_passed c New = false

-- the record of a change, or with no key the supremum before which it goes
abbrev pub is_changed : Case → Place → Bool
is_changed c Within = false
is_changed c Past = false
is_changed c New = c.spot.index == c.index

-- the clustered record to which an entry of a secondary index leads
abbrev pub is_clustered_of : Case → Place → Bool
is_clustered_of c Within = not (c.index % 8 == 0) && c.spot.index == c.index / 8 * 8 && is_some c.spot.key
is_clustered_of c Past = false
is_clustered_of c New = false

-- the case is one of the rule
abbrev pub is_case_of : Rule → Case → Bool
is_case_of UniqueFound c = is_unique c && is_visited c c.place && not c.marked
is_case_of UniqueMarked c = is_unique c && is_visited c c.place && c.marked
is_case_of UniqueAbsent c = is_unique c && is_passed c c.place
is_case_of RangeRecord c = not (is_unique c) && is_visited c c.place
is_case_of PastRange c = not (is_unique c) && is_passed c c.place
is_case_of ClusteredOfEntry c = is_clustered_of c c.place && not c.marked
is_case_of ToInsert c = is_changed c c.place
is_case_of Inserted c = is_changed c c.place && is_some c.spot.key
is_case_of DuplicateCheck c = is_changed c c.place && is_some c.spot.key
is_case_of Changed c = is_changed c c.place && is_some c.spot.key
is_case_of LowerSearch c = is_visited c c.place
is_case_of RecordWent c = c.spot.index == c.index
is_case_of CopiedOnInsert c = c.spot.index == c.index

abbrev pub reason_of : Case → Reason
reason_of c = record { rule = c.rule; item = c.item; level = c.level }

-- the rule gives this lock in this case
abbrev pub gives : Rule → Lock → Case → Bool
gives rule lock c =
    is_for rule c.level && is_case_of rule c && same_spot lock.spot c.spot && same_kind lock.kind (rule_kind rule)
    && same_mode lock.mode (rule_mode rule c.mode) && same_reason lock.reason (reason_of c)

-- the rule of a number
abbrev pub rule_of : ℕ → Option Rule
rule_of n =
    if n == 1 then Some UniqueFound else if n == 2 then Some UniqueMarked else if n == 3 then Some UniqueAbsent else if n == 4 then Some RangeRecord
    else if n == 5 then Some PastRange else if n == 6 then Some ClusteredOfEntry else if n == 7 then Some ToInsert else if n == 8 then Some Inserted
    else if n == 9 then Some DuplicateCheck else if n == 10 then Some Changed else if n == 11 then Some LowerSearch else if n == 12 then Some RecordWent
    else if n == 13 then Some CopiedOnInsert else None

abbrev pub gives_some : Option Rule → Lock → Case → Bool
gives_some None lock c = false
gives_some (Some rule) lock c = gives rule lock c

-- the row of the case's rule gives this lock
abbrev pub fits : Lock → Case → Bool
fits lock c = gives_some (rule_of c.rule) lock c

-- the lock is one of its reason's rule
abbrev pub FitsItsRule : Lock → Type 0
FitsItsRule lock = (c : Case) × (fits lock c ≡ true)
