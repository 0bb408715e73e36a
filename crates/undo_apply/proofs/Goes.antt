-- The steps of a taking back: how each leaves what is known, those that deal with the record, and with the entries of a key.
use Rattle.std.proofs.Common.{◌≡◌, ◌≢◌, ◌⊎◌, inl, inr, ℕ, ◌+◌, ◌<◌, Bool, true, false, List, [], ◌∷◌, Option, Some, refl, sym, ap, subst, ◌∙◌, arith}
use Rattle.std.proofs.Common.{length, rules}
use Rattle.std.proofs.Common.{◌≤◌, slice_get, ⊎_elim, ◌-◌, ◌*◌, cond, None, ◌^◌, ◌++◌}
use Rattle.std.specs.Prelude.{option_map, IsTrue, ◌==◌, ◌||◌, is_some, vec_capacity, Vec}
use Rattle.std.proofs.Math.Bool.{or-true}
use Rattle.std.proofs.lemmas.Bool.{true≢false, eq-eqb, cases_eq, ne_eqb, false_from_ne_true}
use Rattle.inno_types.specs.{declared.value.Value.Value, declared.value.Schema.Schema}
use Rattle.store_api.specs.{declared.answers.Undo.Undo, declared.moves.Move.Move}
use Rattle.store_api.specs.declared.answers.Version.{Version as Coded}
use Rattle.store_api.specs.declared.moves.Move.TheVariants.{Done, Step, End, NoMemory}
use Rattle.key_codec.proofs.Once.{same_entry}
use Rattle.law_stored_rows.specs.{Storable.IsStorable, Records.row_shown, Records.shown, Records.IsCodeOf, Records.LeadTo, Records.kept_of}
use Rattle.law_stored_rows.specs.{Entries.is_same_value}
use Rattle.law_stored_rows.specs.{Entries.value_in, Entries.has_value, Edits.key_index, Edits.with_value, Edits.clustered_index, Tables.Said}
use Rattle.row_versions.specs.{declared.kept.Kept.Kept, declared.version.Version.Version, declared.place.Place.Place, Chains.Chains}
use Rattle.row_versions.specs.Versions.{Versions, leads, IsPointer}
use Rattle.secondary.specs.Entries.{entry_of}
use Rattle.law_stored_rows.proofs.Values.{same_value, value_itself, entry_there}
use Rattle.law_stored_rows.proofs.RowRecords.{leads_nowhere, leads_still, one_lead, pointer_followed}
use Rattle.law_stored_rows.proofs.KeptRows.{found_of}
use Rattle.undo_apply.specs.{declared.work_room.WorkRoom.WorkRoom, declared.work_room.Stage.Stage, Rooms.IsWhole, Rooms.steps_left, Told.Rows, Told.rows_of}
use Rattle.undo_apply.specs.Standing.{column_of, some_has, AreCodedBut, TellsOf, had_row, versions_before, IsCleared, IsUnderWay, IsLagging}
use Rattle.undo_apply.specs.Standing.{LeadsBack, was_before, IsTakenBack}
use Rattle.undo_apply.specs.Stages.{FitsKeys, StageHolds, IsPuttingBack, ChangesOneEntry, Nears, StopsAt, IsHindered, PutsBack, Stops, StopsRemoval, LagsAt}
use Rattle.undo_apply.specs.Stages.{StopsWalk}
use Rattle.undo_apply.specs.Removal.{RemovesPair}
use Rattle.undo_apply.specs.Moves.{WentOn, WentOnOrEnded, at_stage, LooksAt, LooksOn, Ended}
use Rattle.undo_apply.specs.declared.work_room.Stage.TheVariants.{Key, Mark, Remove, Unmark, Walk, Record, Find}
use Rattle.undo_apply.proofs.Columns.{key_at, one_less, entry_short, entry_says, one_byte, cleared_any, lagging_any, newest_any, absent_stays}
use Rattle.undo_apply.proofs.Columns.{newest_read, newest_own, what_was, WasThere, WasNot, not_new, before_new}
use Rattle.undo_apply.proofs.Taken.{ends, stands, with_entry, dropped, unmarked_now, passed, clear_unless_row, clear_of_same}
use Rattle.undo_apply.proofs.Telling.{schemas_stay, rows_stay, leaves_told, leaves_rows, rows_after, pairs_after, stay_but, rows_left_but}
use Rattle.undo_apply.proofs.Telling.{told_of, IsThereAs, replace_stops, delay_stops}
use Rattle.world.specs.{State.WorldState, Undoing.IsUnchanged, Indexes.Calls, Indexes.Changes, Indexes.ReplacesWith}
use Rattle.world.specs.Told.{pairs_of, IsTold, LeavesRows, TellsTogether}
use Rattle.row_changes.specs.{Pairs.RowsStay, Pairs.RowsStayBut, Pairs.PutsPair, Keys.IsEntryAt}
use Rattle.std.specs.declared.alloc.Global.{Global}
use Rattle.entries.specs.{Pairs.Pair, Pairs.value_of, Index.Index, Calls.is_done, Calls.Fetches}
use Rattle.row_codec.specs.Rows.{IsRecordOf, IsVersion, head_code, others_code}
use Rattle.row_changes.proofs.Changing.{same_rows, unchanged_stays}
use Rattle.row_changes.proofs.Awaited.{replace_leaves, stays_if, puts_if, change_stays_if, fetch_keeps, fetch_delays}
use Rattle.row_changes.proofs.Telling.{stays_told, put_told}
use Rattle.row_codec.proofs.Stored.{length-version_code}

-- ---- pointers

pub walk_leads : (schema : Schema) (key : List ℕ) (versions : Versions) (pointer : ℕ) (left : List Version)
    → LeadTo schema key versions.kept_at pointer left → IsTrue (leads pointer versions)
walk_leads schema key versions pointer [] is = ap (λ (b : Bool). b || is_some (versions.kept_at pointer)) (eq-eqb pointer 0 is)
walk_leads schema key versions pointer (version ∷ rest) is = ap (λ (o : Option Kept). pointer == 0 || is_some o) is.1.there ∙ or-true (pointer == 0)

-- a pointer that leads along a row leads there
along : (schema : Schema) (key : List ℕ) (kept : ℕ → Option Kept) (table pointer : ℕ) (left : List Version)
    → LeadTo schema key (kept_of kept table key) pointer left → LeadTo schema key kept pointer left
along schema key kept table pointer left = leads_still schema key (kept_of kept table key) kept pointer left (found_of kept table key)

own_bytes : (schema : Schema) (key : List ℕ) (kept : ℕ → Option Kept) (table pointer : ℕ) (left : List Version) (read : List ℕ)
    → LeadTo schema key (kept_of kept table key) pointer left → pointer ≢ 0 → option_map (λ (k : Kept). k.bytes) (kept pointer) ≡ Some read
    → option_map (λ (k : Kept). k.bytes) (kept_of kept table key pointer) ≡ Some read
own_bytes schema key kept table pointer [] read leads some bytes = absurd (some leads)
own_bytes schema key kept table pointer (version ∷ rest) read leads some bytes =
    ap (option_map (λ (k : Kept). k.bytes)) (leads.1.there ∙ sym (found_of kept table key pointer leads.0 leads.1.there)) ∙ bytes

-- the version that was read behind a pointer
pub record IsRead (schema : Schema) (key read : List ℕ) (kept : ℕ → Option Kept) (left : List Version) : Type 0 where
  pub version : Coded
  pub code_is : IsCodeOf schema key read version
  pub rest : List Version
  pub left_is : left ≡ shown version ∷ rest
  pub leads : LeadTo schema key kept version.pointer rest

pub version_read : (schema : Schema) (key read : List ℕ) (kept : ℕ → Option Kept) (pointer : ℕ) (left : List Version) → LeadTo schema key kept pointer left
    → pointer ≢ 0 → option_map (λ (k : Kept). k.bytes) (kept pointer) ≡ Some read → IsRead schema key read kept left
version_read schema key read kept pointer [] is leads_on bytes = absurd (leads_on is)
version_read schema key read kept pointer (version ∷ rest) is leads_on bytes =
    let same : Some is.0.bytes ≡ Some read = rw is.1.there at bytes in
    let read_is : is.0.bytes ≡ read = cc in
    let first = ap (λ (v : Version). v ∷ rest) (sym is.1.shown_is) in
    record { version = is.0.version; code_is = rw read_is at is.1.code_is; rest = rest; left_is = first; leads = is.2 }

-- ---- the value

module _ {schema : Schema} {key : List ℕ} (which : ℕ) (storable : IsStorable schema) (within : which < length schema.keys) {bytes read : List ℕ}
    {coded version : Coded} (code : IsCodeOf schema key bytes coded) (also : IsCodeOf schema key read version) where
  abbrev entry : Coded → List ℕ
  entry v = entry_of schema (which + 1) v.row key

  abbrev value : Coded → Value
  value v = value_in (column_of schema which) v.row

  -- one entry is one value
  pub values_same : entry coded ≡ entry version → value coded ≡ value version
  values_same same =
      let it = key_at schema storable which within in
      let first = entry_there schema key bytes coded it.key.column it.on.column code it.on.there in
      let second = entry_there schema key read version it.key.column it.on.column also it.on.there in
      let entries = sym (it.entry_is coded.row key) ∙ (same ∙ it.entry_is version.row key) in
      rw it.column_is (same_entry it.on.column.kind _ _ key key first.0 second.0 first.1 second.1 entries).0

  pub found_here : version.marked ≡ false → entry coded ≡ entry version → (rest : List Version) → some_has schema which coded (shown version ∷ rest) ≡ true
  found_here plain same rest = rw (plain, ← values_same same, value_itself (value coded))

  pub passed_here : (version.marked ≡ true) ⊎ (entry coded ≢ entry version) → (rest : List Version)
      → some_has schema which coded (shown version ∷ rest) ≡ some_has schema which coded rest
  passed_here (inl is) rest = rw is
  passed_here (inr differ) rest = go version.marked where
    apart : is_same_value (value coded) (value version) ≡ false
    apart = false_from_ne_true _ (λ is. differ (rw (one_less which, same_value (value coded) (value version) is)))

    go : (m : Bool) → has_value (column_of schema which) (value coded) (row_shown m version.row) || some_has schema which coded rest
        ≡ some_has schema which coded rest
    go true = refl
    go false = rw apart

-- ---- the steps of a taking back: how each leaves what is known, those that deal with the entries of a key, and those of the record

-- the entry of the record with these bytes is written, if they are one
abbrev pub Writes : WorldState → Undo → ℕ → List ℕ → List ℕ → Bool → Type 0
Writes state undo which value entry result =
    (schema : Schema) (version : Coded) → slice_get state.schemas undo.table ≡ Some schema → IsVersion version → IsRecordOf schema version undo.key value
    → length (entry_of schema (which + 1) version.row undo.key) ≤ 67
    → IsTrue result × (entry ≡ entry_of schema (which + 1) version.row undo.key)

-- a key that isn't there is removed from the pairs of an index in vain
pub unchanged_at : (index : ℕ) (key : List ℕ) (pairs : ℕ → List Pair) (other : ℕ) → value_of key (pairs index) ≡ None
    → pairs_after index key None pairs other ≡ pairs other
unchanged_at index key pairs other none =
    ⊎_elim (λ same. rw same (rw (eq-eqb index index refl) (absent_stays key (pairs index) none))) (λ differs. rw (ne_eqb other index differs))
    (cases_eq other index)

-- the version before has as many bytes as the newest
pub as_long : (undo : Undo) (schema : Schema) (kept : ℕ → Option Kept) (bytes : List ℕ) (coded : Coded) (before : List Version)
    → IsCodeOf schema undo.key bytes coded → LeadTo schema undo.key kept coded.pointer before → LeadsBack undo kept coded.pointer → undo.kind ≢ 1
    → length bytes ≡ length undo.value
as_long undo schema kept bytes coded before code leads_on (inl new) other = absurd (other new.0)
as_long undo schema kept bytes coded before code leads_on (inr (kind, leads, former, keeps, same)) other =
    let read = pointer_followed schema undo.key kept coded.pointer before former leads_on leads keeps in
    ap length code.record_is.value_is ∙ length-version_code schema coded code.record_is.fits
    ∙ sym (ap length read.0.record_is.value_is ∙ length-version_code schema former.version read.0.record_is.fits) ∙ ap length same

pub not_done_test : (answer : Move) → answer ≢ Done → is_done answer ≡ false
not_done_test other differs = search rules

module _ {chains : Chains} {beside : Said} {place : Place} (actor : ℕ) {undo : Undo} {room : WorkRoom} {old : WorldState}
    (is : IsPuttingBack chains beside place undo room old) where
  abbrev Back : WorkRoom → WorldState → Move → Type 0
  Back next new answer = PutsBack chains beside place actor undo room next old new answer

  -- what the room and the answer have become is a step
  abbrev HandsOn : (WorkRoom → Move → Type 0) → WorldState → Type 0
  HandsOn On new = (after : WorkRoom) (reached : Move) → On after reached → Back after new reached

  abbrev keys : ℕ
  keys = length is.schema.keys

  abbrev before : List Version
  before = versions_before chains place

  -- what is known at a stage, of rows
  abbrev At : Rows → Stage → Type 0
  At rows stage = StageHolds chains beside place undo is.schema rows room.newest.items stage

  is_back : (next : WorkRoom) (new : WorldState) → new.schemas ≡ old.schemas → IsWhole next → FitsKeys keys undo next.stage
      → (IsTold new → StageHolds chains beside place undo is.schema (rows_of new) next.newest.items next.stage)
      → IsPuttingBack chains beside place undo next new
  is_back next new schemas whole fits holds =
      record { schema = is.schema; tells = rw schemas is.tells; whole = whole; fits = fits; holds = holds }

  one_schema : (schema : Schema) (new : WorldState) → new.schemas ≡ old.schemas → slice_get new.schemas undo.table ≡ Some schema → is.schema ≡ schema
  one_schema schema new same there = let was : slice_get old.schemas undo.table ≡ Some schema = rw same at there in cc (was, is.tells.there)

  -- The step was made.
  went : (next : WorkRoom) (new : WorldState) → new.schemas ≡ old.schemas → ChangesOneEntry is.schema undo old new → IsWhole next
      → FitsKeys keys undo next.stage → (IsTold new → StageHolds chains beside place undo is.schema (rows_of new) next.newest.items next.stage)
      → Nears is.schema undo new room.stage next.stage → Back next new Step
  went next new schemas changes whole fits holds nears = inl (record {
    changes = λ schema there. rw (← one_schema schema new schemas there) changes;
    holds = is_back next new schemas whole fits holds;
    nears = λ schema there. rw (← one_schema schema new schemas there) nears;
  })

  hindrance_is : (next : WorkRoom) (new : WorldState) (answer : Move) → answer ≢ Done → IsHindered chains beside place actor undo room next old new answer
      → Back next new answer
  hindrance_is next new other not_done is = search rules

  -- It was not.
  hindered : (next : WorkRoom) (new : WorldState) (answer : Move) → answer ≢ Done → RowsStayBut actor old new → next.stage ≡ room.stage
      → next.newest.items ≡ room.newest.items → IsWhole next → StopsAt actor undo room.stage old new answer → Back next new answer
  hindered next new answer not_done stays stage bytes whole cause = hindrance_is next new answer not_done (record {
    stays = stays;
    stage_is = stage;
    holds = is_back next new (rows_left_but stays).schemas whole (rw stage is.fits)
        (λ told. rw (stage, bytes, leaves_rows (rows_left_but stays) told) (is.holds (leaves_told (rows_left_but stays) told)));
    cause = cause;
  })

  -- ---- the versions before

  module _ {rows : Rows} {bytes : List ℕ} {coded : Coded} {done : ℕ} {Says : List Version → Type 0} (tells : TellsOf undo is.schema place rows.schemas)
      (way : IsUnderWay chains beside place undo is.schema rows bytes coded done Says) where
    -- the older versions, and whether there was a row
    what_stood : LeadTo is.schema undo.key rows.kept coded.pointer before × (WasThere undo is.schema before ⊎ WasNot undo before)
    what_stood =
        let read = newest_read undo is.schema place rows.schemas tells rows.pairs rows.kept chains bytes coded way.coded_but.clustered way.newest in
        (read.1, what_was undo is.schema rows.kept coded.pointer before way.newest.before read.1)

    was_there : had_row undo ≡ true → WasThere undo is.schema before
    was_there had = ⊎_elim (λ was. was) (λ (was : WasNot undo before). absurd (true≢false (sym had ∙ was.had))) what_stood.1

  -- ---- the stage that the room is at, and the next one

  held : (stage : Stage) → room.stage ≡ stage → IsTold old → At (rows_of old) stage
  held stage is_at told = rw is_at at (is.holds told)

  pub fitting : (stage : Stage) → room.stage ≡ stage → FitsKeys keys undo stage
  fitting stage is_at = rw is_at at is.fits

  -- the buffers that a step leaves as they were
  pub record Leaves (mid : WorkRoom) : Type 0 where
    pub stage : mid.stage ≡ room.stage
    pub newest : mid.newest.items ≡ room.newest.items
    pub whole : IsWhole mid

  leaves_by : (older next : Vec ℕ Global) (entry : List ℕ) → vec_capacity room.older ≤ vec_capacity older → vec_capacity room.next ≤ vec_capacity next
      → Leaves (record room { entries = entry; older = older; next = next })
  leaves_by older next entry deep wide = record {
    stage = refl;
    newest = refl;
    whole = record {
      newest = is.whole.newest;
      older = omega (arith, is.whole.older, deep);
      next = omega (arith, is.whole.next, wide);
      marked = is.whole.marked;
      unmarked = is.whole.unmarked;
    };
  }

  pub written_leaves : (entry : List ℕ) → Leaves (record room { entries = entry })
  written_leaves entry = leaves_by room.older room.next entry (omega arith) (omega arith)

  -- another key was read
  pub nexted_leaves : (entry : List ℕ) (read : Vec ℕ Global) → vec_capacity room.next ≤ vec_capacity read
      → Leaves (record room { entries = entry; next = read })
  nexted_leaves entry read holds = leaves_by room.older read entry (omega arith) holds

  -- an older version was read
  older_leaves : (read : Vec ℕ Global) → vec_capacity room.older ≤ vec_capacity read → Leaves (record room { older = read })
  older_leaves read holds = leaves_by read room.next room.entries holds (omega arith)

  pub room_leaves : Leaves room
  room_leaves = record { stage = refl; newest = refl; whole = is.whole }

  went_to : (mid : WorkRoom) → Leaves mid → (stage next : Stage) → room.stage ≡ stage → (new : WorldState) → new.schemas ≡ old.schemas
      → ChangesOneEntry is.schema undo old new → FitsKeys keys undo next → (IsTold new → At (rows_of new) next) → steps_left keys next < steps_left keys stage
      → Back (at_stage next mid) new Step
  went_to mid leaves stage next is_at new schemas changes fits holds nearer =
      let w = leaves.whole in
      went (at_stage next mid) new schemas changes
      (record { newest = w.newest; older = w.older; next = w.next; marked = w.marked; unmarked = w.unmarked }) fits
      (λ told. rw leaves.newest (holds told)) (inl (rw is_at nearer))

  -- no row has changed
  moved : (mid : WorkRoom) → Leaves mid → (stage next : Stage) → room.stage ≡ stage → (new : WorldState) → RowsStay old new → FitsKeys keys undo next
      → (IsTold old → At (rows_of old) stage → At (rows_of old) next) → steps_left keys next < steps_left keys stage → Back (at_stage next mid) new Step
  moved mid leaves stage next is_at new stays fits holds nearer =
      went_to mid leaves stage next is_at new (schemas_stay stays) (inl stays) fits
      (λ told. let was = stays_told old new stays told in rw (rows_stay stays told) (holds was (held stage is_at was))) nearer

  stopped_but : (stage : Stage) → room.stage ≡ stage → (mid : WorkRoom) → Leaves mid → (new : WorldState) (answer : Move) → answer ≢ Done
      → RowsStayBut actor old new → StopsAt actor undo stage old new answer → Back mid new answer
  stopped_but stage is_at mid leaves new answer not_done stays cause =
      hindered mid new answer not_done stays leaves.stage leaves.newest leaves.whole (rw is_at cause)

  stopped_by : (stage : Stage) → room.stage ≡ stage → (mid : WorkRoom) → Leaves mid → (new : WorldState) (answer : Move) → answer ≢ Done
      → RowsStay old new → StopsAt actor undo stage old new answer → Back mid new answer
  stopped_by stage is_at mid leaves new answer not_done stays cause = stopped_but stage is_at mid leaves new answer not_done (stay_but stays) cause

  -- ---- answers

  -- the call was done, and the stage is another; or the room is as it was
  went_on : (next : Stage) (mid : WorkRoom) (new : WorldState) (Call : Move → Type 0) → (Call Done → Back (at_stage next mid) new Step)
      → ((answer : Move) → answer ≢ Done → Call answer → Back mid new answer) → (answer : Move) → Call answer → HandsOn (WentOn next answer mid) new
  went_on next mid new Call done other Done call after reached on = rw (on.0, on.1) (done call)
  went_on next mid new Call done other answer call after reached on = rw (on.0, on.1) (other answer (λ e. cc) call)

  -- the same where nothing to be done is as good
  went_or_ended : (next : Stage) (mid : WorkRoom) (new : WorldState) (Call : Move → Type 0) → (Call Done → Back (at_stage next mid) new Step)
      → (Call End → Back (at_stage next mid) new Step) → ((answer : Move) → answer ≢ Done → answer ≢ End → Call answer → Back mid new answer)
      → (answer : Move) → Call answer → HandsOn (WentOnOrEnded next answer mid) new
  went_or_ended next mid new Call done ended other Done call after reached on = rw (on.0, on.1) (done call)
  went_or_ended next mid new Call done ended other End call after reached on = rw (on.0, on.1) (ended call)
  went_or_ended next mid new Call done ended other answer call after reached on = rw (on.0, on.1) (other answer (λ e. cc) (λ e. cc) call)

  -- ---- the record

  abbrev records : ℕ
  records = clustered_index undo.table

  -- the change stands yet
  abbrev Stands : Type 0
  Stands = (read : List ℕ) × (coded : Coded) × IsUnderWay chains beside place undo is.schema (rows_of old) read coded 0 (IsLagging (shown coded) before)

  -- the record was looked for
  module _ (is_at : room.stage ≡ Find) (read : Vec ℕ Global) (holds : vec_capacity room.newest ≤ vec_capacity read) (new : WorldState) where
    abbrev Fetching : Move → Type 0
    Fetching answer = Calls records (λ b a. Fetches actor undo.key read.items b a answer) old new

    -- the room with what was read
    abbrev found : WorkRoom
    found = record room { newest = read }

    found_whole : (stage : Stage) → IsWhole (at_stage stage found)
    found_whole stage =
        let w = is.whole in
        record { newest = omega (arith, w.newest, holds); older = w.older; next = w.next; marked = w.marked; unmarked = w.unmarked }

    fetched : (answer : Move) → Fetching answer → RowsStay old new
    fetched answer calls =
        stays_if calls (fetch_keeps actor undo.key read.items (old.indexes records) (new.indexes records) answer calls.index_is.here)

    there : Fetching Done → IsTold old → value_of undo.key ((rows_of old).pairs records) ≡ Some read.items
    there calls told = told_of (λ pairs. value_of undo.key pairs ≡ Some read.items) old records told calls.index_is.here.0

    -- Where the record is what it was before, the change had been taken back.
    is_left : RowsStay old new → (IsTold old → value_of undo.key ((rows_of old).pairs records) ≡ was_before undo) → Back found new Done
    is_left stays same = record {
      changes = inl stays;
      whole = found_whole room.stage;
      anew = is_at;
      popped = λ told differs. absurd (differs (same (stays_told old new stays told)));
      again = λ told gone. (
        stays,
        rw (rows_stay stays told) (⊎_elim
            (λ (way : Stands). absurd
            (stands chains beside place undo is.schema (rows_of old) way.0 way.1 0 (IsLagging (shown way.1) before) is.tells way.2 gone))
            (λ taken. taken) (held Find is_at (stays_told old new stays told))),
      );
    }

    pub find_again : Fetching Done → Some read.items ≡ was_before undo → Back found new Done
    find_again calls same = is_left (fetched Done calls) (λ told. there calls told ∙ same)

    -- no record stands: there was none before, and the change had been taken back
    pub find_none : Fetching End → Back found new Done
    find_none calls =
        is_left (fetched End calls) (λ told. let none = told_of (λ pairs. value_of undo.key pairs ≡ None) old records told calls.index_is.here.0 in
        ⊎_elim (λ (way : Stands). absurd (let e : None ≡ Some way.0 = sym none ∙ way.2.newest.there in cc))
        (λ (taken : IsTakenBack chains beside place undo (rows_of old)). taken.there) (held Find is_at told))

    pub find_on : Fetching Done → (Some read.items ≡ was_before undo → ⊥) → Back (at_stage (Key 0) found) new Step
    find_on calls differs =
        let stays = fetched Done calls in
        went (at_stage (Key 0) found) new (schemas_stay stays) (inl stays) (found_whole (Key 0)) (omega arith) (λ told.
        let was = stays_told old new stays told in
        rw (rows_stay stays told) (⊎_elim (λ (way : Stands).
        let some : Some way.0 ≡ Some read.items = sym way.2.newest.there ∙ there calls was in
        let one : way.0 ≡ read.items = cc in
        (way.1, rw one at way.2)) (λ (taken : IsTakenBack chains beside place undo (rows_of old)). absurd (differs (sym (there calls was) ∙ taken.there)))
        (held Find is_at was))) (inl (rw is_at (omega arith)))

    pub find_stopped : (answer : Move) → Fetching answer → read.items ≡ room.newest.items → answer ≢ Done → answer ≢ End → Back found new answer
    find_stopped answer calls same not_done not_end =
        hindered found new answer not_done (stay_but (fetched answer calls)) refl same (found_whole room.stage)
        (rw is_at (delay_stops actor old new records answer
        (fetch_delays actor undo.key read.items (old.indexes records) (new.indexes records) answer calls.index_is.here not_done not_end)))

  -- ---- the record is put back

  module _ (is_at : room.stage ≡ Record) (mid : WorkRoom) (leaves : Leaves mid) (new : WorldState) where
    -- the record is what it was before, and the newest version is gone
    ended : PutsPair records undo.key (was_before undo) old new → Back (at_stage Find mid) new Done
    ended puts = record {
      changes = inr puts;
      whole = (let w = leaves.whole in record { newest = w.newest; older = w.older; next = w.next; marked = w.marked; unmarked = w.unmarked });
      anew = refl;
      popped = λ told differs after pops.
          let h = held Record is_at (put_told records undo.key (was_before undo) old new puts told) in
          rw (rows_after puts told) (ends chains beside (rows_of old) is.tells h.1 after pops);
      again = λ told gone.
          let h = held Record is_at (put_told records undo.key (was_before undo) old new puts told) in
          absurd (stands chains beside place undo is.schema (rows_of old) room.newest.items h.0 keys (IsLagging (shown h.0) before) is.tells h.1 gone);
    }

    -- the call was done, and all is; or the room is as it was
    last_step : (Call : Move → Type 0) → (Call Done → PutsPair records undo.key (was_before undo) old new)
        → ((answer : Move) → answer ≢ Done → Call answer → RowsStayBut actor old new × StopsRemoval actor records old new answer) → (answer : Move)
        → Call answer → HandsOn (Ended answer mid) new
    last_step Call done other Done call after reached on = rw (on.0, on.1) (ended (done call))
    last_step Call done other answer call after reached on =
        let why = other answer (λ e. cc) call in rw (on.0, on.1) (stopped_but Record is_at mid leaves new answer (λ e. cc) why.0 why.1)

    pub remove_record : undo.kind ≡ 1 → (answer : Move) → RemovesPair actor records undo.key old new answer → HandsOn (Ended answer mid) new
    remove_record kind = last_step (λ answer. RemovesPair actor records undo.key old new answer) (λ puts. rw (before_new undo kind) puts) hinders
      where
        hinders : (answer : Move) → answer ≢ Done → RemovesPair actor records undo.key old new answer
            → RowsStayBut actor old new × StopsRemoval actor records old new answer
        hinders Done other h = absurd (other refl)
        hinders End other h = (
          stay_but h.0,
          inl (λ told. let there = sym (held Record is_at told).1.newest.there ∙ told_of (λ pairs. value_of undo.key pairs ≡ None) old records told h.1 in cc),
        )
        hinders answer other h = h

    pub replace_record : undo.kind ≢ 1 → (answer : Move)
        → Changes records actor None (λ b a ans. ReplacesWith None actor undo.key undo.value b a ans) old new answer → HandsOn (Ended answer mid) new
    replace_record kind =
        last_step (Changes records actor None (λ b a ans. ReplacesWith None actor undo.key undo.value b a ans) old new)
        (λ changes. rw (not_new undo kind) (puts_if undo.key (Some undo.value) changes changes.index_is.here.1)) (λ answer other changes. (
          stay_but (change_stays_if changes
              (replace_leaves None actor undo.key undo.value (old.indexes records) (new.indexes records) answer changes.index_is.here other).0),
          inl (replace_stops actor old new records undo.key undo.value answer there changes.index_is.here other),
        ))
      where
        there : IsTold old → IsThereAs undo.key undo.value old records
        there told =
            let h = held Record is_at told in
            let long =
            as_long undo is.schema (rows_of old).kept room.newest.items h.0 before h.1.newest.code_is (what_stood is.tells h.1).0 h.1.newest.before kind in
            (room.newest.items, h.1.newest.there, long)

  -- ---- the entries of a key

  module _ (which : ℕ) where
    abbrev number : ℕ
    number = key_index undo.table which

    abbrev written : List ℕ → WorkRoom
    written entry = record room { entries = entry }

    written_is : (value entry : List ℕ) (result : Bool) (version : Coded) → Writes old undo which value entry result → which < keys
        → IsCodeOf is.schema undo.key value version → IsTrue result × (entry ≡ entry_of is.schema (which + 1) version.row undo.key)
    written_is value entry result version writes within code =
        writes is.schema version is.tells.there code.numbers code.record_is (entry_short which is.tells within code)

    abbrev Unwritten : List ℕ → Type 0
    Unwritten value = (entry : List ℕ) (result : Bool) → Writes old undo which value entry result → result ≡ false → Back (written entry) old NoMemory

    -- No entry is written only where not all is told.
    unwritten : (stage : Stage) → room.stage ≡ stage → ((IsTold old → ⊥) → StopsAt actor undo stage old old NoMemory) → (value : List ℕ) → which < keys
        → (IsTold old → At (rows_of old) stage → (version : Coded) × IsCodeOf is.schema undo.key value version) → Unwritten value
    unwritten stage is_at stops value within code entry result writes false_is =
        stopped_by stage is_at (written entry) (written_leaves entry) old NoMemory (λ e. cc) (same_rows old) (stops (λ told.
        let it = code told (held stage is_at told) in true≢false (sym (written_is value entry result it.0 writes within it.1).0 ∙ false_is)))

    -- ---- the entry of a record has another value, or none

    entry_at : (value entry : List ℕ) (version : Coded) → which < keys → IsCodeOf is.schema undo.key value version
        → entry ≡ entry_of is.schema (which + 1) version.row undo.key → IsEntryAt is.schema which undo.key entry
    entry_at value entry version within code entry_is =
        let it = key_at is.schema is.tells.storable which within in
        record {
          key = it.key;
          key_is = it.key_is;
          indexed = it.on.column;
          indexed_is = it.on.there;
          value = value_in it.key.column version.row;
          has = entry_there is.schema undo.key value version it.key.column it.on.column code it.on.there;
          spelled = entry_is ∙ it.entry_is version.row undo.key;
        }

    -- the rows once the entry of a record has this value
    abbrev Put : Coded → Option (List ℕ) → Rows
    Put version value = with_entry chains beside (rows_of old) is.tells which version value

    entry_done : (stage next : Stage) → room.stage ≡ stage → (mid : WorkRoom) → Leaves mid → (entry : List ℕ) (value now : Option (List ℕ)) (new : WorldState)
        → which < keys
        → PutsPair number entry value old new → value ≡ now → FitsKeys keys undo next → steps_left keys next < steps_left keys stage
        → (IsTold old → IsEntryAt is.schema which undo.key entry)
        → (IsTold old → (version : Coded) × (entry ≡ entry_of is.schema (which + 1) version.row undo.key) × At (Put version now) next)
        → Back (at_stage next mid) new Step
    entry_done stage next is_at mid leaves entry value now new within puts value_is fits nearer its holds =
        went_to mid leaves stage next is_at new (ap (λ (s : WorldState). s.schemas) puts.rest)
        (inr (which, within, entry, value, puts, its)) fits (λ told.
        let h = holds (put_told number entry value old new puts told) in
        let rows : rows_of new ≡ Put h.0 now =
        rows_after puts told ∙ (λ i. record (rows_of old) { pairs = pairs_after number (h.1 i) (value_is i) (rows_of old).pairs }) in
        rw rows h.2) nearer

    abbrev Changing : List ℕ → List ℕ → WorldState → Move → Type 0
    Changing entry value new answer = Changes number actor None (λ b a ans. ReplacesWith None actor entry value b a ans) old new answer

    abbrev following : Stage
    following = cond (had_row undo) (Unmark which) (Key (which + 1))

    -- what comes once a key is clear
    record Comes (next : Stage) : Type 0 where
      pub fits : FitsKeys keys undo next
      pub nearer : steps_left keys next < 4 * (keys - which) + 2
      pub holds : (rows : Rows) (coded : Coded) → TellsOf undo is.schema place rows.schemas
          → IsUnderWay chains beside place undo is.schema rows room.newest.items coded which (IsCleared before) → At rows next

    comes : which < keys → Comes following
    comes within = go (had_row undo) refl where
      go : (b : Bool) → had_row undo ≡ b → Comes (cond b (Unmark which) (Key (which + 1)))
      go true had = record { fits = (within, had); nearer = omega arith; holds = λ rows coded tells way. (coded, way) }
      go false had = record {
        fits = omega (arith, within);
        nearer = omega (arith, within);
        holds = λ rows coded tells way. (
          coded,
          ⊎_elim (λ (was : WasThere undo is.schema before). absurd (true≢false (sym was.had ∙ had)))
              (λ (was : WasNot undo before). passed chains beside rows tells was way) (what_stood tells way).1,
        );
      }

    follows : (stage : Stage) → which < keys → 4 * (keys - which) + 2 ≤ steps_left keys stage → steps_left keys following < steps_left keys stage
    follows stage within far = let less = (comes within).nearer in omega (arith, less, far)

    -- The entry of a record is changed in place: the key says that one of the versions has its value.
    record Marks (value : List ℕ) (now : Option (List ℕ)) (next : Stage) : Type 0 where
      pub version : Coded
      pub code : IsCodeOf is.schema undo.key value version
      pub said : ℕ → List Version
      pub coded_but : AreCodedBut old.schemas (pairs_of old) old.versions.kept_at chains beside place said
      pub some : some_has is.schema which version (said which) ≡ true
      pub holds : At (Put version now) next

    -- the entry's mark is another, or the call was not done
    replace_step : (stage next : Stage) → room.stage ≡ stage → which < keys → FitsKeys keys undo next → steps_left keys next < steps_left keys stage
        → ((new : WorldState) (answer : Move) → Stops actor number old new answer → StopsAt actor undo stage old new answer)
        → (value mark : List ℕ) (byte : ℕ) → mark ≡ byte ∷ [] → (IsTold old → At (rows_of old) stage → Marks value (Some (byte ∷ [])) next)
        → (entry : List ℕ) (result : Bool) → Writes old undo which value entry result → (new : WorldState) (answer : Move) → Changing entry mark new answer
        → HandsOn (WentOn next answer (written entry)) new
    replace_step stage next is_at within fits nearer stops value mark byte mark_is marks entry result writes new =
        went_on next (written entry) new (Changing entry mark new) (λ changes.
        entry_done stage next is_at (written entry) (written_leaves entry) entry (Some mark) (Some (byte ∷ [])) new within
        (puts_if entry (Some mark) changes changes.index_is.here.1) (ap Some mark_is) fits nearer (λ told. let it = marked told in
        entry_at value entry it.version within it.code (written_is value entry result it.version writes within it.code).1) (λ told. let it = marked told in
        (it.version, (written_is value entry result it.version writes within it.code).1, it.holds)))
        (λ answer other changes. stopped_by stage is_at (written entry) (written_leaves entry) new answer other
        (change_stays_if changes (replace_leaves None actor entry mark (old.indexes number) (new.indexes number) answer changes.index_is.here other).0)
        (stops new answer (replace_stops actor old new number entry mark answer there changes.index_is.here other)))
      where
        marked : IsTold old → Marks value (Some (byte ∷ [])) next
        marked told = marks told (held stage is_at told)

        there : IsTold old → IsThereAs entry mark old number
        there told =
            let it = marked told in
            let one = one_byte (column_of is.schema which) (value_in (column_of is.schema which) it.version.row) (it.said which) it.some in
            let says = entry_says chains beside place undo is.schema (rows_of old) is.tells it.said which it.version value within it.coded_but it.code
            (ap is_some one.1) in
            (one.0 ∷ [], rw (written_is value entry result it.version writes within it.code).1 (says ∙ one.1), sym (ap length mark_is))

    pub mark_step : room.stage ≡ Mark which → (entry : List ℕ) (result : Bool) → Writes old undo which room.newest.items entry result
        → (new : WorldState) (answer : Move) → Changing entry room.marked new answer → HandsOn (WentOn following answer (written entry)) new
    mark_step is_at =
        let within = fitting (Mark which) is_at in
        replace_step (Mark which) following is_at within (comes within).fits (follows (Mark which) within (omega arith))
        (λ new answer h. h) room.newest.items room.marked 1 is.whole.marked (λ told h. record {
          version = h.0;
          code = h.1.newest.code_is;
          said = h.1.said;
          coded_but = h.1.coded_but;
          some = lagging_any (column_of is.schema which) _ (shown h.0) before (h.1.said which) h.2.found_is h.1.says.here;
          holds = (comes within).holds (Put h.0 (Some (1 ∷ []))) h.0 is.tells
              (dropped chains beside (rows_of old) is.tells which true within h.1 h.2.plain h.2.found_is);
        })

    pub mark_unwritten : room.stage ≡ Mark which → Unwritten room.newest.items
    mark_unwritten is_at =
        unwritten (Mark which) is_at (λ h. h) room.newest.items (fitting (Mark which) is_at) (λ told h. (h.0, h.1.newest.code_is))

    -- ---- the newest row's entry is removed

    module _ (is_at : room.stage ≡ Remove which) (entry : List ℕ) (result : Bool) (writes : Writes old undo which room.newest.items entry result)
        (mid : WorkRoom) (leaves : Leaves mid) (new : WorldState) where
      abbrev Removing : Move → Type 0
      Removing answer = RemovesPair actor number entry old new answer

      within : which < keys
      within = fitting (Remove which) is_at

      -- the rows without the entry are those of a key that is clear
      remove_holds : IsTold old → (version : Coded) × (entry ≡ entry_of is.schema (which + 1) version.row undo.key) × At (Put version None) following
      remove_holds told =
          let h = held (Remove which) is_at told in (
            h.0,
            (written_is room.newest.items entry result h.0 writes within h.1.newest.code_is).1,
            (comes within).holds (Put h.0 None) h.0 is.tells (dropped chains beside (rows_of old) is.tells which false within h.1 h.2.plain h.2.found_is),
          )

      remove_ended : Removing End → Back (at_stage following mid) new Step
      remove_ended calls =
          moved mid leaves (Remove which) following is_at new calls.0 (comes within).fits (λ told known.
          let h = remove_holds told in
          let none = told_of (λ pairs. value_of entry pairs ≡ None) old number told calls.1 in
          let same : Put h.0 None ≡ rows_of old = λ i. record (rows_of old) {
            pairs = λ other. unchanged_at number (entry_of is.schema (which + 1) h.0.row undo.key) (pairs_of old) other (rw h.1 at none) i;
          } in
          subst (λ (r : Rows). At r following) same h.2) (follows (Remove which) within (omega arith))

      put_off : (answer : Move) → answer ≢ Done → answer ≢ End → Removing answer → RowsStayBut actor old new × StopsRemoval actor number old new answer
      put_off Done not_done not_end h = absurd (not_done refl)
      put_off End not_done not_end h = absurd (not_end refl)
      put_off answer not_done not_end h = h

      pub remove_step : (answer : Move) → Removing answer → HandsOn (WentOnOrEnded following answer mid) new
      remove_step =
          went_or_ended following mid new Removing
          (λ puts. entry_done (Remove which) following is_at mid leaves entry None None new within puts refl
          (comes within).fits (follows (Remove which) within (omega arith)) (λ told.
          let h = held (Remove which) is_at told in
          entry_at room.newest.items entry h.0 within h.1.newest.code_is
          (written_is room.newest.items entry result h.0 writes within h.1.newest.code_is).1) remove_holds) remove_ended
          (λ answer not_done not_end h. let why = put_off answer not_done not_end h in
          stopped_but (Remove which) is_at mid leaves new answer not_done why.0 why.1)

    pub remove_unwritten : room.stage ≡ Remove which → Unwritten room.newest.items
    remove_unwritten is_at =
        unwritten (Remove which) is_at (λ h. inl h) room.newest.items (fitting (Remove which) is_at) (λ told h. (h.0, h.1.newest.code_is))

    -- ---- the entry of the row before is unmarked

    pub unmark_step : room.stage ≡ Unmark which → (entry : List ℕ) (result : Bool) → Writes old undo which undo.value entry result
        → (new : WorldState) (answer : Move) → Changing entry room.unmarked new answer → HandsOn (WentOn (Key (which + 1)) answer (written entry)) new
    unmark_step is_at =
        let fits = fitting (Unmark which) is_at in
        replace_step (Unmark which) (Key (which + 1)) is_at fits.0 (omega (arith, fits.0)) (omega (arith, fits.0)) (λ new answer h. h) undo.value
        room.unmarked 0 is.whole.unmarked (λ told h. let was = was_there is.tells h.1 fits.1 in let column = column_of is.schema which in record {
          version = was.former;
          code = was.code_is;
          said = h.1.said;
          coded_but = h.1.coded_but;
          some = cleared_any column _ before (h.1.said which) (newest_any column was.former.row before was.first) h.1.says.here;
          holds = (h.0, unmarked_now chains beside (rows_of old) is.tells which was fits.0 h.1);
        })

    pub unmark_unwritten : room.stage ≡ Unmark which → Unwritten undo.value
    unmark_unwritten is_at =
        let fits = fitting (Unmark which) is_at in
        unwritten (Unmark which) is_at (λ h. h) undo.value fits.0 (λ told h. let was = was_there is.tells h.1 fits.1 in (was.former, was.code_is))

    -- ---- what the entries of a key ask for

    module _ (is_at : room.stage ≡ Key which) where
      -- so many keys the table has
      abbrev Counts : ℕ → Type 0
      Counts count = (schema : Schema) → slice_get old.schemas undo.table ≡ Some schema → count ≡ length schema.keys

      pub within_key : {count : ℕ} → Counts count → which < count → which < keys
      within_key {count} counted less = omega (arith, less, counted is.schema is.tells.there)

      -- the keys are done
      look_last : {count : ℕ} → Counts count → count ≤ which → (next : Stage) → FitsKeys keys undo next
          → ((coded : Coded) → LagsAt chains beside place undo is.schema (rows_of old) room.newest.items keys coded → At (rows_of old) next)
          → steps_left keys next < 4 → Back (at_stage next room) old Step
      look_last {count} counted more next fits holds near =
          let all : which ≡ keys = (let fits = fitting (Key which) is_at in omega (arith, more, fits, counted is.schema is.tells.there)) in
          moved room room_leaves (Key which) next is_at old (same_rows old) fits (λ told h. holds h.0 (rw all at h.1)) (omega (arith, near))

      pub look_kept : {count : ℕ} → Counts count → count ≤ which → Back (at_stage Record room) old Step
      look_kept counted more = look_last counted more Record tt (λ coded lags. (coded, lags)) (omega arith)

      module _ (within : which < keys) (marked : Bool)
          (mark : (marks : Bool) (writer pointer : ℕ) (fields : List ℕ) → room.newest.items ≡ head_code marks writer pointer ++ fields → marked ≡ marks) where
        mark_of : (coded : Coded) → IsCodeOf is.schema undo.key room.newest.items coded → coded.marked ≡ marked
        mark_of coded code =
            sym (mark coded.marked coded.writer coded.pointer (others_code is.schema.primary is.schema.columns coded.row) code.record_is.value_is)

        -- the newest version has no row
        pub look_gone : marked ≡ true → Back (at_stage following room) old Step
        look_gone is_marked =
            moved room room_leaves (Key which) following is_at old (same_rows old) (comes within).fits (λ told h.
            let gone = mark_of h.0 h.1.newest.code_is ∙ is_marked in
            (comes within).holds (rows_of old) h.0 is.tells (clear_unless_row chains beside (rows_of old) is.tells gone h.1))
            (follows (Key which) within (omega arith))

        abbrev OneEntry : Bool → Type 0
        OneEntry result =
            (schema : Schema) (first second : Coded) → slice_get old.schemas undo.table ≡ Some schema → IsVersion first → IsVersion second → IsRecordOf schema
            first undo.key room.newest.items → IsRecordOf schema second undo.key undo.value
            → length (entry_of schema (which + 1) first.row undo.key) ≤ 67 → length (entry_of schema (which + 1) second.row undo.key) ≤ 67
            → (IsTrue result → entry_of schema (which + 1) first.row undo.key ≡ entry_of schema (which + 1) second.row undo.key) ×
            (entry_of schema (which + 1) first.row undo.key ≡ entry_of schema (which + 1) second.row undo.key → IsTrue result)

        -- the newest row has the value of the row before
        pub look_same : marked ≡ false → had_row undo ≡ true → (entry : List ℕ) (same : Bool) → OneEntry same → same ≡ true
            → Back (at_stage (Unmark which) (record room { entries = entry })) old Step
        look_same not_marked had entry same one is_same =
            moved (written entry) (written_leaves entry) (Key which) (Unmark which) is_at old (same_rows old) (within, had) (λ told h.
            let code = h.1.newest.code_is in
            let was = was_there is.tells h.1 had in
            let entries =
            (one is.schema h.0 was.former is.tells.there code.numbers was.code_is.numbers code.record_is was.code_is.record_is
            (entry_short which is.tells within code) (entry_short which is.tells within was.code_is)).0 is_same in
            let values = values_same which is.tells.storable within code was.code_is entries in
            (h.0, clear_of_same chains beside (rows_of old) is.tells was (mark_of h.0 code ∙ not_marked) (sym values) h.1)) (omega arith)

        -- a walk begins
        pub look_on : marked ≡ false → (pointer : ℕ) → ((marks : Bool) (writer leads : ℕ) (fields : List ℕ) → leads < 2 ^ 64
            → room.newest.items ≡ head_code marks writer leads ++ fields → pointer ≡ leads) → (mid : WorkRoom) → Leaves mid
            → Back (at_stage (Walk which pointer) mid) old Step
        look_on not_marked pointer pointer_is mid leaves =
            moved mid leaves (Key which) (Walk which pointer) is_at old (same_rows old) within (λ told h.
            let code = h.1.newest.code_is in
            let fields = others_code is.schema.primary is.schema.columns h.0.row in
            let same = pointer_is h.0.marked h.0.writer h.0.pointer fields code.numbers.pointer code.record_is.value_is in
            let leads =
            newest_own undo is.schema place old.schemas is.tells (rows_of old).pairs (rows_of old).kept chains room.newest.items h.0 h.1.coded_but.clustered
            h.1.newest in
            (h.0, h.1, mark_of h.0 code ∙ not_marked, record { left = before; leads = rw same leads; fewer = omega arith; passed = refl })) (omega arith)

    -- ---- a walk goes on

    module _ (pointer : ℕ) (is_at : room.stage ≡ Walk which pointer) where
      pub walk_pointer : TellsTogether old → IsPointer pointer old.versions
      walk_pointer together told =
          let h = held (Walk which pointer) is_at (record { pairs = together told; versions = told }) in
          walk_leads is.schema undo.key old.versions pointer h.3.left
          (along is.schema undo.key old.versions.kept_at undo.table pointer h.3.left h.3.leads)

      module _ (read : Vec ℕ Global) (room_is : vec_capacity room.older ≤ vec_capacity read) (new : WorldState) (same : IsUnchanged old new) where
        stays : RowsStay old new
        stays = unchanged_stays old new same

        inside : which < keys
        inside = fitting (Walk which pointer) is_at

        abbrev mid : WorkRoom
        mid = record room { older = read }

        pub walk_over : pointer ≡ 0 → Back (at_stage (Remove which) mid) new Step
        walk_over nowhere =
            moved mid (older_leaves read room_is) (Walk which pointer) (Remove which) is_at new stays inside (λ told h.
            let none = ap (some_has is.schema which h.0) (leads_nowhere is.schema undo.key (kept_of (rows_of old).kept undo.table undo.key) pointer h.3.left
            h.3.leads nowhere) in
            (h.0, h.1, record { plain = h.2; found_is = h.3.passed ∙ none })) (omega arith)

        pub walk_stopped : (answer : Move) → answer ≢ Done → StopsWalk old new answer → Back mid new answer
        walk_stopped answer not_done = stopped_by (Walk which pointer) is_at mid (older_leaves read room_is) new answer not_done stays

        module _ (leads_on : pointer ≢ 0)
            (bytes : IsTrue old.versions.told → option_map (λ (k : Kept). k.bytes) (old.versions.kept_at pointer) ≡ Some read.items)
            (after : WorkRoom) (result : Move) (looks : LooksOn new undo which mid after result) where
          -- what is known of the newest version and of the one that was read, where all is told
          module _ (told : IsTold old) where
            abbrev known : At (rows_of old) (Walk which pointer)
            known = held (Walk which pointer) is_at told

            seen : IsRead is.schema undo.key read.items (kept_of (rows_of old).kept undo.table undo.key) known.3.left
            seen = version_read is.schema undo.key read.items (kept_of (rows_of old).kept undo.table undo.key) pointer known.3.left known.3.leads leads_on
                (own_bytes is.schema undo.key (rows_of old).kept undo.table pointer known.3.left read.items known.3.leads leads_on (bytes told.versions))

            abbrev Looks : Stage → Type 0
            Looks stage =
                LooksAt which seen.version (entry_of is.schema (which + 1) known.0.row undo.key) (entry_of is.schema (which + 1) seen.version.row undo.key)
                stage

            looked : Looks after.stage
            looked =
                let code = known.1.newest.code_is in
                looks.stage is.schema known.0 seen.version (rw (schemas_stay stays) is.tells.there) code.numbers seen.code_is.numbers code.record_is
                seen.code_is.record_is (entry_short which is.tells inside code) (entry_short which is.tells inside seen.code_is)

            holds_by : (stage : Stage) → Looks stage → At (rows_of old) stage
            holds_by stage (inl found) =
                let here = found_here which is.tells.storable inside known.1.newest.code_is seen.code_is found.1 found.2 seen.rest in
                let some = known.3.passed ∙ (ap (some_has is.schema which known.0) seen.left_is ∙ here) in
                rw found.0 (known.0, known.1, record { plain = known.2; found_is = some })
            holds_by stage (inr on) =
                let past = passed_here which is.tells.storable inside known.1.newest.code_is seen.code_is on.1 seen.rest in
                rw on.0 (
                  known.0,
                  known.1,
                  known.2,
                  record {
                    left = seen.rest;
                    leads = seen.leads;
                    fewer = (let all = ap length seen.left_is in omega (arith, all, known.3.fewer));
                    passed = known.3.passed ∙ (ap (some_has is.schema which known.0) seen.left_is ∙ past);
                  },
                )

            -- fewer versions are left behind the one that was read
            fewer : (behind : ℕ) → after.stage ≡ Walk which behind → Looks after.stage → (versions others : List Version)
                → LeadTo is.schema undo.key old.versions.kept_at pointer versions → LeadTo is.schema undo.key old.versions.kept_at behind others
                → length others < length versions
            fewer behind walk (inl found) versions others from leads = absurd (let e : Walk which behind ≡ Mark which = sym walk ∙ found.0 in cc)
            fewer behind walk (inr on) versions others from leads =
                let e : Walk which behind ≡ Walk which seen.version.pointer = sym walk ∙ on.0 in
                let one : behind ≡ seen.version.pointer = cc in
                let all = one_lead is.schema undo.key (rows_of old).kept pointer versions known.3.left from
                (along is.schema undo.key (rows_of old).kept undo.table pointer known.3.left known.3.leads) ∙ seen.left_is in
                let less = one_lead is.schema undo.key (rows_of old).kept seen.version.pointer others seen.rest (rw one at leads)
                (along is.schema undo.key (rows_of old).kept undo.table seen.version.pointer seen.rest seen.leads) in
                omega (arith, ap length all, ap length less)

          nears_by : (after.stage ≡ Mark which) ⊎ ((behind : ℕ) × (after.stage ≡ Walk which behind)) → Nears is.schema undo new room.stage after.stage
          nears_by (inl mark) = inl (rw (is_at, mark) (omega arith))
          nears_by (inr (behind, walk)) = rw (is_at, walk) (inr (
            refl,
            λ told versions others from leads.
                let was = stays_told old new stays told in
                let kept = same.versions.kept told.versions in
                fewer was behind walk (looked was) versions others (rw kept at from) (rw kept at leads),
          ))

          pub walk_looks : Back after new result
          walk_looks =
              let buffers = looks.buffers in
              rw looks.step (went after new (schemas_stay stays) (inl stays) (record {
                newest = rw buffers.newest is.whole.newest;
                older = rw buffers.older (omega (arith, is.whole.older, room_is));
                next = rw buffers.next is.whole.next;
                marked = buffers.marked ∙ is.whole.marked;
                unmarked = buffers.unmarked ∙ is.whole.unmarked;
              }) (⊎_elim (λ mark. rw mark inside) (λ walk. rw walk.1 inside) looks.either) (λ told.
              let was = stays_told old new stays told in rw (buffers.newest, rows_stay stays told) (holds_by was after.stage (looked was)))
              (nears_by looks.either))

-- Steps that change no row leave what is known.
pub others_leave : (chains : Chains) (beside : Said) (place : Place) (undo : Undo) (room : WorkRoom) (old new : WorldState)
    → IsPuttingBack chains beside place undo room old → LeavesRows old new → IsPuttingBack chains beside place undo room new
others_leave chains beside place undo room old new is leaves = record {
  schema = is.schema;
  tells = rw leaves.schemas is.tells;
  whole = is.whole;
  fits = is.fits;
  holds = λ told. rw (leaves_rows leaves told) (is.holds (leaves_told leaves told));
}
