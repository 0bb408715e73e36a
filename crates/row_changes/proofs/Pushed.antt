-- A version that was recorded is the newest of its place, and the keys come next: the whole change of a row.
use Rattle.std.proofs.Common.{◌≡◌, ◌≢◌, ◌∙◌, sym, ap, subst, refl, ℕ, ◌-◌, ◌^◌, ◌<◌, ◌==◌, Bool, true, false, List, [], Option, None, Some, slice_get}
use Rattle.std.proofs.Common.{arith, ⊎_elim, inl, inr, ◌⊎◌}
use Rattle.std.specs.Prelude.{IfSome, IsTrue, is_some}
use Rattle.inno_types.specs.{declared.value.Value.Value, declared.value.Schema.Schema}
use Rattle.inno_db.specs.Database.{key_of}
use Rattle.store_api.specs.{declared.answers.Undo.Undo, declared.moves.Move.Move}
use Rattle.store_api.specs.declared.answers.Version.{Version as Coded}
use Rattle.entries.specs.Pairs.{Pair, value_of}
use Rattle.row_versions.specs.{declared.kept.Kept.Kept, declared.version.Version.Version, Chains.Chains, Chains.Pushes, Chains.versions_at, Chains.newest}
use Rattle.row_versions.specs.Versions.{Versions}
use Rattle.row_codec.specs.Rows.{version_code}
use Rattle.law_stored_rows.specs.{Edits.clustered_index, Edits.Puts, Records.IsCodeOf, Records.shown, Records.row_shown, Records.KeepsMore}
use Rattle.law_stored_rows.specs.{Records.kept_of, Tables.Said, Tables.AreCodedAs, Tables.place_in}
use Rattle.law_stored_rows.proofs.KeptRows.{kept_here}
use Rattle.law_stored_rows.proofs.{Values.one_key, Values.key_there, Steps.new_record, Steps.replaced_record, FromTables.decoded, FromTables.absent}
use Rattle.law_stored_rows.proofs.Tables.{pushed_here, coded_still}
use Rattle.row_changes.specs.{declared.row_edit.RowEdit.RowEdit, declared.keys_change.KeysChange.KeysChange, declared.row_edit.RowEdit.TheVariants.Remove}
use Rattle.row_changes.specs.{Told.HasRowsBeside, Told.HasRowsAt}
use Rattle.row_changes.specs.{Asides.StepsAside, Records.PutsFirst, Records.PutsOver, Records.IsTable, Records.PutsVersion, Records.RecordsEdit}
use Rattle.row_changes.specs.{Reached.Went, declared.row_change.RowChange.RowChange, declared.row_edit.RowEdit.TheVariants.Put}
use Rattle.row_changes.specs.{Reached.Hindered, Reached.Done, Reached.Reached, declared.row_change.RowChange.TheVariants.Keys}
use Rattle.row_changes.specs.{declared.record_change.RecordStage.RecordStage, Records.IsChangingRecord, declared.row_change.RowChange.TheVariants.Record}
use Rattle.row_changes.specs.{declared.record_change.RecordChange.RecordChange, declared.record_change.RecordStage.TheVariants.Enter, Records.undo_of_former}
use Rattle.row_changes.specs.{Keys.IsChangingKeys, Records.id_for, Records.GoesOnWithRecord, Records.ChangesRecord, Records.record_steps}
use Rattle.row_changes.specs.Edits.{version_by, IsRowFor, IsKeyAt, FitsEdit, IsPut}
use Rattle.row_changes.specs.Rows.{primary_of, PushesEdit, IsChangingRow, IsAtRow, MakesRow, row_after, place_of, ChangesRow}
use Rattle.std.proofs.lemmas.Bool.{cases_eq, cond_both}
use Rattle.world.specs.{State.WorldState, State.Session, State.Work, State.HasWork, Indexes.KeepsVersion, Told.pairs_of, Told.IsTold}
use Rattle.row_changes.proofs.{Sessions.one_found, Sessions.one_session, Ids.one_work}
use Rattle.row_changes.proofs.Telling.{HasPut, told_if, rows_if, pairs_told, puts_pairs, tells, coded_again}
use Rattle.row_changes.specs.RecordReached as records

-- ---- the version and its place

abbrev pub plain : List Value → ℕ → Coded
plain row writer = record { row = row; writer = writer; pointer = 0; marked = false }

-- the record of the version that an edit makes: of a row that is put, or of one that was there
pub code_of_edit : (schema : Schema) (edit : RowEdit) (key bytes : List ℕ) (former : Coded) (writer pointer : ℕ) → FitsEdit schema edit key
    → IsPut edit ⊎ IsCodeOf schema key bytes former → writer < 2 ^ 64 → pointer < 2 ^ 64
    → IsCodeOf schema key (version_code schema (version_by edit former.row writer pointer)) (version_by edit former.row writer pointer)
code_of_edit schema (Put row) key bytes former writer pointer fits code small low =
    record {
      record_is = record { fits = fits.fits.columns; key_is = fits.key_is; value_is = refl };
      numbers = record { writer = small; pointer = low; row = fits.numbers };
    }
code_of_edit schema (Remove value) key bytes former writer pointer fits (inl put) small low = absurd put
code_of_edit schema (Remove value) key bytes former writer pointer fits (inr code) small low =
    record {
      record_is = record { fits = code.record_is.fits; key_is = code.record_is.key_is; value_is = refl };
      numbers = record { writer = small; pointer = low; row = code.numbers.row };
    }

pub code_of : (schema : Schema) (row : List Value) (key : List ℕ) (writer : ℕ) → writer < 2 ^ 64 → IsRowFor schema row key
    → IsCodeOf schema key (version_code schema (plain row writer)) (plain row writer)
code_of schema row key writer small is = code_of_edit schema (Put row) key [] (plain [] 0) writer 0 is (inl (record {})) small (omega arith)

-- the bytes of the key are those of the primary value
pub key_at : (schema : Schema) (edit : RowEdit) (key : List ℕ) → FitsEdit schema edit key → IsKeyAt schema (primary_of schema edit) key
key_at schema (Put row) key fits =
    let is = fits.key_is in
    let there = key_there schema key (version_code schema (plain row 0)) (plain row 0) is.column is.primary (code_of schema row key 0 (omega arith) fits) in
    record { column = is.column; primary = is.primary; has_key = there.0; spelled = there.1 }
key_at schema (Remove value) key fits = fits

-- a row with this key is at the place
pub at_primary : (schema : Schema) (value : Value) (key bytes : List ℕ) (coded : Coded) → IsKeyAt schema value key → IsCodeOf schema key bytes coded
    → key_of schema coded.row ≡ value
at_primary schema value key bytes coded at code =
    let there = key_there schema key bytes coded at.column at.primary code in
    one_key at.column.kind (key_of schema coded.row) value there.0 at.has_key (sym there.1 ∙ at.spelled)

pub version_shown : (edit : RowEdit) (former : List Value) (writer pointer : ℕ)
    → shown (version_by edit former writer pointer) ≡ record { writer = writer; row = row_after edit }
version_shown (Put row) former writer pointer = refl
version_shown (Remove value) former writer pointer = refl

pub written_pointer : (edit : RowEdit) (former : List Value) (writer pointer : ℕ) → (version_by edit former writer pointer).pointer ≡ pointer
written_pointer (Put row) former writer pointer = refl
written_pointer (Remove value) former writer pointer = refl

-- the row of a version that readers see fits the table
pub shown_fits : (schema : Schema) (key bytes : List ℕ) (marked : Bool) (former : Coded) → IsCodeOf schema key bytes former
    → IfSome (row_shown marked former.row) (λ row. IsRowFor schema row key)
shown_fits schema key bytes true former code = record {}
shown_fits schema key bytes false former code =
    let is = code.record_is.key_is in
    record {
      fits = record { columns = code.record_is.fits; key = record { column = is.column; primary = is.primary; of_kind = is.present } };
      numbers = code.numbers.row;
      key_is = is;
    }

pub after_fits : (schema : Schema) (edit : RowEdit) (key : List ℕ) → FitsEdit schema edit key → IfSome (row_after edit) (λ row. IsRowFor schema row key)
after_fits schema (Put row) key fits = fits
after_fits schema (Remove value) key fits = record {}

pub small_id : (own next : ℕ) → own < 2 ^ 64 → next < 2 ^ 64 - 1 → id_for own next < 2 ^ 64
small_id own next small few = cond_both (own == 0) next own (λ n. n < 2 ^ 64) (λ new. omega arith) (λ own_one. small)

-- ---- the rows

module _ (schemas : List Schema) (old new : ℕ → List Pair) (before after : Chains) (table : ℕ) (schema : Schema) (edit : RowEdit) (key : List ℕ)
    (there : slice_get schemas table ≡ Some schema) (fits : FitsEdit schema edit key) (writer : ℕ) (small : writer < 2 ^ 64)
    (pushes : Pushes before after (record { table = table; key = primary_of schema edit }) (record { writer = writer; row = row_after edit })) where
  pushes_version : (former : List Value) (pointer : ℕ) (bytes : List ℕ) → IsCodeOf schema key bytes (version_by edit former writer pointer)
      → Pushes before after (place_in table schema (version_by edit former writer pointer).row) (shown (version_by edit former writer pointer))
  pushes_version former pointer bytes code =
      let home = at_primary schema (primary_of schema edit) key bytes (version_by edit former writer pointer) (key_at schema edit key fits) code in
      rw (version_shown edit former writer pointer, home) pushes

  pub first_rows : (kept : ℕ → Option Kept) {said : Said} → IsPut edit → value_of key (old (clustered_index table)) ≡ None
      → Puts old new (clustered_index table) key (Some (version_code schema (version_by edit [] writer 0))) → AreCodedAs schemas old kept before said
      → AreCodedAs schemas new kept after said
  first_rows kept {said} put none puts is =
      let coded = version_by edit [] writer 0 in
      let code = code_of_edit schema edit key [] (plain [] 0) writer 0 fits (inl put) small (omega arith) in
      new_record schemas old new kept before after said table schema key (version_code schema coded) coded is
      (record { there = there; code_is = code; puts = puts }) none (written_pointer edit [] writer 0) (pushes_version [] 0 (version_code schema coded) code)

  next_rows : (kept : ℕ → Option Kept) {said : Said} (former : Coded) (pointer : ℕ) (found : Kept)
      → value_of key (old (clustered_index table)) ≡ Some found.bytes
      → IsCodeOf schema key found.bytes former → IsCodeOf schema key found.bytes found.version → pointer ≢ 0 → pointer < 2 ^ 64
      → kept_of kept table key pointer ≡ Some found
      → Puts old new (clustered_index table) key (Some (version_code schema (version_by edit former.row writer pointer)))
      → AreCodedAs schemas old kept before said
      → AreCodedAs schemas new kept after said
  next_rows kept {said} former pointer found some code found_code leads low keeps puts is =
      let coded = version_by edit former.row writer pointer in
      let coded_is = code_of_edit schema edit key found.bytes former writer pointer fits (inr code) small low in
      let same = written_pointer edit former.row writer pointer in
      replaced_record schemas old new kept before after said table schema key (version_code schema coded) coded is found
      (record { there = there; code_is = coded_is; puts = puts }) some found_code
      (λ zero. leads (sym same ∙ zero)) (ap (kept_of kept table key) same ∙ keeps) (pushes_version former.row pointer (version_code schema coded) coded_is)

-- ---- while the record is not there yet

rows_aside : (s : ℕ) (chains : Chains) (beside : Said) (table : ℕ) (key : List ℕ) (old new : WorldState) → StepsAside s old new
    → HasRowsAt chains beside table key old → HasRowsAt chains beside table key new
rows_aside s chains beside table key old new aside rows schema value there at told =
    let same = ap (λ (state : WorldState). state.schemas) aside.rest in
    let says = rows schema value (rw same at there) at (told_if old new aside.pairs aside.versions told) in
    (says.0, rows_if old new chains says.0 same aside.pairs aside.versions told says.1, says.2, says.3)

-- ---- the record stands

pub table_kept : (table : ℕ) (schema : Schema) (old new : WorldState) → new.schemas ≡ old.schemas → IsTable table schema old → IsTable table schema new
table_kept table schema old new same is = record { there = ap (λ (s : List Schema). slice_get s table) same ∙ is.there; storable = is.storable }

pub none_of : (found : Option (List ℕ)) → is_some found ≡ false → found ≡ None
none_of None is = refl
none_of (Some bytes) is = absurd (cc)

some_record_step : (stage : RecordStage) → 0 < record_steps stage
some_record_step Enter = omega arith
some_record_step other = omega arith

pub kept_more : (schemas : List Schema) (pointer : ℕ) (undo : Undo) (old new : Versions) → KeepsVersion schemas pointer undo old new → IsTrue new.told
    → KeepsMore old.kept_at new.kept_at
kept_more schemas pointer undo old new k told other found is =
    ⊎_elim (λ e. let none : old.kept_at pointer ≡ None = k.fresh told in let some : old.kept_at pointer ≡ Some found = ap old.kept_at (sym e) ∙ is in absurd
    (cc)) (λ differs. k.elsewhere other differs told ∙ is) (cases_eq other pointer)

-- what is kept of the version that was replaced
module _ {s : ℕ} {old new : WorldState} {change : RecordChange} {former : Coded} (p : IsChangingRecord s old change)
    (o : PutsOver s old new change p.schema former) where
  pub kept_over : KeepsVersion old.schemas o.session.next_pointer (undo_of_former change.table change.key o.bytes) old.versions new.versions
  kept_over = rw (one_session old s o.records.work.session o.session o.records.work.had.session_is o.had.session_is) at o.records.work.versions

  pub kept_code : IsCodeOf p.schema change.key o.bytes kept_over.version
  kept_code =
      let code : IsCodeOf kept_over.kept.schema change.key o.bytes kept_over.version =
      record { record_is = kept_over.kept.record_is; numbers = kept_over.kept.small } in
      rw (one_found kept_over.kept.schema p.schema kept_over.kept.there p.table.there) at code

module _ (s : ℕ) (chains : Chains) (beside : Said) (pushed : Chains) (old new : WorldState) (change : RecordChange) (p : IsChangingRecord s old change)
    (all : HasRowsAt chains beside change.table change.key old) (push : PushesEdit s change old chains pushed) where
  abbrev writer : ℕ
  writer = id_for p.work.id old.txns.next

  abbrev pushed_version : Version
  pushed_version = record { writer = writer; row = row_after change.edit }

  abbrev index : ℕ
  index = clustered_index change.table

  -- the bytes of the new record
  abbrev written : List Value → ℕ → List ℕ
  written former pointer = version_code p.schema (version_by change.edit former writer pointer)

  -- the change that the keys take over
  abbrev taken : Option (List Value) → KeysChange
  taken before = record { table = change.table; key = change.key; before = before; after = row_after change.edit; which = 0; put = None }

  pushes : Pushes chains pushed (place_of p.schema change) pushed_version
  pushes =
      rw (one_found p.schema push.schema p.table.there push.there, one_work s p.session push.session p.work push.work old p.has_work push.has_work) push.pushes

  small : writer < 2 ^ 64
  small = small_id p.work.id old.txns.next p.small p.listed.few

  at : IsKeyAt p.schema (primary_of p.schema change.edit) change.key
  at = key_at p.schema change.edit change.key p.fits

  -- what the keys say before it, where told
  rows : HasRowsBeside chains beside (place_of p.schema change) old
  rows = all p.schema (primary_of p.schema change.edit) p.table.there at

  -- the keys come next
  keys_next : (before : Option (List Value)) (former : List Value) (pointer : ℕ) (undo : Undo) {session : Session} {work : Work} → HasWork s session work old
      → RecordsEdit s change p.schema former (id_for work.id old.txns.next) pointer undo old new → (IsTrue new.versions.told → IsTrue old.versions.told)
      → IfSome before (λ row. IsRowFor p.schema row change.key) → (IsTold old → newest (versions_at (place_of p.schema change) chains) ≡ before)
      → (IsTrue new.versions.told → (told : IsTold old) → Puts (pairs_of old) (pairs_of new) index change.key (Some (written former pointer))
      → AreCodedAs old.schemas (pairs_of new) new.versions.kept_at pushed (rows told).0) → IsChangingKeys pushed beside new (taken before)
  keys_next before former pointer undo {session} {work} had records tells_on fits was coded =
      record {
        schema = p.schema;
        table = table_kept change.table p.schema old new (ap (λ (state : WorldState). state.schemas) records.rest) p.table;
        value = primary_of p.schema change.edit;
        at = at;
        before = fits;
        after = after_fits p.schema change.edit change.key p.fits;
        within = omega arith;
        put = record {};
        older = versions_at (place_of p.schema change) chains;
        pushed =
            record {
              version = pushed_version;
              versions = pushed_here chains pushed (place_of p.schema change) pushed_version pushes;
              is = refl;
              small = small;
            };
        was = λ told. was (was_told told);
        rows = λ told. (
          (rows (was_told told)).0,
          coded_again _ _ _ _ _ _ _ _ (ap (λ (state : WorldState). state.schemas) records.rest) refl refl
              (coded told.versions (was_told told) (puts_pairs index change.key (Some (written former pointer)) old new stands told)),
          record {
            lag = (rows (was_told told)).2;
            first = λ which below. absurd (omega arith);
            here = (rows (was_told told)).3 0;
            later = λ which above. (rows (was_told told)).3 which;
          },
        );
      }
    where
      stands : HasPut index change.key (Some (written former pointer)) old new
      stands = rw (one_work s p.session session p.work work old p.has_work had) (records.here, records.elsewhere)

      was_told : IsTold new → IsTold old
      was_told told = record { pairs = pairs_told index change.key (Some (written former pointer)) old new stands told; versions = tells_on told.versions }

  first_keys : (f : PutsFirst s old new change p.schema) → IsChangingKeys pushed beside new (taken None)
  first_keys f =
      keys_next None [] 0 _ f.had f.records f.records.work.versions.told (record {})
      (λ told. ap newest (absent _ _ _ _ change.table p.schema at.column (primary_of p.schema change.edit) (rows told).1.clustered p.table.there at.primary
      (λ has. rw (← at.spelled) (nothing told))))
      (λ now told puts. coded_again _ _ _ _ _ _ _ _ refl refl (f.records.work.versions.kept now)
      (first_rows _ _ _ _ _ change.table p.schema change.edit change.key p.table.there p.fits writer small pushes _ f.is_put (nothing told) puts (rows told).1))
    where
      nothing : IsTold old → value_of change.key (pairs_of old index) ≡ None
      nothing told = none_of _ (tells (λ pairs. is_some (value_of change.key pairs) ≡ false) (old.indexes index).pairs f.absent (told.pairs index))

  next_keys : (former : Coded) (o : PutsOver s old new change p.schema former) → IsChangingKeys pushed beside new (taken (row_shown former.marked former.row))
  next_keys former o =
      keys_next (row_shown former.marked former.row) former.row o.session.next_pointer _ o.had o.records (kept_over p o).told
      (shown_fits p.schema change.key o.bytes former.marked former o.was.code_is)
      (λ told. ap (λ (k : Value). newest (versions_at (record { table = change.table; key = k }) chains))
      (sym (at_primary p.schema (primary_of p.schema change.edit) change.key o.bytes former at o.was.code_is))
      ∙ ap newest (decoded _ _ _ _ change.table p.schema change.key o.bytes former (rows told).1.clustered p.table.there (there told) o.was.code_is).0)
      (λ now told puts.
      next_rows _ _ _ _ _ change.table p.schema change.edit change.key p.table.there p.fits writer small pushes _ former o.session.next_pointer
      (record { table = change.table; key = change.key; version = (kept_over p o).version; bytes = o.bytes }) (there told) o.was.code_is
      (kept_code p o) o.leads o.small
      (kept_here new.versions.kept_at change.table change.key o.session.next_pointer _ ((kept_over p o).here now) refl refl) puts
      (coded_still _ _ _ _ _ _ (kept_more _ o.session.next_pointer (undo_of_former change.table change.key o.bytes) _ _ (kept_over p o) now)
      (rows told).1))
    where
      there : IsTold old → value_of change.key (pairs_of old index) ≡ Some o.bytes
      there told = tells (λ pairs. value_of change.key pairs ≡ Some o.bytes) (old.indexes index).pairs o.was.there (told.pairs index)

  recorded_keys : (before after : Option (List Value)) (key : List ℕ) → key ≡ change.key → after ≡ row_after change.edit
      → ChangesRecord s old new change (records.Recorded before)
      → IsChangingKeys pushed beside new (record { table = change.table; key = key; before = before; after = after; which = 0; put = None })
  recorded_keys before after key key_is after_is h =
      let puts_it : PutsVersion s old new change p.schema before = rw (one_found h.0 p.schema h.1.there p.table.there) at h.2 in
      rw (key_is, after_is) (⊎_elim (λ (f : PutsFirst s old new change p.schema × (before ≡ None)). rw f.1 (first_keys f.0))
      (λ (o : (former : Coded) × PutsOver s old new change p.schema former × (before ≡ row_shown former.marked former.row)). rw o.2 (next_keys o.0 o.1))
      puts_it)

-- ---- a step that is made where the change lies

module _ (s : ℕ) (chains : Chains) (beside : Said) {old : WorldState} (new : WorldState) {mine : RowChange} {change : RecordChange} {key : List ℕ}
    {after : Option (List Value)} (at : mine ≡ Record change key after) (p : IsAtRow s chains beside old mine) where
  at_record : (reached : Reached RowChange)
      → (IsAtRow s chains beside old (Record change key after) → MakesRow s chains beside old new (Record change key after) reached)
      → MakesRow s chains beside old new mine reached
  at_record reached made = subst (λ (r : RowChange). IsAtRow s chains beside old r → MakesRow s chains beside old new r reached) (sym at) made p

  pub record_went : (next : RecordChange) → GoesOnWithRecord s old new change next → MakesRow s chains beside old new mine (Went (Record next key after))
  record_went next g =
      at_record (Went (Record next key after)) (λ is. (
        (g, (g.holds, is.1 ∙ sym g.key_is, is.2 ∙ ap row_after (sym g.edit_is))),
        λ schema there. let nearer = g.nears in omega arith,
      ))

  pub record_recorded : (before : Option (List Value)) (keys : KeysChange)
      → keys ≡ record { table = change.table; key = key; before = before; after = after; which = 0; put = None }
      → ChangesRecord s old new change (records.Recorded before) → MakesRow s chains beside old new mine (Went (Keys keys))
  record_recorded before keys keys_is h =
      rw keys_is (at_record (Went (Keys (record { table = change.table; key = key; before = before; after = after; which = 0; put = None }))) (λ is. (
        (h, λ rows pushed push. recorded_keys s chains beside pushed old new change is.0 rows push before after key is.1 is.2 h, refl, is.1),
        λ schema there. let some = some_record_step change.stage in omega arith,
      )))

  pub record_waits : (same : RecordChange) (why : Move) → ChangesRecord s old new change (records.Hindered same why)
      → MakesRow s chains beside old new mine (Hindered (Record same key after) why)
  record_waits same why h =
      at_record (Hindered (Record same key after) why) (λ is. (
        ap (λ (c : RecordChange). let r : RowChange = Record c key after in r) h.0,
        (h.2, is.1, is.2),
        (h.1, h.3, h.4, h.5),
      ))

-- ---- where the rows are known before it

pub at_row : (s : ℕ) (chains : Chains) (beside : Said) (state : WorldState) (change : RowChange) → IsChangingRow s chains beside state change
    → IsAtRow s chains beside state change
at_row s chains beside state (Record change key after) is = (is.0, is.2, is.3)
at_row s chains beside state (Keys change) is = is

pub changes_row : (s : ℕ) (chains : Chains) (beside : Said) (old new : WorldState) (change : RowChange) (reached : Reached RowChange)
    → IsChangingRow s chains beside old change → MakesRow s chains beside old new change reached → ChangesRow s chains beside old new change reached
changes_row s chains beside old new (Record change key after) (Went (Record next key' after')) p made = (
  (
    made.0.0,
    (
      made.0.1.0,
      rw (made.0.0.table_is, made.0.0.key_is) (rows_aside s chains beside _ _ old new made.0.0.aside p.1),
      made.0.1.1,
      made.0.1.2,
    ),
  ),
  made.1,
)
changes_row s chains beside old new (Record change key after) (Went (Keys next)) p made = (
  (made.0.0, λ pushed push. made.0.1 p.1 pushed push, made.0.2, made.0.3),
  made.1,
)
changes_row s chains beside old new (Record change key after) Done p made = absurd made
changes_row s chains beside old new (Record change key after) (Hindered same why) p made = (
  made.0,
  (made.1.0, rows_aside s chains beside _ _ old new made.2.0 p.1, made.1.1, made.1.2),
  made.2,
)
changes_row s chains beside old new (Keys change) (Went (Record next key after)) p made = absurd made.0
changes_row s chains beside old new (Keys change) (Went (Keys next)) p made = made
changes_row s chains beside old new (Keys change) Done p made = made
changes_row s chains beside old new (Keys change) (Hindered same why) p made = made
