-- The place that an undo record tells of, its versions, and the keys of its table: their columns, entries, and what they say.
use Rattle.std.proofs.Common.{◌≡◌, ◌≢◌, ◌⊎◌, inl, inr, ℕ, Bool, true, false, List, [], ◌∷◌, Option, Some, None, refl, sym, ap, subst, ◌∙◌, arith, zero}
use Rattle.std.proofs.Common.{suc, ◌+◌, ◌-◌, ◌<◌, ◌≤◌, slice_get, length}
use Rattle.std.specs.Prelude.{◌==◌, not, All, is_some}
use Rattle.std.proofs.Math.Bool.{or-true}
use Rattle.std.proofs.lemmas.{Option.slice_get_within, Bool.cond-false, Bool.ne_eqb}
use Rattle.std.proofs.lemmas.List.Elements.{All-head, All-tail}
use Rattle.inno_types.specs.{declared.value.Value.Value, declared.value.Schema.Schema, declared.value.Key.Key}
use Rattle.inno_db.specs.Database.{key_of}
use Rattle.store_api.specs.{declared.answers.Undo.Undo}
use Rattle.store_api.specs.declared.answers.Version.{Version as Coded}
use Rattle.row_codec.specs.Rows.{mark_code, others_code}
use Rattle.row_codec.proofs.Parts.{head_parts}
use Rattle.entries.specs.Pairs.{Pair, value_of, without_key}
use Rattle.row_versions.specs.{declared.kept.Kept.Kept, declared.place.Place.Place, declared.version.Version.Version}
use Rattle.row_versions.specs.Chains.{Chains, versions_at, newest, older}
use Rattle.law_stored_rows.specs.{Edits.key_index, Records.row_shown, Records.shown, Records.IsCodeOf, Records.IsRecordWith}
use Rattle.law_stored_rows.specs.{Records.LeadTo, Tables.place_in, Tables.Said, Tables.AreClustered, Storable.IsStorable, Storable.IsKeyOn}
use Rattle.law_stored_rows.specs.Entries.{value_in, has_value, entry_of as entry_said}
use Rattle.law_stored_rows.proofs.Entries.{holds_said}
use Rattle.law_stored_rows.proofs.Values.{one_key, key_there, entry_there, place_itself, value_itself}
use Rattle.law_stored_rows.specs.Records.{kept_of}
use Rattle.law_stored_rows.proofs.RowRecords.{record_of, record_read, pointer_followed, leads_nowhere}
use Rattle.undo_apply.specs.{Standing.TellsOf, Standing.IsNewest, Standing.LeadsBack, Standing.had_row, Standing.was_before, Standing.versions_before}
use Rattle.undo_apply.specs.{Standing.column_of, Standing.said_but, Standing.AreCodedBut, Standing.IsCleared, Standing.IsLagging, Moves.HasKeyAt, Told.Rows}
use Rattle.key_codec.specs.Keys.{entry_code}
use Rattle.key_codec.proofs.Lengths.{length-key_code, length-entry_code}
use Rattle.secondary.specs.Entries.{place_if, entry_of}
use Rattle.world.specs.State.{WorldState}
use Rattle.std.specs.List.{list_any}

module _ (undo : Undo) (schema : Schema) (place : Place) (schemas : List Schema) (tells : TellsOf undo schema place schemas) where
  -- a record at the key is of the place
  pub place_is : (bytes : List ℕ) (coded : Coded) → IsCodeOf schema undo.key bytes coded → place_in undo.table schema coded.row ≡ place
  place_is bytes coded code =
      let there = key_there schema undo.key bytes coded tells.primary tells.primary_is code in
      let key = one_key tells.primary.kind (key_of schema coded.row) place.key there.0 tells.has_key (sym there.1 ∙ tells.key_is) in
      let table : undo.table ≡ place.table = sym tells.table_is in
      λ i. record { table = table i; key = key i }

  -- the record is the newest version, and its pointer leads to the others
  pub newest_read : (pairs : ℕ → List Pair) (kept : ℕ → Option Kept) (chains : Chains) (bytes : List ℕ) (coded : Coded)
      → AreClustered schemas pairs kept chains → IsNewest undo schema pairs kept bytes coded
      → (versions_at place chains ≡ shown coded ∷ versions_before chains place) × LeadTo schema undo.key kept coded.pointer (versions_before chains place)
  newest_read pairs kept chains bytes coded are is =
      let clustered = are.tables undo.table schema tells.there in
      let both = key_there schema undo.key bytes coded clustered.primary clustered.primary_is is.code_is in
      let here = rw (← both.1, is.there) at (clustered.records (key_of schema coded.row) both.0) in
      let at_place = subst (λ (p : Place). IsRecordWith schema undo.key (kept_of kept undo.table undo.key) (Some bytes) (versions_at p chains))
      (place_is bytes coded is.code_is) here in
      let told = record_of schema undo.key kept undo.table (Some bytes) (versions_at place chains) at_place in
      record_read schema undo.key bytes kept (versions_at place chains) coded told is.code_is

  -- all of them are kept as versions of the row
  pub newest_own : (pairs : ℕ → List Pair) (kept : ℕ → Option Kept) (chains : Chains) (bytes : List ℕ) (coded : Coded)
      → AreClustered schemas pairs kept chains → IsNewest undo schema pairs kept bytes coded
      → LeadTo schema undo.key (kept_of kept undo.table undo.key) coded.pointer (versions_before chains place)
  newest_own pairs kept chains bytes coded are is =
      let clustered = are.tables undo.table schema tells.there in
      let both = key_there schema undo.key bytes coded clustered.primary clustered.primary_is is.code_is in
      let here = rw (← both.1, is.there) at (clustered.records (key_of schema coded.row) both.0) in
      (record_read schema undo.key bytes (kept_of kept undo.table undo.key) (versions_at place chains) coded
      (subst (λ (p : Place). IsRecordWith schema undo.key (kept_of kept undo.table undo.key) (Some bytes) (versions_at p chains))
      (place_is bytes coded is.code_is) here) is.code_is).1

-- ---- what was before the change

is_zero : (marked : Bool) → (mark_code marked == 0) ≡ not marked
is_zero true = refl
is_zero false = refl

-- there was a row before, whose record is kept in the undo record
pub record WasThere (undo : Undo) (schema : Schema) (before : List Version) : Type 0 where
  pub former : Coded
  pub code_is : IsCodeOf schema undo.key undo.value former
  pub had : had_row undo ≡ true
  pub first : newest before ≡ Some former.row

pub record WasNot (undo : Undo) (before : List Version) : Type 0 where
  pub had : had_row undo ≡ false
  pub first : newest before ≡ None

pub before_new : (undo : Undo) → undo.kind ≡ 1 → was_before undo ≡ None
before_new undo is = rw is

pub not_new : (undo : Undo) → undo.kind ≢ 1 → was_before undo ≡ Some undo.value
not_new undo other = cond-false (undo.kind == 1) None (Some undo.value) (ne_eqb undo.kind 1 other)

pub before_kept : (undo : Undo) → undo.kind ≡ 2 → was_before undo ≡ Some undo.value
before_kept undo is = not_new undo (λ new. absurd (omega (arith, is, new)))

pub what_was : (undo : Undo) (schema : Schema) (kept : ℕ → Option Kept) (pointer : ℕ) (before : List Version) → LeadsBack undo kept pointer
    → LeadTo schema undo.key kept pointer before → WasThere undo schema before ⊎ WasNot undo before
what_was undo schema kept pointer before (inl new) leads =
    inr (record { had = rw new.0; first = ap newest (leads_nowhere schema undo.key kept pointer before leads new.1) })
what_was undo schema kept pointer before (inr (kind, leads_on, former, keeps, bytes)) leads = go former.version.marked refl where
  read : IsCodeOf schema undo.key former.bytes former.version × (before ≡ shown former.version ∷ older before)
  read = let all = pointer_followed schema undo.key kept pointer before former leads leads_on keeps in (all.0, all.1)

  code : IsCodeOf schema undo.key undo.value former.version
  code = rw bytes at read.0

  -- the mark is the record's first byte
  had : had_row undo ≡ not former.version.marked
  had =
      let v = former.version in
      rw (kind, code.record_is.value_is, head_parts v.marked v.writer v.pointer (others_code schema.primary schema.columns v.row)) (is_zero v.marked)

  go : (marked : Bool) → former.version.marked ≡ marked → WasThere undo schema before ⊎ WasNot undo before
  go true marked = inr (record { had = had ∙ ap not marked; first = ap newest read.1 ∙ ap (λ (m : Bool). row_shown m former.version.row) marked })
  go false marked = inl (record {
    former = former.version;
    code_is = code;
    had = had ∙ ap not marked;
    first = ap newest read.1 ∙ ap (λ (m : Bool). row_shown m former.version.row) marked;
  })

-- ---- the keys of a table that can be stored: their indexes, their columns and entries, and what they say of a place

-- the key of this number, its column, and the entries of rows
pub record IsKeyAt (schema : Schema) (storable : IsStorable schema) (which : ℕ) : Type 0 where
  pub key : Key
  pub key_is : slice_get schema.keys which ≡ Some key
  pub column_is : column_of schema which ≡ key.column
  pub on : IsKeyOn schema.columns storable.column.kind key
  -- what `secondary` makes of a record is the entry that `law_stored_rows` speaks of
  pub entry_is : (row : List Value) (primary : List ℕ)
      → entry_of schema (which + 1) row primary ≡ entry_code on.column.kind (value_in key.column row) primary

pub one_less : (which : ℕ) → (which + 1) - 1 ≡ which
one_less which = omega arith

key_in : (P : Key → Type 0) (keys : List Key) (which : ℕ) → which < length keys → All P keys → (key : Key) × (slice_get keys which ≡ Some key) × P key
key_in P [] which within all = absurd (omega (arith, within))
key_in P (key ∷ keys) zero within all = (key, refl, All-head P key keys all)
key_in P (key ∷ keys) (suc which) within all = key_in P keys which (omega (arith, within)) (All-tail P key keys all)

pub key_at : (schema : Schema) (storable : IsStorable schema) (which : ℕ) → which < length schema.keys → IsKeyAt schema storable which
key_at schema storable which within =
    let it = key_in (IsKeyOn schema.columns storable.column.kind) schema.keys which within storable.keys in
    record { key = it.0; key_is = it.1; column_is = ap place_if it.1; on = it.2; entry_is = λ row primary. rw (one_less which, it.1, it.2.there) }

pub few_keys : (schema : Schema) → IsStorable schema → length schema.keys ≤ 4
few_keys schema storable = storable.few

pub has_key_at : (schemas : List Schema) (state : WorldState) (undo : Undo) (schema : Schema) (place : Place) (which : ℕ) → state.schemas ≡ schemas
    → TellsOf undo schema place schemas → which < length schema.keys → HasKeyAt state undo.table which
has_key_at schemas state undo schema place which same tells within =
    let it = key_at schema tells.storable which within in
    let inside = slice_get_within schema.columns it.key.column it.on.column it.on.there in
    record {
      schema = schema;
      there = rw same tells.there;
      has = record { counted = omega arith; keyed = omega (arith, within); there = rw (one_less which, it.key_is) inside };
      few = omega (arith, within, few_keys schema tells.storable);
    }

-- ---- entries

pub entry_short : {schemas : List Schema} {undo : Undo} {schema : Schema} {place : Place} (which : ℕ) {version : Coded} {bytes : List ℕ}
    → TellsOf undo schema place schemas → which < length schema.keys → IsCodeOf schema undo.key bytes version
    → length (entry_of schema (which + 1) version.row undo.key) ≤ 67
entry_short {schemas} {undo} {schema} {place} which {version} {bytes} tells within code =
    let storable = tells.storable in
    let it = key_at schema storable which within in
    let has = entry_there schema undo.key bytes version it.key.column it.on.column code it.on.there in
    let both = key_there schema undo.key bytes version storable.column storable.primary code in
    let long = length-entry_code it.on.column.kind (value_in it.key.column version.row) undo.key has.0 in
    let primary = ap length both.1 ∙ length-key_code storable.column.kind _ both.0.0 in
    omega (arith, ap length (it.entry_is version.row undo.key), long, primary, it.on.short)

-- ---- what stands in an index at the entry of a record of the place

-- a key that isn't there is removed in vain
pub absent_stays : (key : List ℕ) (pairs : List Pair) → value_of key pairs ≡ None → without_key key pairs ≡ pairs
absent_stays key [] none = refl
absent_stays key (pair ∷ pairs) none = grind (arith, none, absent_stays key pairs)

module _ (chains : Chains) (beside : Said) (place : Place) (undo : Undo) (schema : Schema) (rows : Rows) (tells : TellsOf undo schema place rows.schemas) where
  says_here : (said : ℕ → List Version) (which : ℕ) → said_but beside place said undo.table which place.key ≡ said which
  says_here said which = rw (← tells.table_is, place_itself place)

  -- the entry of a record of the place holds what the key says
  pub entry_says : (said : ℕ → List Version) (which : ℕ) (version : Coded) (bytes : List ℕ) → which < length schema.keys
      → AreCodedBut rows.schemas rows.pairs rows.kept chains beside place said → IsCodeOf schema undo.key bytes version
      → is_some (entry_said (column_of schema which) (value_in (column_of schema which) version.row) (said which)) ≡ true
      → value_of (entry_of schema (which + 1) version.row undo.key) (rows.pairs (key_index undo.table which)) ≡ entry_said (column_of schema which)
      (value_in (column_of schema which) version.row) (said which)
  entry_says said which version bytes within are code some =
      let it = key_at schema tells.storable which within in
      let e = are.keyed.keys undo.table which schema it.key tells.there it.key_is in
      let one : tells.primary ≡ e.primary = cc (tells.primary_is, e.primary_is) in
      let has_entry = entry_there schema undo.key bytes version it.key.column e.indexed code e.indexed_is in
      let indexed : it.on.column ≡ e.indexed = cc (it.on.there, e.indexed_is) in
      let found = e.marks place.key (value_in it.key.column version.row) (rw one at tells.has_key) has_entry in
      let says = ap (entry_said it.key.column (value_in it.key.column version.row)) (says_here said which) in
      let told : is_some (entry_said it.key.column (value_in it.key.column version.row) (said which)) ≡ true = rw it.column_is at some in
      rw (it.entry_is version.row undo.key, it.column_is, indexed, tells.key_is, one) (holds_said found (ap is_some says ∙ told) ∙ says)

-- an entry of versions of which one has the value is one byte
pub one_byte : (column : ℕ) (value : Value) (versions : List Version) → list_any (λ version. has_value column value version.row) versions ≡ true
    → (mark : ℕ) × (entry_said column value versions ≡ Some (mark ∷ []))
one_byte column value versions some = (mark_code (not (has_value column value (newest versions))), rw some refl)

pub cleared_any : (column : ℕ) (value : Value) (before said : List Version) → list_any (λ version. has_value column value version.row) before ≡ true
    → IsCleared before said → list_any (λ version. has_value column value version.row) said ≡ true
cleared_any column value before said some (inl same) = rw same some
cleared_any column value before said some (inr (gone, none, same)) = rw (same, some) (or-true (has_value column value gone.row))

pub lagging_any : (column : ℕ) (value : Value) (first : Version) (before said : List Version)
    → list_any (λ version. has_value column value version.row) before ≡ true → IsLagging first before said
    → list_any (λ version. has_value column value version.row) said ≡ true
lagging_any column value first before said some (inl cleared) = cleared_any column value before said some cleared
lagging_any column value first before said some (inr same) = rw (same, some) (or-true (has_value column value first.row))

pub newest_any : (column : ℕ) (row : List Value) (before : List Version) → newest before ≡ Some row
    → list_any (λ version. has_value column (value_in column row) version.row) before ≡ true
newest_any column row [] is = absurd cc
newest_any column row (version ∷ before) is = rw (is, value_itself (value_in column row))
