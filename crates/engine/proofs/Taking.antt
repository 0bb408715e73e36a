-- The keys of a table take a row over, step by step.
use Rattle.std.proofs.Common.{false, ◌≡◌, ◌≢◌, ◌∙◌, ⊎_elim, inr, sym, ap, subst, refl, ℕ, ◌≤◌, List, length, Option, None, Some, slice_get, arith}
use Rattle.std.specs.Prelude.{All}
use Rattle.inno_types.specs.declared.value.Value.{Value}
use Rattle.inno_types.specs.declared.value.Column.{Column}
use Rattle.inno_types.specs.declared.value.Schema.{Schema}
use Rattle.inno_db.specs.Database.{key_of}
use Rattle.key_codec.specs.Keys.{Has64Bits, key_code}
use Rattle.row_versions.specs.Chains.{Chains}
use Rattle.law_stored_rows.specs.Storable.{IsStorable}
use Rattle.law_stored_rows.specs.Fitting.{FitsTable}
use Rattle.law_stored_rows.proofs.Coding.{short_key, short_value}
use Rattle.row_codec.specs.Rows.{version_code}
use Rattle.store_api.specs.declared.moves.Move.TheVariants as moves
use Rattle.store_api.specs.declared.moves.Move.{Move}
use Rattle.entries.specs.{Calls.Inserts, Index.Index, Index.Paged, Index.InPages, Index.GoesOn}
use Rattle.law_stored_rows.specs.Edits.{clustered_index, key_index}
use Rattle.law_held_steps.proofs.Hindering.{keys_lack}
use Rattle.law_held_steps.specs.Hindering.{IsForWant}
use Rattle.world.specs.{State.WorldState, AtHand.IsAtHand}
use Rattle.world.specs.Stores.{StoreGoes}
use Rattle.world.proofs.Stores.{store_goes_on}
use Rattle.world.specs.Indexes.{Changes}
use Rattle.row_changes.specs.declared.keys_change.KeysChange.{KeysChange}
use Rattle.row_changes.specs.Reached.{Went, Done, Hindered}
use Rattle.row_changes.specs.Edits.{IsRowFor}
use Rattle.row_changes.specs.Told.{HasRows}
use Rattle.row_changes.proofs.Alone.{alone_over}
use Rattle.law_stored_rows.specs.Tables.{what_is_there}
use Rattle.row_changes.specs.{Keys.IsChangingKeys, Keys.ChangesKeys, Keys.HindersKeys, Reached.Reached}
use Rattle.engine.specs.Laid.{PutsNewRecord}
use Rattle.row_changes.specs.{Awaited.AwaitsNoMore, Awaited.AwaitsNobody}
use Rattle.row_changes.proofs.Awaited.{awaits_then}

-- the bytes are the key of the row
pub row_for : (schema : Schema) (row : List Value) (key : List ℕ) → FitsTable schema row → All Has64Bits row
    → ((column : Column) → slice_get schema.columns schema.primary ≡ Some column → key ≡ key_code column.kind (key_of schema row)) → IsRowFor schema row key
row_for schema row key fits numbers spelled =
    record {
      fits = fits;
      numbers = numbers;
      key_is = record { column = fits.key.column; primary = fits.key.primary; present = fits.key.of_kind; spelled = spelled fits.key.column fits.key.primary };
    }

pub key_short : (schema : Schema) (row : List Value) (key : List ℕ) → IsStorable schema → IsRowFor schema row key → length key ≤ 67
key_short schema row key storable is = let short = short_key schema row key storable is.key_is in omega (arith, short)

pub value_short : (schema : Schema) (row : List Value) (key value : List ℕ) → IsStorable schema → IsRowFor schema row key
    → value ≡ version_code schema (record { row = row; writer = 0; pointer = 0; marked = false }) → length value ≤ 1024
value_short schema row key value storable is value_is =
    short_value schema (record { row = row; writer = 0; pointer = 0; marked = false }) key value storable
    (record { fits = is.fits.columns; key_is = is.key_is; value_is = value_is })

-- a record that was inserted
pub new_record : (table : ℕ) (schema : Schema) (row : List Value) (old new : WorldState) (key value : List ℕ) (index : ℕ) → IsRowFor schema row key
    → value ≡ version_code schema (record { row = row; writer = 0; pointer = 0; marked = false }) → index ≡ clustered_index table
    → Changes index 0 None (λ before after answer. Inserts 0 key value before after answer) old new moves.Done → PutsNewRecord table schema row old new key
new_record table schema row old new key value index row_is value_is index_is inserts =
    record {
      row_is = row_is;
      inserts =
          subst (λ i. Changes i 0 None (λ before after answer. Inserts 0 key
          (version_code schema (record { row = row; writer = 0; pointer = 0; marked = false })) before after answer) old new moves.Done) index_is
          (subst (λ v. Changes index 0 None (λ before after answer. Inserts 0 key v before after answer) old new moves.Done) value_is inserts);
    }

no_pages : (why : Paged → Paged → Type 0) (old new : Option Paged) → old ≡ None → InPages why old new → ⊥
no_pages why None None none cause = cause
no_pages why None (Some new) none cause = cause
no_pages why (Some old) new none cause = absurd (cc)

-- Where an index has no pages and nobody is awaited, a pair is put, or is there, or memory is lacking.
pub put_at_once : (key value : List ℕ) (old new : Index) → old.paged ≡ None → ((by : ℕ) → old.awaited ≡ Some by → ⊥) → (answer : Move)
    → Inserts 0 key value old new answer → answer ≢ moves.Done → ((there kept : List ℕ) → answer ≢ moves.At there kept) → answer ≢ moves.NoMemory → ⊥
put_at_once key value old new none nobody moves.Done is not_done not_there not_lacking = not_done refl
put_at_once key value old new none nobody (moves.At there kept) is not_done not_there not_lacking = not_there there kept refl
put_at_once key value old new none nobody moves.NoMemory is not_done not_there not_lacking = not_lacking refl
put_at_once key value old new none nobody (moves.Latch by) is not_done not_there not_lacking =
    ⊎_elim (λ kept. nobody by kept.held.awaited) (λ off. no_pages _ old.paged new.paged none off.cause) is
put_at_once key value old new none nobody moves.End is not_done not_there not_lacking = is
put_at_once key value old new none nobody other is not_done not_there not_lacking = no_pages _ old.paged new.paged none is.cause

-- nor does it have some amid a step
no_pages_mid : (old mid : Option Paged) → old ≡ None → GoesOn old mid → mid ≡ None
no_pages_mid None None none later = refl
no_pages_mid None (Some mid) none later = absurd later
no_pages_mid (Some old) mid none later = absurd (cc)

-- where indexes have no pages, what a step of keys wants is memory
memory_lacks : (mid new : WorldState) (change : KeysChange) → ((index : ℕ) → (mid.indexes index).paged ≡ None) → (why : Move) → IsForWant why
    → HindersKeys 0 mid new change why → why ≡ moves.NoMemory
memory_lacks mid new change none moves.NoMemory want off = refl
memory_lacks mid new change none (moves.Full need free) want off =
    ⊎_elim (λ lacks. absurd (no_pages _ _ _ (no_pages_mid _ _ (none (key_index change.table off.which)) lacks.reached.later) lacks.cause.cause)) (λ gone. absurd (let same = gone.0 in cc)) off.cause
memory_lacks mid new change none moves.TooDeep want off =
    ⊎_elim (λ lacks. absurd (no_pages _ _ _ (no_pages_mid _ _ (none (key_index change.table off.which)) lacks.reached.later) lacks.cause.cause)) (λ gone. absurd (let same = gone.0 in cc)) off.cause
memory_lacks mid new change none other want off = absurd want

-- since this change began the keys have come so far
pub record IsTaking (start : KeysChange) (old now : WorldState) (change : KeysChange) : Type 0 where
  pub chains : Chains
  pub holds : IsChangingKeys chains (what_is_there chains) now change
  pub follows : (those : Chains) → IsChangingKeys those (what_is_there those) old start → IsChangingKeys those (what_is_there those) now change
  pub table_is : change.table ≡ start.table
  pub awaits : AwaitsNoMore old now
  pub rest : now ≡ record old { indexes = now.indexes; versions = now.versions; paged = now.paged }
  pub later : StoreGoes old.paged now.paged

-- what two steps leave as it was
rests : (old mid new : WorldState) → mid ≡ record old { indexes = mid.indexes; versions = mid.versions; paged = mid.paged }
    → new ≡ record mid { indexes = new.indexes; versions = new.versions; paged = new.paged }
    → new ≡ record old { indexes = new.indexes; versions = new.versions; paged = new.paged }
rests old mid new first next = next ∙ ap (λ (s : WorldState). record s { indexes = new.indexes; versions = new.versions; paged = new.paged }) first

module _ (start : KeysChange) (old mid new : WorldState) (change : KeysChange) (taking : IsTaking start old mid change) where
  -- what its step leaves, where nobody else changes a row
  abbrev pub Steps : Reached KeysChange → Type 0
  Steps reached =
      (chains : Chains) → IsChangingKeys chains (what_is_there chains) mid change
      → ChangesKeys 0 chains (what_is_there chains) mid new change reached

  pub taken_awaits : AwaitsNoMore mid new → AwaitsNoMore old new
  taken_awaits awaits = awaits_then taking.awaits awaits

  pub taking_next : (next : KeysChange) → Steps (Went next)
      → AwaitsNoMore mid new → IsTaking start old new next
  taking_next next step awaits =
      let mine = step taking.chains taking.holds in
      record {
        chains = taking.chains;
        holds = mine.holds;
        follows = λ those is. (step those (taking.follows those is)).holds;
        table_is = mine.table_is ∙ taking.table_is;
        awaits = taken_awaits awaits;
        rest = rests old mid new taking.rest mine.stays.rest;
        later = store_goes_on old.paged mid.paged new.paged taking.later mine.stays.later;
      }

  pub taken_rows : Steps Done → (chains : Chains)
      → IsChangingKeys chains (what_is_there chains) old start → HasRows chains new
  taken_rows step chains is = let now = taking.follows chains is in alone_over 0 chains mid new change now (step chains now)

  pub taken_rest : Steps Done
      → new ≡ record old { indexes = new.indexes; versions = new.versions; paged = new.paged }
  taken_rest step = rests old mid new taking.rest (step taking.chains taking.holds).0.rest

  pub taken_later : Steps Done → StoreGoes old.paged new.paged
  taken_later step = store_goes_on old.paged mid.paged new.paged taking.later (step taking.chains taking.holds).0.later

  -- Nobody was awaited when the change began, and the indexes have no pages, so nothing but want of memory hinders its step.
  pub taking_lacks : IsAtHand mid → IsAtHand new → ((index : ℕ) → (mid.indexes index).paged ≡ None) → AwaitsNobody old → (same : KeysChange) (why : Move)
      → Steps (Hindered same why) → why ≡ moves.NoMemory
  taking_lacks was now none nobody same why step =
      let off = (step taking.chains taking.holds).3 in
      memory_lacks mid new change none why (keys_lack 0 mid new was now
      (λ i by is. nobody i by (taking.awaits.each i by is)) change why off) off
