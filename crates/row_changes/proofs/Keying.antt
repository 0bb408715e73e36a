-- What one key says of a place while a change goes over into the keys, and what stays known meanwhile.
use Rattle.std.proofs.Common.{◌≡◌, ◌≢◌, ⊎_elim, ◌∙◌, sym, ap, subst, refl, ℕ, zero, suc, ◌+◌, ◌<◌, ◌≤◌, ◌^◌, ◌==◌, Bool, true, false, cond, List, ◌∷◌, length}
use Rattle.std.proofs.Common.{Option, None, Some, slice_get, arith, rules, ◌-◌, ◌*◌, ◌⊎◌, inl, inr}
use Rattle.std.specs.Prelude.{◌&&◌, IfSome, is_some}
use Rattle.std.proofs.lemmas.{Bool.cases_eq, Bool.eqb-true, Option.slice_get_within, Option.slice_get_cases, Option.get_or_from_slice_get}
use Rattle.key_codec.specs.Keys.{HasKey, Has64Bits, key_code, entry_code}
use Rattle.key_codec.proofs.Lengths.{length-entry_code}
use Rattle.inno_types.specs.{declared.value.Value.Value, declared.value.Value.TheVariants.Null, declared.value.Column.Column, declared.value.Key.Key}
use Rattle.inno_types.specs.declared.value.Schema.{Schema}
use Rattle.inno_db.specs.Database.{key_of}
use Rattle.store_api.specs.{declared.moves.Move.Move}
use Rattle.store_api.specs.declared.answers.Version.{Version as Coded}
use Rattle.entries.specs.{Pairs.value_of}
use Rattle.row_versions.specs.{declared.place.Place.Place, declared.version.Version.Version}
use Rattle.row_versions.specs.Chains.{Chains, versions_at, is_same_place, newest}
use Rattle.row_codec.specs.Rows.{version_code}
use Rattle.law_stored_rows.specs.{Edits.key_index, Edits.clustered_index, Entries.value_in, Entries.has_value, Entries.entry_of, Entries.TellAlike}
use Rattle.law_stored_rows.specs.{Records.shown}
use Rattle.law_stored_rows.specs.{Tables.Said, Tables.AreCodedAs, Tables.SaysNow, Tables.SayTheSameBut, Storable.IsStorable}
use Rattle.law_stored_rows.specs.Steps.{PutsEntry as PutsStored}
use Rattle.row_changes.specs.{Told.HasRowsAt, Told.AreRowsAs, Edits.IsRowFor, declared.entry_put.PutPhase.PutPhase}
use Rattle.row_changes.specs.declared.entry_put.PutPhase.TheVariants.{Look}
use Rattle.row_changes.specs.{declared.entry_put.EntryPut.EntryPut, declared.keys_change.KeysChange.KeysChange, declared.key_entries.KeyEntries.KeyEntries}
use Rattle.row_changes.specs.{Reached.Hindered, Pairs.HindersBehind, Pairs.RowsStay, Pairs.PutsPair}
use Rattle.row_changes.specs.Keys.{StaysBesideKeys, gone, SaySoFar, said_next, keys_next, without_row, keys_steps, HasRowsSoFar, ChangesKeys, IsEntering}
use Rattle.row_changes.specs.Keys.{IsChangingKeys, GoesOnWithKeys, value_stays, AreEntries, StayBetween, IsEntryIn, IsEntryFor, IsEntryAt, ChangesItsEntry}
use Rattle.row_changes.specs.Entries.{marked, unmarked, PutsEntry, GoesOnPutting, HindersEntry, IsMarking, put_steps}
use Rattle.row_changes.specs.declared.entry_mark.EntryMark.{EntryMark}
use Rattle.law_stored_rows.proofs.{Pairs.no_key, Values.same_place, Values.place_itself, Values.same_value, Values.value_itself, Values.entry_there}
use Rattle.law_stored_rows.proofs.{Coding.short_entries, FittingValues.at_or}
use Rattle.law_stored_rows.proofs.Steps.{old_marked, new_put, first_put}
use Rattle.law_stored_rows.proofs.{Coding.value_in-kind, Keys.now_says, Keys.others_say, Keys.lag_says, Keys.said_alike, Keys.change_over}
use Rattle.law_stored_rows.proofs.Entries.{holds_said, is_unmarked, value_again, without_row as tells_no_row}
use Rattle.row_changes.proofs.{Changing.at_once, Changing.same_rows, Sessions.one_found, Pushed.at_primary, Pushed.plain, Pushed.code_of, Pushed.table_kept}
use Rattle.row_changes.proofs.Telling.{tells, stays_told, rows_again, rows_at, coded_again, put_told, put_pairs}
use Rattle.world.specs.{State.IsIndex, State.WorldState, Told.pairs_of, Told.IsTold, Widths.width_if, Widths.key_len}
use Rattle.world.proofs.Widths.{record_key_len, entry_key_len, entry_value_len, has_key_len, has_value_len}
use Rattle.store_api.specs.declared.moves.Move.TheVariants as moves

-- what is said once one key says something else of one place
abbrev pub says_of : Said → Place → ℕ → List Version → Said
says_of was place which versions table key value =
    cond (key == which && is_same_place place (record { table = table; key = value })) versions (was table key value)

-- what is said once all keys say this of the place
abbrev pub says_all : Said → Place → List Version → Said
says_all was place versions table which value = cond (is_same_place place (record { table = table; key = value })) versions (was table which value)

-- the next key says something else now
say_here : (chains : Chains) (beside : Said) (place : Place) (done : ℕ) (next now older : List Version) (said : Said)
    → SaySoFar chains beside place done next older said → SaySoFar chains beside place done now older (says_of said place done now)
say_here chains beside place done next now older said so =
    let kept =
    λ (which : ℕ) (differs : which ≢ done).
    others_say said (says_of said place done now) place done now (λ t k v. refl) place.table which place.key differs in
    record {
      lag = lag_says said (says_of said place done now) place done now (λ t k v. refl) beside so.lag;
      first = λ which below. kept which (omega arith) ∙ so.first which below;
      here = now_says said (says_of said place done now) place done now (λ t k v. refl);
      later = λ which above. kept which (omega arith) ∙ so.later which above;
    }

-- the next key is done
say_more : (chains : Chains) (beside : Said) (place : Place) (done : ℕ) (older : List Version) (said : Said)
    → SaySoFar chains beside place done (versions_at place chains) older said → SaySoFar chains beside place (done + 1) older older said
say_more chains beside place done older said so =
    record {
      lag = so.lag;
      first =
          λ which below. ⊎_elim (λ e. rw e so.here) (λ differs. so.first which (omega (arith, below, differs))) (cases_eq which done);
      here = so.later (done + 1) (omega arith);
      later = λ which above. so.later which (omega arith);
    }

alike_if : (a b : Bool) (column : ℕ) (was now : List Version) → (a ≡ true → b ≡ true → TellAlike column was now) → TellAlike column was (cond (a && b) now was)
alike_if true true column was now alike = alike refl refl
alike_if a b column was now alike = λ value. refl

-- a key whose value stays tells the same
stays_alike : (column : ℕ) (before after : Option (List Value)) (version : Version) (older : List Version) → newest older ≡ before
    → version.row ≡ after → value_stays column before after ≡ true → TellAlike column older (version ∷ older)
stays_alike column None None version older was is stays = tells_no_row column version older is was
stays_alike column (Some before) (Some after) version older was is stays =
    value_again column before version older after was is (same_value (value_in column before) (value_in column after) stays)
stays_alike column before after version older was is stays = absurd (cc)

so_far_kept : (chains : Chains) (beside : Said) (place : Place) (done : ℕ) (next older : List Version) (old new : WorldState) → RowsStay old new
    → HasRowsSoFar chains beside place done next older old → HasRowsSoFar chains beside place done next older new
so_far_kept chains beside place done next older old new stay rows told =
    let was = rows (stays_told old new stay told) in
    (was.0, rows_again old new chains was.0 stay told was.1, was.2)

-- what is known of the change at its next step
pub changing_next : (chains : Chains) (beside : Said) (old new : WorldState) (change : KeysChange) (which : ℕ) (put : Option EntryPut)
    (p : IsChangingKeys chains beside old change) → new.schemas ≡ old.schemas → (IsTold new → IsTold old) → which ≤ length p.schema.keys
    → IfSome put (IsEntering p.schema change.table which change.after change.key new)
    → HasRowsSoFar chains beside (record { table = change.table; key = p.value }) which (said_next put change.before p.older) p.older new
    → IsChangingKeys chains beside new (record change { which = which; put = put })
changing_next chains beside old new change which put p same back within entering rows =
    record {
      schema = p.schema;
      table = table_kept change.table p.schema old new same p.table;
      value = p.value;
      at = p.at;
      before = p.before;
      after = p.after;
      within = within;
      put = entering;
      older = p.older;
      pushed = p.pushed;
      was = λ told. p.was (back told);
      rows = rows;
    }

pub beside_stay : (old new : WorldState) → RowsStay old new → StaysBesideKeys old new
beside_stay old new stay = record {
  told = stays_told old new stay;
  records = λ table. stay.pairs (clustered_index table);
  places = stay.places;
  versions = stay.versions;
  rest = stay.rest;
  later = stay.later;
}

some_key : (schema : Schema) (which : ℕ) → which < length schema.keys → (key : Key) × (slice_get schema.keys which ≡ Some key)
some_key schema which within = ⊎_elim (λ found. (found.0, found.2)) (λ none. let out = none.0 in absurd (omega arith)) (slice_get_cases schema.keys which).1

some_step : (phase : PutPhase) → 0 < put_steps phase
some_step Look = omega arith
some_step other = omega arith

-- memory was lacking before a call
pub lacks_memory_now : (actor : ℕ) (chains : Chains) (beside : Said) (state : WorldState) (change : KeysChange) → IsChangingKeys chains beside state change
    → ChangesKeys actor chains beside state state change (Hindered change moves.NoMemory)
lacks_memory_now actor chains beside state change p = (
  refl,
  same_rows state,
  p,
  record {
    which = change.which;
    from = omega arith;
    cause = inl (at_once ((same_rows state).pairs (key_index change.table change.which)) (record {}));
  },
)

-- an entry of a row is short
short_entry : (schema : Schema) (which : ℕ) (row : Option (List Value)) (primary entry : List ℕ) → IsStorable schema
    → IfSome row (λ r. IsRowFor schema r primary) → IsEntryFor schema which row primary (Some entry) → length entry ≤ 67
short_entry schema which None primary entry storable fits is = absurd is
short_entry schema which (Some row) primary entry storable fits is =
    let within : which < length schema.keys = slice_get_within schema.keys which is.key is.key_is in
    let short = rw (get_or_from_slice_get schema.keys which is.key is.key is.key_is) at (short_entries schema storable which is.key within) in
    short row entry (record {
      column = is.indexed;
      there = is.indexed_is;
      of_kind = value_in-kind schema.columns row is.key.column is.indexed fits.fits.columns is.indexed_is;
      primary = primary;
      primary_is = fits.key_is;
      spelled = is.spelled;
    })

-- and as long as those of its key
long_entry : (schema : Schema) (which : ℕ) (row : Option (List Value)) (primary entry : List ℕ) → IfSome row (λ r. IsRowFor schema r primary)
    → IsEntryFor schema which row primary (Some entry) → length entry ≡ key_len schema (1 + which)
long_entry schema which None primary entry fits is = absurd is
long_entry schema which (Some row) primary entry fits is =
    let own = value_in-kind schema.columns row is.key.column is.indexed fits.fits.columns is.indexed_is in
    let long = ap length is.spelled ∙ length-entry_code is.indexed.kind (value_in is.key.column row) primary own in
    let width = ap width_if is.indexed_is in
    omega (arith, long, width, record_key_len schema row primary fits.key_is, entry_key_len schema which is.key is.key_is)

-- the entry of a row
pub at_entry : (schema : Schema) (which : ℕ) (row : List Value) (primary entry : List ℕ) → IsRowFor schema row primary
    → IsEntryIn schema which row primary entry → IsEntryAt schema which primary entry
at_entry schema which row primary entry fits is = record {
  key = is.key;
  key_is = is.key_is;
  indexed = is.indexed;
  indexed_is = is.indexed_is;
  value = value_in is.key.column row;
  has = (
    value_in-kind schema.columns row is.key.column is.indexed fits.fits.columns is.indexed_is,
    at_or Has64Bits Null row is.key.column tt fits.numbers,
  );
  spelled = is.spelled;
}

entry_for : (schema : Schema) (which : ℕ) (row : Option (List Value)) (primary entry : List ℕ) → IfSome row (λ r. IsRowFor schema r primary)
    → IsEntryFor schema which row primary (Some entry) → IsEntryAt schema which primary entry
entry_for schema which None primary entry fits is = absurd is
entry_for schema which (Some row) primary entry fits is = at_entry schema which row primary entry fits is

-- ---- a step of the change

module _ (chains : Chains) (beside : Said) (old new : WorldState) (change : KeysChange) (p : IsChangingKeys chains beside old change) where
  abbrev place : Place
  place = record { table = change.table; key = p.value }

  abbrev keys : ℕ
  keys = length p.schema.keys

  -- what the keys say of the place, where told
  abbrev SaySo : ℕ → List Version → WorldState → Type 0
  SaySo done next state = HasRowsSoFar chains beside place done next p.older state

  -- the keys say so much of the place before the step
  abbrev SayOf : ℕ → List Version → Type 0
  SayOf done next = (said : Said) × AreRowsAs chains said old × SaySoFar chains beside place done next p.older said

  few : (which : ℕ) → which < keys → which < 4
  few which within = let most = p.table.storable.few in omega arith

  -- ---- what keys say

  -- a key whose entries stay is done
  pass_one : (done : ℕ) → ((key : Key) → slice_get p.schema.keys done ≡ Some key → TellAlike key.column p.older (p.pushed.version ∷ p.older))
      → SayOf done p.older → SayOf (done + 1) p.older
  pass_one done alike says = (
    says_of says.0 place done (versions_at place chains),
    said_alike _ _ _ _ _ _ says.1
        (λ table which s k s_there k_there value. alike_if (which == done) (is_same_place place (record { table = table; key = value })) k.column
        (says.0 table which value) (versions_at place chains) (here table which s k s_there k_there value)),
    say_more chains beside place done p.older _ (say_here chains beside place done p.older (versions_at place chains) p.older says.0 says.2),
  )
    where
      here : (table which : ℕ) (s : Schema) (k : Key) → slice_get old.schemas table ≡ Some s → slice_get s.keys which ≡ Some k → (value : Value)
          → (which == done) ≡ true → is_same_place place (record { table = table; key = value }) ≡ true
          → TellAlike k.column (says.0 table which value) (versions_at place chains)
      here table which s k s_there k_there value at same =
          let number : which ≡ done = eqb-true which done at in
          let Alike : Place → Type 0 =
          λ q. slice_get old.schemas q.table ≡ Some s → TellAlike k.column (says.0 q.table which q.key) (versions_at place chains) in
          let at_place : Alike place = λ s_is v.
          let k_is : slice_get p.schema.keys done ≡ Some k = rw (one_found p.schema s p.table.there s_is, ← number) k_there in
          rw (number, says.2.here) (alike k k_is v ∙ ap (entry_of k.column v) (sym p.pushed.versions)) in
          subst Alike (same_place place (record { table = table; key = value }) same) at_place s_there

  -- so many of them
  pass : (n done to : ℕ) → done + n ≡ to
      → ((which : ℕ) (key : Key) → done ≤ which → which < to → slice_get p.schema.keys which ≡ Some key → TellAlike key.column p.older
      (p.pushed.version ∷ p.older)) → SayOf done p.older → SayOf to p.older
  pass zero done to same alike says = let all : to ≡ done = omega (arith, same) in rw all says
  pass (suc n) done to same alike says =
      pass n (done + 1) to (omega (arith, same)) (λ which key from. alike which key (omega arith))
      (pass_one done (λ key. alike done key (omega arith) (omega (arith, same))) says)

  -- the next key says what is there, and is done
  so_far_done : (done : ℕ) (next : List Version) (state : WorldState) → next ≡ versions_at place chains → SaySo done next state
      → SaySo (done + 1) p.older state
  so_far_done done next state is rows told =
      let now = rows told in
      (now.0, now.1, say_more chains beside place done p.older now.0 (rw is at now.2))

  -- whatever the keys said, this one says something else of the row's place, and the pairs are as it says
  abbrev MovesOn : ℕ → List Version → List Version → List Value → Type 0
  MovesOn done next now row =
      (was : Said) → AreRowsAs chains was old → was change.table done (key_of p.schema row) ≡ next
      → SaysNow was (says_of was place done now) (record { table = change.table; key = key_of p.schema row }) done now
      → AreCodedAs old.schemas (pairs_of new) old.versions.kept_at chains (says_of was place done now)

  -- an entry of a row of the place has changed, so its key says something else, where told
  entry_put : (done : ℕ) (next now : List Version) (row : List Value) (entry : List ℕ) (value : Option (List ℕ))
      → PutsPair (key_index change.table done) entry value old new → IsRowFor p.schema row change.key
      → (IsTold new → MovesOn done next now row) → SaySo done next old → SaySo done now new
  entry_put done next now row entry value puts fits law rows told =
      let says = rows (put_told (key_index change.table done) entry value old new puts told) in
      let home = at_primary p.schema p.value change.key _ (plain row 0) p.at (code_of p.schema row change.key 0 (omega arith) fits) in (
        says_of says.0 place done now,
        coded_again _ _ _ _ _ _ _ _ (ap (λ (state : WorldState). state.schemas) puts.rest) refl (puts.versions.kept told.versions)
            (law told says.0 says.1 (ap (says.0 change.table done) home ∙ says.2.here) (rw home (λ t w v. refl))),
        say_here chains beside place done next now p.older says.0 says.2,
      )

  -- the entry of a row of the place has been put
  puts_entry : (which : ℕ) (row : List Value) (writer : ℕ) (entry : List ℕ) (now : Option (List ℕ)) → writer < 2 ^ 64 → IsRowFor p.schema row change.key
      → (is : IsEntryIn p.schema which row change.key entry) → PutsPair (key_index change.table which) entry now old new → IsTold new
      → PutsStored old.schemas (pairs_of old) (pairs_of new) change.table p.schema which is.key.column (plain row writer) now
  puts_entry which row writer entry now small fits is puts told =
      record {
        there = p.table.there;
        key = is.key;
        key_is = is.key_is;
        column_is = refl;
        indexed = is.indexed;
        indexed_is = is.indexed_is;
        primary = change.key;
        bytes = version_code p.schema (plain row writer);
        code_is = code_of p.schema row change.key writer small fits;
        puts = rw is.spelled at (put_pairs (key_index change.table which) entry now old new puts told);
      }

  -- the keys from this one up to the other are passed over
  rows_passed : (to : ℕ) → change.put ≡ None → change.which ≤ to → StayBetween p.schema change.which to change.before change.after → SaySo to p.older old
  rows_passed to none from stay told =
      let waiting : SaySo change.which p.older old = rw none at p.rows in
      pass (to - change.which) change.which to (omega arith)
      (λ which key from' below is. stays_alike key.column change.before change.after p.pushed.version p.older (p.was told) p.pushed.is
      (stay which key from' below is)) (waiting told)

  -- all keys say of the place what is there
  pub over : change.put ≡ None → StayBetween p.schema change.which keys change.before change.after → HasRowsAt chains beside change.table change.key old
  over none stay =
      rows_at chains beside change.table p.schema p.value change.key old p.table.there p.at (λ told.
      let says = rows_passed keys none p.within stay told in
      let lags : SayTheSameBut place beside (says_all says.0 place (versions_at place chains)) =
      λ table which value apart. rw apart (says.2.lag table which value apart) in (
        says_all says.0 place (versions_at place chains),
        change_over old.schemas (pairs_of old) old.versions.kept_at chains place beside says.0 _ says.1 says.2.lag lags
            (λ which s k s_there k_there value. rw (place_itself place) (ap (entry_of k.column value) (says.2.first which
            (slice_get_within p.schema.keys which k
            (ap (λ (x : Schema). slice_get x.keys which) (one_found p.schema s p.table.there s_there) ∙ k_there))))),
        lags,
        λ which. rw (place_itself place) refl,
      ))

  -- ---- the next step

  -- the next step, some steps nearer
  goes_on : (which : ℕ) (put : Option EntryPut) → StaysBesideKeys old new → ChangesItsEntry p.schema change.table change.key old new → which ≤ keys
      → IfSome put (IsEntering p.schema change.table which change.after change.key new) → SaySo which (said_next put change.before p.older) new
      → keys_steps (keys - which) put < keys_steps (keys - change.which) change.put
      → GoesOnWithKeys chains beside old new change (record change { which = which; put = put })
  goes_on which put stays its within entering rows nears =
      record {
        stays = stays;
        entry = λ schema there. rw (one_found schema p.schema there p.table.there) its;
        table_is = refl;
        key_is = refl;
        before_is = refl;
        after_is = refl;
        holds = changing_next chains beside old new change which put p (ap (λ (state : WorldState). state.schemas) stays.rest) stays.told within entering rows;
        nears = λ schema there. rw (one_found schema p.schema there p.table.there) nears;
      }

  changing_kept : RowsStay old new → IfSome change.put (IsEntering p.schema change.table change.which change.after change.key new)
      → IsChangingKeys chains beside new change
  changing_kept stay entering =
      changing_next chains beside old new change change.which change.put p (ap (λ (state : WorldState). state.schemas) stay.rest)
      (stays_told old new stay) p.within entering
      (so_far_kept chains beside place change.which (said_next change.put change.before p.older) p.older old new stay p.rows)

  -- an entry has changed, and the index of a key holds no records
  beside_put : (which : ℕ) (key : List ℕ) (value : Option (List ℕ)) → which < keys → PutsPair (key_index change.table which) key value old new
      → StaysBesideKeys old new
  beside_put which key value within puts = record {
    told = put_told (key_index change.table which) key value old new puts;
    records = λ table. puts.elsewhere (clustered_index table) (λ same. no_key table change.table which (few which within) (sym same));
    places = puts.places;
    versions = puts.versions;
    rest = puts.rest;
    later = puts.later;
  }

  -- ---- the old entry

  module _ (entries : KeyEntries) (entry : List ℕ) (none : change.put ≡ None)
      (all : AreEntries p.schema change.which change.before change.after change.key entries) (old_is : entries.old ≡ Some entry) where
    -- it is there, since the key says what was there before
    old_there : IsTold old → value_of entry (pairs_of old (key_index change.table entries.which)) ≡ Some unmarked
    old_there told = go change.before refl (rw old_is at all.old_is)
      where
        go : (before : Option (List Value)) → change.before ≡ before → IsEntryFor p.schema entries.which before change.key (Some entry)
            → value_of entry (pairs_of old (key_index change.table entries.which)) ≡ Some unmarked
        go None was e = absurd e
        go (Some row) was e =
            let value = value_in e.key.column row in
            let says = rows_passed entries.which none all.first.from_there all.first.stay told in
            let keyed = says.1.keyed.keys change.table entries.which p.schema e.key p.table.there e.key_is in
            let primary : p.at.column ≡ keyed.primary = (let first = p.at.primary in let again = keyed.primary_is in cc) in
            let indexed : e.indexed ≡ keyed.indexed = (let first = e.indexed_is in let again = keyed.indexed_is in cc) in
            let fits : IsRowFor p.schema row change.key = rw was at p.before in
            let has = entry_there p.schema change.key _ (plain row 0) e.key.column keyed.indexed (code_of p.schema row change.key 0 (omega arith) fits)
            keyed.indexed_is in
            let is_there : has_value e.key.column value (newest p.older) ≡ true = rw (p.was told ∙ was) (value_itself value) in
            let primary_code = p.at.spelled ∙ ap (λ (c : Column). key_code c.kind p.value) primary in
            let code : entry ≡ entry_code keyed.indexed.kind value (key_code keyed.primary.kind p.value) =
            e.spelled ∙ (λ i. entry_code (indexed i).kind value (primary_code i)) in
            let said = ap (entry_of e.key.column value) says.2.here ∙ is_unmarked e.key.column value p.older is_there in
            ap (λ (k : List ℕ). value_of k (pairs_of old (key_index change.table entries.which))) code
            ∙ holds_said (keyed.marks p.value value (subst (λ (c : Column). HasKey c.kind p.value) primary p.at.has_key) has) (ap is_some said) ∙ said

    -- it may be marked
    pub may_mark : (mark : EntryMark) → mark.index ≡ key_index change.table entries.which → IsMarking old mark
    may_mark mark is =
        let within : 1 + entries.which < 8 = (let f = few entries.which all.within in omega arith) in
        record {
          index_is =
              record {
                table = change.table;
                which = 1 + entries.which;
                number = is;
                schema = p.schema;
                there = p.table.there;
                key = (let w = all.within in omega arith);
                few = within;
              };
          value_len =
              has_value_len change.table (1 + entries.which) p.schema is within p.table.there marked (sym (entry_value_len p.schema entries.which));
        }

    mark_cause : (actor : ℕ) (why : Move) → RowsStay old new → HindersEntry actor entry (old.indexes (key_index change.table entries.which)) (new.indexes
        (key_index change.table entries.which)) why → HindersBehind actor (old.indexes (key_index change.table entries.which))
        (new.indexes (key_index change.table entries.which)) why ⊎ ((why ≡ moves.End) × (IsTold old → ⊥))
    mark_cause actor moves.End stay lacks = inr (
      refl,
      λ told.
          let index = key_index change.table entries.which in
          let gone = tells (λ pairs. value_of entry pairs ≡ None) (old.indexes index).pairs lacks (told.pairs index) in
          let there = old_there told in cc,
    )
    mark_cause actor other stay call = inl (at_once (stay.pairs (key_index change.table entries.which)) call)

    pub mark_hindered : (actor index : ℕ) (why : Move) → index ≡ key_index change.table entries.which → RowsStay old new
        → HindersEntry actor entry (old.indexes index) (new.indexes index) why → ChangesKeys actor chains beside old new change (Hindered change why)
    mark_hindered actor index why is stay because = (
      refl,
      stay,
      changing_kept stay (rw none (record {})),
      record { which = entries.which; from = all.first.from_there; cause = mark_cause actor why stay (rw is at because) },
    )

  waiting_steps : change.put ≡ None → keys_steps (keys - change.which) change.put ≡ 4 * (keys - change.which)
  waiting_steps none = ap (keys_steps (keys - change.which)) none

  -- the new row's entry is put next
  put_next : (entries : KeyEntries) (entry : List ℕ) → change.put ≡ None → AreEntries p.schema change.which change.before change.after change.key entries
      → IsEntryFor p.schema entries.which change.after change.key (Some entry) → StaysBesideKeys old new
      → ChangesItsEntry p.schema change.table change.key old new
      → SaySo entries.which (without_row change.before p.older) new → GoesOnWithKeys chains beside old new change
      (keys_next change (key_index change.table entries.which) entries.which (Some entry))
  put_next entries entry none all new_entry stays its rows =
      let within = all.within in
      let from = all.first.from_there in
      let waits = waiting_steps none in
      let index = key_index change.table entries.which in
      let number : IsIndex new.schemas index =
      record {
        table = change.table;
        which = 1 + entries.which;
        number = refl;
        schema = p.schema;
        there = rw stays.rest p.table.there;
        key = omega (arith, within);
        few = (let f = few entries.which within in omega arith);
      } in
      goes_on entries.which (Some (record { index = index; entry = entry; phase = Look })) stays its (omega (arith, within)) (record {
        index_is = refl;
        entry_is = new_entry;
        within = within;
        putting =
            record {
              index_is = number;
              short = short_entry p.schema entries.which change.after change.key entry p.table.storable p.after new_entry;
              key_len =
                  has_key_len change.table (1 + entries.which) p.schema refl number.few number.there entry
                  (long_entry p.schema entries.which change.after change.key entry p.after new_entry);
              value_len =
                  has_value_len change.table (1 + entries.which) p.schema refl number.few number.there unmarked
                  (sym (entry_value_len p.schema entries.which));
              phase = record {};
            };
      }) rows (omega (arith, waits, within, from))

  -- nothing else is left to do in a key where no row is any more
  pub marked_on : (entries : KeyEntries) (entry : List ℕ) → change.put ≡ None
      → AreEntries p.schema change.which change.before change.after change.key entries → entries.old ≡ Some entry
      → PutsPair (key_index change.table entries.which) entry (Some marked) old new
      → GoesOnWithKeys chains beside old new change (keys_next change (key_index change.table entries.which) entries.which entries.new)
  marked_on entries entry none all old_is puts =
      go change.before change.after entries.new refl refl (rw old_is at all.old_is) all.new_is
    where
      stays : StaysBesideKeys old new
      stays = beside_put entries.which entry (Some marked) all.within puts

      its : ChangesItsEntry p.schema change.table change.key old new
      its = inr (
        entries.which,
        all.within,
        entry,
        Some marked,
        puts,
        λ told. entry_for p.schema entries.which change.before change.key entry p.before (rw old_is at all.old_is),
      )

      -- once the old row's entry is marked
      gone_now : (row : List Value) → change.before ≡ Some row → IsEntryIn p.schema entries.which row change.key entry → (version : Version)
          → version.row ≡ None → SaySo entries.which (version ∷ p.older) new
      gone_now row was e version no_row =
          let fits : IsRowFor p.schema row change.key = rw was at p.before in
          entry_put entries.which p.older (version ∷ p.older) row entry (Some marked) puts fits
          (λ told said are said_is now. old_marked _ _ _ _ _ said _ _ _ _ _ (plain row 0) are version p.older
          (puts_entry entries.which row 0 entry (Some marked) (omega arith) fits e puts told)
          said_is (p.was (stays.told told) ∙ was) no_row now) (rows_passed entries.which none all.first.from_there all.first.stay)

      go : (before after : Option (List Value)) (next : Option (List ℕ)) → change.before ≡ before → change.after ≡ after
          → IsEntryFor p.schema entries.which before change.key (Some entry) → IsEntryFor p.schema entries.which after change.key next
          → GoesOnWithKeys chains beside old new change (keys_next change (key_index change.table entries.which) entries.which next)
      go (Some row) None None was now e new_e =
          let within = all.within in
          let from = all.first.from_there in
          let waits = waiting_steps none in
          goes_on (entries.which + 1) None stays its (omega (arith, within)) (record {})
          (so_far_done entries.which (p.pushed.version ∷ p.older) new (sym p.pushed.versions) (gone_now row was e p.pushed.version (p.pushed.is ∙ now)))
          (omega (arith, waits, within, from))
      go (Some row) (Some later) (Some bytes) was now e new_e =
          put_next entries bytes none all (rw now new_e) stays its (rw was (gone_now row was e gone refl))
      go before after next was now e new_e = absurd (search rules)

  -- there is no old entry
  pub nothing_marked : (entries : KeyEntries) → change.put ≡ None
      → AreEntries p.schema change.which change.before change.after change.key entries → entries.old ≡ None → RowsStay old new
      → GoesOnWithKeys chains beside old new change (keys_next change (key_index change.table entries.which) entries.which entries.new)
  nothing_marked entries none all old_is stay =
      go change.before change.after entries.new refl refl (rw old_is at all.old_is) all.new_is
    where
      go : (before after : Option (List Value)) (next : Option (List ℕ)) → change.before ≡ before → change.after ≡ after
          → IsEntryFor p.schema entries.which before change.key None → IsEntryFor p.schema entries.which after change.key next
          → GoesOnWithKeys chains beside old new change (keys_next change (key_index change.table entries.which) entries.which next)
      go None None None was now e new_e =
          let key = some_key p.schema entries.which all.within in
          let differs : value_stays key.0.column None None ≡ false = rw (was, now) at (all.first.changes key.0 key.1) in
          absurd (cc)
      go None (Some later) (Some bytes) was now e new_e =
          put_next entries bytes none all (rw now new_e) (beside_stay old new stay) (inl stay)
          (rw was (so_far_kept chains beside place entries.which p.older p.older old new stay
          (rows_passed entries.which none all.first.from_there all.first.stay)))
      go before after next was now e new_e = absurd (search rules)

  -- ---- the new entry

  module _ (put : EntryPut) (put_is : change.put ≡ Some put) where
    entering : IsEntering p.schema change.table change.which change.after change.key old put
    entering = rw put_is at p.put

    waiting : SaySo change.which (without_row change.before p.older) old
    waiting = rw put_is at p.rows

    steps : keys_steps (keys - change.which) change.put ≡ 4 * ((keys - change.which) - 1) + put_steps put.phase
    steps = ap (keys_steps (keys - change.which)) put_is

    pub put_went : (next : EntryPut) → GoesOnPutting old new put next → GoesOnWithKeys chains beside old new change (record change { put = Some next })
    put_went next g =
        goes_on change.which (Some next) (beside_stay old new g.stays) (inl g.stays) p.within
        (record { index_is = g.index_is ∙ entering.index_is; entry_is = rw g.entry_is entering.entry_is; within = entering.within; putting = g.holds })
        (so_far_kept chains beside place change.which (without_row change.before p.older) p.older old new g.stays waiting)
        (let nearer = g.nears in omega (arith, steps, nearer))

    pub put_done : PutsPair put.index put.entry (Some unmarked) old new
        → GoesOnWithKeys chains beside old new change (record change { which = change.which + 1; put = None })
    put_done puts =
        let within = entering.within in
        goes_on (change.which + 1) None stays its (omega (arith, within)) (record {}) (rows change.before change.after refl refl entering.entry_is)
        (omega (arith, steps, within, some_step put.phase))
      where
        here : PutsPair (key_index change.table change.which) put.entry (Some unmarked) old new
        here = rw entering.index_is at puts

        stays : StaysBesideKeys old new
        stays = beside_put change.which put.entry (Some unmarked) entering.within here

        its : ChangesItsEntry p.schema change.table change.key old new
        its = inr (
          change.which,
          entering.within,
          put.entry,
          Some unmarked,
          here,
          λ told. entry_for p.schema change.which change.after change.key put.entry p.after entering.entry_is,
        )

        coded : List Value → Coded
        coded row = plain row p.pushed.version.writer

        now_said : List Value → List Version
        now_said row = shown (coded row) ∷ p.older

        rows : (before after : Option (List Value)) → change.before ≡ before → change.after ≡ after
            → IsEntryFor p.schema change.which after change.key (Some put.entry) → SaySo (change.which + 1) p.older new
        rows before None was now entry = absurd entry
        rows before (Some row) was now entry =
            let fits : IsRowFor p.schema row change.key = rw now at p.after in
            let shown_is : shown (coded row) ≡ p.pushed.version =
            ap (λ r. let v : Version = record { writer = p.pushed.version.writer; row = r } in v) (sym (p.pushed.is ∙ now)) in
            so_far_done change.which (now_said row) new (ap (λ (v : Version). v ∷ p.older) shown_is ∙ sym p.pushed.versions)
            (entry_put change.which (without_row before p.older) (now_said row) row put.entry (Some unmarked) here fits
            (λ told. step before was told (puts_entry change.which row p.pushed.version.writer put.entry (Some unmarked) p.pushed.small fits entry here told))
            (rw was at waiting))
          where
            step : (was_row : Option (List Value)) → change.before ≡ was_row → IsTold new
                → PutsStored old.schemas (pairs_of old) (pairs_of new) change.table p.schema change.which entry.key.column (coded row) (Some unmarked)
                → MovesOn change.which (without_row was_row p.older) (now_said row) row
            step None none told changed said are said_is =
                first_put _ _ _ _ _ said _ _ _ _ _ (coded row) are p.older changed refl said_is (p.was (stays.told told) ∙ none)
            step (Some was_row) some told changed said are said_is =
                new_put _ _ _ _ _ said _ _ _ _ _ (coded row) are gone p.older changed refl said_is refl

    pub put_waits : (actor : ℕ) (same : EntryPut) (why : Move) → PutsEntry actor old new put (Hindered same why)
        → ChangesKeys actor chains beside old new change (Hindered (record change { put = Some same }) why)
    put_waits actor same why h = (
      ap (λ (o : Option EntryPut). let c : KeysChange = record change { put = o } in c) (ap Some h.0 ∙ sym put_is),
      h.1,
      changing_kept h.1 (rw put_is (record { index_is = entering.index_is; entry_is = entering.entry_is; within = entering.within; putting = h.2 })),
      record {
        which = change.which;
        from = omega arith;
        cause = inl (rw entering.index_is at h.3);
      },
    )
