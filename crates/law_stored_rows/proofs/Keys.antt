-- What a change of one entry makes of the keys of all tables, and how a change of a place begins and ends.
use Rattle.std.proofs.Common.{◌≡◌, ◌≢◌, ◌∙◌, sym, ap, subst, refl, ℕ, ◌<◌, false, List, Option, Some, slice_get, inl, inr}
use Rattle.std.specs.Prelude.{◌==◌}
use Rattle.std.proofs.lemmas.Bool.{cases_eq, cases_Bool, eq-eqb, ne_eqb, and_from, and_right}
use Rattle.inno_types.specs.{declared.value.Value.Value, declared.value.Key.Key, declared.value.Column.Column, declared.value.Schema.Schema}
use Rattle.inno_db.specs.Database.{key_of}
use Rattle.store_api.specs.declared.answers.Version.{Version as Coded}
use Rattle.key_codec.specs.Keys.{entry_code}
use Rattle.entries.specs.Pairs.{Pair}
use Rattle.row_versions.specs.{declared.kept.Kept.Kept, declared.place.Place.Place, declared.version.Version.Version, Chains.Chains}
use Rattle.row_versions.specs.{Chains.is_same_place}
use Rattle.law_stored_rows.specs.{Edits.clustered_index, Edits.key_index, Edits.Puts, Records.IsCodeOf}
use Rattle.law_stored_rows.specs.Entries.{is_same_value, value_in, entry_of, HasEntries, TellAlike, TellAlikeBut}
use Rattle.law_stored_rows.specs.Tables.{place_in, Said, AreCodedAs, SayTheSameBut, SaysNow}
use Rattle.law_stored_rows.proofs.Values.{in_one_table, in_other_table, place_itself, same_place, key_there, entry_there}
use Rattle.law_stored_rows.proofs.{Pairs.at_index, Pairs.at_others, Pairs.no_key, Pairs.other_key, Entries.entries_after, Entries.entries_alike, Tables.at}
use Rattle.law_stored_rows.proofs.Tables.{few_of}

-- ---- what keys say of a place

module _ (was now : Said) (place : Place) (which : ℕ) (versions : List Version) (says : SaysNow was now place which versions) where
  pub now_says : now place.table which place.key ≡ versions
  now_says = rw (and_from (which == which) (is_same_place place place) (eq-eqb which which refl) (place_itself place)) at (says place.table which place.key)

  pub says_apart : (table key : ℕ) (value : Value) → is_same_place place (at table value) ≡ false → now table key value ≡ was table key value
  says_apart table key value apart = rw (and_right (key == which) (is_same_place place (at table value)) apart) at (says table key value)

  pub others_say : (table key : ℕ) (value : Value) → key ≢ which → now table key value ≡ was table key value
  others_say table key value differ = rw (ne_eqb key which differ) at (says table key value)

  pub lag_says : (beside : Said) → SayTheSameBut place beside was → SayTheSameBut place beside now
  lag_says beside lag table key value apart = says_apart table key value apart ∙ lag table key value apart

-- ---- one entry of a key is changed

module _ (schemas : List Schema) (old new : ℕ → List Pair) (kept : ℕ → Option Kept) (chains : Chains) (table : ℕ) (schema : Schema) (which : ℕ)
    (k : Key) (indexed : Column) (key bytes : List ℕ) (coded : Coded) (was now : Said) (versions : List Version)
    (is : AreCodedAs schemas old kept chains was) (there : slice_get schemas table ≡ Some schema) (also : slice_get schema.keys which ≡ Some k)
    (indexed_is : slice_get schema.columns k.column ≡ Some indexed)
    (code : IsCodeOf schema key bytes coded) (alike : TellAlikeBut (value_in k.column coded.row) k.column (was table which (key_of schema coded.row)) versions)
    (puts : Puts old new (key_index table which) (entry_code indexed.kind (value_in k.column coded.row) key)
    (entry_of k.column (value_in k.column coded.row) versions))
    (says : SaysNow was now (place_in table schema coded.row) which versions) where
  abbrev here : Value
  here = key_of schema coded.row

  abbrev value : Value
  value = value_in k.column coded.row

  abbrev entry : List ℕ
  entry = entry_code indexed.kind value key

  abbrev mark : Option (List ℕ)
  mark = entry_of k.column value versions

  few : which < 4
  few = few_of schema which k (is.keyed.few table schema there) also

  -- all other indexes have what they had
  others_stay : (other : ℕ) → other ≢ key_index table which → new other ≡ old other
  others_stay other differ = at_others old new (key_index table which) entry mark other puts differ

  key_now : HasEntries schema k.column (new (key_index table which)) (now table which)
  key_now =
      let e = is.keyed.keys table which schema k there also in
      let both = key_there schema key bytes coded e.primary e.primary_is code in
      let one : e.indexed ≡ indexed = cc (e.indexed_is, indexed_is) in
      let has_entry = entry_there schema key bytes coded k.column e.indexed code e.indexed_is in
      let says_versions : now table which here ≡ versions = now_says was now (at table here) which versions says in
      let told : TellAlikeBut value k.column (was table which here) (now table which here) = rw says_versions alike in
      let stays : (other : Value) → is_same_value here other ≡ false → now table which other ≡ was table which other
      = λ other apart. says_apart was now (at table here) which versions says table which other (in_one_table table here other ∙ apart) in
      let after = entries_after schema k.column (old (key_index table which)) (was table which) (now table which) e here value both.0 has_entry told stays in
      rw (at_index old new (key_index table which) entry mark puts) (rw (← both.1, one, says_versions) at after)

  others_now : (other at_key : ℕ) (s : Schema) (c : Key) → slice_get schemas other ≡ Some s → slice_get s.keys at_key ≡ Some c
      → ((other ≡ table) → (at_key ≡ which) → ⊥)
      → ((v : Value) → now other at_key v ≡ was other at_key v) → HasEntries s c.column (new (key_index other at_key)) (now other at_key)
  others_now other at_key s c is_there is_key differ same =
      let same_said : was other at_key ≡ now other at_key = λ i v. sym (same v) i in
      let apart : key_index other at_key ≢ key_index table which =
      λ e. let parts = other_key table other at_key which (few_of s at_key c (is.keyed.few other s is_there) is_key) few e in differ parts.0 parts.1 in
      subst (λ (f : Value → List Version). HasEntries s c.column (new (key_index other at_key)) f) same_said
      (rw (others_stay (key_index other at_key) apart) (is.keyed.keys other at_key s c is_there is_key))

  pub entry_changed : AreCodedAs schemas new kept chains now
  entry_changed = record {
    clustered = record {
      tables = λ other s is_there.
          rw (others_stay (clustered_index other) (λ same. no_key other table which few (sym same))) (is.clustered.tables other s is_there);
      nowhere_else = is.clustered.nowhere_else;
    };
    keyed = record {
      few = is.keyed.few;
      keys = λ other at_key s c is_there is_key. elim (cases_eq other table) [
        | inl same ↦ elim (cases_eq at_key which) [
          | inl same_key ↦
              let is_table : slice_get schemas table ≡ Some s = rw same at is_there in
              let one : s ≡ schema = cc (there, is_table) in
              let is_which : slice_get schema.keys which ≡ Some c = rw (same_key, one) at is_key in
              let one_key : c ≡ k = cc (also, is_which) in
              rw (same, same_key, one, one_key) key_now
          | inr differ ↦ others_now other at_key s c is_there is_key (λ a b. differ b)
              (λ v. others_say was now (at table here) which versions says other at_key v differ)
        ]
        | inr differ ↦ others_now other at_key s c is_there is_key (λ a b. differ a)
            (λ v. says_apart was now (at table here) which versions says other at_key v (in_other_table (at table here) (at other v) (λ e. differ (sym e))))
      ];
    };
  }

-- ---- how a change ends

-- Each key may be said to say what tells alike.
pub said_alike : (schemas : List Schema) (indexes : ℕ → List Pair) (kept : ℕ → Option Kept) (chains : Chains) (was now : Said)
    → AreCodedAs schemas indexes kept chains was
    → ((table which : ℕ) (schema : Schema) (key : Key) → slice_get schemas table ≡ Some schema → slice_get schema.keys which ≡ Some key
    → (value : Value) → TellAlike key.column (was table which value) (now table which value))
    → AreCodedAs schemas indexes kept chains now
said_alike schemas indexes kept chains was now is alike = record {
  clustered = is.clustered;
  keyed = record {
    few = is.keyed.few;
    keys = λ table which schema k there also.
        entries_alike schema k.column (indexes (key_index table which)) (was table which) (now table which) (alike table which schema k there also)
        (is.keyed.keys table which schema k there also);
  };
}

-- A change of a place is over where keys tell of it what they would say then: they may be said to say that.
pub change_over : (schemas : List Schema) (indexes : ℕ → List Pair) (kept : ℕ → Option Kept) (chains : Chains) (place : Place) (beside said over : Said)
    → AreCodedAs schemas indexes kept chains said → SayTheSameBut place beside said → SayTheSameBut place beside over
    → ((which : ℕ) (schema : Schema) (key : Key) → slice_get schemas place.table ≡ Some schema → slice_get schema.keys which ≡ Some key
    → TellAlike key.column (said place.table which place.key) (over place.table which place.key))
    → AreCodedAs schemas indexes kept chains over
change_over schemas indexes kept chains place beside said over is lag rest alike =
    said_alike schemas indexes kept chains said over is (λ table which schema k there also v.
    elim (cases_Bool (is_same_place place (at table v))) [
      | inl same ↦
          let Alike : Place → Type 0 =
          λ p. slice_get schemas p.table ≡ Some schema → TellAlike k.column (said p.table which p.key) (over p.table which p.key) in
          subst Alike (same_place place (at table v) same) (λ is_there. alike which schema k is_there also) there
      | inr apart ↦ λ value. ap (entry_of k.column value) (lag table which v apart ∙ sym (rest table which v apart))
    ])
