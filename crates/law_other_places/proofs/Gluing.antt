-- What keys say of one place, put together with what they say of all others behind a step there.
-- Rows, keys and taking back cite it. What a step says at its own place is told in `row_changes` and `undo_apply`.
use Rattle.std.proofs.Common.{◌≡◌, ◌∙◌, refl, sym, ap, subst, ℕ, cond, List, Some, slice_get, inl, inr}
use Rattle.std.proofs.lemmas.Bool.{cases_Bool, cond-true, cond-false}
use Rattle.inno_types.specs.{declared.value.Value.Value, declared.value.Column.Column, declared.value.Key.Key, declared.value.Schema.Schema}
use Rattle.key_codec.specs.Keys.{HasKey, HasEntry, key_code, entry_code}
use Rattle.entries.specs.Pairs.{Pair, value_of}
use Rattle.row_versions.specs.{declared.place.Place.Place, declared.version.Version.Version, Chains.Chains, Chains.is_same_place}
use Rattle.law_stored_rows.specs.{Edits.key_index, Entries.MayHold, Entries.HasEntries, Entries.entry_of, Tables.Said, Tables.SayTheSameBut}
use Rattle.law_stored_rows.proofs.{Entries.still_holds, Values.same_place, Values.place_itself}
use Rattle.world.specs.{State.WorldState, Told.pairs_of}
use Rattle.row_changes.specs.Told.{AreRowsAs}
use Rattle.law_other_places.specs.Beside.{LeavesPlace, LeavesEntries}

abbrev pub at : ℕ → Value → Place
at table value = record { table = table; key = value }

-- ---- what entries say, where their columns go by other names

module _ (schema : Schema) (column : ℕ) (entries : List Pair) (others : Value → List Version) (g : HasEntries schema column entries others)
    (key value : Value) where
  pub marks_at : (primary indexed : Column) → g.primary ≡ primary → g.indexed ≡ indexed → HasKey primary.kind key → HasEntry indexed.kind value
      → MayHold (value_of (entry_code indexed.kind value (key_code primary.kind key)) entries) (entry_of column value (others key))
  marks_at primary indexed p q =
      subst (λ (c : Column). HasKey c.kind key → HasEntry indexed.kind value
      → MayHold (value_of (entry_code indexed.kind value (key_code c.kind key)) entries) (entry_of column value (others key))) p
      (subst (λ (d : Column). HasKey g.primary.kind key → HasEntry d.kind value
      → MayHold (value_of (entry_code d.kind value (key_code g.primary.kind key)) entries) (entry_of column value (others key))) q (g.marks key value))

-- ---- what is said

module _ (place : Place) (mine now : Said) where
  abbrev pub glued : Said
  glued table which value = cond (is_same_place place (at table value)) (mine table which value) (now table which value)

  pub glued_here : (which : ℕ) → glued place.table which place.key ≡ mine place.table which place.key
  glued_here which = cond-true (is_same_place place place) (mine place.table which place.key) (now place.table which place.key) (place_itself place)

  pub glued_apart : (beside : Said) → SayTheSameBut place now beside → SayTheSameBut place beside glued
  glued_apart beside same table which value apart =
      cond-false (is_same_place place (at table value)) (mine table which value) (now table which value) apart ∙ sym (same table which value apart)

-- What one session knows of the place, and what keys say of all others behind the step.
module _ {place : Place} {chains after : Chains} {now : Said} {old new : WorldState} (leaves : LeavesPlace place chains after now old new)
    (mine : Said) (are : AreRowsAs chains mine old) where
  holds : (table which : ℕ) (schema : Schema) (key : Key) → slice_get new.schemas table ≡ Some schema → slice_get schema.keys which ≡ Some key
      → (f : HasEntries schema key.column (pairs_of new (key_index table which)) (now table which)) (k value : Value) → HasKey f.primary.kind k
      → HasEntry f.indexed.kind value → MayHold (value_of (entry_code f.indexed.kind value (key_code f.primary.kind k)) (pairs_of new (key_index table which)))
      (entry_of key.column value (glued place mine now table which k))
  holds table which schema key there key_is f k value has_key has_entry = elim (cases_Bool (is_same_place place (at table k))) [
    | inl same ↦
        let there_old : slice_get old.schemas table ≡ Some schema = ap (λ (s : List Schema). slice_get s table) (sym leaves.schemas) ∙ there in
        let b = are.keyed.keys table which schema key there_old key_is in
        let p : b.primary ≡ f.primary = cc (f.primary_is, b.primary_is) in
        let q : b.indexed ≡ f.indexed = cc (f.indexed_is, b.indexed_is) in
        let primary : List ℕ = key_code f.primary.kind k in
        let stay : LeavesEntries (at table k) old new =
        subst (λ (x : Place). LeavesEntries x old new) (same_place place (at table k) same) leaves.entries in
        let stays = stay primary (record {
          schema = schema;
          there = there_old;
          at = record { column = f.primary; primary = f.primary_is; has_key = has_key; spelled = refl };
        }) which (entry_code f.indexed.kind value primary) (record {
          key = key;
          key_is = key_is;
          indexed = f.indexed;
          indexed_is = f.indexed_is;
          value = value;
          has = has_entry;
          spelled = refl;
        }) in
        still_holds stays
        (ap (entry_of key.column value) (sym (cond-true (is_same_place place (at table k)) (mine table which k) (now table which k) same)))
        (marks_at schema key.column (pairs_of old (key_index table which)) (mine table which) b k value f.primary f.indexed p q has_key has_entry)
    | inr apart ↦ still_holds refl (ap (entry_of key.column value)
        (sym (cond-false (is_same_place place (at table k)) (mine table which k) (now table which k) apart))) (f.marks k value has_key has_entry)
  ]

  pub glued_coded : AreRowsAs after (glued place mine now) new
  glued_coded = record {
    clustered = leaves.coded_now.clustered;
    keyed = record {
      few = leaves.coded_now.keyed.few;
      keys = λ table which schema key there key_is.
          let f = leaves.coded_now.keyed.keys table which schema key there key_is in
          record {
            primary = f.primary;
            primary_is = f.primary_is;
            indexed = f.indexed;
            indexed_is = f.indexed_is;
            rising = f.rising;
            each = f.each;
            marks = λ k value has_key has_entry. holds table which schema key there key_is f k value has_key has_entry;
          };
    };
  }
