-- The key of a row that meets a condition lies in the range of the condition's plan; a NULL's entry lies in none.
use Rattle.std.proofs.Common.{◌≡◌, ℕ, zero, suc, ◌+◌, ◌-◌, ◌==◌, Bool, true, false, List, [], ◌∷◌, get_or, Option, Some, None, Result, Ok, Err, refl, sym, ap, ◌∙◌, subst, arith, eqb-true}
use Rattle.std.specs.Prelude.{IfOk, OnOk, if◌then◌else◌, slice_get, slice_index_or, is_some}
use Rattle.std.specs.List.{list_any, list_all}
use Rattle.std.proofs.lemmas.Option.{same_Some, slice_get-get_or}
use Rattle.std.proofs.lemmas.List.Quantifiers.{position-Some}
use Rattle.std.proofs.lemmas.Bool.Decides.{nat_tests}
use Rattle.inno_types.specs.declared.value.Value.{Value}
use Rattle.inno_types.specs.declared.value.Value.TheVariants.{Null}
use Rattle.inno_types.specs.declared.value.Column.{Column}
use Rattle.inno_types.specs.declared.value.Key.{Key}
use Rattle.inno_types.specs.declared.value.Schema.{Schema}
use Rattle.inno_types.specs.declared.stmt.Filter.{Filter}
use Rattle.inno_db.specs.declared.truth.Truth.TheVariants.{True}
use Rattle.inno_db.specs.Database.{key_of}
use Rattle.inno_db.specs.Conditions.{is_null, truth_of}
use Rattle.inno_db.specs.Declarations.{is_short, is_indexable}
use Rattle.inno_db.specs.Typing.{type_of, filter_fits}
use Rattle.key_codec.specs.Keys.{HasKey, key_code, entry_code}
use Rattle.sql_plan.specs.declared.interval.Interval.{Interval}
use Rattle.sql_plan.specs.declared.part.Bounding.{Bounding}
use Rattle.sql_plan.specs.declared.choice.Plan.{Plan}
use Rattle.sql_plan.specs.Parts.{ranges_of}
use Rattle.sql_plan.specs.Bounds.{HaveSize, range_of}
use Rattle.sql_plan.specs.Plans.{places_of, key_on, after_clustered, index_on, first_keyed, chosen_column, allowed, plan_if, plan_on, plan_by, plan_of, searched_if, searched, searched_in, searched_by}
use Rattle.inno_types.specs.Ranges.{is_within}
use Rattle.sql_plan.specs.Visits.{kind_if, primary_key, entry_if, index_key, value_if, leading_value, are_indexable, IsRowOf}
use Rattle.sql_plan.specs.Covers.{CoversMatches, PassesNulls}
use Rattle.sql_plan.proofs.Admitted.{Admits, and_both}
use Rattle.sql_plan.proofs.Gathered.{AllAllow, all_allow, IsPresent, bounded_present, found_present, admitted}
use Rattle.sql_plan.proofs.Within.{IsKeyOf, present_key, clustered_key, secondary_key, within, null_outside}

short_column : (o : Option Column) (column : Column) → o ≡ Some column → is_indexable o ≡ true → is_short column.kind ≡ true
short_column o column e indexable = ap is_indexable (sym e) ∙ indexable

no_key : Key
no_key = record { name = []; column = 0 }

not_clustered : (k : ℕ) → (k + 1 == 0) ≡ false
not_clustered k = grind (arith, nat_tests)

zero_first : (which : ℕ) → 0 ≡ which → (which == 0) ≡ false → ⊥
zero_first which e secondary = absurd_zero (ap (λ n. n == 0) e ∙ secondary)
  where
    absurd_zero : (0 == 0) ≡ false → ⊥
    absurd_zero never = cc

all_at : {X : Type 0} (test : X → Bool) (xs : List X) (k : ℕ) (x : X) → list_all test xs ≡ true → slice_get xs k ≡ Some x → test x ≡ true
all_at test [] k x all e = absurd cc
all_at test (y ∷ ys) zero x all e = subst (λ z. test z ≡ true) (same_Some y x e) (and_both (test y) (list_all test ys) all).0
all_at test (y ∷ ys) (suc k) x all e = all_at test ys k x (and_both (test y) (list_all test ys) all).1 e

-- the first key on a column
pub record IsKeyOn (keys : List Key) (place k : ℕ) : Type 0 where
  pub key : Key
  pub at : slice_get keys k ≡ Some key
  pub here : key.column ≡ place

key_found : (keys : List Key) (place k : ℕ) → key_on keys place ≡ Some k → IsKeyOn keys place k
key_found keys place k e =
    let found = position-Some (λ (key : Key). key.column == place) keys k no_key e in
    let key = get_or keys k no_key in
    record { key = key; at = slice_get-get_or keys k no_key found.0; here = eqb-true key.column place found.1 }

-- the entry of a row in the index of a key on a column
module _ (schema : Schema) (row : List Value) (place k : ℕ) (column : Column) (found : IsKeyOn schema.keys place k) (there : slice_get schema.columns place ≡ Some column) where
  back : k + 1 - 1 ≡ k
  back = omega arith

  pub at_key : slice_get schema.columns found.key.column ≡ Some column
  at_key = ap (slice_get schema.columns) found.here ∙ there

  pub entry_of : index_key schema (k + 1) row ≡ entry_code column.kind (slice_index_or row found.key.column Null) (primary_key schema row)
  entry_of =
      ap (λ (b : Bool). if b then primary_key schema row else entry_if schema row (slice_get schema.keys (k + 1 - 1))) (not_clustered k)
      ∙ ap (λ (n : ℕ). entry_if schema row (slice_get schema.keys n)) back ∙ ap (entry_if schema row) found.at
      ∙ ap (λ (o : Option Column). entry_code (kind_if o) (slice_index_or row found.key.column Null) (primary_key schema row)) at_key

  pub leading_of : leading_value schema (k + 1) row ≡ slice_index_or row found.key.column Null
  leading_of =
      ap (λ (b : Bool). if b then key_of schema row else value_if row (slice_get schema.keys (k + 1 - 1))) (not_clustered k)
      ∙ ap (λ (n : ℕ). value_if row (slice_get schema.keys n)) back ∙ ap (value_if row) found.at

module _ (schema : Schema) (row : List Value) (indexable : are_indexable schema ≡ true) where
  places : (is_indexable (slice_get schema.columns schema.primary) ≡ true) × (list_all (λ key. is_indexable (slice_get schema.columns key.column)) schema.keys ≡ true)
  places = and_both (is_indexable (slice_get schema.columns schema.primary)) (list_all (λ key. is_indexable (slice_get schema.columns key.column)) schema.keys) indexable

  primary_leads : (place : ℕ) (column : Column) → place ≡ schema.primary → slice_get schema.columns place ≡ Some column → HasKey column.kind (slice_index_or row place Null)
      → IsKeyOf 0 column.kind (slice_index_or row place Null) (index_key schema 0 row)
  primary_leads place column here there has =
      let at_primary : slice_get schema.columns schema.primary ≡ Some column = ap (slice_get schema.columns) (sym here) ∙ there in
      let same : key_code column.kind (slice_index_or row place Null) ≡ primary_key schema row =
      ap (λ (p : ℕ). key_code column.kind (slice_index_or row p Null)) here ∙ ap (λ (o : Option Column). key_code (kind_if o) (key_of schema row)) (sym at_primary) in
      subst (λ (key : List ℕ). IsKeyOf 0 column.kind (slice_index_or row place Null) key) same
      (clustered_key column.kind (slice_index_or row place Null) has (short_column (slice_get schema.columns schema.primary) column at_primary places.0))

  key_leads : (place k : ℕ) (column : Column) → IsKeyOn schema.keys place k → slice_get schema.columns place ≡ Some column → HasKey column.kind (slice_index_or row place Null)
      → IsKeyOf (k + 1) column.kind (slice_index_or row place Null) (index_key schema (k + 1) row)
  key_leads place k column found there has =
      let v = slice_index_or row place Null in
      let secondary = not_clustered k in
      let short = short_column (slice_get schema.columns found.key.column) column (at_key schema row place k column found there)
      (all_at (λ key. is_indexable (slice_get schema.columns key.column)) schema.keys k found.key places.1 found.at) in
      let same : index_key schema (k + 1) row ≡ entry_code column.kind v (primary_key schema row) =
      entry_of schema row place k column found there ∙ ap (λ (p : ℕ). entry_code column.kind (slice_index_or row p Null) (primary_key schema row)) found.here in
      subst (λ (key : List ℕ). IsKeyOf (k + 1) column.kind v key) (sym same) (secondary_key (k + 1) column.kind v (primary_key schema row) secondary has short)

  -- the row's key in the index that a column leads
  leads : (place which : ℕ) (column : Column) → index_on schema place ≡ Some which → slice_get schema.columns place ≡ Some column → HasKey column.kind (slice_index_or row place Null)
      → IsKeyOf which column.kind (slice_index_or row place Null) (index_key schema which row)
  leads place which column e there has = by (place == schema.primary) refl e
    where
      by_key : (o : Option ℕ) → key_on schema.keys place ≡ o → after_clustered o ≡ Some which → IsKeyOf which column.kind (slice_index_or row place Null) (index_key schema which row)
      by_key None is after = absurd cc
      by_key (Some k) is after =
          subst (λ (n : ℕ). IsKeyOf n column.kind (slice_index_or row place Null) (index_key schema n row)) (same_Some (k + 1) which after)
          (key_leads place k column (key_found schema.keys place k is) there has)

      by : (b : Bool) → (place == schema.primary) ≡ b → (if b then Some 0 else after_clustered (key_on schema.keys place)) ≡ Some which
          → IsKeyOf which column.kind (slice_index_or row place Null) (index_key schema which row)
      by true here is = subst (λ (n : ℕ). IsKeyOf n column.kind (slice_index_or row place Null) (index_key schema n row)) (same_Some 0 which is) (primary_leads place column (eqb-true place schema.primary here) there has)
      by false here is = by_key (key_on schema.keys place) refl is

  module _ (is_row : IsRowOf schema.columns row) (parts : List (Bounding Value)) (allow : AllAllow schema.columns row parts) where
    planned : (place : ℕ) (column : Column) (which : Option ℕ) → index_on schema place ≡ which → slice_get schema.columns place ≡ Some column → Admits (type_of column.kind) (allowed parts place) (slice_index_or row place Null)
        → HaveSize (searched_if (Some column) which (allowed parts place))
        → is_within (plan_if (Some column) which (allowed parts place)).range (index_key schema (plan_if (Some column) which (allowed parts place)).which row) ≡ true
    planned place column None is there admits size = refl
    planned place column (Some which) is there admits size =
        let v = slice_index_or row place Null in
        let has = present_key column.kind v (is_row.fits place column there) admits.present in
        within which column.kind (allowed parts place) v (index_key schema which row) (leads place which column is there has) size admits

    sound_at : (place : ℕ) → IsPresent schema.columns row place → HaveSize (searched schema parts place) → is_within (plan_on schema parts place).range (index_key schema (plan_on schema parts place).which row) ≡ true
    sound_at place present size =
        let in_row = admitted schema.columns row parts place allow present in
        let plan : Option Column → Plan = λ o. plan_if o (index_on schema place) (allowed parts place) in
        let size_there = subst (λ (o : Option Column). HaveSize (searched_if o (index_on schema place) (allowed parts place))) in_row.there size in
        subst (λ (o : Option Column). is_within (plan o).range (index_key schema (plan o).which row) ≡ true) (sym in_row.there)
        (planned place in_row.column (index_on schema place) refl in_row.there in_row.admits size_there)

    chosen_present : (place : ℕ) → chosen_column schema (places_of parts) ≡ Some place → IsPresent schema.columns row place
    chosen_present place e = by (list_any (λ p. p == schema.primary) (places_of parts)) refl e
      where
        by : (b : Bool) → list_any (λ p. p == schema.primary) (places_of parts) ≡ b → (if b then Some schema.primary else first_keyed schema.keys (places_of parts)) ≡ Some place → IsPresent schema.columns row place
        by true some is = subst (IsPresent schema.columns row) (same_Some schema.primary place is) (bounded_present schema.columns row parts schema.primary allow some)
        by false some is = found_present schema.columns row (λ p. is_some (key_on schema.keys p)) parts place allow is

    pub sound_by : (o : Option ℕ) → chosen_column schema (places_of parts) ≡ o → HaveSize (searched_in schema parts o) → is_within (plan_by schema parts o).range (index_key schema (plan_by schema parts o).which row) ≡ true
    sound_by None e size = refl
    sound_by (Some place) e size = sound_at place (chosen_present place e) size

pub sound : (schema : Schema) (filter : Filter) (row : List Value) → are_indexable schema ≡ true → filter_fits schema.columns filter ≡ true → IsRowOf schema.columns row → truth_of schema.columns row filter ≡ True
    → HaveSize (searched_by schema filter) → is_within (plan_of schema filter).range (index_key schema (plan_of schema filter).which row) ≡ true
sound schema filter row indexable fits is_row holds size =
    sound_by schema row indexable is_row (ranges_of schema.columns filter) (all_allow schema.columns row filter holds fits)
    (chosen_column schema (places_of (ranges_of schema.columns filter))) refl size

-- an entry of NULL lies outside the range of a search by a column
module _ (schema : Schema) (row : List Value) (values : Interval Value) where
  null_of_key : (place k : ℕ) (column : Column) → IsKeyOn schema.keys place k → slice_get schema.columns place ≡ Some column → leading_value schema (k + 1) row ≡ Null
      → is_within (range_of (k + 1) column.kind values) (index_key schema (k + 1) row) ≡ false
  null_of_key place k column found there is_null =
      let missing : slice_index_or row found.key.column Null ≡ Null = sym (leading_of schema row place k column found there) ∙ is_null in
      ap (is_within (range_of (k + 1) column.kind values)) (entry_of schema row place k column found there ∙ ap (λ (v : Value). entry_code column.kind v (primary_key schema row)) missing)
      ∙ null_outside (k + 1) column.kind values (primary_key schema row) (not_clustered k)

  null_planned : (place : ℕ) (o : Option Column) (which : Option ℕ) → slice_get schema.columns place ≡ o → index_on schema place ≡ which → ((plan_if o which values).which == 0) ≡ false
      → leading_value schema (plan_if o which values).which row ≡ Null → is_within (plan_if o which values).range (index_key schema (plan_if o which values).which row) ≡ false
  null_planned place None which there leads secondary is_null = absurd cc
  null_planned place (Some column) None there leads secondary is_null = absurd cc
  null_planned place (Some column) (Some which) there leads secondary is_null = by (place == schema.primary) refl leads
    where
      by_key : (o : Option ℕ) → key_on schema.keys place ≡ o → after_clustered o ≡ Some which → is_within (range_of which column.kind values) (index_key schema which row) ≡ false
      by_key None is after = absurd cc
      by_key (Some k) is after =
          let same = same_Some (k + 1) which after in
          subst (λ (n : ℕ). is_within (range_of n column.kind values) (index_key schema n row) ≡ false) same
          (null_of_key place k column (key_found schema.keys place k is) there (subst (λ (n : ℕ). leading_value schema n row ≡ Null) (sym same) is_null))

      by : (b : Bool) → (place == schema.primary) ≡ b → (if b then Some 0 else after_clustered (key_on schema.keys place)) ≡ Some which → is_within (range_of which column.kind values) (index_key schema which row) ≡ false
      by true here is = absurd (zero_first which (same_Some 0 which is) secondary)
      by false here is = by_key (key_on schema.keys place) refl is

pub nulls_passed : (schema : Schema) (filter : Filter) (row : List Value) → ((plan_of schema filter).which == 0) ≡ false → leading_value schema (plan_of schema filter).which row ≡ Null
    → is_within (plan_of schema filter).range (index_key schema (plan_of schema filter).which row) ≡ false
nulls_passed schema filter row = by (chosen_column schema (places_of (ranges_of schema.columns filter)))
  where
    by : (o : Option ℕ) → ((plan_by schema (ranges_of schema.columns filter) o).which == 0) ≡ false → leading_value schema (plan_by schema (ranges_of schema.columns filter) o).which row ≡ Null
        → is_within (plan_by schema (ranges_of schema.columns filter) o).range (index_key schema (plan_by schema (ranges_of schema.columns filter) o).which row) ≡ false
    by None secondary is_null = absurd cc
    by (Some place) secondary is_null =
        null_planned schema row (allowed (ranges_of schema.columns filter) place) place (slice_get schema.columns place) (index_on schema place) refl refl secondary is_null

-- what `choose` answers
pub chosen_covers : {E : Type 0} (schema : Schema) (filter : Filter) (parts : List (Bounding Value)) (r : Result Plan E) → parts ≡ ranges_of schema.columns filter
    → IfOk r (λ plan. plan ≡ plan_by schema parts (chosen_column schema (places_of parts))) → OnOk r (HaveSize (searched_in schema parts (chosen_column schema (places_of parts))))
    → IfOk r (λ plan. are_indexable schema ≡ true → filter_fits schema.columns filter ≡ true → CoversMatches schema filter plan)
chosen_covers schema filter parts (Err e) same ok size = tt
chosen_covers schema filter parts (Ok plan) same ok size = λ indexable fits row is_row holds.
    let is_plan : plan ≡ plan_of schema filter = ok ∙ ap (λ (ps : List (Bounding Value)). plan_by schema ps (chosen_column schema (places_of ps))) same in
    let sized : HaveSize (searched_by schema filter) = subst (λ (ps : List (Bounding Value)). HaveSize (searched_in schema ps (chosen_column schema (places_of ps)))) same size in
    subst (λ (p : Plan). is_within p.range (index_key schema p.which row) ≡ true) (sym is_plan) (sound schema filter row indexable fits is_row holds sized)

pub chosen_passes : {E : Type 0} (schema : Schema) (filter : Filter) (parts : List (Bounding Value)) (r : Result Plan E) → parts ≡ ranges_of schema.columns filter
    → IfOk r (λ plan. plan ≡ plan_by schema parts (chosen_column schema (places_of parts))) → IfOk r (λ plan. PassesNulls schema plan)
chosen_passes schema filter parts (Err e) same ok = tt
chosen_passes schema filter parts (Ok plan) same ok =
    let is_plan : plan ≡ plan_of schema filter = ok ∙ ap (λ (ps : List (Bounding Value)). plan_by schema ps (chosen_column schema (places_of ps))) same in
    subst (PassesNulls schema) (sym is_plan) (λ row. nulls_passed schema filter row)
