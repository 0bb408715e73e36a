use Rattle.std.proofs.Common.{◌∙◌, ◌≡◌, ◌++◌, sym, ap, ℕ, List, Some, slice_get, get_or}
use Rattle.std.proofs.lemmas.Option.{slice_get-get_or, slice_get_within}
use Rattle.inno_types.specs.declared.value.{Column.Column, Key.Key}
use Rattle.key_codec.specs.Keys.{entry_code}
use Rattle.law_stored_rows.specs.Entries.{value_in}
use Rattle.law_stored_rows.proofs.Coding.{value_in-kind}
use Rattle.row_changes.proofs.key_entries.entry_of.Goals as goal

-- what is read at a number is what is there
found_at : {X : Type 0} (all xs : List X) (i : ℕ) (item found : X) → xs ≡ all → slice_get all i ≡ Some found → item ≡ get_or xs i item → item ≡ found
found_at {X} all xs i item found same at is =
    let one : Some item ≡ Some found = sym (slice_get-get_or xs i item (rw same (slice_get_within all i found at)) ∙ ap Some (sym is))
    ∙ (ap (λ (l : List X). slice_get l i) same ∙ at) in cc

-- the column on which the key is
column_at : (columns : List Column) {key found : Key} {column : Column} {place : ℕ} → found ≡ key → place ≡ found.column
    → slice_get columns key.column ≡ Some column → slice_get columns place ≡ Some column
column_at columns {key} {found} {column} same place at = ap (slice_get columns) (place ∙ ap (λ (k : Key). k.column) same) ∙ at

pub put_entry-requires : goal.put_entry-requires
put_entry-requires c =
    let key = found_at _ _ _ _ _ c.as_slice.ensures c.requires.key.key_is c.index-as_slice-which.is in
    let there = column_at c.args.schema.now.columns (sym c.index-as_slice-which.is ∙ key) c.from-place.ensures c.requires.key.indexed_is in
    let column = found_at _ _ _ _ _ c.as_slice-2.ensures there c.index-as_slice-place.is in
    rw (column, c.in_ok-value.ensures ∙ c.at_place.ensures)
    (value_in-kind c.args.schema.now.columns c.args.row.now c.from-place.result c.requires.key.indexed c.requires.row there)

pub returns : goal.returns
returns c =
    let key = found_at _ _ _ _ _ c.as_slice.ensures c.requires.key.key_is c.index-as_slice-which.is in
    let there = column_at c.args.schema.now.columns (sym c.index-as_slice-which.is ∙ key) c.from-place.ensures c.requires.key.indexed_is in
    let column = found_at _ _ _ _ _ c.as_slice-2.ensures there c.index-as_slice-place.is in
    let told : c.put_entry.new.out ≡ c.new-entry.result ++ entry_code c.index-as_slice-place.result.kind c.in_ok-value.value c.args.primary.now
    = c.in_ok-put_entry.ensures.ok in
    let value : c.in_ok-value.value ≡ value_in c.requires.key.key.column c.args.row.now
    = c.in_ok-value.ensures ∙ c.at_place.ensures ∙ ap (λ (place : ℕ). value_in place c.args.row.now)
    (c.from-place.ensures ∙ ap (λ (k : Key). k.column) (sym c.index-as_slice-which.is ∙ key)) in
    record {
      key = c.requires.key.key;
      key_is = c.requires.key.key_is;
      indexed = c.requires.key.indexed;
      indexed_is = c.requires.key.indexed_is;
      spelled = rw (c.new-entry.ensures, value, column) at told;
    }
