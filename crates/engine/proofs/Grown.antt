-- A database that grows by a table or by a row that stands behind all others.
use Rattle.std.proofs.Common.{◌≡◌, ◌∙◌, ap, sym, subst, refl, ℕ, ◌+◌, ◌<◌, Bool, true, false, T, None, Some}
use Rattle.std.proofs.Common.{List, [], ◌∷◌, ◌++◌, take, drop, get_or, length, append_assoc}
use Rattle.std.specs.Prelude.{All, IsTrue, IsSomeAnd, slice_get}
use Rattle.std.proofs.lemmas.List.{take_more, map-append, take-append-drop}
use Rattle.std.proofs.lemmas.Option.{slice_get_read}
use Rattle.std.specs.FinMap.{get, find, put, entries, from_entries, is_sorted, get-entries, entries-insert}
use Rattle.inno_types.specs.declared.value.Value.{Value}
use Rattle.inno_types.specs.declared.value.Schema.{Schema}
use Rattle.inno_db.specs.declared.change.Change.TheVariants.{Put}
use Rattle.inno_db.specs.Changes.{apply_one}
use Rattle.inno_db.specs.Database.{Database, place_cmp, key_of, key_in, placed}
use Rattle.inno_db.specs.Order.{place_cmp_total}
use Rattle.inno_db.proofs.Keys.{key_in-at}
use Rattle.key_codec.specs.Keys.{Has64Bits}
use Rattle.row_codec.specs.Rows.{IsRowOf}
use Rattle.law_stored_rows.specs.Storable.{IsStorable}
use Rattle.law_stored_rows.specs.Fitting.{FitsTable}
use Rattle.law_stored_rows.proofs.FittingValues.{FitsTable-from_row}
use Rattle.shared_lists.specs.Fitting.{FitsWell}
use Rattle.engine.proofs.Last.{Entry, put_last, not_yet, front_rises}

pub passed : {b : Bool} → IsTrue b → T b
passed h = subst T (sym h) tt

pub told : {b : Bool} → T b → IsTrue b
told {b = true} h = refl
told {b = false} h = absurd h

-- ---- a row

module _ (db : Database) (table : ℕ) (schema : Schema) (row copy : List Value) (there : slice_get db.schemas table ≡ Some schema) (same : copy ≡ row) where
  key_is : key_in db.schemas table copy ≡ key_of schema row
  key_is = key_in-at db.schemas table schema copy there ∙ ap (key_of schema) same

  pub fits_well : IsStorable schema → IsRowOf schema.columns row → All Has64Bits row → FitsWell db.schemas (Put table copy)
  fits_well storable is_row numbers =
      subst (λ (r : List Value). FitsWell db.schemas (Put table r)) (sym same) (
        subst (λ found. IsSomeAnd found (λ schema. FitsTable schema row)) (sym there) (FitsTable-from_row schema row storable is_row),
        numbers,
      )

  pub no_row : IsTrue (is_sorted place_cmp (entries db.rows ++ placed table schema (row ∷ []))) → get db.rows (table, key_in db.schemas table copy) ≡ None
  no_row rising =
      get-entries db.rows (table, key_in db.schemas table copy)
      ∙ ap (λ (k : Value). find place_cmp (table, k) (entries db.rows)) key_is
      ∙ not_yet (table, key_of schema row) row (entries db.rows) (passed rising)

  pub row_behind : IsTrue (is_sorted place_cmp (entries db.rows ++ placed table schema (row ∷ [])))
      → entries (apply_one db (Put table copy)).rows ≡ entries db.rows ++ placed table schema (row ∷ [])
  row_behind rising =
      entries-insert place_cmp_total db.rows (table, key_in db.schemas table copy) copy
      ∙ ap (λ (k : Value). put place_cmp (table, k) copy (entries db.rows)) key_is
      ∙ ap (λ (r : List Value). put place_cmp (table, key_of schema row) r (entries db.rows)) same
      ∙ put_last (table, key_of schema row) row (entries db.rows) (passed rising)

-- ---- the rows of a table

module _ (before : List Entry) (table : ℕ) (schema : Schema) (rows : List (List Value)) (i : ℕ) (row : List Value)
    (below : i < length rows) (row_is : row ≡ get_or rows i row) (now : List Entry) (so_far : now ≡ before ++ placed table schema (take i rows)) where
  pub rows_more : now ++ placed table schema (row ∷ []) ≡ before ++ placed table schema (take (i + 1) rows)
  rows_more =
      ap (λ (es : List Entry). es ++ placed table schema (row ∷ [])) so_far
      ∙ append_assoc before (placed table schema (take i rows)) (placed table schema (row ∷ []))
      ∙ ap (λ (es : List Entry). before ++ es) (sym (map-append (λ (r : List Value). ((table, key_of schema r), r)) (take i rows) (row ∷ [])))
      ∙ ap (λ (rs : List (List Value)). before ++ placed table schema rs)
      (sym (take_more rows i row below ∙ ap (λ (r : List Value). take i rows ++ r ∷ []) (sym row_is)))

  pub rising_here : IsTrue (is_sorted place_cmp (before ++ placed table schema rows)) → IsTrue (is_sorted place_cmp (now ++ placed table schema (row ∷ [])))
  rising_here rising =
      let split : (before ++ placed table schema (take (i + 1) rows)) ++ placed table schema (drop (i + 1) rows) ≡ before ++ placed table schema rows =
      append_assoc before (placed table schema (take (i + 1) rows)) (placed table schema (drop (i + 1) rows))
      ∙ ap (λ (es : List Entry). before ++ es)
      (sym (map-append (λ (r : List Value). ((table, key_of schema r), r)) (take (i + 1) rows) (drop (i + 1) rows)))
      ∙ ap (λ (rs : List (List Value)). before ++ placed table schema rs) (take-append-drop (i + 1) rows) in
      let front = front_rises (before ++ placed table schema (take (i + 1) rows)) (placed table schema (drop (i + 1) rows))
      (subst (λ (es : List Entry). T (is_sorted place_cmp es)) (sym split) (passed rising)) in
      told (subst (λ (es : List Entry). T (is_sorted place_cmp es)) (sym rows_more) front)

-- ---- the tables

-- so many of these tables, without rows
abbrev pub tables_alone : List Schema → Database
tables_alone schemas = record { schemas = schemas; rows = from_entries [] }

-- a table that is read from the list is there
pub table_there : (schemas items : List Schema) (i : ℕ) (schema : Schema) → items ≡ schemas → i < length items → schema ≡ get_or items i schema
    → slice_get schemas i ≡ Some schema
table_there schemas items i schema same below is =
    ap (λ (l : List Schema). slice_get l i) (sym same) ∙ slice_get_read items (length items) i schema refl below is
