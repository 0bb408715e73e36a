-- Changes that fit leave a database that fits.
use Rattle.std.proofs.Common.{◌≡◌, ℕ, List, [], ◌∷◌, ◌++◌, Some, None, refl, sym, subst, ◌∙◌, append-nil, inl, inr}
use Rattle.std.specs.Prelude.{slice_get, IsSomeAnd, All}
use Rattle.std.specs.Ordering.{eq_by_cmp}
use Rattle.std.specs.FinMap.{get, from_entries, get-empty, get-insert, get-remove}
use Rattle.std.proofs.lemmas.List.Elements.{All-head, All-tail}
use Rattle.std.proofs.lemmas.Option.{same_Some}
use Rattle.std.proofs.lemmas.Bool.{cond_both}
use Rattle.inno_types.specs.{declared.value.Value.Value, declared.value.Schema.Schema}
use Rattle.inno_db.specs.{declared.change.Change.Change, declared.change.Change.TheVariants.Create, declared.change.Change.TheVariants.Put}
use Rattle.inno_db.specs.{declared.change.Change.TheVariants.Remove, Changes.apply_one, Order.place_cmp_total}
use Rattle.inno_db.specs.Database.{Database, Place, RowMap, place_cmp, key_of, key_in}
use Rattle.inno_db.proofs.{Tables.place_cmp-IsAntisymmetric, Keys.key_in-at}
use Rattle.inno_model.specs.Past.{changed}
use Rattle.law_stored_rows.specs.Storable.{IsStorable, AreStorable}
use Rattle.law_stored_rows.specs.Fitting.{FitsTable, IsKeyFor, FitsTables, FitsAt, AreFitting, StoodWell}
use Rattle.law_stored_rows.proofs.{Pairs.got_before, Pairs.got_last, Values.eq_is, Rows.schema_at}

-- ---- tables more

there-more : (P : Schema → Type 0) (schemas more : List Schema) (n : ℕ) → IsSomeAnd (slice_get schemas n) P → IsSomeAnd (slice_get (schemas ++ more) n) P
there-more P schemas more n h =
    let found = schema_at P (slice_get schemas n) h in
    rw (got_before schemas more n found.0 found.1) found.2

-- what fits some tables fits them and more
pub FitsTables-more : (schemas more : List Schema) (change : Change) → FitsTables schemas change → FitsTables (schemas ++ more) change
FitsTables-more schemas more (Create schema) fits = fits
FitsTables-more schemas more (Put table row) fits = there-more (λ schema. FitsTable schema row) schemas more table fits
FitsTables-more schemas more (Remove table key) fits = there-more (λ schema. IsKeyFor schema key) schemas more table fits

FitsAt-more : (schemas more : List Schema) (place : Place) (row : List Value) → FitsAt schemas place row → FitsAt (schemas ++ more) place row
FitsAt-more schemas more place row fits = there-more (λ schema. FitsTable schema row × (place.1 ≡ key_of schema row)) schemas more place.0 fits

-- ---- one change

-- What holds of each row at its place goes on to hold when a row is put of which it holds, or a key is removed.
module _ (P : Place → List Value → Type 0) (db : Database) (each : (place : Place) (row : List Value) → get db.rows place ≡ Some row → P place row)
    (table : ℕ) where
  pub rows_put : (row : List Value) → P (table, key_in db.schemas table row) row
      → (place : Place) (found : List Value) → get (apply_one db (Put table row)).rows place ≡ Some found → P place found
  rows_put row put place found is =
      let home : Place = (table, key_in db.schemas table row) in
      cond_both (eq_by_cmp place_cmp place home) (Some row) (get db.rows place) (λ o. o ≡ Some found → P place found)
      (λ here e. rw (place_cmp-IsAntisymmetric place home (eq_is (place_cmp place home) here), ← (same_Some row found e)) put)
      (λ elsewhere e. each place found e) (sym (get-insert place_cmp_total db.rows home row place) ∙ is)

  pub rows_removed : (key : Value) (place : Place) (found : List Value) → get (apply_one db (Remove table key)).rows place ≡ Some found → P place found
  rows_removed key place found is =
      cond_both (eq_by_cmp place_cmp place (table, key)) None (get db.rows place) (λ o. o ≡ Some found → P place found)
      (λ here e. cc) (λ elsewhere e. each place found e) (sym (get-remove place_cmp_total db.rows (table, key) place) ∙ is)

stands_at_its_key : (schemas : List Schema) (table : ℕ) (row : List Value) → IsSomeAnd (slice_get schemas table) (λ schema. FitsTable schema row)
    → FitsAt schemas (table, key_in schemas table row) row
stands_at_its_key schemas table row fits =
    let found = schema_at (λ schema. FitsTable schema row) (slice_get schemas table) fits in
    rw found.1 (found.2, key_in-at schemas table found.0 row found.1)

pub AreFitting-apply_one : (db : Database) (change : Change) → AreFitting db → FitsTables db.schemas change → AreFitting (apply_one db change)
AreFitting-apply_one db (Create made) fitting fits = record {
  tables = λ n schema is. elim (got_last db.schemas made schema n is)
      [ inl before ↦ fitting.tables n schema before | inr last ↦ subst IsStorable last.1 fits ];
  rows = λ place row is. FitsAt-more db.schemas (made ∷ []) place row (fitting.rows place row is);
}
AreFitting-apply_one db (Put table row) fitting fits = record {
  tables = fitting.tables;
  rows = rows_put (FitsAt db.schemas) db fitting.rows table row (stands_at_its_key db.schemas table row fits);
}
AreFitting-apply_one db (Remove table key) fitting fits = record {
  tables = fitting.tables;
  rows = rows_removed (FitsAt db.schemas) db fitting.rows table key;
}

-- ---- several

-- a change leaves the tables, and may add one
abbrev tables_added : Change → List Schema
tables_added (Create schema) = schema ∷ []
tables_added other = []

schemas-apply_one : (db : Database) (change : Change) → (apply_one db change).schemas ≡ db.schemas ++ tables_added change
schemas-apply_one db (Create schema) = refl
schemas-apply_one db other = sym (append-nil db.schemas)

-- what fits a database still does after a change
FitsTables-after : (db : Database) (made change : Change) → FitsTables db.schemas change → FitsTables (apply_one db made).schemas change
FitsTables-after db made change fits = rw (schemas-apply_one db made) (FitsTables-more db.schemas (tables_added made) change fits)

FitsTables-changed : (db : Database) (earlier : List Change) (change : Change) → FitsTables db.schemas change
    → FitsTables (changed db earlier).schemas change
FitsTables-changed db [] change fits = fits
FitsTables-changed db (made ∷ earlier) change fits = FitsTables-after (changed db earlier) made change (FitsTables-changed db earlier change fits)

pub AreFitting-changed : (db : Database) (changes : List Change) → AreFitting db → All (FitsTables db.schemas) changes → AreFitting (changed db changes)
AreFitting-changed db [] fitting all = fitting
AreFitting-changed db (change ∷ earlier) fitting all =
    let here = All-head (FitsTables db.schemas) change earlier all in
    let rest = All-tail (FitsTables db.schemas) change earlier all in
    AreFitting-apply_one (changed db earlier) change (AreFitting-changed db earlier fitting rest) (FitsTables-changed db earlier change here)

-- ---- other databases

pub AreFitting-no_rows : (schemas : List Schema) → AreStorable schemas → AreFitting (record { schemas = schemas; rows = from_entries [] })
AreFitting-no_rows schemas storable = record {
  tables = storable;
  rows = λ place row is. absurd (let none : None ≡ Some row = sym (get-empty place_cmp place) ∙ is in cc);
}

pub AreFitting-mixed : (schemas : List Schema) (rows : RowMap) → AreStorable schemas
    → ((place : Place) (row : List Value) → get rows place ≡ Some row → StoodWell schemas place row) → AreFitting (record { schemas = schemas; rows = rows })
AreFitting-mixed schemas rows storable each = record {
  tables = storable;
  rows = λ place row is. let stood = each place row is in
      rw stood.tables (FitsAt-more stood.db.schemas stood.more place row (stood.fitting.rows place row stood.there));
}
