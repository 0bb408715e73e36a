-- The rows of a table in a database, one by one: those that fit the table.
use Rattle.std.proofs.Common.{◌≡◌, ◌∙◌, sym, ap, ℕ, true, false, List, [], ◌∷◌, map, Some, eqb, ⊎_elim}
use Rattle.std.proofs.{lemmas.Bool.Decides.eqb_tells, lemmas.List.Elements.All-from_recursion}
use Rattle.std.specs.Prelude.{filter, ◌==◌, All, slice_get}
use Rattle.std.specs.{List.AllByRecursion, FinMap.get, FinMap.entries, FinMap.entries_sorted, FinMap.get-entries}
use Rattle.inno_db.specs.Database.{Database, Place, rows_of}
use Rattle.key_codec.specs.Keys.{Has64Bits}
use Rattle.row_codec.specs.Rows.{IsRowOf as IsCodableRow}
use Rattle.sql_plan.specs.Visits.{IsRowOf}
use Rattle.law_stored_rows.proofs.Rows.{IsFoundIn, all_found, at_schema}
use Rattle.inno_types.specs.{declared.value.Value.Value, declared.value.Schema.Schema}
use Rattle.row_search.proofs.{Keys.fits_in, Others.bits_in}
use Rattle.law_stored_rows.specs.{Fitting.FitsTable, Fitting.AreFitting, Numbers.RowsHave64Bits}

-- what holds of the row of each key of a table holds of the table's rows
module _ (P : List Value → Type 0) (db : Database) (n : ℕ) (each : (key : Value) (row : List Value) → get db.rows (n, key) ≡ Some row → P row) where
  among : (es : List (Place × List Value)) → AllByRecursion (IsFoundIn (entries db.rows)) es
      → AllByRecursion P (map (λ (e : Place × List Value). e.1) (filter (λ (e : Place × List Value). e.0.0 == n) es))
  among [] found = tt
  among (e ∷ es) found =
      let rest = among es found.1 in
      let more = filter (λ (e : Place × List Value). e.0.0 == n) es in
      ⊎_elim
      (λ (h : (eqb e.0.0 n ≡ true) × (e.0.0 ≡ n)).
      let here : P e.1 = each e.0.1 e.1 (ap (λ m. get db.rows (m, e.0.1)) (sym h.1) ∙ (get-entries db.rows e.0 ∙ found.0)) in rw h.0 (here, rest))
      (λ (h : (eqb e.0.0 n ≡ false) × _). rw h.0 rest) (eqb_tells e.0.0 n)

  pub each_row : AllByRecursion P (rows_of n db)
  each_row = among (entries db.rows) (all_found (entries db.rows) (entries_sorted db.rows))

-- a row that can be coded is one as plans ask
pub row_fits : (schema : Schema) (row : List Value) → IsCodableRow schema.columns row → All Has64Bits row → IsRowOf schema.columns row
row_fits schema row fits bits = record { fits = λ place column there. (fits_in schema.columns row place column fits there, bits_in row place bits) }

pub fitting_rows_fit : (db : Database) (n : ℕ) (schema : Schema) → AreFitting db → RowsHave64Bits db → slice_get db.schemas n ≡ Some schema
    → All (IsRowOf schema.columns) (rows_of n db)
fitting_rows_fit db n schema fitting bits there =
    All-from_recursion (IsRowOf schema.columns) (rows_of n db)
    (each_row (IsRowOf schema.columns) db n
    (λ key row is.
    let at = at_schema (λ s. FitsTable s row × _) (slice_get db.schemas n) schema there (fitting.rows (n, key) row is) in
    row_fits schema row at.0.columns (bits (n, key) row is)))
