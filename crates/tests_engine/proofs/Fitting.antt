-- The tables can be stored, and rows of two numbers fit them.
use Rattle.std.proofs.Common.{◌≡◌, ℕ, zero, suc, ◌≤◌, [], ◌∷◌, Some, refl, sym, ap, subst, arith, slice_get, List}
use Rattle.std.specs.Prelude.{ℤ, FitsSigned, IsSomeAnd}
use Rattle.std.specs.Int.{w64}
use Rattle.std.proofs.lemmas.List.Elements.{All-nil, All-cons}
use Rattle.inno_types.specs.declared.value.Schema.{Schema}
use Rattle.inno_types.specs.declared.value.Value.{Value}
use Rattle.inno_types.specs.declared.value.Value.TheVariants.{Int}
use Rattle.inno_db.specs.Database.{Database}
use Rattle.inno_db.specs.declared.change.Change.TheVariants.{Put}
use Rattle.inno_db.specs.Declarations.{schema_declared}
use Rattle.key_codec.specs.Keys.{Has64Bits}
use Rattle.law_stored_rows.specs.Storable.{IsStorable}
use Rattle.law_stored_rows.specs.Fitting.{FitsTable, FitsTables}
use Rattle.law_stored_rows.proofs.Declared.{declared-IsStorable}
use Rattle.law_stored_rows.proofs.FittingValues.{FitsTable-from_row}
use Rattle.shared_lists.specs.Fitting.{FitsWell}
use Rattle.tests_engine.specs.Tables.{t, u, definitions, table_named, HasBoth}

pub storable : (letter : ℕ) → IsStorable (table_named letter)
storable letter = declared-IsStorable (letter ∷ []) definitions (table_named letter) refl

row_fits : (letter : ℕ) (id a : ℤ) → FitsTable (table_named letter) (Int id ∷ Int a ∷ [])
row_fits letter id a = FitsTable-from_row (table_named letter) (Int id ∷ Int a ∷ []) (storable letter) (tt, (tt, tt))

pub fits_well : (db : Database) (table : ℕ) (id a : ℤ) → HasBoth db → table ≤ 1 → FitsSigned w64 id → FitsSigned w64 a
    → FitsWell db.schemas (Put table (Int id ∷ Int a ∷ []))
fits_well db table id a both few id-fits a-fits = (
  subst (λ (schemas : List Schema). FitsTables schemas (Put table (Int id ∷ Int a ∷ []))) (sym both) (here table few),
  All-cons Has64Bits (Int id) (Int a ∷ []) id-fits (All-cons Has64Bits (Int a) [] a-fits (All-nil Has64Bits)),
) where
  here : (n : ℕ) → n ≤ 1 → FitsTables (table_named t ∷ table_named u ∷ []) (Put n (Int id ∷ Int a ∷ []))
  here zero le = row_fits t id a
  here (suc zero) le = row_fits u id a
  here (suc (suc n)) le = absurd (omega (arith, le))
