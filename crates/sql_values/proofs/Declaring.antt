-- A list of one primary key.
use Rattle.std.proofs.Common.{◌≡◌, ℕ, ◌<◌, ◌≤◌, List, [], ◌∷◌, length, get_or, ap, arith}
use Rattle.inno_types.specs.declared.stmt.Definition.{Definition}
use Rattle.inno_db.specs.Declarations.{columns_of, schema_if, declared_by}

pub declared_by-one : (table : List ℕ) (definitions : List Definition) (names : List (List ℕ)) (primary : List ℕ) → 1 ≤ length names → length names < 2 → primary ≡ get_or names 0 primary → schema_if table definitions primary (columns_of primary definitions) ≡ declared_by table definitions names
declared_by-one table definitions [] primary some few is = absurd (omega arith)
declared_by-one table definitions (p ∷ []) primary some few is = ap (λ n. schema_if table definitions n (columns_of n definitions)) is
declared_by-one table definitions (p ∷ q ∷ names) primary some few is = absurd (omega arith)
