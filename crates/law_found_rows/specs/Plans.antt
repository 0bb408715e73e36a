-- Statements that search a table, and plans that hold all of it.
use Rattle.std.specs.Prelude.{◌≡◌, false, ℕ, List, Some}
use Rattle.inno_types.specs.{declared.stmt.Bound.TheVariants.Open, declared.stmt.Filter.Filter, declared.stmt.Range.Range, declared.stmt.Stmt.Stmt}
use Rattle.inno_types.specs.{declared.stmt.Stmt.TheVariants.Select, declared.stmt.Stmt.TheVariants.Update, declared.stmt.Stmt.TheVariants.Delete}

-- The statement searches this table for the rows that meet the condition.
abbrev pub SearchesFor : Stmt → List ℕ → Filter → Type 0
SearchesFor (Select selected name condition lock) table filter_by = (name ≡ table) × (condition ≡ Some filter_by)
SearchesFor (Update name sets condition) table filter_by = (name ≡ table) × (condition ≡ Some filter_by)
SearchesFor (Delete name condition) table filter_by = (name ≡ table) × (condition ≡ Some filter_by)
SearchesFor other table filter_by = ⊥

-- Each key lies in the range.
pub record IsOpenRange (range : Range) : Type 0 where
  pub holds_some : range.empty ≡ false
  pub low : range.low ≡ Open
  pub high : range.high ≡ Open
