-- Numbers of 64 bits, as all numbers of a program are. A statement of which only the tree is known may have others.
use Rattle.std.specs.Prelude.{◌≡◌, List, All, Some, FitsSigned}
use Rattle.std.specs.Int.{w64}
use Rattle.std.specs.FinMap.{get}
use Rattle.inno_types.specs.{declared.value.Value.Value, declared.stmt.Literal.Literal}
use Rattle.inno_types.specs.declared.stmt.Literal.TheVariants as literal
use Rattle.inno_types.specs.declared.stmt.Expr.{Expr}
use Rattle.inno_types.specs.declared.stmt.Expr.TheVariants as expr
use Rattle.inno_types.specs.{declared.stmt.Stmt.Stmt, declared.stmt.Stmt.TheVariants.Insert, declared.stmt.Stmt.TheVariants.Update}
use Rattle.inno_db.specs.{declared.change.Change.Change, declared.change.Change.TheVariants.Create, declared.change.Change.TheVariants.Put}
use Rattle.inno_db.specs.{declared.change.Change.TheVariants.Remove, Database.Database, Database.Place}
use Rattle.key_codec.specs.Keys.{Has64Bits}

abbrev pub LiteralHas64Bits : Literal → Type 0
LiteralHas64Bits (literal.Int n) = FitsSigned w64 n
LiteralHas64Bits other = Unit {0}

-- a literal that is stored as it stands; what is computed is refused where it has more
abbrev pub ExprHas64Bits : Expr → Type 0
ExprHas64Bits (expr.Literal l) = LiteralHas64Bits l
ExprHas64Bits other = Unit {0}

-- the literals that the statement stores have 64 bits
abbrev pub Stores64Bits : Stmt → Type 0
Stores64Bits (Insert table names tuples) = All (All LiteralHas64Bits) tuples
Stores64Bits (Update table sets condition) = All (λ set. ExprHas64Bits set.value) sets
Stores64Bits other = Unit {0}

abbrev pub ChangeHas64Bits : Change → Type 0
ChangeHas64Bits (Create schema) = Unit {0}
ChangeHas64Bits (Put table row) = All Has64Bits row
ChangeHas64Bits (Remove table key) = Has64Bits key

abbrev pub RowsHave64Bits : Database → Type 0
RowsHave64Bits db = (place : Place) (row : List Value) → get db.rows place ≡ Some row → All Has64Bits row
