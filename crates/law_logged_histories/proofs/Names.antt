-- The names of a CREATE TABLE are short, and its sizes are bytes.
use Rattle.std.proofs.Common.{◌≡◌, ℕ, ◌<◌, Bool, true, false, List, Option, None, Some, refl, arith}
use Rattle.std.specs.Prelude.{nat_le, if◌then◌else◌}
use Rattle.std.specs.List.{AllByRecursion}
use Rattle.std.proofs.lemmas.Bool.Decides.{nat_tests}
use Rattle.inno_types.specs.declared.stmt.DeclaredKind.{DeclaredKind}
use Rattle.inno_types.specs.declared.stmt.Definition.{Definition}
use Rattle.inno_types.specs.declared.stmt.Definition.TheVariants as definition
use Rattle.inno_types.specs.declared.stmt.Stmt.TheVariants.{CreateTable}
use Rattle.inno_db.specs.Declarations.{kind_of}
use Rattle.schema_codec.specs.Schema.{IsName, IsKind}
use Rattle.inno_types.specs.declared.value.Kind.TheVariants.{VarBinary}
use Rattle.std.specs.Prelude.{unwrap_or}
use Rattle.sql_grammar.specs.declared.token.Token.{Token}
use Rattle.sql_grammar.specs.Grammar.{Name, Commas, number_of, size_of, ColumnKind, Nullable, Primary, KeyWord, Bracketed, Define, IfNotExists}
use Rattle.sql_grammar.specs.Grammar.{Statement, Spells}
use Rattle.sql_grammar.specs.Grammar as grammar
use Rattle.law_logged_histories.proofs.Tokens.{IsShort, all_short}

abbrev pub IsShortDefinition : Definition → Type 0
IsShortDefinition (definition.Column name kind nullable primary) = IsName name × IsKind (kind_of kind)
IsShortDefinition (definition.Primary column) = IsName column
IsShortDefinition (definition.Key None column) = IsName column
IsShortDefinition (definition.Key (Some name) column) = IsName name × IsName column

abbrev AreShort : List Token → Type 0
AreShort xs = AllByRecursion IsShort xs

name_short : {xs ys : List Token} {name : List ℕ} → Name xs name ys → AreShort xs → IsName name × AreShort ys
name_short grammar.bare all = let low = all.0 in (omega (arith, low), all.1)
name_short grammar.quoted all = let low = all.0 in (omega (arith, low), all.1)

small : (n : ℕ) → nat_le n 255 ≡ true → n < 256
small n h = grind (arith, nat_tests)

size_small : (digits : List ℕ) → IsKind (VarBinary (unwrap_or (size_of digits) 0))
unfolding size_of
size_small digits =
    let n = number_of digits in
    elim (nat_le n 255) as (λ b. nat_le n 255 ≡ b → unwrap_or (if b then Some n else None) 0 < 256) [ true ↦ λ h. small n h | false ↦ λ h. omega arith ] refl

kind_small : {xs ys : List Token} {k : DeclaredKind} → ColumnKind xs k ys → AreShort xs → IsKind (kind_of k) × AreShort ys
kind_small grammar.big_int all = (tt, all.1)
kind_small (grammar.var_binary {digits = digits}) all = (size_small digits, all.1.1.1.1)

behind_nullable : {xs ys : List Token} {nullable : Option Bool} → Nullable xs nullable ys → AreShort xs → AreShort ys
behind_nullable grammar.Nullable.unsaid all = all
behind_nullable grammar.not_null all = all.1.1
behind_nullable grammar.Nullable.null all = all.1

behind_primary : {xs ys : List Token} {primary : Bool} → Primary xs primary ys → AreShort xs → AreShort ys
behind_primary grammar.Primary.unsaid all = all
behind_primary grammar.Primary.primary all = all.1.1

behind_key : {xs ys : List Token} → KeyWord xs ys → AreShort xs → AreShort ys
behind_key grammar.KeyWord.key all = all.1
behind_key grammar.index all = all.1

bracketed_short : {xs ys : List Token} {name : List ℕ} → Bracketed xs name ys → AreShort xs → IsName name × AreShort ys
bracketed_short (grammar.bracketed n) all = let of = name_short n all.1 in (of.0, of.1.1)

define_short : {xs ys : List Token} {d : Definition} → Define xs d ys → AreShort xs → IsShortDefinition d × AreShort ys
define_short (grammar.column n k u p) all =
    let name = name_short n all in
    let kind = kind_small k name.1 in
    ((name.0, kind.0), behind_primary p (behind_nullable u kind.1))
define_short (grammar.Define.primary b) all = bracketed_short b all.1.1
define_short (grammar.Define.key w b) all = bracketed_short b (behind_key w all)
define_short (grammar.named_key w n b) all =
    let name = name_short n (behind_key w all) in
    let column = bracketed_short b name.1 in
    ((name.0, column.0), column.1)

defines_short : {xs ys : List Token} {ds : List Definition} → Commas Define xs ds ys → AreShort xs → AllByRecursion IsShortDefinition ds
defines_short (grammar.last i) all = ((define_short i all).0, tt)
defines_short (grammar.more i c) all = let first = define_short i all in (first.0, defines_short c first.1.1)

behind_if : {xs ys : List Token} {said : Bool} → IfNotExists xs said ys → AreShort xs → AreShort ys
behind_if grammar.IfNotExists.unsaid all = all
behind_if grammar.IfNotExists.said all = all.1.1.1

created_short : {xs : List Token} {table : List ℕ} {said : Bool} {ds : List Definition} → Statement xs (CreateTable table said ds) → AreShort xs
    → IsName table × AllByRecursion IsShortDefinition ds
created_short (grammar.create_table i n c e) all =
    let name = name_short n (behind_if i all.1.1) in
    (name.0, defines_short c name.1.1)

pub spelled_short : (text table : List ℕ) (said : Bool) (ds : List Definition) → Spells text (CreateTable table said ds)
    → IsName table × AllByRecursion IsShortDefinition ds
spelled_short text table said ds spells = created_short spells.parsed (all_short spells.lexed)
