-- What a generated script has done, as a line: its sessions and transactions, how many of these were committed, and what the
-- accounts hold after all commits.
use Rattle.std.specs.Prelude.{ℕ, ◌*◌, ℤ, pos, ◌+ℤ◌, List, ◌++◌, Bool, false, Option, None, Some, nat_lt, codes, slice_get, slice_index_or}
use Rattle.std.specs.List.{count_by, fold}
use Rattle.std.specs.Fmt.{decimal, signed_decimal}
use Rattle.inno_types.specs.declared.value.Value.{Value}
use Rattle.inno_types.specs.declared.value.Value.TheVariants as values
use Rattle.inno_types.specs.declared.value.Kind.{Kind}
use Rattle.inno_types.specs.declared.value.Kind.TheVariants as kinds
use Rattle.inno_types.specs.declared.value.Column.{Column}
use Rattle.inno_types.specs.declared.value.Schema.{Schema}
use Rattle.inno_db.specs.Database.{Database, rows_of}
use Rattle.inno_db.specs.Names.{table_place, column_place}
use Rattle.inno_model.specs.declared.event.Event.{Event}
use Rattle.inno_model.specs.declared.event.Event.TheVariants.{Committed}
use Rattle.inno_model.specs.Past.{commits, db_after}

-- ---- commits

-- a commit of a session behind the setup part
abbrev pub is_commit : Event → Bool
is_commit (Committed s) = nat_lt 0 s
is_commit other = false

abbrev pub count_commits : List Event → ℕ
count_commits past = count_by is_commit past

-- ---- the accounts

-- NULL adds nothing
abbrev pub amount_of : Value → ℤ
amount_of (values.Int n) = n
amount_of other = pos 0

abbrev pub amount_at : ℕ → List Value → ℤ
amount_at place row = amount_of (slice_index_or row place values.Null)

-- the sum of a column over these rows
abbrev pub sum_at : ℕ → List (List Value) → ℤ
sum_at place rows = fold (λ sum row. sum +ℤ amount_at place row) (pos 0) rows

abbrev pub place_if_bigint : ℕ → Kind → Option ℕ
place_if_bigint place kinds.BigInt = Some place
place_if_bigint place (kinds.VarBinary size) = None

abbrev pub bigint_at : ℕ → Option Column → Option ℕ
bigint_at place None = None
bigint_at place (Some column) = place_if_bigint place column.kind

abbrev pub bigint_place : List Column → Option ℕ → Option ℕ
bigint_place columns None = None
bigint_place columns (Some place) = bigint_at place (slice_get columns place)

-- the place of the column `bal`, where it is a BIGINT
abbrev pub balance_place : List Column → Option ℕ
balance_place columns = bigint_place columns (column_place columns (codes "bal"))

abbrev pub sum_if : Option ℕ → List (List Value) → ℤ
sum_if None rows = pos 0
sum_if (Some place) rows = sum_at place rows

abbrev pub total_under : Option Schema → List (List Value) → ℤ
total_under None rows = pos 0
total_under (Some schema) rows = sum_if (balance_place schema.columns) rows

abbrev pub total_at : Database → Option ℕ → ℤ
total_at db None = pos 0
total_at db (Some table) = total_under (slice_get db.schemas table) (rows_of table db)

-- what the column `bal` of the table `acct` holds; 0 where there is no such column of numbers
abbrev pub total_of : Database → ℤ
total_of db = total_at db (table_place db.schemas (codes "acct"))

-- ---- the line

abbrev pub line_text : ℕ → ℕ → ℕ → ℤ → List ℕ
line_text sessions transactions committed total =
    codes "sessions "
    ++ (decimal sessions
    ++ (codes " transactions "
    ++ (decimal transactions
    ++ (codes " committed " ++ (decimal committed ++ (codes " total " ++ (signed_decimal total ++ codes "\n")))))))

-- of so many sessions with so many transactions each
abbrev pub report_text : ℕ → ℕ → List Event → List ℕ
report_text sessions transfers past = line_text sessions (sessions * transfers) (count_commits past) (total_of (db_after (commits past) past))
