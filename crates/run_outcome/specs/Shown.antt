-- What is shown of the database that files stand for.
use Rattle.std.specs.Prelude.{ℕ, List, ◌++◌, codes, length}
use Rattle.std.specs.Fmt.{decimal}
use Rattle.inno_db.specs.Database.{Database}
use Rattle.sql_history.specs.Counts.{rows_in}
use Rattle.script_generator.specs.Dump.{text_of}
use Rattle.run_outcome.specs.declared.shown.Shown.{Shown}
use Rattle.run_outcome.specs.declared.shown.Shown.TheVariants.{Sql, Counts}

-- Pages, tables, rows, marked records and undo logs. Of pages page 0 alone is used, and rows stand in the log: none is marked,
-- and no undo log is there.
abbrev pub counts_text : Database → List ℕ
counts_text db =
    codes "1 pages, "
    ++ (decimal (length db.schemas) ++ (codes " tables, " ++ (decimal (rows_in db) ++ codes " rows, 0 marked, 0 undo logs\n")))

abbrev pub shown_text : Shown → Database → List ℕ
shown_text Sql db = text_of db
shown_text Counts db = counts_text db
