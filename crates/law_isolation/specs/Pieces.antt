-- What a transaction commits, beside a piece of another's work.
use Rattle.std.specs.Prelude.{◌≡◌, Bool, true, false, List, [], ◌∷◌, Some}
use Rattle.std.specs.List.{list_all}
use Rattle.inno_types.specs.declared.reply.Reply.TheVariants.{Count, Rows}
use Rattle.inno_db.specs.declared.change.Change.{Change}
use Rattle.inno_db.specs.Database.{Database}
use Rattle.sql_history.specs.Serial.{Piece}
use Rattle.sql_history.specs.Statements.{is_on_rows}
use Rattle.law_db.specs.Beside.{IsBesideStatement}

abbrev pub IsBeside : Piece → Database → List Change → Type 0
IsBeside (Piece.ran statement reply) db changes = IsBesideStatement statement db changes
IsBeside (Piece.kept name) db changes = Unit {0}

abbrev pub AreBeside : List Piece → Database → List Change → Type 0
AreBeside [] db changes = Unit {0}
AreBeside (piece ∷ pieces) db changes = IsBeside piece db changes × AreBeside pieces db changes

-- a statement on rows that answered rows or a count
abbrev pub is_answered : Piece → Bool
is_answered (Piece.ran statement (Some (Rows rows))) = is_on_rows statement
is_answered (Piece.ran statement (Some (Count n))) = is_on_rows statement
is_answered (Piece.ran statement other) = false
is_answered (Piece.kept name) = true

abbrev pub AreAnswered : List Piece → Type 0
AreAnswered pieces = list_all is_answered pieces ≡ true
