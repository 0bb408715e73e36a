-- What is settled of a statement over the rows of its table.
use Rattle.std.specs.Prelude.{◌≡◌, Bool, true, false, reverse}
use Rattle.inno_types.specs.declared.stmt.Stmt.{Stmt}
use Rattle.inno_types.specs.declared.reply.Reply.{Reply}
use Rattle.inno_types.specs.declared.reply.Reply.TheVariants as replies
use Rattle.inno_db.specs.Database.{Database}
use Rattle.inno_db.specs.Outcome.{outcome}
use Rattle.giving_up.specs.Replies.{is_count, is_refusal}
use Rattle.write_statement.specs.declared.settling.Settled.{Settled}
use Rattle.write_statement.specs.declared.settling.Settled.TheVariants as settled

abbrev pub is_fail : Reply → Bool
is_fail (replies.Fail error) = true
is_fail other = false

-- A refusal, twice; or a count, with the changes, the first of them last.
abbrev pub IsSettledBy : Stmt → Database → Settled → Type 0
IsSettledBy statement db (settled.Refused kept given) =
    (given ≡ kept) × (is_refusal kept ≡ true) × (kept ≡ (outcome statement db).reply)
IsSettledBy statement db (settled.Todo todo) =
    (is_count (outcome statement db).reply ≡ true) × ((outcome statement db).changes ≡ reverse todo.items)
