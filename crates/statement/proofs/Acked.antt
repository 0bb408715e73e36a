-- A statement whose commit is owed, whichever it is.
use Rattle.std.proofs.Common.{refl, inr}
use Rattle.std.proofs.lemmas.Bool.{false≢true}
use Rattle.giving_up.specs.Machines.{MovesOnAcked}
use Rattle.transaction_statements.proofs.Moving as of_transaction
use Rattle.create_statement.proofs.Moving as of_create
use Rattle.read_statement.proofs.Entries as of_read
use Rattle.write_statement.proofs.Committing as of_write
use Rattle.statement.specs.declared.under_way.Statement.TheVariants as statements
use Rattle.statement.specs.Running.{IsRunning, owes_ack, acked}
use Rattle.statement.specs.Going.{statement_to_go}

pub moves_on_acked : MovesOnAcked IsRunning statement_to_go owes_ack acked
moves_on_acked (statements.Transaction m) owes =
    let goes = of_transaction.moves_on_acked m owes in
    record { owed = goes.owed; runs = goes.runs; nears = λ old new s. inr (refl, goes.nears old new s) }
moves_on_acked (statements.Create m) owes =
    let goes = of_create.moves_on_acked m owes in
    record { owed = goes.owed; runs = goes.runs; nears = λ old new s. inr (refl, goes.nears old new s) }
moves_on_acked (statements.Read m) owes =
    let goes = of_read.moves_on_acked m owes in
    record { owed = goes.owed; runs = goes.runs; nears = λ old new s. inr (refl, goes.nears old new s) }
moves_on_acked (statements.Write m) owes =
    let goes = of_write.moves_on_acked m owes in
    record { owed = goes.owed; runs = goes.runs; nears = λ old new s. inr (refl, goes.nears old new s) }
moves_on_acked other owes = absurd (false≢true owes)
