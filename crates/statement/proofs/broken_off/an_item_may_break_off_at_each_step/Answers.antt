use Rattle.statement.proofs.Broken.{of_transactions, of_creations, of_readings, of_writings, of_statements}
use Rattle.statement.proofs.broken_off.an_item_may_break_off_at_each_step.Goals as goal

pub returns-clause-transaction : goal.returns-clause-transaction
returns-clause-transaction c = of_transactions

pub returns-clause-create : goal.returns-clause-create
returns-clause-create c = of_creations

pub returns-clause-read : goal.returns-clause-read
returns-clause-read c = of_readings

pub returns-clause-write : goal.returns-clause-write
returns-clause-write c = of_writings

pub returns-clause-statement : goal.returns-clause-statement
returns-clause-statement c = of_statements
