use Rattle.std.proofs.Common.{arith}
use Rattle.catalog.proofs.Entries.{entry_takes, not_refused}
use Rattle.catalog.proofs.entry.get_entry.Goals as goal

pub returns-in-Ok-clause-entry : goal.returns-in-Ok-clause-entry
returns-in-Ok-clause-entry c = entry_takes c.args.bytes.now _ (λ i. omega (arith, c.type_inv.bytes i)) c.in-Ok.ensures

pub returns-in-Err-Malformed-clause-refused : goal.returns-in-Err-Malformed-clause-refused
returns-in-Err-Malformed-clause-refused c = λ held begins. not_refused c.args.bytes.now held (rw c.in-Err-Malformed.field-0-is at c.in-Err-Malformed.ensures) begins
