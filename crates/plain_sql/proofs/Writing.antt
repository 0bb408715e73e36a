-- What is written, from the changes so far and those that are left.
use Rattle.std.proofs.Common.{List, ◌++◌}
use Rattle.inno_db.specs.declared.change.Change.{Change}
use Rattle.inno_db.specs.declared.outcome.Written.{Written}

-- these changes, and then what is written after them
abbrev pub after_all : List Change → Written → Written
after_all changes rest = record { changes = changes ++ rest.changes; refusal = rest.refusal }
