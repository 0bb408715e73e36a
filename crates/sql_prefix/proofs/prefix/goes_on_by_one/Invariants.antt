use Rattle.sql_prefix.specs.Prefix.{IsCutOff}
use Rattle.sql_prefix.specs.Endings as spelled
use Rattle.sql_prefix.proofs.Finished.{NoneBefore}
use Rattle.sql_prefix.proofs.prefix.goes_on_by_one.Given as goal

abbrev pub invariant-loop-end : goal.invariant-loop-end
invariant-loop-end l = NoneBefore (λ e. IsCutOff l.bytes (spelled.token_end e)) l.ends l.end-index
