use Rattle.sql_grammar.specs.Words.{spelling}
use Rattle.sql_prefix.specs.Prefix.{GoesOn}
use Rattle.sql_prefix.proofs.Finished.{NoneBefore}
use Rattle.sql_prefix.proofs.prefix.goes_on_by_one_word.Given as goal

abbrev pub invariant-loop-word : goal.invariant-loop-word
invariant-loop-word l = NoneBefore (λ w. GoesOn l.bytes (spelling w)) l.words l.word-index
