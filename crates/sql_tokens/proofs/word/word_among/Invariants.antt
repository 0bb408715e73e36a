use Rattle.std.proofs.Common.{◌≡◌, drop}
use Rattle.sql_grammar.specs.Words.{word_among}
use Rattle.sql_tokens.proofs.word.word_among.Given as goal

abbrev pub invariant-loop-word : goal.invariant-loop-word
invariant-loop-word l = word_among (drop l.word-index l.words) l.capitals ≡ word_among l.words l.capitals
