use Rattle.std.proofs.Common.{take}
use Rattle.std.specs.Prelude.{All}
use Rattle.run_outcome.specs.Words.{IsText}
use Rattle.run_outcome.proofs.words.are_texts.Given as goal

abbrev pub invariant-loop-word : goal.invariant-loop-word
invariant-loop-word l = All IsText (take l.word-index l.words)
