use Rattle.std.proofs.lemmas.Fmt.{IsAscii-from_digits}
use Rattle.std.proofs.lemmas.Str.{IsUtf8-from_ascii}
use Rattle.run_outcome.proofs.words.number_of.Goals as goal

-- digits are a text
pub returns-in-Err : goal.returns-in-Err
returns-in-Err c = λ fits small.
    c.in-Err.ensures.cases.0 (IsUtf8-from_ascii c.args.word.now (IsAscii-from_digits c.args.word.now fits.digits.1))
