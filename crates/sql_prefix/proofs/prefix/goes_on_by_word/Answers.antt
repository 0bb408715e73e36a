use Rattle.sql_prefix.proofs.Finished.{by_one_of, by_either_ok}
use Rattle.sql_prefix.proofs.prefix.goes_on_by_word.Goals as goal

pub returns-then-branch : goal.returns-then-branch
returns-then-branch c = by_one_of c.args.bytes.now c.reserved_words.result.now c.in_ok-goes_on_by_one_word.field-0 c.if-branch.true c.in_ok-goes_on_by_one_word.ensures

pub returns : goal.returns
returns c =
    by_either_ok c.args.bytes.now c.reserved_words.result.now c.other_words.result.now c.in_ok-goes_on_by_one_word.field-0 c.goes_on_by_one_word-2.result c.reserved_words.ensures c.other_words.ensures c.if-branch.false c.in_ok-goes_on_by_one_word.ensures c.goes_on_by_one_word-2.ensures
