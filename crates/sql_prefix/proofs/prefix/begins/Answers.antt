use Rattle.sql_prefix.proofs.Finished.{by_token, by_word_ok}
use Rattle.sql_prefix.proofs.prefix.begins.Goals as goal

pub returns-then-branch : goal.returns-then-branch
returns-then-branch c = by_token c.args.bytes.now c.in_ok-goes_on_by_token.field-0 c.if-branch.true c.in_ok-goes_on_by_token.ensures

pub returns : goal.returns
returns c =
    by_word_ok c.args.bytes.now c.in_ok-goes_on_by_token.field-0 c.goes_on_by_word.result c.if-branch.false c.in_ok-goes_on_by_token.ensures c.goes_on_by_word.ensures
