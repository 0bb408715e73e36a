use Rattle.std.proofs.Common.{refl, sym}
use Rattle.sql_text.proofs.SoundWhole.{by_key, key_spelled, by_word, word_spelled, by_other}
use Rattle.sql_text.proofs.statement.statement.Goals as goal

pub returns-in-Key-clause-exact : goal.returns-in-Key-clause-exact
returns-in-Key-clause-exact c = by_key c.behind_key.result c.args.tokens.now c.in-Key.rest.now c.in-Key.word (sym c.in-Key.ensures) c.behind_key.ensures.exact

pub returns-in-Key-clause-spelled : goal.returns-in-Key-clause-spelled
returns-in-Key-clause-spelled c = key_spelled c.behind_key.result c.args.tokens.now c.in-Key.rest.now c.in-Key.word (sym c.in-Key.ensures) c.behind_key.ensures.spelled

pub returns-in-Bare-clause-exact : goal.returns-in-Bare-clause-exact
returns-in-Bare-clause-exact c = by_word c.behind_word.result c.args.tokens.now c.in-Bare.rest.now c.in-Bare.word (sym c.in-Bare.ensures) c.behind_word.ensures

pub returns-in-Bare-clause-spelled : goal.returns-in-Bare-clause-spelled
returns-in-Bare-clause-spelled c = word_spelled c.behind_word.result c.args.tokens.now c.in-Bare.rest.now c.in-Bare.word (sym c.in-Bare.ensures) c.behind_word.ensures

pub returns-in-Other-clause-exact : goal.returns-in-Other-clause-exact
returns-in-Other-clause-exact c = rw c.unexpected.ensures (c.args.tokens.now, by_other c.args.tokens.now (sym c.in-Other.ensures), refl)
