use Rattle.std.proofs.Common.{sym}
use Rattle.sql_grammar.specs.Grammar as grammar
use Rattle.sql_text.proofs.SoundStatements.{where_spelled}
use Rattle.sql_text.proofs.select.where_clause.Goals as goal

pub returns-in_ok-filter-in-Some-clause-spelled : goal.returns-in_ok-filter-in-Some-clause-spelled
returns-in_ok-filter-in-Some-clause-spelled c =
    where_spelled c.args.tokens.now c.in-Some.behind.now c.in_ok-filter-in-Some.rest.now c.in_ok-filter-in-Some.filter (sym c.in-Some.ensures) c.in_ok-filter-in-Some.ensures.spelled

pub returns-in-None-clause-spelled : goal.returns-in-None-clause-spelled
returns-in-None-clause-spelled c = grammar.each
