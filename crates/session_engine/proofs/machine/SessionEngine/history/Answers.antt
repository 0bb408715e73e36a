use Rattle.std.proofs.Common.{subst}
use Rattle.sql_grammar.specs.Grammar.{Spells}
use Rattle.sql_history.specs.Legal.{IsLegal}
use Rattle.law_histories.proofs.Ended.{none_without_want}
use Rattle.session_engine.proofs.machine.SessionEngine.history.Goals as goal

pub returns-clause-for_pages : goal.returns-clause-for_pages
returns-clause-for_pages g c =
    none_without_want c.args.self.now.lists.past (subst (λ engine. IsLegal Spells engine.lists.past) c.self.view_is c.history.ensures.legal)
