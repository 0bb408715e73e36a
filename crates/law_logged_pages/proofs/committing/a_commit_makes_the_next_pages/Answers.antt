use Rattle.law_logged_pages.proofs.Commits.{makes_next, leaves_page}
use Rattle.law_logged_pages.proofs.committing.a_commit_makes_the_next_pages.Goals as goal

pub returns-clause-named : goal.returns-clause-named
returns-clause-named c = λ first page groups g base old new are is size may named made. makes_next first page groups g base are is old new size may named made

pub returns-clause-others : goal.returns-clause-others
returns-clause-others c = λ first page groups g base are is silent. leaves_page first page groups g base are is silent
