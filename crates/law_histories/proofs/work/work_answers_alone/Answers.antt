use Rattle.law_histories.proofs.Pieces.{tracks-work, tracks-answers}
use Rattle.law_histories.proofs.work.work_answers_alone.Goals as goal

pub returns-clause-answers : goal.returns-clause-answers
returns-clause-answers c = tracks-answers

pub returns-clause-leaves : goal.returns-clause-leaves
returns-clause-leaves c = tracks-work
