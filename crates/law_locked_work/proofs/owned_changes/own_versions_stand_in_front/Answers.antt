use Rattle.law_past_agreement.proofs.Ids.{ids_of}
use Rattle.law_locked_work.proofs.Fronts.{own_in_front}
use Rattle.law_locked_work.proofs.owned_changes.own_versions_stand_in_front.Goals as goal

pub returns-clause-front : goal.returns-clause-front
returns-clause-front c = λ h t opened at versions ordered is_open touched by. (own_in_front h (ids_of h ordered) opened at versions t is_open touched by).front

pub returns-clause-behind : goal.returns-clause-behind
returns-clause-behind c = λ h t opened at versions ordered is_open touched by.
    (own_in_front h (ids_of h ordered) opened at versions t is_open touched by).behind
