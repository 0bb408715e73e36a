use Rattle.law_locked_rows.proofs.Owning.{free_apart, free_of_all}
use Rattle.law_locked_rows.proofs.ownership.a_place_without_a_record_is_nobodys.Goals as goal

pub returns-clause-apart : goal.returns-clause-apart
returns-clause-apart c state desks granted place key pairs owned key_is absent stand s other works =
    free_apart owned place key key_is pairs absent stand s other works

pub returns-clause-unchanged : goal.returns-clause-unchanged
returns-clause-unchanged c state desks granted place key pairs owned key_is absent stand s = free_of_all owned place key key_is pairs absent stand s
