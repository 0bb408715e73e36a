use Rattle.law_locked_rows.proofs.Making.{may_of_owner}
use Rattle.law_locked_rows.proofs.ownership.an_owner_may_put_a_record.Goals as goal

pub returns : goal.returns
returns c chains state desks granted t place agrees apart owned mine = may_of_owner agrees apart owned t place mine
