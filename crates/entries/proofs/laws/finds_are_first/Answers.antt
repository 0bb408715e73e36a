use Rattle.std.specs.Ordering.{is_le, is_lt}
use Rattle.entries.specs.Pairs.{key_cmp}
use Rattle.entries.proofs.Found.{first_is}
use Rattle.entries.proofs.laws.finds_are_first.Goals as goal

pub returns-clause-from : goal.returns-clause-from
returns-clause-from c = λ key pairs rising. first_is (λ other. is_le (key_cmp key other)) pairs rising

pub returns-clause-after : goal.returns-clause-after
returns-clause-after c = λ key pairs rising. first_is (λ other. is_lt (key_cmp key other)) pairs rising
