use Rattle.std.proofs.Common.{◌≡◌, ◌++◌}
use Rattle.script_generator.specs.Generated.{more_accounts}
use Rattle.script_generator.proofs.accounts.push_more.Given as goal

abbrev pub invariant-loop-n : goal.invariant-loop-n
invariant-loop-n l = l.text.items ≡ l.fn.text.items ++ more_accounts l.n
