use Rattle.std.proofs.Common.{◌≡◌, drop}
use Rattle.sql_history.specs.Settings.{made_at}
use Rattle.sql_history.proofs.save_list.find.Given as goal

-- what is found among the rest is what is found among all
abbrev pub invariant-loop-save : goal.invariant-loop-save
invariant-loop-save l = made_at l.name (drop l.save-index l.saves) ≡ made_at l.name l.saves
