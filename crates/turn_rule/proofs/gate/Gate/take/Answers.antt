use Rattle.std.proofs.Common.{ap, sym, ◌∙◌, rules}
use Rattle.std.proofs.Common.{List, ◌∷◌, Some, Option, ℕ}
use Rattle.atomic_table.specs.Table.{rest}
use Rattle.turn_rule.proofs.gate.Gate.take.Goals as goal

pub exchange-requires : goal.exchange-requires
exchange-requires g c = let f = c.requires.full in (search rules, (Some f.0, f.1 ∙ ap (λ (l : List (ℕ × Option g.row.E.Denot)). (0, Some f.0) ∷ rest l) (sym f.1)))
