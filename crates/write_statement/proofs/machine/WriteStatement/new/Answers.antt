use Rattle.std.proofs.Common.{◌≡◌, None, List, sym, subst}
use Rattle.inno_types.specs.declared.value.Schema.{Schema}
use Rattle.inno_db.specs.Refusals.{refusal}
use Rattle.write_statement.proofs.machine.WriteStatement.new.Goals as goal

pub returns : goal.returns
returns g c = (
  c.requires.taken,
  c.requires.writes,
  c.requires.idle,
  subst (λ (schemas : List Schema). refusal schemas c.args.stmt ≡ None) (sym (c.history.ensures.tables.tables c.args.session)) c.requires.unrefused,
)
