use Rattle.std.proofs.Common.{◌≡◌, None, List, sym, subst}
use Rattle.inno_types.specs.declared.value.Schema.{Schema}
use Rattle.inno_db.specs.Refusals.{refusal}
use Rattle.read_statement.proofs.Entries.{taken_opens}
use Rattle.read_statement.proofs.machine.ReadStatement.new.Goals as goal

pub returns : goal.returns
returns g c = (
  taken_opens c.args.session c.args.lists.now.past (record { stmt = c.args.stmt; autocommit = c.args.autocommit; level = c.args.level }) c.requires.taken
      c.requires.select
      (subst (λ (schemas : List Schema). refusal schemas c.args.stmt ≡ None) (sym (c.history.ensures.tables.tables c.args.session)) c.requires.unrefused),
  c.requires.idle,
)
