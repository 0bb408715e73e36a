use Rattle.create_statement.proofs.Stepping.{begins_so}
use Rattle.create_statement.proofs.machine.CreateStatement.new.Goals as goal

pub returns : goal.returns
returns g c = (
  (
    begins_so c.args.session c.args.stmt c.args.lists.now.past c.next_level-level.result c.setting.result.now c.requires.taken c.requires.kind
        c.setting.ensures c.next_level-level.ensures,
    c.requires.taken.nothing,
    c.requires.taken.rows_alone,
  ),
  c.requires.idle,
)
