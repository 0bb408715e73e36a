use Rattle.std.proofs.Common.{◌≡◌, false, sym, ◌∙◌}
use Rattle.inno_types.specs.declared.stmt.Stmt.TheVariants as stmt
use Rattle.sql_history.specs.Settings.{next_level}
use Rattle.transaction_statements.specs.Committing.{SetsAlone}
use Rattle.giving_up.proofs.Writing.{closed_as_told}
use Rattle.transaction_statements.proofs.Stepping.{retaken}
use Rattle.transaction_statements.proofs.savepoints.new_savepoint.Goals as goal

pub returns-then-autocommit : goal.returns-then-autocommit
returns-then-autocommit g c = (
  (
    retaken c.args.session (stmt.Savepoint c.args.savepoint) (SetsAlone (stmt.Savepoint c.args.savepoint)) c.args.lists.now.past c.setting-setting.result.now
        c.requires.taken c.setting-setting.ensures (λ h found. found)
        (sym c.autocommit.ensures ∙ c.if-autocommit.true),
    c.requires.taken.nothing,
    closed_as_told c.args.session c.args.lists.now.past c.level.result c.level.ensures.level (sym (c.if-is_some.ensures {u = tt})),
  ),
  c.requires.idle,
)

pub returns : goal.returns
returns g c =
    let closed = closed_as_told c.args.session c.args.lists.now.past c.level.result c.level.ensures.level (sym (c.if-is_some.ensures {u = tt})) in (
      (
        retaken c.args.session (stmt.Savepoint c.args.savepoint) (λ setting. (setting.autocommit ≡ false) × (c.next_level-level.result ≡ next_level setting))
            c.args.lists.now.past c.setting-setting.result.now c.requires.taken c.setting-setting.ensures (λ h found. found)
            (sym c.autocommit.ensures ∙ c.if-autocommit.false, c.next_level-level.ensures),
        c.requires.taken.nothing,
        closed,
        c.level.ensures.closed closed,
      ),
      c.requires.idle,
    )
