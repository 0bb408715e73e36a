use Rattle.std.proofs.Common.{sym, ◌∙◌, subst, inl, inr, true}
use Rattle.inno_types.specs.declared.stmt.Stmt.TheVariants as stmt
use Rattle.sql_lists.specs.Steps.{IsTaken}
use Rattle.transaction_statements.specs.declared.committer.Committer.TheVariants as committers
use Rattle.transaction_statements.specs.Committing.{Fits, SetsAlone}
use Rattle.transaction_statements.proofs.Stepping.{retaken, taken_as}
use Rattle.transaction_statements.proofs.statement.new_autocommit.Goals.{else-on-via-then-on+else-not-autocommit, else-on-via-else-on}
use Rattle.transaction_statements.proofs.statement.new_autocommit.Goals as goal

pub returns-then-not-autocommit : goal.returns-then-not-autocommit
returns-then-not-autocommit g c =
    let taken : IsTaken c.args.session (stmt.SetAutocommit true) c.args.lists.now.past =
    subst (λ on. IsTaken c.args.session (stmt.SetAutocommit on) c.args.lists.now.past) c.if-on.true c.requires.taken in (
      (
        retaken c.args.session (stmt.SetAutocommit true) (Fits committers.TurnOn) c.args.lists.now.past c.setting.result.now taken c.setting.ensures
            (λ h found. found) (sym c.autocommit.ensures ∙ c.if-not-autocommit.true),
        taken.nothing,
      ),
      c.requires.idle,
    )

pub returns : goal.returns
returns g c =
    elim c.else-on.branch [
      | else-on-via-then-on+else-not-autocommit w ↦ (
        (
          retaken c.args.session (stmt.SetAutocommit c.args.on) (SetsAlone (stmt.SetAutocommit c.args.on)) c.args.lists.now.past w.setting.result.now
              c.requires.taken w.setting.ensures (λ h found. found)
              (inl (sym w.autocommit.ensures ∙ w.if-not-autocommit.false)),
          c.requires.taken.nothing,
          tt,
        ),
        c.requires.idle,
      )
      | else-on-via-else-on w ↦ (
        (
          taken_as c.args.session (stmt.SetAutocommit c.args.on) (SetsAlone (stmt.SetAutocommit c.args.on)) c.args.lists.now.past c.requires.taken
              (inr w.if-on.false),
          c.requires.taken.nothing,
          tt,
        ),
        c.requires.idle,
      )
    ]
