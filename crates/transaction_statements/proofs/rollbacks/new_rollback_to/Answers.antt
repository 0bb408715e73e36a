use Rattle.std.proofs.Common.{◌≡◌, Some, None, refl, sym, ◌∙◌}
use Rattle.inno_types.specs.declared.stmt.Stmt.TheVariants as stmt
use Rattle.sql_history.specs.Settings.{made_at}
use Rattle.transaction_statements.proofs.Moving.{takes_none}
use Rattle.transaction_statements.proofs.Stepping.{retaken, back_first, missing_first}
use Rattle.transaction_statements.proofs.rollbacks.new_rollback_to.Goals as goal

pub returns-in-Some : goal.returns-in-Some
returns-in-Some g c =
    let s = c.args.session in
    let past = c.args.lists.now.past in
    let name = c.args.savepoint in
    let knows : made_at name c.setting.result.now.saves ≡ Some c.in-Some.made = sym c.made_at.ensures ∙ c.in-Some.is in (
      (
        retaken s (stmt.RollbackTo name) (λ setting. made_at name setting.saves ≡ Some c.in-Some.made) past c.setting.result.now c.requires.taken
            c.setting.ensures (λ h found. rw knows refl) knows,
        back_first s c.in-Some.made past c.requires.taken.nothing,
      ),
      takes_none c.in-Some.made _ _ c.requires.idle,
    )

pub returns-in-None : goal.returns-in-None
returns-in-None g c =
    let knows : made_at c.args.savepoint c.setting.result.now.saves ≡ None = sym c.made_at.ensures ∙ c.in-None.is in
    (missing_first c.args.session c.args.savepoint c.args.lists.now.past c.setting.result.now c.requires.taken c.setting.ensures knows, c.requires.idle)
