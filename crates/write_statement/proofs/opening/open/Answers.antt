use Rattle.std.proofs.Common.{◌≡◌, false, sym, ◌∙◌}
use Rattle.shared_lists.specs.Tasks.{Idle}
use Rattle.sql_lists.proofs.Moving.{moves_stays, carried}
use Rattle.giving_up.specs.Ends.{IsFailed}
use Rattle.giving_up.proofs.Nothing.{taken_fails}
use Rattle.giving_up.proofs.Writing.{on_rows}
use Rattle.write_statement.proofs.Joining.{may_begin, opened}
use Rattle.write_statement.proofs.opening.open.Goals as goal

pub begin-requires-clause-may : goal.begin-requires-clause-may
begin-requires-clause-may g c =
    let r = c.requires.running in
    may_begin c.args.session c.args.stmt c.args.lists.now.past c.setting-setting.result.now c.next_level-level.result r.1 r.0 c.setting-setting.ensures
    c.requires.closed c.next_level-level.ensures

pub returns-in-Ok-clause-steps : goal.returns-in-Ok-clause-steps
returns-in-Ok-clause-steps g c =
    let r = c.requires.running in
    let steps =
    opened c.args.session _ c.next_level-level.result c.args.stmt c.autocommit-alone.result c.setting-setting.result.now c.args.lists.now
    c.begin.new.self r.1 r.0 r.3 c.setting-setting.ensures c.requires.closed c.requires.none (sym c.autocommit-alone.ensures) c.in-Ok.ensures.ok in
    (steps.0, (steps.1, c.in-Ok.ensures.ok.task_is ∙ r.2), steps.2)

pub returns-in-Err-clause-steps : goal.returns-in-Err-clause-steps
returns-in-Err-clause-steps g c =
    let r = c.requires.running in
    let stays = c.in-Err.ensures.err in (
      moves_stays c.args.session c.args.lists.now c.begin.new.self stays,
      carried (λ h w task. IsFailed c.args.session false h × (task ≡ Idle)) c.args.session c.args.lists.now c.begin.new.self stays
          (taken_fails c.args.session c.args.stmt c.args.lists.now.past (on_rows c.args.stmt r.1) r.0, r.2),
      stays.past_is,
    )
