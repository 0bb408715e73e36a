use Rattle.std.proofs.Common.{◌<◌, List, length, refl, sym, subst}
use Rattle.inno_model.specs.declared.event.Event.{Event}
use Rattle.store_api.specs.Past.{Past}
use Rattle.commit_log.specs.View.{CommitView, IsJoined, IsLogging}
use Rattle.commit_log.proofs.Logging.{stays_logging, readied_changes}
use Rattle.commit_log.proofs.commit_log.CommitLog.reserve.Goals as goal

pub returns-clause-kept : goal.returns-clause-kept
returns-clause-kept c =
    let l = c.self.inside in
    let old : CommitView = record { log = l.log; drafts = l.drafts; dues = l.dues.items; begun = l.begun } in
    let new : CommitView = record { log = c.reserve.new.log; drafts = c.reserve.new.self; dues = l.dues.items; begun = l.begun } in
    λ root now past is.
    stays_logging old new c.reserve.ensures.log (λ u. refl)
    (readied_changes c.reserve.result c.args.session l.drafts c.reserve.new.self
    (subst (λ (v : CommitView). IsJoined c.args.session v) (sym c.self.view_is) c.requires) c.reserve.ensures.ok c.reserve.ensures.err) root now past
    (subst (λ (v : CommitView). IsLogging root now past v) (sym c.self.view_is) is)
