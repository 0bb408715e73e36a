use Rattle.std.proofs.Common.{◌∷◌, [], ◌++◌, ◌∙◌, refl, sym, ap, subst}
use Rattle.commit_log.specs.DraftsView.{DraftView}
use Rattle.commit_log.specs.View.{CommitView, IsLogging}
use Rattle.commit_log.proofs.Logging.{kept_joined, long_joined, drafts_joined, due_joined, stays_logging}
use Rattle.commit_log.proofs.commit_log.CommitLog.join.Goals as goal

pub invariant_of-self-2 : goal.invariant_of-self-2
invariant_of-self-2 c =
    let l = c.self.inside in
    kept_joined l.log l.drafts c.join.new.self l.dues.items c.push.new.self.items l.begun c.self.invariant c.in_ok-push.ensures.items
    c.join.ensures.promised (long_joined c.join.result l.drafts c.join.new.self c.join.ensures.ok c.join.ensures.err)

pub returns-clause-kept : goal.returns-clause-kept
returns-clause-kept c =
    let l = c.self.inside in
    let old : CommitView = record { log = l.log; drafts = l.drafts; dues = l.dues.items; begun = l.begun } in
    let new : CommitView = record { log = l.log; drafts = c.join.new.self; dues = c.push.new.self.items; begun = l.begun } in
    λ root now past is.
    stays_logging old new refl (λ u. due_joined l.dues.items c.push.new.self.items l.begun u c.in_ok-push.ensures.items)
    (λ u. ap (λ (draft : DraftView). draft.changes) (drafts_joined c.join.result l.drafts c.join.new.self c.join.ensures.ok c.join.ensures.err u))
    root now past (subst (λ (v : CommitView). IsLogging root now past v) (sym c.self.view_is) is)
