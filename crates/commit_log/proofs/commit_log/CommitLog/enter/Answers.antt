use Rattle.std.proofs.Common.{◌≡◌, ◌<◌, ◌∷◌, true, false, length, set, refl, sym, ap, subst, ◌∙◌, rules}
use Rattle.inno_model.specs.declared.event.Event.TheVariants as events
use Rattle.inno_model.specs.declared.event.Event.{Event}
use Rattle.inno_model.specs.Past.{is_of}
use Rattle.commit_log.specs.DraftsView.{draft_of}
use Rattle.commit_log.specs.View.{CommitView, IsJoined, IsLogging, IsEntryOf, is_commit}
use Rattle.commit_log.proofs.Logging.{committed, entered}
use Rattle.commit_log.proofs.commit_log.CommitLog.enter.Goals as goal

pub returns-in-Committed-clause-kept : goal.returns-in-Committed-clause-kept
returns-in-Committed-clause-kept c =
    let l = c.self.inside in
    let s = c.args.session in
    let old : CommitView = record { log = l.log; drafts = l.drafts; dues = l.dues.items; begun = l.begun } in
    let new : CommitView = record { log = c.commit-due.new.log; drafts = c.commit-due.new.self; dues = c.set_due.new.dues.items; begun = l.begun } in
    let mine : is_of s (events.Committed c.in-Committed.s) ≡ true = subst (IsEntryOf s) c.in-Committed.is c.requires.mine in
    let joined : s < length old.drafts = subst (λ (v : CommitView). IsJoined s v) (sym c.self.view_is) c.requires.joined in
    λ root now past is.
    subst (λ (e : Event). IsLogging root now (e ∷ past) new) (sym c.in-Committed.is)
    (committed s c.in-Committed.s mine old new c.commit-due.result joined c.self.invariant.seated c.self.invariant.reached c.commit-due.ensures.due
    c.set_due.ensures refl c.commit-due.ensures.changes root now past
    (subst (λ (v : CommitView). IsLogging root now past v) (sym c.self.view_is) is) c.commit-due.ensures.none c.commit-due.ensures.some)

pub returns-in_default : goal.returns-in_default
returns-in_default c =
    let l = c.self.inside in
    let s = c.args.session in
    let old : CommitView = record { log = l.log; drafts = l.drafts; dues = l.dues.items; begun = l.begun } in
    let new : CommitView = record { log = l.log; drafts = c.redraft.new.drafts; dues = l.dues.items; begun = l.begun } in
    let uncommitted : is_commit c.args.entry.now ≡ false = search rules in
    record {
      joined = c.redraft.ensures.joined ∙ ap (λ (v : CommitView). length v.drafts) c.self.view_is;
      room_stays = λ begins.
          c.redraft.ensures.room_stays begins ∙ ap (λ (v : CommitView). (draft_of s v.drafts).ready) c.self.view_is;
      kept = λ root now past is.
          entered c.args.entry.now s old new c.requires.mine c.requires.unacked uncommitted refl refl refl
          c.redraft.ensures.mine c.redraft.ensures.others root now past (subst (λ (v : CommitView). IsLogging root now past v) (sym c.self.view_is) is);
    }
