use Rattle.std.proofs.Common.{◌≡◌, ℕ, true, List, [], sym, ap, subst, ◌∙◌, arith}
use Rattle.log_format.specs.declared.group.Record.{Record}
use Rattle.mtr.specs.Calls.{Commits}
use Rattle.mini_txn.specs.declared.dealt.Entry.{Entry}
use Rattle.mini_txn.specs.View.{MiniView, state_of, IsPut}
use Rattle.mini_txn.proofs.Meeting.{mini, commit_commits, commit_puts}
use Rattle.mini_txn.proofs.work.Work.commit.Goals as goal

pub place_copies-requires : goal.place_copies-requires
place_copies-requires c = λ q known there. c.self.invariant.resident q there

pub returns-clause-committed : goal.returns-clause-committed
returns-clause-committed c =
    let i = c.self.inside in
    let pool = c.place_copies.new.pool in
    let log = c.append.new.log in
    let all = commit_commits i.pool pool i.log log i.dealt i.edits i.told c.self.invariant c.in_ok-lsn.lsn c.place_copies.ensures in
    subst (λ (m : MiniView). Commits (state_of m) (state_of (mini pool log c.forget.new.self c.clear.new.self i.told))) c.self.view_is
    (subst (λ (d : List Entry). Commits (state_of (mini i.pool i.log i.dealt i.edits i.told)) (state_of (mini pool log d c.clear.new.self i.told)))
    (sym c.forget.ensures)
    (subst (λ (rs : List Record). Commits (state_of (mini i.pool i.log i.dealt i.edits i.told)) (state_of (mini pool log [] rs i.told)))
    (sym c.clear.ensures) all))

pub returns-clause-frames : goal.returns-clause-frames
returns-clause-frames c = λ told lsn page newest.
    let i = c.self.inside in
    let pool = c.place_copies.new.pool in
    let log = c.append.new.log in
    let tells : i.told ≡ true = ap (λ (m : MiniView). m.told) c.self.view_is ∙ told in
    let same : c.in_ok-lsn.lsn ≡ lsn = omega (arith, c.in_ok-lsn.ensures.newest, newest) in
    let puts = commit_puts i.pool pool i.log log i.dealt i.edits i.told c.self.invariant c.in_ok-lsn.lsn c.place_copies.ensures tells page in
    subst (λ (m : MiniView). IsPut m (mini pool log [] [] i.told) lsn page) c.self.view_is
    (subst (λ (n : ℕ). IsPut (mini i.pool i.log i.dealt i.edits i.told) (mini pool log [] [] i.told) n page) same puts)
