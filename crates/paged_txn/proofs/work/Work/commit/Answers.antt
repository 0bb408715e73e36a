use Rattle.std.proofs.Common.{◌≡◌, ℕ, [], sym, subst, arith}
use Rattle.mtr.specs.Calls.{Commits}
use Rattle.paged_txn.specs.View.{state_of, IsPaged}
use Rattle.paged_txn.specs.Ending.{IsPut}
use Rattle.paged_txn.proofs.Batched.{commit_is_flushed}
use Rattle.paged_txn.proofs.Ended.{commit_paged, commit_commits, commit_puts}
use Rattle.paged_txn.proofs.work.Work.commit.Goals as goal

pub invariant_of-self-2 : goal.invariant_of-self-2
invariant_of-self-2 g c =
    let m = c.args.self.now in
    let past = g.D.Disk.past m.disk in
    let new = c.let_all_go.new.pool in
    let all = commit_paged m.pool c.place_copies.new.pool new past m.dealt m.edits m.told c.in_ok-lsn.lsn m.is_paged c.place_copies.ensures
    c.let_all_go.ensures.pool in
    record {
      is_paged = subst (λ d. IsPaged new past d c.clear.new.self m.told) (sym c.let_all_go.ensures.emptied)
          (subst (λ rs. IsPaged new past [] rs m.told) (sym c.clear.ensures) all);
      is_flushed = commit_is_flushed m.pool c.place_copies.new.pool new past m.dealt m.edits m.told c.in_ok-lsn.lsn m.is_paged c.place_copies.ensures
          c.let_all_go.ensures.pool m.log c.append.new.log m.flusher m.is_flushed c.in_ok-lsn.ensures.grouped c.in_ok-lsn.ensures.newest;
    }

pub returns-clause-committed : goal.returns-clause-committed
returns-clause-committed g c =
    let m = c.args.self.now in
    let past = g.D.Disk.past m.disk in
    let new = c.let_all_go.new.pool in
    let old = state_of m.pool past m.dealt m.edits m.told in
    let all = commit_commits m.pool c.place_copies.new.pool new past m.dealt m.edits m.told c.in_ok-lsn.lsn m.is_paged c.place_copies.ensures
    c.let_all_go.ensures.pool in
    subst (λ d. Commits old (state_of new past d c.clear.new.self m.told)) (sym c.let_all_go.ensures.emptied)
    (subst (λ rs. Commits old (state_of new past [] rs m.told)) (sym c.clear.ensures) all)

pub returns-clause-frames : goal.returns-clause-frames
returns-clause-frames g c = λ k lsn page newest.
    let m = c.args.self.now in
    let past = g.D.Disk.past m.disk in
    let new = c.let_all_go.new.pool in
    let same : c.in_ok-lsn.lsn ≡ lsn = omega (arith, c.in_ok-lsn.ensures.newest, newest) in
    subst (λ (n : ℕ). IsPut m.pool m.dealt new n page) same
    (commit_puts m.pool c.place_copies.new.pool new past m.dealt m.edits m.told c.in_ok-lsn.lsn m.is_paged c.place_copies.ensures
    c.let_all_go.ensures.pool k page)
