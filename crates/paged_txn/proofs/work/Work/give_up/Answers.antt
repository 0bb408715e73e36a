use Rattle.std.proofs.Common.{[], refl, sym, subst}
use Rattle.mtr.specs.Calls.{GivesUp}
use Rattle.paged_txn.specs.View.{is_known, state_of, IsPaged}
use Rattle.paged_txn.proofs.Batched.{flushed_still, dropped_changed}
use Rattle.paged_txn.proofs.Ended.{dropped_paged, dropped_gives_up}
use Rattle.paged_txn.proofs.work.Work.give_up.Goals as goal

pub invariant_of-self : goal.invariant_of-self
invariant_of-self g c =
    let m = c.args.self.now in
    let past = g.D.Disk.past m.disk in
    let new = c.let_all_go.new.pool in
    let all = dropped_paged m.pool new past m.dealt m.edits m.told m.is_paged c.let_all_go.ensures.pool in
    record {
      is_paged = subst (λ d. IsPaged new past d c.clear.new.self m.told) (sym c.let_all_go.ensures.emptied)
          (subst (λ rs. IsPaged new past [] rs m.told) (sym c.clear.ensures) all);
      is_flushed = flushed_still (is_known m.told past) (is_known m.told past) m.pool new m.log past past m.flusher m.is_flushed (λ k. k) (λ k q. refl)
          (dropped_changed m.pool new past m.dealt m.edits m.told m.is_paged c.let_all_go.ensures.pool);
    }

pub returns-clause-gives_up : goal.returns-clause-gives_up
returns-clause-gives_up g c =
    let m = c.args.self.now in
    let past = g.D.Disk.past m.disk in
    let new = c.let_all_go.new.pool in
    let old = state_of m.pool past m.dealt m.edits m.told in
    let all = dropped_gives_up m.pool new past m.dealt m.edits m.told m.is_paged c.let_all_go.ensures.pool in
    subst (λ d. GivesUp old (state_of new past d c.clear.new.self m.told)) (sym c.let_all_go.ensures.emptied)
    (subst (λ rs. GivesUp old (state_of new past [] rs m.told)) (sym c.clear.ensures) all)
