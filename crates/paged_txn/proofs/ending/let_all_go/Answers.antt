use Rattle.std.proofs.Common.{◌≡◌, ◌-◌, List, subst, take, length, arith}
use Rattle.mini_txn.specs.declared.dealt.Entry.{Entry}
use Rattle.mini_txn.specs.Dealt.{pages_of}
use Rattle.paged_txn.specs.Ending.{LetsGo}
use Rattle.paged_txn.proofs.Rooms.{one_goes, none_goes}
use Rattle.paged_txn.proofs.ending.let_all_go.Goals as goal

pub loop-pool-preserved : goal.loop-pool-preserved
loop-pool-preserved c = λ final rest.
    let dealt = c.loop-pool.dealt in
    let front = take (length dealt - 1) dealt in
    let less = subst (λ (l : List Entry). LetsGo (pages_of l) c.let_go.new.pool final) c.drop_last.ensures rest in
    let all = one_goes front c.last.result.now c.loop-pool.pool c.let_go.new.pool final c.let_go.ensures less in
    c.loop-pool.invariant final (subst (λ (l : List Entry). LetsGo (pages_of l) c.loop-pool.pool final) c.last.ensures all)

pub returns-clause-pool : goal.returns-clause-pool
returns-clause-pool c =
    let none : length c.loop-pool.dealt ≡ 0 = omega (arith, c.loop-pool-test.false, c.len.ensures) in
    c.loop-pool.invariant c.loop-pool.pool (none_goes c.loop-pool.pool c.loop-pool.dealt none)
