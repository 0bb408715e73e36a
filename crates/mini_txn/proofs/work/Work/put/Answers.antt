use Rattle.std.proofs.Common.{◌≤◌, ◌+◌, List, length, sym, subst, arith}
use Rattle.log_format.specs.declared.group.Record.{Record}
use Rattle.mtr.specs.Calls.{Puts}
use Rattle.mini_txn.specs.Edits.{spare_of}
use Rattle.mini_txn.specs.View.{MiniView, state_of, IsMini}
use Rattle.mini_txn.proofs.Meeting.{mini, put_mini, put_puts}
use Rattle.mini_txn.proofs.work.Work.put.Goals as goal

pub invariant_of-self : goal.invariant_of-self
invariant_of-self c =
    let i = c.self.inside in
    let tells = c.tells-self-inside.ensures in
    subst (λ (rs : List Record). IsMini i.pool c.write_in.new.dealt rs c.tells-self-inside.result) (sym c.add_put.ensures)
    (put_mini i.pool i.log i.dealt c.write_in.new.dealt i.edits i.told c.tells-self-inside.result c.args.page c.args.at c.args.bytes.now
    c.self.invariant c.write_in.ensures tells.was tells.few tells.stays)

pub returns-clause-put : goal.returns-clause-put
returns-clause-put c =
    let i = c.self.inside in
    let tells = c.tells-self-inside.ensures in
    let new = c.write_in.new.dealt in
    let now = c.tells-self-inside.result in
    let room : length c.args.bytes.now + 9 ≤ spare_of i.edits = omega (arith, c.if-spare-bytes.false, c.spare.ensures) in
    let puts = put_puts i.pool i.log i.dealt new i.edits i.told now c.args.page c.args.at c.args.bytes.now c.self.invariant c.write_in.ensures
    tells.was tells.few tells.stays room in
    subst (λ (m : MiniView). Puts c.args.page c.args.at c.args.bytes.now (state_of m) (state_of (mini i.pool i.log new c.add_put.new.self now))) c.self.view_is
    (subst (λ (rs : List Record). Puts c.args.page c.args.at c.args.bytes.now (state_of (mini i.pool i.log i.dealt i.edits i.told))
    (state_of (mini i.pool i.log new rs now))) (sym c.add_put.ensures) puts)
