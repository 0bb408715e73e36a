use Rattle.std.proofs.Common.{◌+◌, ◌≤◌, length, refl, sym, subst, arith}
use Rattle.mtr.specs.Calls.{Puts}
use Rattle.mini_txn.specs.Edits.{spare_of}
use Rattle.paged_txn.specs.View.{is_known, state_of, IsPaged}
use Rattle.paged_txn.proofs.Batched.{flushed_still}
use Rattle.paged_txn.proofs.Dirty.{same_pool}
use Rattle.paged_txn.proofs.Told.{known_told, known_tells, known_by}
use Rattle.paged_txn.proofs.Meeting.{put_paged, put_puts}
use Rattle.paged_txn.proofs.work.Work.put.Goals as goal

pub invariant_of-self-2 : goal.invariant_of-self-2
invariant_of-self-2 g c =
    let m = c.args.self.now in
    let past = g.D.Disk.past m.disk in
    let t = c.tells-self.ensures in
    record {
      is_paged = subst (λ rs. IsPaged m.pool past c.write_in.new.dealt rs c.tells-self.result) (sym c.add_put.ensures)
          (put_paged m.pool past m.dealt c.write_in.new.dealt m.edits m.told c.tells-self.result c.args.page c.args.at c.args.bytes.now m.is_paged
          c.requires.dealt_with c.write_in.ensures t.was t.few t.stays);
      is_flushed = flushed_still (is_known m.told past) (is_known c.tells-self.result past) m.pool m.pool m.log past past m.flusher m.is_flushed
          (λ k. known_by m.told past (t.was (known_told c.tells-self.result past k)) (known_tells c.tells-self.result past k)) (λ k q. refl)
          (same_pool m.pool m.pool refl);
    }

pub returns-clause-put : goal.returns-clause-put
returns-clause-put g c =
    let m = c.args.self.now in
    let past = g.D.Disk.past m.disk in
    let t = c.tells-self.ensures in
    let room : length c.args.bytes.now + 9 ≤ spare_of m.edits = omega (arith, c.if-spare-bytes.false, c.spare.ensures) in
    subst (λ rs. Puts c.args.page c.args.at c.args.bytes.now (state_of m.pool past m.dealt m.edits m.told)
    (state_of m.pool past c.write_in.new.dealt rs c.tells-self.result)) (sym c.add_put.ensures)
    (put_puts m.pool past m.dealt c.write_in.new.dealt m.edits m.told c.tells-self.result c.args.page c.args.at c.args.bytes.now m.is_paged
    c.requires.dealt_with c.write_in.ensures t.was t.few t.stays room)
