use Rattle.std.proofs.Common.{ℕ, arith, sym, subst}
use Rattle.std.specs.Prelude.{is_ok}
use Rattle.store_api.proofs.Looks.{looks_none, stays_join}
use Rattle.page_recovery.proofs.Followed.{looks_reads, stays_reads, WalksBack, back_from_the_end, behind_here, behind_nowhere, one_back, behind_within}
use Rattle.page_recovery.proofs.following.block_behind.Goals as goal

pub loop-left-init : goal.loop-left-init
loop-left-init g c =
    let past = g.D.Disk.past in
    let r = c.args.reader.now in
    record {
      looks = looks_none (past c.args.disk.now);
      same = λ s ticks is. (ticks, is);
      later = omega arith;
      within = omega (arith, c.blocks-block.ensures);
      walks = λ first groups s ticks told is.
          subst (λ (n : ℕ). WalksBack s.log.seen groups n c.left-left.result) (sym c.blocks-block.ensures)
          (subst (λ (n : ℕ). WalksBack s.log.seen groups r.block n) (sym c.left-left.ensures) (back_from_the_end first s.log.seen groups r is));
    }

pub returns-in_default-clause-behind : goal.returns-in_default-clause-behind
returns-in_default-clause-behind g c = λ first groups s ticks told is.
    behind_nowhere first s.log.seen groups c.args.reader.now is c.loop-left.block c.loop-left.left c.loop-left.invariant.within
    (c.loop-left.invariant.walks first groups s ticks told is) (omega (arith, c.in_default.ensures)) c.loop-left-test.true

pub returns-in_err-len-clause-looks : goal.returns-in_err-len-clause-looks
returns-in_err-len-clause-looks g c =
    let past = g.D.Disk.past in
    looks_reads (is_ok c.payload_len.result) (past c.args.disk.now) (past c.loop-left.disk) (past c.payload_len.new.disk) c.loop-left.invariant.looks
    c.payload_len.ensures.reads

pub returns-then-len-left-clause-looks : goal.returns-then-len-left-clause-looks
returns-then-len-left-clause-looks g c =
    let past = g.D.Disk.past in
    looks_reads (is_ok c.payload_len.result) (past c.args.disk.now) (past c.loop-left.disk) (past c.payload_len.new.disk) c.loop-left.invariant.looks
    c.payload_len.ensures.reads

pub returns-then-len-left-clause-same : goal.returns-then-len-left-clause-same
returns-then-len-left-clause-same g c =
    let past = g.D.Disk.past in
    stays_join (past c.args.disk.now) (past c.loop-left.disk) (past c.payload_len.new.disk) c.loop-left.invariant.same
    (stays_reads (past c.loop-left.disk) (past c.payload_len.new.disk) c.in_ok-len.ensures.reads)

pub returns-then-len-left-clause-behind : goal.returns-then-len-left-clause-behind
returns-then-len-left-clause-behind g c = λ first groups s ticks told is.
    let past = g.D.Disk.past in
    let then = stays_reads (past c.loop-left.disk) (past c.payload_len.new.disk) c.in_ok-len.ensures.reads s ticks told in
    behind_within first s.log.seen groups c.args.reader.now is c.loop-left.block c.loop-left.left c.loop-left.invariant.within
    (c.loop-left.invariant.walks first groups s then.0 then.1 is) c.in-Some.before c.in_ok-len.len (omega (arith, c.in-Some.ensures))
    (c.in_ok-len.ensures.len s then.0 then.1) c.loop-left-test.true c.if-len-left.true

pub loop-left-preserved : goal.loop-left-preserved
loop-left-preserved g c =
    let past = g.D.Disk.past in
    let p1 = past c.loop-left.disk in
    let p2 = past c.payload_len.new.disk in
    let stays = stays_reads p1 p2 c.in_ok-len.ensures.reads in
    record {
      looks =
          looks_reads (is_ok c.payload_len.result) (past c.args.disk.now) p1 p2 c.loop-left.invariant.looks c.payload_len.ensures.reads;
      same = stays_join (past c.args.disk.now) p1 p2 c.loop-left.invariant.same stays;
      later = omega (arith, c.loop-left.invariant.later, c.in_ok-len.ensures.cause.later);
      within = omega (arith, c.loop-left.invariant.within, c.in-Some.ensures);
      walks = λ first groups s ticks told is.
          let then = stays s ticks told in
          one_back first s.log.seen groups c.args.reader.now is c.loop-left.block c.loop-left.left c.loop-left.invariant.within
          (c.loop-left.invariant.walks first groups s then.0 then.1 is) c.in-Some.before c.in_ok-len.len (omega (arith, c.in-Some.ensures))
          (c.in_ok-len.ensures.len s then.0 then.1) c.if-len-left.false;
    }

pub returns-clause-behind : goal.returns-clause-behind
returns-clause-behind g c = λ first groups s ticks told is.
    behind_here first s.log.seen groups c.args.reader.now is c.loop-left.block c.loop-left.left c.loop-left.invariant.within
    (c.loop-left.invariant.walks first groups s ticks told is) (omega (arith, c.loop-left-test.false))
