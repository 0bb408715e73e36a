use Rattle.std.proofs.Common.{◌+◌, ◌≤◌, arith, ◌∙◌, subst, refl}
use Rattle.std.specs.Prelude.{is_ok}
use Rattle.log_format.specs.Given.{Gives}
use Rattle.store_api.proofs.Looks.{looks_none, stays_join}
use Rattle.page_recovery.proofs.Followed.{SoFar, looks_reads, stays_reads, none_so_far, one_more, a_piece, all_followed}
use Rattle.page_recovery.proofs.following.apply_all.Goals as goal
use Rattle.page_recovery.proofs.following.apply_all.Goals.{in-Group+in_ok-past-in-Group, in-More}

pub loop-turn-init : goal.loop-turn-init
loop-turn-init g c =
    let past = g.D.Disk.past in
    record {
      looks = looks_none (past c.args.disk.now);
      same = λ s ticks is. (ticks, is);
      later = omega arith;
      run = refl;
      few = omega arith;
      so_far = none_so_far c.args.pages.now c.args.reader.now (past c.args.disk.now);
    }

pub returns-in_err-group-clause-looks : goal.returns-in_err-group-clause-looks
returns-in_err-group-clause-looks g c =
    let past = g.D.Disk.past in
    looks_reads (is_ok c.step.result) (past c.args.disk.now) (past c.loop-turn.disk) (past c.step.new.disk) c.loop-turn.invariant.looks c.step.ensures.reads

pub returns-in_err-past-in-Group-clause-looks : goal.returns-in_err-past-in-Group-clause-looks
returns-in_err-past-in-Group-clause-looks g c =
    let past = g.D.Disk.past in
    looks_reads (is_ok c.step.result) (past c.args.disk.now) (past c.loop-turn.disk) (past c.step.new.disk) c.loop-turn.invariant.looks c.step.ensures.reads

pub returns-in-End-clause-looks : goal.returns-in-End-clause-looks
returns-in-End-clause-looks g c =
    let past = g.D.Disk.past in
    looks_reads (is_ok c.step.result) (past c.args.disk.now) (past c.loop-turn.disk) (past c.step.new.disk) c.loop-turn.invariant.looks c.step.ensures.reads

pub returns-in-End-clause-same : goal.returns-in-End-clause-same
returns-in-End-clause-same g c =
    let past = g.D.Disk.past in
    stays_join (past c.args.disk.now) (past c.loop-turn.disk) (past c.step.new.disk) c.loop-turn.invariant.same
    (stays_reads (past c.loop-turn.disk) (past c.step.new.disk) c.in_ok-group.ensures.reads)

pub returns-in-End-clause-followed : goal.returns-in-End-clause-followed
returns-in-End-clause-followed g c =
    let past = g.D.Disk.past in
    let p1 = past c.loop-turn.disk in
    let p2 = past c.step.new.disk in
    let r = c.step.new.self in
    all_followed c.args.pages.now c.args.reader.now p1 p2 c.loop-turn.pages c.loop-turn.reader r c.loop-turn.count c.loop-turn.past
    (stays_reads p1 p2 c.in_ok-group.ensures.reads) c.loop-turn.invariant.so_far
    (λ first area given is. subst (Gives first area given p1 r) c.in-End.is (c.in_ok-group.ensures.gives first area given is))

pub loop-turn-preserved : goal.loop-turn-preserved
loop-turn-preserved g c =
    let past = g.D.Disk.past in
    let p0 = past c.args.disk.now in
    let p1 = past c.loop-turn.disk in
    let p2 = past c.step.new.disk in
    let before = c.loop-turn.reader in
    let r = c.step.new.self in
    let i = c.loop-turn.invariant in
    let after = c.match-branch-2 in
    let stays = stays_reads p1 p2 c.in_ok-group.ensures.reads in
    let both : (after.count ≤ c.loop-turn.turn + 1) × SoFar c.args.pages.now c.args.reader.now p2 after.pages r after.count after.past = elim after.branch [
      | in-Group+in_ok-past-in-Group w ↦
          rw (w.pages-is, w.count-is, w.past-is) (
            omega (arith, i.few),
            one_more c.args.pages.now c.args.reader.now p1 p2 c.loop-turn.pages before r c.loop-turn.count c.loop-turn.past stays i.so_far w.in-Group.group
                w.apply_next.new.pages w.in_ok-past-in-Group.past
                (λ first area given is. subst (Gives first area given p1 r) w.in-Group.is (c.in_ok-group.ensures.gives first area given is))
                (λ from groups on. w.in_ok-past-in-Group.ensures from groups on),
          )
      | in-More w ↦
          rw (w.pages-is, w.count-is, w.past-is) (
            omega (arith, i.few),
            a_piece c.args.pages.now c.args.reader.now p1 p2 c.loop-turn.pages before r c.loop-turn.count c.loop-turn.past stays i.so_far
                (λ first area given is. subst (Gives first area given p1 r) w.in-More.is (c.in_ok-group.ensures.gives first area given is)),
          )
    ] in
    record {
      looks = looks_reads (is_ok c.step.result) p0 p1 p2 i.looks c.step.ensures.reads;
      same = stays_join p0 p1 p2 i.same stays;
      later = omega (arith, i.later, c.in_ok-group.ensures.later);
      run = c.in_ok-group.ensures.run ∙ i.run;
      few = both.0;
      so_far = both.1;
    }
