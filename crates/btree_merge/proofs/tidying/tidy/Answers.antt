use Rattle.std.proofs.Common.{sym, subst}
use Rattle.std.specs.Prelude.{ℕ, List, Some}
use Rattle.entries.proofs.Edits.{on_err}
use Rattle.btree_change.proofs.Steps.{ends_given_up}
use Rattle.btree_merge.specs.Tidied.{DoesTidy}
use Rattle.btree_merge.proofs.Ended.{given_up, committed}
use Rattle.btree_merge.proofs.tidying.tidy.Goals as goal

pub returns-in_err-settle-in-Ok-Some-clause-ends : goal.returns-in_err-settle-in-Ok-Some-clause-ends
returns-in_err-settle-in-Ok-Some-clause-ends g c =
    ends_given_up (g.M.Mtr.state c.args.m.now) (g.M.Mtr.state c.settle.new.m)
    (given_up 18 (g.M.Mtr.state c.args.m.now) (g.M.Mtr.state c.parent_of.new.m) (g.M.Mtr.state c.tidy_in.new.m) (g.M.Mtr.state c.settle.new.m)
    c.parent_of.ensures.reads c.tidy_in.ensures.goes_on c.in_err-settle-in-Ok-Some.ensures.given_up)

pub returns-in_err-settle-in-Ok-Some-clause-kept : goal.returns-in_err-settle-in-Ok-Some-clause-kept
returns-in_err-settle-in-Ok-Some-clause-kept g c =
    on_err c.from_residual-in_err-settle-in-Ok-Some.result
    (given_up 18 (g.M.Mtr.state c.args.m.now) (g.M.Mtr.state c.parent_of.new.m) (g.M.Mtr.state c.tidy_in.new.m) (g.M.Mtr.state c.settle.new.m)
    c.parent_of.ensures.reads c.tidy_in.ensures.goes_on c.in_err-settle-in-Ok-Some.ensures.given_up)

pub returns-in_ok-settle-in-Ok-Some-clause-done : goal.returns-in_ok-settle-in-Ok-Some-clause-done
returns-in_ok-settle-in-Ok-Some-clause-done g c = λ told.
    let commits = c.in_ok-settle-in-Ok-Some.ensures.committed in
    let told_c = commits.goes.told told in
    let told_b = c.tidy_in.ensures.goes_on.goes.told told_c in
    let tree = c.args.tree in
    let key = c.args.key.now in
    let freed = Some c.in-Ok-Some.freed in
    subst (λ (f : ℕ → List ℕ). DoesTidy tree key (g.M.Mtr.state c.args.m.now).standing f freed) (sym (commits.standing told))
    (subst (λ (f : ℕ → List ℕ). DoesTidy tree key f (g.M.Mtr.state c.tidy_in.new.m).seen freed) (c.in_ok-parent.ensures.reads.seen told_b)
    (subst (DoesTidy tree key (g.M.Mtr.state c.parent_of.new.m).seen (g.M.Mtr.state c.tidy_in.new.m).seen) c.in-Ok-Some.field-0-is
    (c.in-Ok-Some.ensures.done told_c)))

pub returns-in_ok-settle-in-Ok-Some-clause-ends : goal.returns-in_ok-settle-in-Ok-Some-clause-ends
returns-in_ok-settle-in-Ok-Some-clause-ends g c =
    committed 18 (g.M.Mtr.state c.args.m.now) (g.M.Mtr.state c.parent_of.new.m) (g.M.Mtr.state c.tidy_in.new.m) (g.M.Mtr.state c.settle.new.m)
    c.parent_of.ensures.reads c.tidy_in.ensures.goes_on c.in_ok-settle-in-Ok-Some.ensures.committed

pub returns-in-Ok-None-clause-ends : goal.returns-in-Ok-None-clause-ends
returns-in-Ok-None-clause-ends g c =
    ends_given_up (g.M.Mtr.state c.args.m.now) (g.M.Mtr.state c.give_up.new.self)
    (given_up 18 (g.M.Mtr.state c.args.m.now) (g.M.Mtr.state c.parent_of.new.m) (g.M.Mtr.state c.tidy_in.new.m) (g.M.Mtr.state c.give_up.new.self)
    c.parent_of.ensures.reads c.tidy_in.ensures.goes_on c.give_up.ensures)

pub returns-in-Err-clause-kept : goal.returns-in-Err-clause-kept
returns-in-Err-clause-kept g c =
    given_up 18 (g.M.Mtr.state c.args.m.now) (g.M.Mtr.state c.parent_of.new.m) (g.M.Mtr.state c.tidy_in.new.m) (g.M.Mtr.state c.give_up-in-Err.new.self)
    c.parent_of.ensures.reads c.tidy_in.ensures.goes_on c.give_up-in-Err.ensures

pub returns-in-Err-clause-ends : goal.returns-in-Err-clause-ends
returns-in-Err-clause-ends g c =
    ends_given_up (g.M.Mtr.state c.args.m.now) (g.M.Mtr.state c.give_up-in-Err.new.self)
    (given_up 18 (g.M.Mtr.state c.args.m.now) (g.M.Mtr.state c.parent_of.new.m) (g.M.Mtr.state c.tidy_in.new.m) (g.M.Mtr.state c.give_up-in-Err.new.self)
    c.parent_of.ensures.reads c.tidy_in.ensures.goes_on c.give_up-in-Err.ensures)
