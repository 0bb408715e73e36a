use Rattle.std.proofs.Common.{arith}
use Rattle.std.proofs.lemmas.Result.{err_from_is_err_and}
use Rattle.btree_merge.proofs.Going.{on_then}
use Rattle.btree_merge.proofs.Merged as merged
use Rattle.btree_merge.proofs.merge.merge_in.Goals as goal

pub returns-in_err-put_joined-clause-goes_on : goal.returns-in_err-put_joined-clause-goes_on
returns-in_err-put_joined-clause-goes_on g c =
    on_then 3 0 8 (g.M.Mtr.state c.args.m.now) (g.M.Mtr.state c.look_at.new.m) (g.M.Mtr.state c.put_joined.new.m) (omega arith)
    c.in_ok-both.ensures.reads.on c.in_err-put_joined.ensures.goes_on

pub free_page-requires-clause-within : goal.free_page-requires-clause-within
free_page-requires-clause-within g c =
    merged.right_within c.args.tree c.args.parent c.args.place c.in-Some.both (g.M.Mtr.state c.args.m.now) (g.M.Mtr.state c.look_at.new.m)
    (g.M.Mtr.state c.put_joined.new.m) c.in_ok-both.ensures.reads
    (λ told. merged.is_ready c.args.tree (g.M.Mtr.state c.args.m.now).seen c.args.parent c.args.place c.in_ok-both.field-0 c.in-Some.both c.in-Some.is
    (c.in_ok-both.ensures.found told))
    c.in_ok-put_joined.ensures.goes_on c.in_ok-put_joined.ensures.merges

pub free_page-requires-clause-beyond : goal.free_page-requires-clause-beyond
free_page-requires-clause-beyond g c =
    merged.right_beyond c.args.tree c.args.parent c.args.place c.in-Some.both (g.M.Mtr.state c.args.m.now) (g.M.Mtr.state c.look_at.new.m)
    (g.M.Mtr.state c.put_joined.new.m) c.in_ok-both.ensures.reads
    (λ told. merged.is_ready c.args.tree (g.M.Mtr.state c.args.m.now).seen c.args.parent c.args.place c.in_ok-both.field-0 c.in-Some.both c.in-Some.is
    (c.in_ok-both.ensures.found told))
    c.in_ok-put_joined.ensures.goes_on c.in_ok-put_joined.ensures.merges

pub free_page-requires-clause-small : goal.free_page-requires-clause-small
free_page-requires-clause-small g c =
    merged.right_small c.args.tree c.args.parent c.args.place c.in-Some.both (g.M.Mtr.state c.args.m.now) (g.M.Mtr.state c.look_at.new.m)
    (g.M.Mtr.state c.put_joined.new.m) c.in_ok-both.ensures.reads
    (λ told. merged.is_ready c.args.tree (g.M.Mtr.state c.args.m.now).seen c.args.parent c.args.place c.in_ok-both.field-0 c.in-Some.both c.in-Some.is
    (c.in_ok-both.ensures.found told))
    c.in_ok-put_joined.ensures.goes_on c.in_ok-put_joined.ensures.merges

pub returns-in_err-free_page-clause-goes_on : goal.returns-in_err-free_page-clause-goes_on
returns-in_err-free_page-clause-goes_on g c =
    merged.all_on c.args.tree c.args.parent c.args.place c.in-Some.both (g.M.Mtr.state c.args.m.now) (g.M.Mtr.state c.look_at.new.m)
    (g.M.Mtr.state c.put_joined.new.m) c.in_ok-both.ensures.reads
    (λ told. merged.is_ready c.args.tree (g.M.Mtr.state c.args.m.now).seen c.args.parent c.args.place c.in_ok-both.field-0 c.in-Some.both c.in-Some.is
    (c.in_ok-both.ensures.found told))
    c.in_ok-put_joined.ensures.goes_on c.in_ok-put_joined.ensures.merges
    (g.M.Mtr.state c.free_page.new.m) c.in_err-free_page.ensures.goes_on

pub returns-in_err-free_page-clause-reason : goal.returns-in_err-free_page-clause-reason
returns-in_err-free_page-clause-reason g c =
    let p = err_from_is_err_and c.from_residual-in_err-free_page.result c.from_residual-in_err-free_page.ensures.1 in
    rw (p.1, p.2) (merged.not_freed c.args.tree c.args.parent c.args.place c.in-Some.both (g.M.Mtr.state c.args.m.now) (g.M.Mtr.state c.look_at.new.m)
    (g.M.Mtr.state c.put_joined.new.m) c.in_ok-both.ensures.reads
    (λ told. merged.is_ready c.args.tree (g.M.Mtr.state c.args.m.now).seen c.args.parent c.args.place c.in_ok-both.field-0 c.in-Some.both c.in-Some.is
    (c.in_ok-both.ensures.found told))
    c.in_ok-put_joined.ensures.goes_on c.in_ok-put_joined.ensures.merges
    (g.M.Mtr.state c.free_page.new.m) c.in_err-free_page.ensures.goes_on g.M.Mtr.state c.in_err-free_page.field-0.0
    c.in_err-free_page.ensures.reason)

pub returns-clause-goes_on : goal.returns-clause-goes_on
returns-clause-goes_on g c =
    merged.all_on c.args.tree c.args.parent c.args.place c.in-Some.both (g.M.Mtr.state c.args.m.now) (g.M.Mtr.state c.look_at.new.m)
    (g.M.Mtr.state c.put_joined.new.m) c.in_ok-both.ensures.reads
    (λ told. merged.is_ready c.args.tree (g.M.Mtr.state c.args.m.now).seen c.args.parent c.args.place c.in_ok-both.field-0 c.in-Some.both c.in-Some.is
    (c.in_ok-both.ensures.found told))
    c.in_ok-put_joined.ensures.goes_on c.in_ok-put_joined.ensures.merges
    (g.M.Mtr.state c.free_page.new.m) c.in_ok-free_page.ensures.goes_on

pub returns-clause-done : goal.returns-clause-done
returns-clause-done g c =
    merged.done c.args.tree c.args.parent c.args.place c.in-Some.both (g.M.Mtr.state c.args.m.now) (g.M.Mtr.state c.look_at.new.m)
    (g.M.Mtr.state c.put_joined.new.m) c.in_ok-both.ensures.reads
    (λ told. merged.is_ready c.args.tree (g.M.Mtr.state c.args.m.now).seen c.args.parent c.args.place c.in_ok-both.field-0 c.in-Some.both c.in-Some.is
    (c.in_ok-both.ensures.found told))
    c.in_ok-put_joined.ensures.goes_on c.in_ok-put_joined.ensures.merges
    (g.M.Mtr.state c.free_page.new.m) c.in_ok-free_page.ensures.goes_on c.in_ok-free_page.ensures.freed
