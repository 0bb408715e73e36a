use Rattle.std.proofs.Common.{List, ℕ, ◌+◌, ◌++◌, ◌∷◌, [], length, sym, subst, arith}
use Rattle.std.proofs.lemmas.Result.{err_from_is_err_and}
use Rattle.catalog.specs.Creating.{MakesRoots}
use Rattle.catalog.proofs.Reasons.{on_err, create_reason_later, attempts_then, attempts_taken}
use Rattle.catalog.proofs.Rooted.{makes_more}
use Rattle.catalog.proofs.roots.make_roots.Goals as goal

pub returns-in_err-root-clause-kept : goal.returns-in_err-root-clause-kept
returns-in_err-root-clause-kept g c =
    let before = c.loop-which.invariant in
    on_err _ _ (attempts_then c.loop-which.roots.items (g.M.Mtr.state c.args.m.now) (g.M.Mtr.state c.loop-which.m) (g.M.Mtr.state c.make_root.new.m) 1 (1 + length c.args.schema.now.keys) before.reserves (omega (arith, before.count_is)) c.in_err-root.ensures.kept)

pub returns-in_err-root-clause-reason : goal.returns-in_err-root-clause-reason
returns-in_err-root-clause-reason g c =
    let before = c.loop-which.invariant in
    let p = err_from_is_err_and c.from_residual.result c.from_residual.ensures.1 in
    rw (p.1, p.2)
    (create_reason_later c.loop-which.roots.items [] (g.M.Mtr.state c.args.m.now) (g.M.Mtr.state c.loop-which.m) (g.M.Mtr.state c.make_root.new.m) before.reserves c.in_err-root.ensures.kept.takes.goes 1 (1 + length c.args.schema.now.keys) c.in_err-root.field-0.0 (omega (arith, before.count_is)) c.in_err-root.ensures.reason)

pub returns-in_err-push_root-clause-kept : goal.returns-in_err-push_root-clause-kept
returns-in_err-push_root-clause-kept g c =
    let before = c.loop-which.invariant in
    let more = makes_more c.args.schema.now c.args.table c.loop-which.which _ _ c.in_ok-root.root c.loop-which.roots.items (g.M.Mtr.state c.args.m.now) (g.M.Mtr.state c.loop-which.m) (g.M.Mtr.state c.make_root.new.m) before c.in_ok-root.ensures.made (omega (arith, c.index_number-index.ensures)) c.len_of_record.ensures.exact in
    on_err _ _ (attempts_taken (c.loop-which.roots.items ++ c.in_ok-root.root ∷ []) (g.M.Mtr.state c.args.m.now) (g.M.Mtr.state c.make_root.new.m) (1 + length c.args.schema.now.keys) more.reserves (omega (arith, more.count_is)))

pub loop-which-preserved : goal.loop-which-preserved
loop-which-preserved g c =
    let before = c.loop-which.invariant in
    let more = makes_more c.args.schema.now c.args.table c.loop-which.which _ _ c.in_ok-root.root c.loop-which.roots.items (g.M.Mtr.state c.args.m.now) (g.M.Mtr.state c.loop-which.m) (g.M.Mtr.state c.make_root.new.m) before c.in_ok-root.ensures.made (omega (arith, c.index_number-index.ensures)) c.len_of_record.ensures.exact in
    subst (λ (roots : List ℕ). MakesRoots c.args.schema.now c.args.table (c.loop-which.which + 1) roots (g.M.Mtr.state c.args.m.now) (g.M.Mtr.state c.make_root.new.m)) (sym c.in_ok-push_root.ensures) more
