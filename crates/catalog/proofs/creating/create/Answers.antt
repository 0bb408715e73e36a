use Rattle.std.proofs.Common.{◌+◌, List, ℕ, [], length, subst, arith}
use Rattle.std.proofs.lemmas.Result.{err_from_is_err_and}
use Rattle.catalog.specs.Creating.{asked_pages, PutsEntry}
use Rattle.catalog.proofs.Entered.{creates}
use Rattle.catalog.proofs.Reasons.{on_err, create_reason_later, attempts_then, attempts_taken}
use Rattle.catalog.proofs.Reserving.{reserves_none, reserves_then}
use Rattle.catalog.proofs.creating.create.Goals as goal

pub returns-in_err-roots-clause-kept : goal.returns-in_err-roots-clause-kept
returns-in_err-roots-clause-kept g c =
    let old = g.M.Mtr.state c.args.m.now in
    let between = g.M.Mtr.state c.count_tables.new.m in
    let need = 1 + length c.args.schema.now.keys in
    on_err _ _ (attempts_then [] old between (g.M.Mtr.state c.make_roots.new.m) need need (reserves_none asked_pages old between c.count_tables.ensures.consults) (omega arith) c.in_err-roots.ensures.kept)

pub returns-in_err-roots-clause-reason : goal.returns-in_err-roots-clause-reason
returns-in_err-roots-clause-reason g c =
    let old = g.M.Mtr.state c.args.m.now in
    let between = g.M.Mtr.state c.count_tables.new.m in
    let need = 1 + length c.args.schema.now.keys in
    let p = err_from_is_err_and c.from_residual-in_err-roots.result c.from_residual-in_err-roots.ensures.1 in
    rw (p.1, p.2)
    (create_reason_later [] [] old between (g.M.Mtr.state c.make_roots.new.m) (reserves_none asked_pages old between c.count_tables.ensures.consults) c.in_err-roots.ensures.kept.takes.goes need need c.in_err-roots.field-0.0 (omega arith) c.in_err-roots.ensures.reason)

pub returns-in_err-put_entry_on-clause-kept : goal.returns-in_err-put_entry_on-clause-kept
returns-in_err-put_entry_on-clause-kept g c =
    let old = g.M.Mtr.state c.args.m.now in
    let between = g.M.Mtr.state c.count_tables.new.m in
    let mid = g.M.Mtr.state c.make_roots.new.m in
    let new = g.M.Mtr.state c.put_entry_on.new.m in
    let made = c.in_ok-roots.ensures.made in
    let need = 1 + length c.args.schema.now.keys in
    let taken = reserves_then [] c.in_ok-roots.roots.items [] [] old between mid (reserves_none asked_pages old between c.count_tables.ensures.consults) made.reserves in
    on_err _ _ (attempts_then c.in_ok-roots.roots.items old mid new 0 need taken (omega (arith, made.count_is)) (attempts_taken [] mid new 0 (reserves_none asked_pages mid new c.in_err-put_entry_on.ensures.kept) (omega arith)))

pub returns-clause-created : goal.returns-clause-created
returns-clause-created g c =
    let old = g.M.Mtr.state c.args.m.now in
    let between = g.M.Mtr.state c.count_tables.new.m in
    let mid = g.M.Mtr.state c.make_roots.new.m in
    let new = g.M.Mtr.state c.put_entry_on.new.m in
    let roots = c.in_ok-roots.roots.items in
    let puts = subst (λ (rs : List ℕ). PutsEntry c.args.schema.now c.in_ok-table.table rs mid new) c.deref.ensures.value c.in_ok-put_entry_on.ensures.put in
    creates c.args.schema.now c.in_ok-table.table roots old between mid new c.requires.makeable c.in_ok-table.ensures.inside c.count_tables.ensures.consults c.requires.room c.in_ok-table.ensures.count c.in_ok-roots.ensures.made puts
