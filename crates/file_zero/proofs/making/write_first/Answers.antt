use Rattle.std.specs.Prelude.{is_ok}
use Rattle.file_zero.proofs.NewFiles.{during_write, during_failed, after_sync, during_sync, alone_after, had_none}
use Rattle.file_zero.proofs.making.write_first.Goals as goal

pub returns-in_default-clause-crash : goal.returns-in_default-clause-crash
returns-in_default-clause-crash g c = λ empty.
    let past = g.D.Disk.past in
    during_write c.first_page.result c.first_page.ensures.good c.first_page.ensures.header (past c.args.disk.now) (past c.write.new.self)
    (g.met.D.Disk.seen_may_be_left c.args.disk.now) empty (is_ok c.write.result) c.write.ensures.goes

pub returns-in_default-sync-clause-crash : goal.returns-in_default-sync-clause-crash
returns-in_default-sync-clause-crash g c = λ empty.
    let past = g.D.Disk.past in
    during_failed c.first_page.result c.first_page.ensures.good c.first_page.ensures.header (past c.args.disk.now) (past c.write.new.self)
    (past c.sync.new.self)
    (g.met.D.Disk.seen_may_be_left c.args.disk.now) empty c.in-Ok.ensures.goes c.in_default-sync.ensures.goes

pub returns-clause-new : goal.returns-clause-new
returns-clause-new g c = λ empty.
    let past = g.D.Disk.past in
    after_sync c.first_page.result c.first_page.ensures.good c.first_page.ensures.header (past c.args.disk.now) (past c.write.new.self) (past c.sync.new.self)
    (g.met.D.Disk.seen_may_be_left c.args.disk.now) empty c.in-Ok.ensures.goes (g.met.D.Disk.seen_may_be_left c.sync.new.self) c.in-Ok-sync.ensures.goes

pub returns-clause-crash : goal.returns-clause-crash
returns-clause-crash g c = λ empty.
    let past = g.D.Disk.past in
    during_sync c.first_page.result c.first_page.ensures.good c.first_page.ensures.header (past c.args.disk.now) (past c.write.new.self) (past c.sync.new.self)
    (g.met.D.Disk.seen_may_be_left c.args.disk.now) empty c.in-Ok.ensures.goes c.in-Ok-sync.ensures.goes

pub returns-clause-made : goal.returns-clause-made
returns-clause-made g c = λ none.
    let past = g.D.Disk.past in
    alone_after c.first_page.result c.first_page.ensures.good c.first_page.ensures.header (past c.args.disk.now) (past c.write.new.self) (past c.sync.new.self)
    none c.in-Ok.ensures.goes c.in-Ok-sync.ensures.goes

pub returns-clause-empty : goal.returns-clause-empty
returns-clause-empty g c = λ none.
    let past = g.D.Disk.past in
    had_none (past c.args.disk.now) (past c.write.new.self) (past c.sync.new.self) _ _ none c.in-Ok.ensures.goes c.in-Ok-sync.ensures.goes
