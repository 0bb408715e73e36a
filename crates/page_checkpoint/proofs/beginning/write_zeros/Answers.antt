use Rattle.std.proofs.Common.{true}
use Rattle.std.specs.Prelude.{is_ok}
use Rattle.page_checkpoint.proofs.Cleared.{during_write, after_write, during_failed, after_failed, during_sync, after_sync}
use Rattle.page_checkpoint.proofs.beginning.write_zeros.Goals as goal

pub returns-in_default-clause-stays : goal.returns-in_default-clause-stays
returns-in_default-clause-stays g c = λ capacity run last base long known.
    after_write capacity run last base c.args.zeros.now c.requires (g.D.Disk.past c.args.disk.now) long known (is_ok c.write.result)
    (g.D.Disk.past c.write.new.self) c.write.ensures.goes

pub returns-in_default-clause-crash : goal.returns-in_default-clause-crash
returns-in_default-clause-crash g c = λ capacity run last base long known.
    during_write capacity run last base c.args.zeros.now c.requires (g.D.Disk.past c.args.disk.now) long known (is_ok c.write.result)
    (g.D.Disk.past c.write.new.self) c.write.ensures.goes

pub returns-in_default-sync-clause-stays : goal.returns-in_default-sync-clause-stays
returns-in_default-sync-clause-stays g c = λ capacity run last base long known.
    after_failed capacity run last base c.args.zeros.now c.requires (g.D.Disk.past c.args.disk.now) long known true
    (g.D.Disk.past c.write.new.self) c.in-Ok.ensures.goes (g.D.Disk.past c.sync.new.self) c.in_default-sync.ensures.goes

pub returns-in_default-sync-clause-crash : goal.returns-in_default-sync-clause-crash
returns-in_default-sync-clause-crash g c = λ capacity run last base long known.
    during_failed capacity run last base c.args.zeros.now c.requires (g.D.Disk.past c.args.disk.now) long known true
    (g.D.Disk.past c.write.new.self) c.in-Ok.ensures.goes (g.D.Disk.past c.sync.new.self) c.in_default-sync.ensures.goes

pub returns-clause-stays : goal.returns-clause-stays
returns-clause-stays g c = λ capacity run last base long known.
    after_sync capacity run last base c.args.zeros.now c.requires (g.D.Disk.past c.args.disk.now) long known (g.D.Disk.past c.write.new.self)
    c.in-Ok.ensures.goes (g.D.Disk.past c.sync.new.self) c.in-Ok-sync.ensures.goes

pub returns-clause-crash : goal.returns-clause-crash
returns-clause-crash g c = λ capacity run last base long known.
    during_sync capacity run last base c.args.zeros.now c.requires (g.D.Disk.past c.args.disk.now) long known (g.D.Disk.past c.write.new.self)
    c.in-Ok.ensures.goes (g.D.Disk.past c.sync.new.self) c.in-Ok-sync.ensures.goes
