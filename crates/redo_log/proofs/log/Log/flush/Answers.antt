use Rattle.std.proofs.Common.{subst}
use Rattle.store_api.specs.Past.{Meanwhile}
use Rattle.store_api.proofs.Moments.{Meanwhile-join}
use Rattle.redo_log.specs.View.{LogView}
use Rattle.redo_log.specs.Logged.{StandsMeanwhile}
use Rattle.redo_log.proofs.Elsewhere.{leaves_none}
use Rattle.redo_log.proofs.log.Log.flush.Goals as goal

pub returns-then-self-clause-elsewhere : goal.returns-then-self-clause-elsewhere
returns-then-self-clause-elsewhere g c = leaves_none (g.D.Disk.past c.args.disk.now)

pub returns-clause-stands : goal.returns-clause-stands
returns-clause-stands g c = λ first groups double pages known.
    c.end_flush.ensures.stands first groups double pages (c.in_ok-written.ensures.written first groups double pages known)

pub returns-clause-crash : goal.returns-clause-crash
returns-clause-crash g c = λ first groups double pages known.
    let log = c.args.self.now in
    let disk = g.D.Disk.past in
    Meanwhile-join (StandsMeanwhile log.run first groups log.flushed double pages) (disk c.args.disk.now) (disk c.begin_flush.new.disk) (disk c.end_flush.new.disk)
    (c.begin_flush.ensures.crash first groups double pages known)
    (subst
    (λ (l : LogView). Meanwhile (StandsMeanwhile l.run first groups l.flushed double pages) (disk c.begin_flush.new.disk) (disk c.end_flush.new.disk))
    c.begin_flush.ensures.log
    (c.end_flush.ensures.crash first groups double pages (c.in_ok-written.ensures.written first groups double pages known)))
