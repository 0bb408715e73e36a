use Rattle.std.proofs.Common.{ap, sym, subst, ◌∙◌}
use Rattle.inno_db.specs.Database.{Database}
use Rattle.law_crashes.specs.Files.{Files}
use Rattle.run_outcome.specs.Shown.{shown_text}
use Rattle.run_outcome.specs.Faults.{IsPrinted}
use Rattle.script_runner.specs.Run.{HasShown}
use Rattle.script_runner.proofs.Causing.{mount_fault, refused_printed, refused_unshown}
use Rattle.script_runner.proofs.program.show.Goals as goal

pub returns-in-Ok-clause-printed : goal.returns-in-Ok-clause-printed
returns-in-Ok-clause-printed g c = λ db files.
    let told = subst (λ disk. Files (g.D.Disk.past c.args.disk) (g.D.Disk.past disk) db) c.without_engine.ensures.disk files in
    rw c.without_engine.ensures.fault
    (subst (λ (at : Database). IsPrinted c.print_shown-fault.result (g.K.Sink.taken c.args.out.now) (g.K.Sink.taken c.print_shown-fault.new.out)
    (shown_text c.args.shown at))
    (c.in-Ok.ensures.mounted.keeps.opens db told) c.print_shown-fault.ensures.printed)

pub returns-in-Err-clause-printed : goal.returns-in-Err-clause-printed
returns-in-Err-clause-printed g c = λ db files.
    rw c.without_engine-in-Err.ensures.fault (rw c.fault_of.ensures (refused_printed c.in-Err.bad (g.K.Sink.taken c.args.out.now) (shown_text c.args.shown db)))

pub returns-in-Err-clause-causes : goal.returns-in-Err-clause-causes
returns-in-Err-clause-causes g c =
    rw c.without_engine-in-Err.ensures.fault
    (rw c.without_engine-in-Err.ensures.disk
    (rw c.fault_of.ensures (mount_fault (g.D.Disk.past c.args.disk) (g.D.Disk.past c.mount.new.disk) c.in-Err.bad c.in-Err.ensures.refused)))

pub returns-in-Ok-clause-held : goal.returns-in-Ok-clause-held
returns-in-Ok-clause-held g c = λ shown. (
  c.in-Ok.files.db,
  rw c.without_engine.ensures.disk c.in-Ok.ensures.held,
  c.in-Ok.ensures.few,
  rw c.without_engine.ensures.fault c.print_shown-fault.ensures.printed,
)

pub returns-in-Err-clause-held : goal.returns-in-Err-clause-held
returns-in-Err-clause-held g c = λ shown.
    absurd (refused_unshown c.in-Err.bad (subst HasShown (c.without_engine-in-Err.ensures.fault ∙ c.fault_of.ensures) shown))
