use Rattle.std.proofs.Common.{sym, subst, ◌∙◌}
use Rattle.store_api.specs.Past.{Past}
use Rattle.script_runner.specs.Run.{IsRecorded, HasClosed, IsPlayFault}
use Rattle.run_outcome.specs.Faults.{fault_of}
use Rattle.script_runner.proofs.Causing.{nothing_recorded, mount_fault, play_fault, played_fault, refused_unclosed}
use Rattle.script_runner.proofs.Reporting.{refused_prints, refused_plays}
use Rattle.script_runner.proofs.program.serve.Goals as goal

pub returns-in-Ok-clause-recorded : goal.returns-in-Ok-clause-recorded
returns-in-Ok-clause-recorded g c =
    subst (λ (root : Past). IsRecorded root (g.D.Disk.past c.play_on.result.disk) c.play_on.result.fault c.play_on.result.history.past)
    (sym c.requires.root) c.play_on.ensures.recorded

pub returns-in-Err-clause-recorded : goal.returns-in-Err-clause-recorded
returns-in-Err-clause-recorded g c =
    nothing_recorded (g.D.Disk.past c.args.disk) (g.D.Disk.past c.without_engine.result.disk) c.without_engine.result.fault
    c.without_engine.result.history.past c.without_engine.ensures.past

pub returns-in-Err-clause-prints : goal.returns-in-Err-clause-prints
returns-in-Err-clause-prints g c =
    rw c.without_engine.ensures.fault
    (rw c.fault_of.ensures
    (refused_prints c.args.report c.in-Err.bad (g.K.Sink.taken c.args.out.now) (g.K.Sink.faults c.args.out.now) (g.K.Sink.faults c.args.out.now)
    c.without_engine.result.history c.without_engine.ensures.names c.without_engine.ensures.past))

pub returns-in-Err-clause-plays : goal.returns-in-Err-clause-plays
returns-in-Err-clause-plays g c =
    rw c.without_engine.ensures.fault
    (rw c.fault_of.ensures
    (refused_plays c.args.script.now c.in-Err.bad c.without_engine.result.history c.without_engine.ensures.names c.without_engine.ensures.past))

pub returns-in-Err-clause-causes : goal.returns-in-Err-clause-causes
returns-in-Err-clause-causes g c =
    rw c.without_engine.ensures.fault
    (rw c.without_engine.ensures.disk
    (rw c.fault_of.ensures
    (play_fault (g.D.Disk.past c.args.disk) (g.D.Disk.past c.in-Err.disk) (fault_of c.in-Err.bad)
    (mount_fault (g.D.Disk.past c.args.disk) (g.D.Disk.past c.in-Err.disk) c.in-Err.bad c.in-Err.ensures.refused))))

pub returns-in-Ok-clause-causes : goal.returns-in-Ok-clause-causes
returns-in-Ok-clause-causes g c =
    subst (λ (root : Past). IsPlayFault root (g.D.Disk.past c.play_on.result.disk) c.play_on.result.fault) (sym c.requires.root)
    (played_fault g.B.Root.root (g.D.Disk.past c.play_on.result.disk) c.play_on.result.fault c.play_on.ensures.causes c.play_on.ensures.disk_fault)

pub returns-in-Err-clause-durable : goal.returns-in-Err-clause-durable
returns-in-Err-clause-durable g c = λ closed.
    absurd (refused_unclosed c.in-Err.bad (subst HasClosed (c.without_engine.ensures.fault ∙ c.fault_of.ensures) closed))
