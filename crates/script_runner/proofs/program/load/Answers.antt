use Rattle.std.proofs.Common.{sym, subst, ◌∙◌, Option}
use Rattle.script.specs.declared.script.Script.{Script}
use Rattle.script.specs.declared.script.ScriptBad.{ScriptBad}
use Rattle.run_outcome.specs.Faults.{IsInputFault}
use Rattle.script_runner.specs.Run.{PlaysScript, HasClosed, IsLoadFault, script_of}
use Rattle.script_runner.proofs.Causing.{nothing_recorded, mount_file, not_usage, not_read, input_not_usage, input_unclosed}
use Rattle.script_runner.proofs.Loading.{made_up, made_not_read, load_refused, load_unprinted, load_unplayed}
use Rattle.script_runner.proofs.program.load.Goals as goal

pub returns-in-Ok-clause-causes : goal.returns-in-Ok-clause-causes
returns-in-Ok-clause-causes g c =
    subst (λ (limit : Option ScriptBad). IsLoadFault limit (g.D.Disk.past c.args.disk) (g.D.Disk.past c.serve.result.disk) c.serve.result.fault)
    (sym c.in-Ok.ensures.within) c.serve.ensures.causes

pub returns-in-Ok-clause-usage : goal.returns-in-Ok-clause-usage
returns-in-Ok-clause-usage g c =
    not_usage (g.D.Disk.past c.args.disk) (g.D.Disk.past c.serve.result.disk) c.serve.result.fault c.serve.ensures.causes

pub returns-in-Ok-clause-script_read : goal.returns-in-Ok-clause-script_read
returns-in-Ok-clause-script_read g c =
    not_read (g.D.Disk.past c.args.disk) (g.D.Disk.past c.serve.result.disk) c.serve.result.fault c.serve.ensures.causes

pub returns-in-Err-clause-causes : goal.returns-in-Err-clause-causes
returns-in-Err-clause-causes g c =
    rw c.untouched.ensures.fault
    (load_refused _ (g.D.Disk.past c.args.disk) (g.D.Disk.past c.untouched.result.disk) c.in-Err.fault c.in-Err.ensures.causes)

pub returns-in-Err-clause-usage : goal.returns-in-Err-clause-usage
returns-in-Err-clause-usage g c = λ is. input_not_usage c.in-Err.fault c.in-Err.ensures.kind (sym c.untouched.ensures.fault ∙ is)

pub returns-in-Err-clause-script_read : goal.returns-in-Err-clause-script_read
returns-in-Err-clause-script_read g c = λ is.
    made_not_read c.in-Err.fault (made_up c.args.asked.sessions c.args.asked.transfers c.in-Err.fault c.in-Err.ensures.causes)
    (sym c.untouched.ensures.fault ∙ is)

pub returns-in-Ok-clause-keeps : goal.returns-in-Ok-clause-keeps
returns-in-Ok-clause-keeps g c =
    record {
      crash = c.serve.ensures.crash;
      refused = λ bad.
          mount_file (g.D.Disk.past c.args.disk) (g.D.Disk.past c.serve.result.disk) c.serve.result.fault bad c.serve.ensures.causes;
    }

pub returns-in-Ok-clause-plays : goal.returns-in-Ok-clause-plays
returns-in-Ok-clause-plays g c =
    subst (λ (script : Script). PlaysScript script c.serve.result.fault c.serve.result.history) c.in-Ok.ensures.script c.serve.ensures.plays

pub returns-in-Err-clause-recorded : goal.returns-in-Err-clause-recorded
returns-in-Err-clause-recorded g c =
    nothing_recorded (g.D.Disk.past c.args.disk) (g.D.Disk.past c.untouched.result.disk) c.untouched.result.fault c.untouched.result.history.past
    c.untouched.ensures.past

pub returns-in-Err-clause-prints : goal.returns-in-Err-clause-prints
returns-in-Err-clause-prints g c =
    rw c.untouched.ensures.fault
    (load_unprinted c.args.asked c.in-Err.fault (g.K.Sink.taken c.args.out.now) (g.K.Sink.faults c.args.out.now) (g.K.Sink.faults c.args.out.now)
    c.untouched.result.history c.in-Err.ensures.kind)

pub returns-in-Err-clause-keeps : goal.returns-in-Err-clause-keeps
returns-in-Err-clause-keeps g c =
    record {
      crash = rw c.untouched.ensures.past (rw c.untouched.ensures.disk c.untouched.ensures.left);
      refused = λ bad is. absurd (subst IsInputFault (sym c.untouched.ensures.fault ∙ is) c.in-Err.ensures.kind);
    }

pub returns-in-Err-clause-plays : goal.returns-in-Err-clause-plays
returns-in-Err-clause-plays g c =
    rw c.untouched.ensures.fault
    (load_unplayed (script_of c.args.asked) c.in-Err.fault c.untouched.result.history c.in-Err.ensures.kind c.untouched.ensures.names
    c.untouched.ensures.past)

pub returns-in-Err-clause-durable : goal.returns-in-Err-clause-durable
returns-in-Err-clause-durable g c = λ closed.
    absurd (input_unclosed c.in-Err.fault c.in-Err.ensures.kind (subst HasClosed c.untouched.ensures.fault closed))
