use Rattle.std.proofs.Common.{sym, ap, subst, ◌∙◌}
use Rattle.inno_model.specs.Text.{items}
use Rattle.script_runner.proofs.Following.{nothing_follows, spelled_follows, spelled_plays}
use Rattle.script_runner.proofs.Causing.{nothing_recorded, nothing_prints, mount_caused, input_caused, mount_file}
use Rattle.script_runner.proofs.Causing.{not_usage, input_not_usage, input_unclosed, judged, judged_refused, no_limit}
use Rattle.script_runner.specs.Run.{HasClosed}
use Rattle.run_outcome.specs.Faults.{IsInputFault}
use Rattle.std.specs.Prelude.{Err}
use Rattle.script_runner.proofs.program.play_source.Goals as goal

pub returns-in-Err-clause-follows : goal.returns-in-Err-clause-follows
returns-in-Err-clause-follows g c =
    nothing_follows c.args.way (g.S.Source.left c.args.script.now) c.untouched.result.history.names
    c.untouched.result.history.past c.untouched.ensures.names (λ s. ap (items s) c.untouched.ensures.past)

pub returns-in-Ok-clause-follows : goal.returns-in-Ok-clause-follows
returns-in-Ok-clause-follows g c =
    spelled_follows c.args.way (g.S.Source.left c.args.script.now) c.in-Ok.script c.serve.result.history.names c.serve.result.history.past
    c.in-Ok.ensures.script c.serve.ensures.plays.named c.serve.ensures.plays.follows

pub returns-in-Ok-clause-played : goal.returns-in-Ok-clause-played
returns-in-Ok-clause-played g c = λ none.
    let history = c.serve.result.history in
    spelled_plays c.args.way (g.S.Source.left c.args.script.now) c.in-Ok.script history.names history.past c.in-Ok.ensures.script
    (c.serve.ensures.plays.played none)
    (c.serve.ensures.plays.answered none)

pub returns-in-Ok-clause-judged : goal.returns-in-Ok-clause-judged
returns-in-Ok-clause-judged g c =
    judged c.args.way (g.D.Disk.past c.args.disk) (g.D.Disk.past c.serve.result.disk) c.serve.result.fault (g.S.Source.left c.args.script.now) c.in-Ok.script
    c.serve.ensures.causes c.in-Ok.ensures.script

pub returns-in-Err-clause-judged : goal.returns-in-Err-clause-judged
returns-in-Err-clause-judged g c =
    rw c.untouched.ensures.fault
    (judged_refused c.args.way c.in-Err.fault (g.S.Source.left c.args.script.now) c.in-Err.ensures.causes c.in-Err.ensures.judged)

pub returns-in-Err-clause-too_large : goal.returns-in-Err-clause-too_large
returns-in-Err-clause-too_large g c = λ bytes rows most at script is.
    absurd (no_limit c.args.way c.in-Err.fault (g.S.Source.left c.args.script.now) bytes 5 rows most c.in-Err.ensures.judged at script
    (sym c.untouched.ensures.fault ∙ is))

pub returns-in-Ok-clause-usage : goal.returns-in-Ok-clause-usage
returns-in-Ok-clause-usage g c =
    not_usage (g.D.Disk.past c.args.disk) (g.D.Disk.past c.serve.result.disk) c.serve.result.fault c.serve.ensures.causes

pub returns-in-Err-clause-usage : goal.returns-in-Err-clause-usage
returns-in-Err-clause-usage g c = λ is. input_not_usage c.in-Err.fault c.in-Err.ensures.causes (sym c.untouched.ensures.fault ∙ is)

pub returns-in-Ok-clause-keeps : goal.returns-in-Ok-clause-keeps
returns-in-Ok-clause-keeps g c =
    record {
      crash = c.serve.ensures.crash;
      refused = λ bad.
          mount_file (g.D.Disk.past c.args.disk) (g.D.Disk.past c.serve.result.disk) c.serve.result.fault bad c.serve.ensures.causes;
    }

pub returns-in-Ok-clause-caused : goal.returns-in-Ok-clause-caused
returns-in-Ok-clause-caused g c =
    mount_caused c.args.disk c.serve.result.disk (g.D.Disk.past c.args.disk) (g.D.Disk.past c.serve.result.disk) (g.S.Source.faults c.args.script.now)
    (g.S.Source.faults c.read_input.new.source) (g.K.Sink.faults c.args.out.now) (g.K.Sink.faults c.serve.new.out) c.serve.result.fault
    c.serve.ensures.causes c.serve.ensures.output_write

pub returns-in-Err-clause-recorded : goal.returns-in-Err-clause-recorded
returns-in-Err-clause-recorded g c =
    nothing_recorded (g.D.Disk.past c.args.disk) (g.D.Disk.past c.untouched.result.disk) c.untouched.result.fault c.untouched.result.history.past
    c.untouched.ensures.past

pub returns-in-Err-clause-prints : goal.returns-in-Err-clause-prints
returns-in-Err-clause-prints g c =
    nothing_prints c.untouched.result.fault (g.K.Sink.taken c.args.out.now) (g.K.Sink.faults c.args.out.now) (g.K.Sink.faults c.args.out.now)
    c.untouched.result.history c.untouched.ensures.names

pub returns-in-Err-clause-keeps : goal.returns-in-Err-clause-keeps
returns-in-Err-clause-keeps g c =
    record {
      crash = rw c.untouched.ensures.past (rw c.untouched.ensures.disk c.untouched.ensures.left);
      refused = λ bad is. absurd (subst IsInputFault (sym c.untouched.ensures.fault ∙ is) c.in-Err.ensures.causes);
    }

pub returns-in-Err-clause-caused : goal.returns-in-Err-clause-caused
returns-in-Err-clause-caused g c =
    rw c.untouched.ensures.fault
    (input_caused c.args.disk c.untouched.result.disk (g.D.Disk.past c.args.disk) (g.D.Disk.past c.untouched.result.disk)
    (g.S.Source.faults c.args.script.now) (g.S.Source.faults c.read_input.new.source) (g.K.Sink.faults c.args.out.now)
    (g.K.Sink.faults c.args.out.now) c.in-Err.fault c.in-Err.ensures.causes (λ is. c.read_input.ensures.read (c.in-Err.is ∙ ap Err is))
    c.untouched.ensures.disk)

pub returns-in-Err-clause-durable : goal.returns-in-Err-clause-durable
returns-in-Err-clause-durable g c = λ closed.
    absurd (input_unclosed c.in-Err.fault c.in-Err.ensures.causes (subst HasClosed c.untouched.ensures.fault closed))
