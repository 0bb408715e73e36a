use Rattle.std.proofs.Common.{sym, ap, subst, refl, ◌∙◌}
use Rattle.std.specs.Prelude.{IfSome}
use Rattle.inno_model.specs.Text.{items}
use Rattle.run_outcome.specs.declared.words.Asked.{Asked}
use Rattle.run_outcome.specs.declared.words.Way.{Way}
use Rattle.run_outcome.specs.declared.reports.Report.TheVariants.{Totals}
use Rattle.run_outcome.specs.Faults.{allowed, IsPrinted}
use Rattle.run_outcome.specs.Words.{way_in}
use Rattle.run_outcome.specs.Generating.{generated_text, IsGenerateFault}
use Rattle.run_outcome.specs.Reports.{IsReported, IsReportedWhole}
use Rattle.script.specs.Script.{IsScript}
use Rattle.script_generator.specs.Generated.{passed}
use Rattle.script_play.specs.Sessions.{AreNamed, FollowsScript, HasPlayed, HasAnswered}
use Rattle.script_runner.specs.Run.{Follows, Plays, Judges, IsMadeUp, IsLoadFault, script_of}
use Rattle.script_runner.proofs.Following.{nothing_follows}
use Rattle.script_runner.proofs.Causing.{nothing_recorded, nothing_prints, mount_caused, make_caused, made_up_caused, usage_caused, mount_file, play_fault}
use Rattle.script_runner.proofs.Unknown.{unknown_init, unknown_script, unknown_dump, unknown_check, unknown_gen, unknown_load}
use Rattle.script_runner.proofs.program.run.Goals as goal

-- ---- what is recorded

pub returns-in-Unknown-clause-recorded : goal.returns-in-Unknown-clause-recorded
returns-in-Unknown-clause-recorded g c =
    nothing_recorded (g.D.Disk.past c.args.disk) (g.D.Disk.past c.untouched.result.disk) c.untouched.result.fault c.untouched.result.history.past
    c.untouched.ensures.past

pub returns-in-Init-clause-recorded : goal.returns-in-Init-clause-recorded
returns-in-Init-clause-recorded g c =
    nothing_recorded (g.D.Disk.past c.args.disk) (g.D.Disk.past c.make.result.disk) c.make.result.fault c.make.result.history.past c.make.ensures.empty

pub returns-in-Dump-clause-recorded : goal.returns-in-Dump-clause-recorded
returns-in-Dump-clause-recorded g c =
    nothing_recorded (g.D.Disk.past c.args.disk) (g.D.Disk.past c.show.result.disk) c.show.result.fault c.show.result.history.past c.show.ensures.empty

pub returns-in-Check-clause-recorded : goal.returns-in-Check-clause-recorded
returns-in-Check-clause-recorded g c =
    nothing_recorded (g.D.Disk.past c.args.disk) (g.D.Disk.past c.show-in-Check.result.disk) c.show-in-Check.result.fault
    c.show-in-Check.result.history.past c.show-in-Check.ensures.empty

pub returns-in-Gen-clause-recorded : goal.returns-in-Gen-clause-recorded
returns-in-Gen-clause-recorded g c =
    nothing_recorded (g.D.Disk.past c.args.disk) (g.D.Disk.past c.make_up.result.disk) c.make_up.result.fault c.make_up.result.history.past
    c.make_up.ensures.empty

-- ---- what is printed of it

pub returns-in-Unknown-clause-prints : goal.returns-in-Unknown-clause-prints
returns-in-Unknown-clause-prints g c = λ prints.
    nothing_prints c.untouched.result.fault (g.K.Sink.taken c.args.out.now) (g.K.Sink.faults c.args.out.now) (g.K.Sink.faults c.args.out.now)
    c.untouched.result.history
    c.untouched.ensures.names

pub returns-in-Init-clause-prints : goal.returns-in-Init-clause-prints
returns-in-Init-clause-prints g c = λ prints.
    nothing_prints c.make.result.fault (g.K.Sink.taken c.args.out.now) (g.K.Sink.faults c.args.out.now) (g.K.Sink.faults c.args.out.now) c.make.result.history
    c.make.ensures.names

-- ---- whom it follows

pub returns-in-Unknown-clause-follows : goal.returns-in-Unknown-clause-follows
returns-in-Unknown-clause-follows g c = λ load.
    nothing_follows (way_in c.args.words.now) (g.S.Source.left c.args.script.now) c.untouched.result.history.names
    c.untouched.result.history.past c.untouched.ensures.names (λ s. ap (items s) c.untouched.ensures.past)

pub returns-in-Init-clause-follows : goal.returns-in-Init-clause-follows
returns-in-Init-clause-follows g c = λ load.
    nothing_follows (way_in c.args.words.now) (g.S.Source.left c.args.script.now) c.make.result.history.names
    c.make.result.history.past c.make.ensures.names (λ s. ap (items s) c.make.ensures.empty)

pub returns-in-Dump-clause-follows : goal.returns-in-Dump-clause-follows
returns-in-Dump-clause-follows g c = λ load.
    nothing_follows (way_in c.args.words.now) (g.S.Source.left c.args.script.now) c.show.result.history.names
    c.show.result.history.past c.show.ensures.names (λ s. ap (items s) c.show.ensures.empty)

pub returns-in-Check-clause-follows : goal.returns-in-Check-clause-follows
returns-in-Check-clause-follows g c = λ load.
    nothing_follows (way_in c.args.words.now) (g.S.Source.left c.args.script.now) c.show-in-Check.result.history.names
    c.show-in-Check.result.history.past c.show-in-Check.ensures.names (λ s. ap (items s) c.show-in-Check.ensures.empty)

pub returns-in-Gen-clause-follows : goal.returns-in-Gen-clause-follows
returns-in-Gen-clause-follows g c = λ load.
    nothing_follows (way_in c.args.words.now) (g.S.Source.left c.args.script.now) c.make_up.result.history.names
    c.make_up.result.history.past c.make_up.ensures.names (λ s. ap (items s) c.make_up.ensures.empty)

pub returns-in-Script-clause-follows : goal.returns-in-Script-clause-follows
returns-in-Script-clause-follows g c = λ load.
    let history = c.play_source.result.history in
    subst (λ (way : Way). IfSome (g.S.Source.left c.args.script.now) (λ bytes. Follows way bytes history.names history.past))
    c.in-Script.ensures.tells.2 c.play_source.ensures.follows

-- ---- the files that it keeps

pub returns-in-Unknown-clause-keeps : goal.returns-in-Unknown-clause-keeps
returns-in-Unknown-clause-keeps g c = λ keeps.
    record {
      crash = rw c.untouched.ensures.past (rw c.untouched.ensures.disk c.untouched.ensures.left);
      refused = λ bad is. (let both = sym c.untouched.ensures.fault ∙ is in cc);
    }

pub returns-in-Dump-clause-keeps : goal.returns-in-Dump-clause-keeps
returns-in-Dump-clause-keeps g c = λ keeps.
    record {
      crash = rw c.show.ensures.empty c.show.ensures.crash;
      refused = λ bad. mount_file (g.D.Disk.past c.args.disk) (g.D.Disk.past c.show.result.disk) c.show.result.fault bad
          (play_fault (g.D.Disk.past c.args.disk) (g.D.Disk.past c.show.result.disk) c.show.result.fault c.show.ensures.causes);
    }

pub returns-in-Check-clause-keeps : goal.returns-in-Check-clause-keeps
returns-in-Check-clause-keeps g c = λ keeps.
    record {
      crash = rw c.show-in-Check.ensures.empty c.show-in-Check.ensures.crash;
      refused = λ bad. mount_file (g.D.Disk.past c.args.disk) (g.D.Disk.past c.show-in-Check.result.disk) c.show-in-Check.result.fault bad
          (play_fault (g.D.Disk.past c.args.disk) (g.D.Disk.past c.show-in-Check.result.disk) c.show-in-Check.result.fault c.show-in-Check.ensures.causes);
    }

pub returns-in-Gen-clause-keeps : goal.returns-in-Gen-clause-keeps
returns-in-Gen-clause-keeps g c = λ keeps.
    record {
      crash = rw c.make_up.ensures.empty c.make_up.ensures.left;
      refused = λ bad is. absurd (subst IsMadeUp is c.make_up.ensures.kind);
    }

pub returns-in-Load-clause-keeps : goal.returns-in-Load-clause-keeps
returns-in-Load-clause-keeps g c = λ keeps. c.load.ensures.keeps

pub returns-in-Script-clause-keeps : goal.returns-in-Script-clause-keeps
returns-in-Script-clause-keeps g c = λ keeps. c.play_source.ensures.keeps

-- ---- where its fault comes from

pub returns-in-Unknown-clause-caused : goal.returns-in-Unknown-clause-caused
returns-in-Unknown-clause-caused g c =
    usage_caused c.args.disk c.untouched.result.disk (g.D.Disk.past c.args.disk) (g.D.Disk.past c.untouched.result.disk)
    (g.S.Source.faults c.args.script.now) (g.S.Source.faults c.args.script.now)
    (g.K.Sink.faults c.args.out.now) (g.K.Sink.faults c.args.out.now) c.untouched.result.fault
    c.untouched.ensures.fault c.untouched.ensures.disk

pub returns-in-Init-clause-caused : goal.returns-in-Init-clause-caused
returns-in-Init-clause-caused g c =
    make_caused c.args.disk c.make.result.disk (g.D.Disk.past c.args.disk) (g.D.Disk.past c.make.result.disk) (g.S.Source.faults c.args.script.now)
    (g.S.Source.faults c.args.script.now)
    (g.K.Sink.faults c.args.out.now) (g.K.Sink.faults c.args.out.now) c.make.result.fault c.make.ensures.causes

pub returns-in-Dump-clause-caused : goal.returns-in-Dump-clause-caused
returns-in-Dump-clause-caused g c =
    mount_caused c.args.disk c.show.result.disk (g.D.Disk.past c.args.disk) (g.D.Disk.past c.show.result.disk) (g.S.Source.faults c.args.script.now)
    (g.S.Source.faults c.args.script.now)
    (g.K.Sink.faults c.args.out.now) (g.K.Sink.faults c.show.new.out) c.show.result.fault
    (play_fault (g.D.Disk.past c.args.disk) (g.D.Disk.past c.show.result.disk) c.show.result.fault c.show.ensures.causes) c.show.ensures.output_write

pub returns-in-Check-clause-caused : goal.returns-in-Check-clause-caused
returns-in-Check-clause-caused g c =
    mount_caused c.args.disk c.show-in-Check.result.disk (g.D.Disk.past c.args.disk) (g.D.Disk.past c.show-in-Check.result.disk)
    (g.S.Source.faults c.args.script.now) (g.S.Source.faults c.args.script.now)
    (g.K.Sink.faults c.args.out.now) (g.K.Sink.faults c.show-in-Check.new.out) c.show-in-Check.result.fault
    (play_fault (g.D.Disk.past c.args.disk) (g.D.Disk.past c.show-in-Check.result.disk) c.show-in-Check.result.fault c.show-in-Check.ensures.causes)
    c.show-in-Check.ensures.output_write

pub returns-in-Gen-clause-caused : goal.returns-in-Gen-clause-caused
returns-in-Gen-clause-caused g c =
    made_up_caused c.args.disk c.make_up.result.disk (g.D.Disk.past c.args.disk) (g.D.Disk.past c.make_up.result.disk)
    (g.S.Source.faults c.args.script.now) (g.S.Source.faults c.args.script.now)
    (g.K.Sink.faults c.args.out.now) (g.K.Sink.faults c.make_up.new.out) c.make_up.result.fault
    c.make_up.ensures.kind c.make_up.ensures.output_write c.make_up.ensures.disk

pub returns-in-Load-clause-caused : goal.returns-in-Load-clause-caused
returns-in-Load-clause-caused g c =
    record {
      script_read = λ is. absurd (c.load.ensures.script_read is);
      output_write = c.load.ensures.output_write;
      disk_fault = c.load.ensures.disk_fault;
      before_disk = c.load.ensures.before_disk;
    }

pub returns-in-Script-clause-caused : goal.returns-in-Script-clause-caused
returns-in-Script-clause-caused g c = c.play_source.ensures.caused

-- ---- what each command does

pub returns-in-Unknown-clause-unknown : goal.returns-in-Unknown-clause-unknown
returns-in-Unknown-clause-unknown g c =
    λ unknown. record { unmet = c.untouched.ensures.disk; unread = refl; unprinted = refl; unplayed = c.untouched.ensures.past }

pub returns-in-Unknown-clause-init : goal.returns-in-Unknown-clause-init
returns-in-Unknown-clause-init g c = λ is.
    rw c.untouched.ensures.disk
    (unknown_init c.args.words.now (g.D.Disk.past c.args.disk) c.untouched.result.fault c.untouched.result.history.past
    c.in-Unknown.ensures.tells c.untouched.ensures.fault c.untouched.ensures.past)

pub returns-in-Unknown-clause-script : goal.returns-in-Unknown-clause-script
returns-in-Unknown-clause-script g c = λ is.
    rw c.untouched.ensures.disk
    (unknown_script c.args.words.now (g.S.Source.left c.args.script.now) (g.S.Source.faults c.args.script.now) (g.K.Sink.faults c.args.out.now)
    (g.D.Disk.past c.args.disk) c.untouched.result.fault c.untouched.result.status c.untouched.result.history
    c.in-Unknown.ensures.tells c.untouched.ensures.fault)

pub returns-in-Unknown-clause-dump : goal.returns-in-Unknown-clause-dump
returns-in-Unknown-clause-dump g c = λ is.
    rw c.untouched.ensures.disk
    (unknown_dump c.args.words.now (g.K.Sink.taken c.args.out.now) (g.D.Disk.past c.args.disk) c.untouched.result.fault c.untouched.result.history.past
    c.in-Unknown.ensures.tells c.untouched.ensures.fault c.untouched.ensures.past)

pub returns-in-Unknown-clause-check : goal.returns-in-Unknown-clause-check
returns-in-Unknown-clause-check g c = λ is.
    rw c.untouched.ensures.disk
    (unknown_check c.args.words.now (g.K.Sink.taken c.args.out.now) (g.D.Disk.past c.args.disk) c.untouched.result.fault c.untouched.result.history.past
    c.in-Unknown.ensures.tells c.untouched.ensures.fault c.untouched.ensures.past)

pub returns-in-Unknown-clause-generate : goal.returns-in-Unknown-clause-generate
returns-in-Unknown-clause-generate g c = λ is.
    unknown_gen c.args.words.now c.args.disk c.untouched.result.disk c.args.script.now (g.K.Sink.taken c.args.out.now) c.untouched.result.fault
    c.untouched.result.history.past c.in-Unknown.ensures.tells c.untouched.ensures.fault c.untouched.ensures.past c.untouched.ensures.disk

pub returns-in-Unknown-clause-load : goal.returns-in-Unknown-clause-load
returns-in-Unknown-clause-load g c = λ is.
    rw c.untouched.ensures.disk
    (unknown_load c.args.words.now c.args.script.now (g.K.Sink.taken c.args.out.now) (g.K.Sink.faults c.args.out.now)
    (g.D.Disk.past c.args.disk) c.untouched.result.fault c.untouched.result.history
    c.in-Unknown.ensures.tells c.untouched.ensures.fault c.untouched.ensures.names c.untouched.ensures.past)

pub returns-in-Init-clause-init : goal.returns-in-Init-clause-init
returns-in-Init-clause-init g c = λ is.
    let made = c.make.ensures in
    record { init = made.empty; init_fault = λ known. made.causes; init_crash = made.crash; made = made.made; new = made.new }

pub returns-in-Dump-clause-dump : goal.returns-in-Dump-clause-dump
returns-in-Dump-clause-dump g c = λ is.
    let shown = c.show.ensures in
    record { dump = shown.empty; dumped = shown.printed; held = shown.held; shown_fault = λ known. shown.causes; quiet = shown.quiet }

pub returns-in-Check-clause-check : goal.returns-in-Check-clause-check
returns-in-Check-clause-check g c = λ is.
    let shown = c.show-in-Check.ensures in
    record { check = shown.empty; checked = shown.printed; held = shown.held; shown_fault = λ known. shown.causes; quiet = shown.quiet }

pub returns-in-Gen-clause-generate : goal.returns-in-Gen-clause-generate
returns-in-Gen-clause-generate g c = λ is.
    let asked = c.in-Gen.ensures.tells.2 in
    let made = c.make_up in
    record {
      generated = subst (λ (a : Asked). IsPrinted made.result.fault (g.K.Sink.taken c.args.out.now) (g.K.Sink.taken made.new.out) (generated_text a)) asked
          made.ensures.printed;
      limited = λ known. subst (λ (a : Asked). IsGenerateFault (passed a.sessions a.transfers) made.result.fault) asked made.ensures.limited;
      unplayed = made.ensures.empty;
      gen_disk = made.ensures.disk;
      gen_source = refl;
    }

pub returns-in-Load-clause-load : goal.returns-in-Load-clause-load
returns-in-Load-clause-load g c = λ is.
    let asked = c.in-Load.ensures.tells.2 in
    let history = c.load.result.history in
    let fault = c.load.result.fault in
    let played = c.load.ensures.plays in
    record {
      loaded = subst (λ (a : Asked). IsReported (Totals a) fault (g.K.Sink.taken c.args.out.now) (g.K.Sink.taken c.load.new.out) history) asked
          c.load.ensures.prints.printed;
      load_whole = λ failed fails.
          subst (λ (a : Asked). IsReportedWhole (Totals a) (g.K.Sink.taken c.args.out.now) (g.K.Sink.taken c.load.new.out) history) asked
          (c.load.ensures.prints.whole failed fails);
      load_named = subst (λ (a : Asked). AreNamed (script_of a) history.names) asked played.named;
      load_follows = subst (λ (a : Asked). FollowsScript (script_of a).items history.past) asked played.follows;
      load_played = λ none.
          subst (λ (a : Asked). HasPlayed (script_of a) history.names history.past × HasAnswered (script_of a) history.past) asked
          (played.played none, played.answered none);
      durable = c.load.ensures.durable;
      load_fault = λ known.
          subst (λ (a : Asked). IsLoadFault (passed a.sessions a.transfers) (g.D.Disk.past c.args.disk) (g.D.Disk.past c.load.result.disk) fault) asked
          c.load.ensures.causes;
      load_source = refl;
    }

pub returns-in-Script-clause-script : goal.returns-in-Script-clause-script
returns-in-Script-clause-script g c = λ is.
    let way = c.in-Script.ensures.tells.2 in
    let history = c.play_source.result.history in
    let left = g.S.Source.left c.args.script.now in
    let read = c.play_source.ensures in
    record {
      durable = read.durable;
      played = λ none. subst (λ (w : Way). IfSome left (λ bytes. Plays w bytes history.names history.past)) way (read.played none);
      judged = subst (λ (w : Way). IfSome left (Judges w c.play_source.result.fault)) way read.judged;
      too_large = λ bytes rows most at script. read.too_large bytes rows most at (subst (λ (w : Way). IsScript (allowed w) bytes) (sym way) script);
      complete = λ bytes known at script. read.complete bytes at (subst (λ (w : Way). IsScript (allowed w) bytes) (sym way) script);
    }
