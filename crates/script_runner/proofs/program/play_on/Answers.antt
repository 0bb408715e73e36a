use Rattle.std.proofs.Common.{◌≡◌, ◌∙◌, true, false, sym, ap, subst, length, List, arith}
use Rattle.std.specs.List.{list_any}
use Rattle.std.proofs.lemmas.Grind.{common_steps}
use Rattle.inno_model.specs.declared.event.Event.{Event}
use Rattle.inno_model.specs.Recorded.{Recorded}
use Rattle.sql_history.specs.Counts.{has_stopped}
use Rattle.law_histories.proofs.Ended.{none_without_want}
use Rattle.durable_engine.specs.Whole.{HoldsAll}
use Rattle.script_play.proofs.Answering.{all_answered}
use Rattle.run_outcome.specs.Faults.{answers_no_memory}
use Rattle.script_runner.specs.Run.{KeepsFiles}
use Rattle.script_runner.proofs.Untouched.{keeps_files}
use Rattle.script_runner.proofs.Causing.{where_no_err, closed_well}
use Rattle.script_runner.proofs.Reporting.{opens_once}
use Rattle.script_runner.proofs.program.play_on.Goals.{then-stopped, else-stopped}
use Rattle.script_runner.proofs.program.play_on.Goals as goal

pub returns-clause-recorded : goal.returns-clause-recorded
returns-clause-recorded g c =
    let past-is = ap (λ (h : Recorded). h.past) c.finish.ensures.history ∙ c.close-disk.ensures.past in
    record {
      legal = rw past-is c.close-disk.ensures.legal;
      exact = rw past-is c.close-disk.ensures.exact;
      set_up = rw past-is c.play_script-engine.ensures.set_up;
      for_pages = rw past-is (none_without_want c.play_script-engine.result.0.past c.close-disk.ensures.legal);
      stopped = λ is.
          rw c.finish.ensures.disk
          (c.close-disk.ensures.stopped (subst (λ (past : List Event). has_stopped past ≡ true) past-is is));
      stop_told = λ is. grind (arith, common_steps);
      served = λ none. grind (arith, common_steps);
      replied = λ none.
          subst (λ (h : Recorded). list_any answers_no_memory h.past ≡ false) (sym c.finish.ensures.history) (c.finish.ensures.replied none);
    }

pub returns-clause-plays : goal.returns-clause-plays
returns-clause-plays g c =
    let script = c.args.script.now in
    let past-is = ap (λ (h : Recorded). h.past) c.finish.ensures.history ∙ c.close-disk.ensures.past in
    let names-is = ap (λ (h : Recorded). h.names) c.finish.ensures.history ∙ c.close-disk.ensures.names in
    record {
      named = rw names-is c.play_script-engine.ensures.named;
      follows = rw past-is c.play_script-engine.ensures.follows;
      played = λ none. rw (names-is, past-is) (c.play_script-engine.ensures.played (c.finish.ensures.sufficed none));
      answered = λ none s.
          let sufficed = c.finish.ensures.sufficed none in
          let rests = c.play_script-engine.ensures.rests sufficed in
          let played = c.play_script-engine.ensures.played sufficed in
          rw past-is
          (all_answered s c.play_script-engine.result.0.past c.close-disk.ensures.legal (rests s) ∙ ap length (played.items s));
    }

pub returns-clause-crash : goal.returns-clause-crash
returns-clause-crash g c =
    let past-is = ap (λ (h : Recorded). h.past) c.finish.ensures.history ∙ c.close-disk.ensures.past in
    subst (λ (past : List Event). KeepsFiles g.B.Root.root (g.D.Disk.past c.finish.result.disk) past) (sym past-is)
    (rw c.finish.ensures.disk (keeps_files _ _ c.play_script-engine.result.0.past c.close-disk.ensures.crash))

pub returns-clause-durable : goal.returns-clause-durable
returns-clause-durable g c = λ closed.
    let past-is = ap (λ (h : Recorded). h.past) c.finish.ensures.history ∙ c.close-disk.ensures.past in
    subst (λ (past : List Event). HoldsAll g.B.Root.root (g.D.Disk.past c.finish.result.disk) past) (sym past-is)
    (rw c.finish.ensures.disk
    (let well = closed_well _ c.finish.result.fault c.finish.ensures.tells closed in
    elim c.if-stopped.branch [
      | then-stopped w ↦ (let e = sym w.failed-is ∙ well in cc)
      | else-stopped w ↦ where_no_err c.close-disk.result.2 (sym w.is_err-failed.ensures.value ∙ (sym w.failed-is ∙ well)) c.close-disk.ensures.whole
    ]))

pub finish-requires : goal.finish-requires
finish-requires g c = rw c.close-disk.ensures.past (opens_once c.play_script-engine.result.0.past c.close-disk.ensures.legal)
