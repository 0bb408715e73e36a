use Rattle.std.proofs.Common.{◌≡◌, sym, subst}
use Rattle.std.proofs.lemmas.Result.{err_from_is_err_and}
use Rattle.std.specs.Prelude.{Ok}
use Rattle.script.specs.declared.script.Script.{Script}
use Rattle.script.specs.declared.script.ScriptBad.{ScriptBad}
use Rattle.script.specs.Reading.{finished, IsTold}
use Rattle.script.specs.Script.{Spells, IsPlayable, IsRefused}
use Rattle.script.proofs.Meaning.{leads_on, refused_by_step, refused_at_end, spelled_at_end, if_ok, if_err}
use Rattle.script.proofs.Sound.{step_sound, finished_playable}
use Rattle.script.proofs.reading.read_script.Goals as goal

pub loop-reading-preserved : goal.loop-reading-preserved
loop-reading-preserved c =
    let before = c.loop-reading.invariant in
    let told = c.in_ok-step.ensures.told in
    record {
      placed = c.in_ok-step.ensures.placed;
      sound = step_sound c.args.allowed c.args.bytes.now c.loop-reading.reading c.step.new.self before.sound told;
      leads = leads_on c.args.allowed c.args.bytes.now c.loop-reading.reading c.step.new.self c.loop-reading-test.true told before.leads;
    }

pub returns-in_err-step-clause-refused : goal.returns-in_err-step-clause-refused
returns-in_err-step-clause-refused c =
    let bad = c.in_err-step.field-0.0 in
    let refused = refused_by_step c.args.allowed c.args.bytes.now c.loop-reading.reading bad c.loop-reading-test.true c.in_err-step.ensures.told c.loop-reading.invariant.leads in
    let passed = err_from_is_err_and c.from_residual-in_err-step.result c.from_residual-in_err-step.ensures.1 in
    rw passed.1 (subst (IsRefused c.args.allowed c.args.bytes.now) (sym passed.2) refused)

pub returns-clause-spells : goal.returns-clause-spells
returns-clause-spells c =
    let reading = c.loop-reading.reading in
    if_ok (λ (script : Script). finished c.args.bytes.now reading ≡ Ok script) (Spells c.args.allowed c.args.bytes.now) c.finish.result
    (λ script is. spelled_at_end c.args.allowed c.args.bytes.now reading script c.loop-reading-test.false is c.loop-reading.invariant.leads) c.finish.ensures.ok

pub returns-clause-playable : goal.returns-clause-playable
returns-clause-playable c =
    let reading = c.loop-reading.reading in
    if_ok (λ (script : Script). finished c.args.bytes.now reading ≡ Ok script) (IsPlayable c.args.allowed) c.finish.result
    (λ script is. finished_playable c.args.allowed c.args.bytes.now reading script c.loop-reading.invariant.sound is) c.finish.ensures.ok

pub returns-clause-refused : goal.returns-clause-refused
returns-clause-refused c =
    let reading = c.loop-reading.reading in
    if_err (λ (bad : ScriptBad). IsTold bad (finished c.args.bytes.now reading)) (IsRefused c.args.allowed c.args.bytes.now) c.finish.result
    (λ bad is. refused_at_end c.args.allowed c.args.bytes.now reading bad c.loop-reading-test.false is c.loop-reading.invariant.leads) c.finish.ensures.err
