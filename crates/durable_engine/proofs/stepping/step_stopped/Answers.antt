use Rattle.durable_engine.proofs.Keeping.{stopped_keeps, stopped_cause, stopped_exact}
use Rattle.durable_engine.proofs.stepping.step_stopped.Goals as goal

pub returns : goal.returns
returns c =
    record {
      steps = c.step.ensures;
      cause = stopped_cause c.args.s c.step.result c.args.sessions.now c.step.new.self c.step.ensures;
      exact = stopped_exact c.args.s c.step.result c.args.sessions.now c.step.new.self c.step.ensures;
      kept = λ root now keeps. stopped_keeps root now c.args.s c.step.result c.args.sessions.now c.step.new.self c.step.ensures keeps;
    }
