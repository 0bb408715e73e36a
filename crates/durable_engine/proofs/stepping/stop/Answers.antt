use Rattle.std.proofs.Common.{◌∙◌, refl}
use Rattle.durable_engine.proofs.Keeping.{stop_keeps, stop_exact, stops_of}
use Rattle.durable_engine.proofs.stepping.stop.Goals as goal

pub returns-clause-stops : goal.returns-clause-stops
returns-clause-stops g c =
    let p = c.into_parts-history.ensures in
    stops_of c.args.s c.step-progress.result c.args.sessions c.new-stopped.result c.step-progress.new.self
    (c.new-stopped.ensures ∙ rw (p.names, p.past, p.phases) refl) c.step-progress.ensures

pub returns-clause-kept : goal.returns-clause-kept
returns-clause-kept g c =
    let p = c.into_parts-history.ensures in
    let stops =
    stops_of c.args.s c.step-progress.result c.args.sessions c.new-stopped.result c.step-progress.new.self
    (c.new-stopped.ensures ∙ rw (p.names, p.past, p.phases) refl) c.step-progress.ensures in
    λ root now keeps. stop_keeps root now c.args.s c.step-progress.result c.args.sessions c.step-progress.new.self stops keeps

pub returns-clause-exact : goal.returns-clause-exact
returns-clause-exact g c =
    let p = c.into_parts-history.ensures in
    let stops =
    stops_of c.args.s c.step-progress.result c.args.sessions c.new-stopped.result c.step-progress.new.self
    (c.new-stopped.ensures ∙ rw (p.names, p.past, p.phases) refl) c.step-progress.ensures in
    stop_exact c.args.s c.step-progress.result c.args.sessions c.step-progress.new.self stops p.exact
