use Rattle.script_runner.proofs.program.make.Goals as goal

pub returns-in-Ok-clause-made : goal.returns-in-Ok-clause-made
returns-in-Ok-clause-made g c = λ none. rw c.without_engine.ensures.disk c.in-Ok.ensures.made

pub returns-in-Ok-clause-new : goal.returns-in-Ok-clause-new
returns-in-Ok-clause-new g c = λ none rest. rw c.without_engine.ensures.disk (c.in-Ok.ensures.ok rest)

pub returns-in-Ok-clause-causes : goal.returns-in-Ok-clause-causes
returns-in-Ok-clause-causes g c = rw c.without_engine.ensures.fault (rw c.without_engine.ensures.disk c.in-Ok.ensures.empty)
