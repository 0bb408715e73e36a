use Rattle.row_changes.proofs.Awaited.{awaits_then, awaits_at, as_before}
use Rattle.row_changes.proofs.Changing.{look_found, look_none, look_hindered, put_lacks_memory}
use Rattle.row_changes.proofs.entry_put.EntryPut.look.Goals as goal

pub insert-requires : goal.insert-requires
insert-requires g c = record {
  looked = (_, look_none _ _ _ _ c.fetch.new.into.items c.requires.putting c.requires.phase (g.met.W.EngineWorld.never_delays c.fetch.new.self) (rw c.in-End.is at c.fetch.ensures.answer));
}

pub returns-in-End-clause-puts : goal.returns-in-End-clause-puts
returns-in-End-clause-puts g c =
    c.insert.ensures.puts _
    (look_none _ _ _ _ c.fetch.new.into.items c.requires.putting c.requires.phase (g.met.W.EngineWorld.never_delays c.fetch.new.self) (rw c.in-End.is at c.fetch.ensures.answer))

pub returns-in-End-clause-awaits : goal.returns-in-End-clause-awaits
returns-in-End-clause-awaits g c =
    let answer = (rw c.in-End.is at c.fetch.ensures.answer).index_is in
    awaits_then (awaits_at _ _ _ _ answer (as_before _ _ answer.here.1).1) c.insert.ensures.awaits

pub returns-in-Done-clause-puts : goal.returns-in-Done-clause-puts
returns-in-Done-clause-puts g c =
    rw (c.then.ensures.went, c.then.ensures.then)
    (look_found c.args.actor _ _ _ _ c.requires.putting c.requires.phase (rw c.in-Done.is at c.fetch.ensures.answer))

pub returns-clause-puts : goal.returns-clause-puts
returns-clause-puts g c =
    look_hindered _ _ _ _ _ c.requires.putting c.requires.phase _ c.fetch.ensures.answer c.in_default-fetch.not-Done c.in_default-fetch.not-End

pub returns-in_default-clause-puts : goal.returns-in_default-clause-puts
returns-in_default-clause-puts g c = put_lacks_memory _ _ _ c.requires.putting
