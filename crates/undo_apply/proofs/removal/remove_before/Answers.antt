use Rattle.std.proofs.Common.{ap}
use Rattle.world.specs.State.{WorldState}
use Rattle.undo_apply.proofs.Removed.{removed, removed_none, removed_awaits, removal_put_off, put_off_awaits}
use Rattle.undo_apply.proofs.removal.remove_before.Goals as goal

pub remove-requires : goal.remove-requires
remove-requires g c = c.requires.next.1.index_is

pub returns-in-Done-clause-removes : goal.returns-in-Done-clause-removes
returns-in-Done-clause-removes g c = λ start next. removed _ _ _ _ _ next _ (rw c.in-Done.is at c.remove.ensures)

pub returns-in-End-clause-removes : goal.returns-in-End-clause-removes
returns-in-End-clause-removes g c = λ start next. removed_none _ _ _ _ _ next _ (rw c.in-End.is at c.remove.ensures)

pub returns-in-Done-clause-awaits : goal.returns-in-Done-clause-awaits
returns-in-Done-clause-awaits g c = λ start next.
    let calls = rw c.in-Done.is at c.remove.ensures in removed_awaits _ _ c.args.key.now _ _ next _ c.remove.result c.remove.ensures calls.index_is.here.2.awaited

pub returns-in-End-clause-awaits : goal.returns-in-End-clause-awaits
returns-in-End-clause-awaits g c = λ start next.
    let calls = rw c.in-End.is at c.remove.ensures in removed_awaits _ _ c.args.key.now _ _ next _ c.remove.result c.remove.ensures calls.index_is.here.2.awaited

pub returns-in_default : goal.returns-in_default
returns-in_default g c =
    record {
      removes = λ start next. removal_put_off _ _ _ _ _ next _ _ _ c.remove.ensures c.in_default.not-Done c.in_default.not-End c.leave.ensures
          (g.met.W.EngineWorld.never_delays c.args.world.now) (g.met.W.EngineWorld.never_delays c.remove.new.self);
      awaits = λ start next. put_off_awaits _ _ _ _ _ next _ _ _ c.remove.ensures c.in_default.not-Done c.in_default.not-End c.leave.ensures;
    }

pub leave-requires : goal.leave-requires
leave-requires g c = rw (ap (λ (s : WorldState). s.schemas) c.remove.ensures.beside.rest) c.requires.next.1.index_is
