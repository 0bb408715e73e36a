use Rattle.undo_apply.proofs.Removed.{has_next, next_put_off, next_awaits}
use Rattle.undo_apply.proofs.removal.remove_pair.Goals as goal

pub remove_before-requires : goal.remove_before-requires
remove_before-requires g c =
    record {
      next = (_, has_next _ _ _ _ _ _ _ c.next_key.ensures.answer c.requires.index (g.met.W.EngineWorld.never_delays c.next_key.new.self));
    }

pub returns-in-Done-clause-removes : goal.returns-in-Done-clause-removes
returns-in-Done-clause-removes g c =
    c.remove_before.ensures.removes _
    (has_next _ _ _ _ _ _ _ c.next_key.ensures.answer c.requires.index (g.met.W.EngineWorld.never_delays c.next_key.new.self))

pub returns-in-Done-clause-awaits : goal.returns-in-Done-clause-awaits
returns-in-Done-clause-awaits g c =
    c.remove_before.ensures.awaits _
    (has_next _ _ _ _ _ _ _ c.next_key.ensures.answer c.requires.index (g.met.W.EngineWorld.never_delays c.next_key.new.self))

pub returns-in_default : goal.returns-in_default
returns-in_default g c =
    record {
      removes = next_put_off _ _ _ _ _ _ _ c.next_key.ensures.answer c.in_default.not-Done c.in_default.not-End;
      awaits = next_awaits _ _ _ _ _ _ _ c.next_key.ensures.answer c.in_default.not-Done c.in_default.not-End;
      room = c.next_key.ensures.room;
    }
