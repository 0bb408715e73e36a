use Rattle.std.proofs.Common.{◌≡◌, List, ◌++◌, length, take, drop, reverse}
use Rattle.store_api.specs.Past.{Past}
use Rattle.inno_model.specs.declared.event.Event.{Event}
use Rattle.commit_log.specs.View.{IsLogging}
use Rattle.commit_log.specs.DraftsView.{draft_of}
use Rattle.durable_engine.specs.Entering.{MayEnter}
use Rattle.durable_engine.proofs.entering.enter_all.Given as goal

-- the entries so far are in the log, and the others may follow
abbrev pub invariant-loop-entry : goal.invariant-loop-entry
invariant-loop-entry l = record {
  joined : length l.log.drafts ≡ length l.fn.log.drafts;
  may : MayEnter l.session (draft_of l.session l.log.drafts).ready (drop l.entry-index l.entries);
  kept : (root now : Past) (past : List Event) → IsLogging root now past l.fn.log → IsLogging root now (reverse (take l.entry-index l.entries) ++ past) l.log;
}
