use Rattle.std.proofs.Common.{◌≡◌, ◌≤◌, ◌+◌, ◌++◌, map, vec_len, vec_capacity}
use Rattle.std.specs.List.{AllByRecursion}
use Rattle.turn_engine.specs.Sessions.{Sitting}
use Rattle.script_play.specs.Playing.{IsNew, HasBegunIn}
use Rattle.script_play.proofs.on_threads.end_all.Given as goal

abbrev pub invariant-loop-sessions : goal.invariant-loop-sessions
invariant-loop-sessions g l = record {
  new : AllByRecursion (IsNew l.hall) l.sessions.items;
  begun : AllByRecursion (HasBegunIn l.hall l.script.items) l.receipts.items;
  numbers : map (λ (r : Sitting). r.number) l.receipts.items ++ map (λ (s : Sitting). s.number) l.sessions.items
      ≡ map (λ (s : Sitting). s.number) l.initial.sessions.items;
  room : vec_len l.sessions + vec_len l.receipts ≤ vec_capacity l.receipts;
}

abbrev pub decreases-loop-sessions : goal.decreases-loop-sessions
decreases-loop-sessions g l = vec_len l.sessions
