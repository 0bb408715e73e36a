use Rattle.std.proofs.Common.{◌≡◌, ◌≤◌, ◌+◌, ◌++◌, map, vec_len, vec_capacity}
use Rattle.std.specs.List.{AllByRecursion}
use Rattle.turn_engine.specs.Sessions.{Sitting}
use Rattle.script_play.specs.Playing.{IsNew, IsPart, number_of}
use Rattle.script_play.proofs.parts.start_all.Given as goal

abbrev pub invariant-loop-sessions : goal.invariant-loop-sessions
invariant-loop-sessions g l = record {
  new : AllByRecursion (IsNew l.hall) l.sessions.items;
  parts : AllByRecursion (IsPart l.hall l.script) l.parts.items;
  numbers : map number_of l.parts.items ++ map (λ (s : Sitting). s.number) l.sessions.items ≡ map (λ (s : Sitting). s.number) l.initial.sessions.items;
  room : vec_len l.sessions + vec_len l.parts ≤ vec_capacity l.parts;
}

abbrev pub decreases-loop-sessions : goal.decreases-loop-sessions
decreases-loop-sessions g l = vec_len l.sessions
