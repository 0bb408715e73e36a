use Rattle.std.proofs.Common.{◌≡◌, ◌≤◌, ◌+◌, ◌++◌, map, vec_len, vec_capacity}
use Rattle.std.specs.List.{AllByRecursion}
use Rattle.turn_engine.specs.Sessions.{Sitting}
use Rattle.script_play.specs.Playing.{HasPlayedIn, IsPart, number_of}
use Rattle.script_play.proofs.parts.join_all.Given as goal

abbrev pub invariant-loop-parts : goal.invariant-loop-parts
invariant-loop-parts g l = record {
  parts : AllByRecursion (IsPart l.hall l.script) l.parts.items;
  played : AllByRecursion (HasPlayedIn l.hall l.script.items) l.receipts.items;
  numbers : map (λ (r : Sitting). r.number) l.receipts.items ++ map number_of l.parts.items ≡ map number_of l.initial.parts.items;
  room : vec_len l.parts + vec_len l.receipts ≤ vec_capacity l.receipts;
}

abbrev pub decreases-loop-parts : goal.decreases-loop-parts
decreases-loop-parts g l = vec_len l.parts
