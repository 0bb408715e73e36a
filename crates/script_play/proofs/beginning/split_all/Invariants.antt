use Rattle.std.proofs.Common.{◌≡◌, ℕ, ◌<◌, ◌≤◌, ◌++◌, [], length, map, take, vec_capacity}
use Rattle.std.specs.List.{AllByRecursion}
use Rattle.inno_model.specs.Recorded.{Extends}
use Rattle.inno_model.specs.Boards.{calls_of}
use Rattle.turn_engine.specs.Sessions.{Sitting, own}
use Rattle.script_play.specs.Playing.{IsNew, AreNumbered}
use Rattle.script_play.proofs.beginning.split_all.Given as goal

abbrev pub invariant-loop-name : goal.invariant-loop-name
invariant-loop-name g l = record {
  hall : l.first.hall ≡ l.hall;
  number : l.first.number ≡ 0;
  own_stays : own l.first ≡ own l.initial.first;
  lost : l.first.lost ≡ l.initial.first.lost;
  names : l.first.seen.names ≡ l.initial.first.seen.names ++ take l.name-index l.names;
  seen : Extends l.initial.first.seen.past l.first.seen.past;
  uncalled : (x : ℕ) → length l.initial.first.seen.names ≤ x → x < length l.first.seen.names → calls_of x l.initial.first.seen.past ≡ [];
  count : length l.sessions.items ≡ l.name-index;
  within : l.name-index ≤ length l.names;
  new : AllByRecursion (IsNew l.hall) l.sessions.items;
  numbered : AreNumbered (length l.initial.first.seen.names) (map (λ (s : Sitting). s.number) l.sessions.items);
  room : vec_capacity l.sessions ≡ vec_capacity l.initial.sessions;
}
