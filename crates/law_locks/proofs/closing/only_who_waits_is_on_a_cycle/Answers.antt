use Rattle.std.specs.Prelude.{◌≡◌, true}
use Rattle.std.proofs.lemmas.List.Elements.{All-from_recursion}
use Rattle.lock_table.specs.Queue.{is_waiting}
use Rattle.law_locks.proofs.Members.{in_all}
use Rattle.law_locks.proofs.Edges.{holder_waits}
use Rattle.law_locks.proofs.closing.only_who_waits_is_on_a_cycle.Goals as goal

pub returns : goal.returns
returns c granted waiting cycle is =
    All-from_recursion (λ edge. is_waiting edge.holder waiting ≡ true) cycle
    (in_all (λ edge. is_waiting edge.holder waiting ≡ true) cycle (λ edge there. holder_waits granted waiting cycle is edge there))
