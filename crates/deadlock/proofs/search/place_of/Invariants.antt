use Rattle.std.specs.Prelude.{◌≡◌, ◌==◌, drop}
use Rattle.std.specs.List.{position_from}
use Rattle.inno_types.specs.declared.lock.Lock.{Lock}
use Rattle.deadlock.proofs.search.place_of.Given as goal

-- the place stands among the requests not yet seen
abbrev pub invariant-loop-place : goal.invariant-loop-place
invariant-loop-place l = position_from (λ (asked : Lock). asked.txn == l.txn) 0 l.requests ≡ position_from (λ (asked : Lock). asked.txn == l.txn) l.place (drop l.place l.requests)
