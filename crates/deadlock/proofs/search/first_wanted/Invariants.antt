use Rattle.std.specs.Prelude.{◌≡◌, ◌&&◌, find, drop}
use Rattle.inno_types.specs.declared.lock.Lock.{Lock}
use Rattle.lock_rules.specs.Conflicts.{conflicts}
use Rattle.deadlock.specs.Steps.{is_wanted}
use Rattle.deadlock.proofs.search.first_wanted.Given as goal

-- the lock stands among those not yet seen
abbrev pub invariant-loop-lock : goal.invariant-loop-lock
invariant-loop-lock l = find (λ (lock : Lock). conflicts lock l.asked && is_wanted l.start l.unvisited lock.txn) l.locks ≡ find (λ (lock : Lock). conflicts lock l.asked && is_wanted l.start l.unvisited lock.txn) (drop l.lock-index l.locks)
