use Rattle.std.specs.Prelude.{List}
use Rattle.std.proofs.Common.{subst}
use Rattle.inno_types.specs.declared.lock.Lock.{Lock}
use Rattle.deadlock.specs.Cycles.{IsCycle}
use Rattle.law_locks.proofs.Calls.{queued_closes}
use Rattle.law_locks.proofs.closing.queued_requests_close_their_own.Goals as goal

pub returns : goal.returns
returns c old new lock edges cycle single is stands =
    queued_closes old.granted old.waiting lock single cycle
    (subst (λ (ws : List Lock). IsCycle old.granted ws cycle) is.waiting (subst (λ (ls : List Lock). IsCycle ls new.waiting cycle) is.granted stands))
