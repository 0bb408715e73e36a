use Rattle.std.proofs.Common.{subst}
use Rattle.inno_types.specs.declared.lock.Lock.{Lock}
use Rattle.std.specs.Prelude.{List}
use Rattle.deadlock.specs.Cycles.{IsCycle}
use Rattle.law_locks.proofs.closing.refusals_close_no_cycle.Goals as goal

pub returns : goal.returns
returns c old new lock cycle is stands = subst (λ (ws : List Lock). IsCycle old.granted ws cycle) is.waiting
    (subst (λ (ls : List Lock). IsCycle ls new.waiting cycle) is.granted stands)
