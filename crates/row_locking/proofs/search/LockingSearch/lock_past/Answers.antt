use Rattle.row_locking.proofs.Walking.{may_ask_past, never_waits}
use Rattle.row_locking.proofs.search.LockingSearch.lock_past.Goals as goal

pub ask-requires : goal.ask-requires
ask-requires g c =
    rw (c.lock-lock.ensures, c.rule_past.ensures, c.index.ensures)
    (may_ask_past c.args.self.now c.args.key c.requires.1 c.is_for_one_key-one.result c.is_for_one_key-one.ensures)

pub returns-in-Waits : goal.returns-in-Waits
returns-in-Waits g c start past =
    absurd (never_waits c.args.self.now c.args.key past c.is_for_one_key-one.result
    (rw (c.in-Waits.is, c.lock-lock.ensures, c.rule_past.ensures, c.index.ensures) at c.ask.ensures))
