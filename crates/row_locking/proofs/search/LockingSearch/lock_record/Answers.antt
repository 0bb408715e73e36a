use Rattle.row_locking.proofs.Walking.{hindered, refused_lock, may_ask_within, waits_within, locked_record}
use Rattle.row_locking.proofs.search.LockingSearch.lock_record.Goals as goal

pub returns-then-is_err : goal.returns-then-is_err
returns-then-is_err g c start meets = rw c.no_memory-then-is_err.ensures (hindered c.args.self.now meets c.reserve.new.self c.reserve.ensures.items)

pub ask-requires : goal.ask-requires
ask-requires g c =
    rw (c.lock-lock.ensures, c.rule_within-rule.ensures, c.index.ensures, c.in-Ok-copy_of.ensures, c.as_slice-3.ensures)
    (may_ask_within c.args.self.now c.args.key c.args.value c.requires.met.1 c.requires.short c.requires.within c.is_for_one_key-one.result c.is_none.result
    c.is_for_one_key-one.ensures)

pub returns-in-Granted : goal.returns-in-Granted
returns-in-Granted g c start meets =
    rw (c.pass.ensures, c.keep-in-Granted.ensures.rest, c.behind.ensures)
    (locked_record c.args.self.now c.args.key c.args.value meets c.requires.short c.requires.within c.is_for_one_key-one.result c.is_for_one_key-one.ensures
    c.in-Ok.found c.is_none.result c.is_none.ensures c.keep-in-Granted.new.self.scan.rows c.requires.which (rw (c.as_slice.ensures, c.as_slice-2.ensures) at c.in-Ok.ensures)
    (rw (c.in-Granted.is, c.lock-lock.ensures, c.rule_within-rule.ensures, c.index.ensures, c.in-Ok-copy_of.ensures, c.as_slice-3.ensures)
    at c.ask.ensures) (rw c.reserve.ensures.items at c.keep-in-Granted.ensures.rows))

pub returns-in-Waits : goal.returns-in-Waits
returns-in-Waits g c start meets =
    waits_within c.args.self.now c.args.key c.args.value meets c.requires.short c.requires.within c.is_for_one_key-one.result c.is_for_one_key-one.ensures
    c.in-Ok.found c.is_none.result c.is_none.ensures c.reserve.new.self (λ zeroth. rw (c.as_slice.ensures, c.as_slice-2.ensures) at c.in-Ok.ensures)
    (rw (c.in-Waits.is, c.lock-lock.ensures, c.rule_within-rule.ensures, c.index.ensures, c.in-Ok-copy_of.ensures, c.as_slice-3.ensures)
    at c.ask.ensures) c.reserve.ensures.items

pub returns-in-NoMemory : goal.returns-in-NoMemory
returns-in-NoMemory g c start meets =
    rw c.no_memory-in-NoMemory.ensures
    (refused_lock c.args.self.now meets c.reserve.new.self c.reserve.ensures.items c.lock-lock.result (rw c.in-NoMemory.is at c.ask.ensures))
