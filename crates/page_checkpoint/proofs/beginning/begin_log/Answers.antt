use Rattle.std.proofs.Common.{ℕ, [], subst, ap, arith}
use Rattle.store_api.proofs.Moments.{Meanwhile-weaker}
use Rattle.redo_log.specs.View.{LogView}
use Rattle.redo_log.specs.Logged.{GoesOnAt}
use Rattle.page_checkpoint.specs.Beginning.{HasBegun, LeavesBegun}
use Rattle.page_checkpoint.proofs.Clearing.{leaves, begins_there, all_held}
use Rattle.page_checkpoint.proofs.beginning.begin_log.Goals as goal

pub returns-in-Ok-clear_log-clause-holds : goal.returns-in-Ok-clear_log-clause-holds
returns-in-Ok-clear_log-clause-holds g c = λ capacity last base pool first_is same known s ticks told.
    let run : ℕ = c.args.next.run in
    let first : ℕ = c.args.next.first in
    let begun = c.in-Ok-clear_log.ensures.stays capacity run last base known s ticks told in
    let cleared = c.in-Ok-clear_log.ensures.cleared s ticks told in
    let there : GoesOnAt run first 0 [] s.log =
    subst (λ (n : ℕ). GoesOnAt run n 0 [] s.log) first_is (begins_there capacity run last base s begun cleared) in
    let logged = c.in-Ok.ensures.stands first [] s.log (omega arith) there in
    let flushed = ap (λ (l : LogView). l.flushed) c.in-Ok.ensures.log in
    all_held capacity run last base first pool c.in-Ok.log s first_is (ap (λ (l : LogView). l.run) c.in-Ok.ensures.log)
    (omega (arith, flushed, first_is)) same begun logged

pub returns-in-Ok-clear_log-clause-crash : goal.returns-in-Ok-clear_log-clause-crash
returns-in-Ok-clear_log-clause-crash g c = λ capacity run last base known.
    Meanwhile-weaker (HasBegun capacity run last base) (LeavesBegun run last base) (g.D.Disk.past c.args.disk.now) (g.D.Disk.past c.clear_log.new.disk)
    (c.in-Ok-clear_log.ensures.crash capacity run last base known) (leaves capacity run last base)

pub returns-in-Err-clause-crash : goal.returns-in-Err-clause-crash
returns-in-Err-clause-crash g c = λ capacity run last base known.
    Meanwhile-weaker (HasBegun capacity run last base) (LeavesBegun run last base) (g.D.Disk.past c.args.disk.now) (g.D.Disk.past c.clear_log.new.disk)
    (c.in-Err.ensures.crash capacity run last base known) (leaves capacity run last base)
