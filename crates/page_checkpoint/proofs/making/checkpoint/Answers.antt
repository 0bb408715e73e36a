use Rattle.std.proofs.Common.{◌≡◌, ◌+◌, ◌-◌, ℕ, List, sym, ap, subst, ◌∙◌, arith}
use Rattle.store_api.specs.Past.{Now}
use Rattle.buffer_pool.specs.Frames.{PoolView, bytes_of, at_slot, changed, placed}
use Rattle.page_checkpoint.specs.Checkpoints.{begun}
use Rattle.page_checkpoint.specs.Header.{IsNextHeader}
use Rattle.page_checkpoint.specs.Beginning.{HasHeader, HasBegun}
use Rattle.page_checkpoint.proofs.Begun.{crash, done}
use Rattle.page_checkpoint.proofs.Pooled.{is_header, has_header}
use Rattle.page_checkpoint.proofs.making.checkpoint.Goals as goal

pub returns-in_err-write_header-clause-crash : goal.returns-in_err-write_header-clause-crash
returns-in_err-write_header-clause-crash g c = λ capacity first groups base ready held.
    let made = c.header_of-header.ensures in
    let lsn : c.args.log.now.next + 1 ≡ c.in_ok-next.next.first = sym c.in_ok-next.ensures.ok.first_is in
    crash capacity first groups base c.args.pool.now c.args.log.now c.in_ok-next.next c.in_ok-next.ensures.ok c.header_of-header.result made.good made.front
    (made.header c.args.log.now.next lsn) c.a_crash_leaves_one_of_both_runs.ensures c.stands_for_what_is_left.ensures (g.D.Disk.past c.args.disk.now)
    (g.D.Disk.past c.write_header.new.disk) ready held c.write_header.ensures.crash

pub returns-clause-crash : goal.returns-clause-crash
returns-clause-crash g c = λ capacity first groups base ready held.
    let made = c.header_of-header.ensures in
    let lsn : c.args.log.now.next + 1 ≡ c.in_ok-next.next.first = sym c.in_ok-next.ensures.ok.first_is in
    crash capacity first groups base c.args.pool.now c.args.log.now c.in_ok-next.next c.in_ok-next.ensures.ok c.header_of-header.result made.good made.front
    (made.header c.args.log.now.next lsn) c.a_crash_leaves_one_of_both_runs.ensures c.stands_for_what_is_left.ensures (g.D.Disk.past c.args.disk.now)
    (g.D.Disk.past c.write_header.new.disk) ready held c.write_header.ensures.crash

pub returns-clause-pool : goal.returns-clause-pool
returns-clause-pool g c =
    let header = c.header_of-header.result in
    let lsn : ℕ = c.in_ok-next.next.first - 1 in
    let last : c.args.log.now.next + 1 ≡ c.in_ok-next.next.first = sym c.in_ok-next.ensures.ok.first_is in
    let becomes = c.header_of-header.ensures.header c.args.log.now.next last in
    let pool : at_slot 0 (placed lsn) (at_slot 0 (changed header) c.args.pool.now) ≡ c.placed.new.self =
    sym (c.placed.ensures ∙ ap (at_slot 0 (placed lsn)) c.change.ensures) in
    subst (HasHeader c.args.pool.now) pool (has_header c.args.pool.now header lsn c.requires.pooled (omega (arith, becomes.lsn_is, last)))

pub returns-clause-header : goal.returns-clause-header
returns-clause-header g c =
    let header = c.header_of-header.result in
    let lsn : ℕ = c.in_ok-next.next.first - 1 in
    let last : c.args.log.now.next + 1 ≡ c.in_ok-next.next.first = sym c.in_ok-next.ensures.ok.first_is in
    let becomes = c.header_of-header.ensures.header c.args.log.now.next last in
    let pool : at_slot 0 (placed lsn) (at_slot 0 (changed header) c.args.pool.now) ≡ c.placed.new.self =
    sym (c.placed.ensures ∙ ap (at_slot 0 (placed lsn)) c.change.ensures) in
    let there : header ≡ bytes_of c.placed.new.self 0 =
    sym (is_header c.args.pool.now header lsn c.requires.pooled (omega (arith, becomes.lsn_is, last))) ∙ ap (λ (p : PoolView). bytes_of p 0) pool in
    subst (IsNextHeader c.args.log.now.next c.in_ok-next.next.run c.in_ok-next.next.first (bytes_of c.args.pool.now 0)) there becomes

pub returns-clause-done : goal.returns-clause-done
returns-clause-done g c = λ capacity first groups base ready held.
    let header = c.header_of-header.result in
    let made = c.header_of-header.ensures in
    let lsn : ℕ = c.in_ok-next.next.first - 1 in
    let last : c.args.log.now.next + 1 ≡ c.in_ok-next.next.first = sym c.in_ok-next.ensures.ok.first_is in
    let becomes = made.header c.args.log.now.next last in
    let pool : at_slot 0 (placed lsn) (at_slot 0 (changed header) c.args.pool.now) ≡ c.placed.new.self =
    sym (c.placed.ensures ∙ ap (at_slot 0 (placed lsn)) c.change.ensures) in
    let there : header ≡ bytes_of c.placed.new.self 0 =
    sym (is_header c.args.pool.now header lsn c.requires.pooled (omega (arith, becomes.lsn_is, last))) ∙ ap (λ (p : PoolView). bytes_of p 0) pool in
    subst
    (λ (h : List ℕ). Now (HasBegun capacity c.in_ok-next.next.run c.args.log.now.next (begun h base groups)) (g.D.Disk.past c.write_header.new.disk)) there
    (done capacity first groups base c.args.pool.now c.args.log.now c.in_ok-next.next c.in_ok-next.ensures.ok header made.good made.front becomes
    c.a_checkpoint_begins_a_run.ensures.run c.a_placed_checkpoint_stays.ensures (g.D.Disk.past c.args.disk.now) (g.D.Disk.past c.write_header.new.disk) ready
    held c.in_ok-write_header.ensures.stands c.in_ok-write_header.ensures.placed)
