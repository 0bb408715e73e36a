use Rattle.std.proofs.Common.{◌≡◌, ℕ, ◌*◌, true, List, length, sym, ◌∙◌, subst}
use Rattle.std.specs.Prelude.{is_ok}
use Rattle.std.proofs.lemmas.Bool.{eqb-true}
use Rattle.store_api.specs.declared.disk.Area.TheVariants.{Log}
use Rattle.store_api.specs.Areas.{Within, Wrote}
use Rattle.store_api.specs.Past.{Goes}
use Rattle.file_zero.proofs.ZeroRest.{after_sync_alone, during_sync_alone, during_failed_alone, during_write, during_failed_sync, after_sync, during_sync}
use Rattle.file_zero.proofs.zero.zero_rest.Goals as goal

pub returns-in_err-sync-clause-crash : goal.returns-in_err-sync-clause-crash
returns-in_err-sync-clause-crash g c = λ run first base double pages known.
    let past = g.D.Disk.past in
    let law = g.met.D.Disk.seen_may_be_left c.args.disk.now in
    let none : length c.args.zeros.now ≡ 0 = eqb-true _ 0 (sym c.is_empty.ensures ∙ c.if-is_empty.true) in
    during_failed_alone run first c.args.block base (length c.args.zeros.now) double pages (past c.args.disk.now) law known none (past c.sync.new.self)
    c.in_err-sync.ensures.goes

pub returns-then-is_empty-clause-begun : goal.returns-then-is_empty-clause-begun
returns-then-is_empty-clause-begun g c = λ run first base double pages known.
    let past = g.D.Disk.past in
    let law = g.met.D.Disk.seen_may_be_left c.args.disk.now in
    let none : length c.args.zeros.now ≡ 0 = eqb-true _ 0 (sym c.is_empty.ensures ∙ c.if-is_empty.true) in
    after_sync_alone run first c.args.block base (length c.args.zeros.now) double pages (past c.args.disk.now) law known none (past c.sync.new.self)
    c.in_ok-sync.ensures.goes

pub returns-then-is_empty-clause-crash : goal.returns-then-is_empty-clause-crash
returns-then-is_empty-clause-crash g c = λ run first base double pages known.
    let past = g.D.Disk.past in
    let law = g.met.D.Disk.seen_may_be_left c.args.disk.now in
    let none : length c.args.zeros.now ≡ 0 = eqb-true _ 0 (sym c.is_empty.ensures ∙ c.if-is_empty.true) in
    during_sync_alone run first c.args.block base (length c.args.zeros.now) double pages (past c.args.disk.now) law known none (past c.sync.new.self)
    c.in_ok-sync.ensures.goes

pub returns-in_err-write-clause-crash : goal.returns-in_err-write-clause-crash
returns-in_err-write-clause-crash g c = λ run first base double pages known.
    let past = g.D.Disk.past in
    let law = g.met.D.Disk.seen_may_be_left c.args.disk.now in
    let write =
    subst (λ (l : List ℕ). Goes (Within Log (Wrote (512 * c.args.block) l (is_ok c.write.result))) (past c.args.disk.now) (past c.write.new.self))
    c.requires.zeros c.write.ensures.goes in
    during_write run first c.args.block base (length c.args.zeros.now) double pages (past c.args.disk.now) law known (is_ok c.write.result)
    (past c.write.new.self) write

pub returns-in_err-sync-2-clause-crash : goal.returns-in_err-sync-2-clause-crash
returns-in_err-sync-2-clause-crash g c = λ run first base double pages known.
    let past = g.D.Disk.past in
    let law = g.met.D.Disk.seen_may_be_left c.args.disk.now in
    let write =
    subst (λ (l : List ℕ). Goes (Within Log (Wrote (512 * c.args.block) l true)) (past c.args.disk.now) (past c.write.new.self)) c.requires.zeros
    c.in_ok-write.ensures.goes in
    during_failed_sync run first c.args.block base (length c.args.zeros.now) double pages (past c.args.disk.now) law known true (past c.write.new.self) write
    (past c.sync-2.new.self) c.in_err-sync-2.ensures.goes

pub returns-clause-begun : goal.returns-clause-begun
returns-clause-begun g c = λ run first base double pages known.
    let past = g.D.Disk.past in
    let law = g.met.D.Disk.seen_may_be_left c.args.disk.now in
    let write =
    subst (λ (l : List ℕ). Goes (Within Log (Wrote (512 * c.args.block) l true)) (past c.args.disk.now) (past c.write.new.self)) c.requires.zeros
    c.in_ok-write.ensures.goes in
    after_sync run first c.args.block base (length c.args.zeros.now) double pages (past c.args.disk.now) law known (past c.write.new.self)
    (past c.sync-2.new.self) write c.in_ok-sync-2.ensures.goes

pub returns-clause-crash : goal.returns-clause-crash
returns-clause-crash g c = λ run first base double pages known.
    let past = g.D.Disk.past in
    let law = g.met.D.Disk.seen_may_be_left c.args.disk.now in
    let write =
    subst (λ (l : List ℕ). Goes (Within Log (Wrote (512 * c.args.block) l true)) (past c.args.disk.now) (past c.write.new.self)) c.requires.zeros
    c.in_ok-write.ensures.goes in
    during_sync run first c.args.block base (length c.args.zeros.now) double pages (past c.args.disk.now) law known (past c.write.new.self)
    (past c.sync-2.new.self) write c.in_ok-sync-2.ensures.goes
