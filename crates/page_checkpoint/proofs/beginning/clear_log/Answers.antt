use Rattle.std.proofs.Common.{◌≡◌, ℕ, true, List, length, ◌∙◌, ap}
use Rattle.std.specs.Prelude.{is_ok}
use Rattle.std.proofs.lemmas.List.{length-replicate}
use Rattle.store_api.proofs.Moments.{Meanwhile-join}
use Rattle.page_checkpoint.specs.Beginning.{HasBegun}
use Rattle.page_checkpoint.proofs.Cleared.{after_look, during_look, still_long}
use Rattle.page_checkpoint.proofs.beginning.clear_log.Goals as goal

pub returns-in_default-clause-stays : goal.returns-in_default-clause-stays
returns-in_default-clause-stays g c = λ capacity run last base known.
    after_look capacity run last base (g.D.Disk.past c.args.disk.now) known (is_ok c.len.result) (g.D.Disk.past c.len.new.self) c.len.ensures.goes

pub returns-in_default-clause-crash : goal.returns-in_default-clause-crash
returns-in_default-clause-crash g c = λ capacity run last base known.
    during_look capacity run last base (g.D.Disk.past c.args.disk.now) known (is_ok c.len.result) (g.D.Disk.past c.len.new.self) c.len.ensures.goes

pub returns-in_default-zeros-clause-stays : goal.returns-in_default-zeros-clause-stays
returns-in_default-zeros-clause-stays g c = λ capacity run last base known.
    after_look capacity run last base (g.D.Disk.past c.args.disk.now) known true (g.D.Disk.past c.len.new.self) c.in-Ok.ensures.goes

pub returns-in_default-zeros-clause-crash : goal.returns-in_default-zeros-clause-crash
returns-in_default-zeros-clause-crash g c = λ capacity run last base known.
    during_look capacity run last base (g.D.Disk.past c.args.disk.now) known true (g.D.Disk.past c.len.new.self) c.in-Ok.ensures.goes

pub returns-clause-stays : goal.returns-clause-stays
returns-clause-stays g c = λ capacity run last base known.
    let past = g.D.Disk.past in
    let size : length c.deref.result.now ≡ c.in-Ok.len =
    ap (λ (l : List ℕ). length l) (c.deref.ensures.value ∙ c.in-Ok-zeros.ensures) ∙ length-replicate {A = ℕ} c.in-Ok.len 0 in
    c.write_zeros.ensures.stays capacity run last base
    (still_long c.in-Ok.len (length c.deref.result.now) (past c.args.disk.now) (past c.len.new.self) size c.in-Ok.ensures.length c.in-Ok.ensures.goes)
    (after_look capacity run last base (past c.args.disk.now) known true (past c.len.new.self) c.in-Ok.ensures.goes)

pub returns-clause-crash : goal.returns-clause-crash
returns-clause-crash g c = λ capacity run last base known.
    let past = g.D.Disk.past in
    let size : length c.deref.result.now ≡ c.in-Ok.len =
    ap (λ (l : List ℕ). length l) (c.deref.ensures.value ∙ c.in-Ok-zeros.ensures) ∙ length-replicate {A = ℕ} c.in-Ok.len 0 in
    Meanwhile-join (HasBegun capacity run last base) (past c.args.disk.now) (past c.len.new.self) (past c.write_zeros.new.disk)
    (during_look capacity run last base (past c.args.disk.now) known true (past c.len.new.self) c.in-Ok.ensures.goes)
    (c.write_zeros.ensures.crash capacity run last base
    (still_long c.in-Ok.len (length c.deref.result.now) (past c.args.disk.now) (past c.len.new.self) size c.in-Ok.ensures.length c.in-Ok.ensures.goes)
    (after_look capacity run last base (past c.args.disk.now) known true (past c.len.new.self) c.in-Ok.ensures.goes))
