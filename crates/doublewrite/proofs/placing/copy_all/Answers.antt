use Rattle.std.proofs.Common.{List, ℕ, true, false, subst}
use Rattle.std.specs.Prelude.{is_ok}
use Rattle.store_api.specs.declared.disk.Area.TheVariants.{Double}
use Rattle.store_api.specs.Areas.{Within, Wrote}
use Rattle.store_api.specs.Past.{Goes}
use Rattle.doublewrite.proofs.Calls.{after_copies, during_copy, during_copies, during_failed_copy}
use Rattle.doublewrite.proofs.Places.{copy_leads, copied_leads}
use Rattle.doublewrite.proofs.placing.copy_all.Goals as goal

pub returns-in_err-write-clause-crash : goal.returns-in_err-write-clause-crash
returns-in_err-write-clause-crash g c = λ before known.
    let disk = g.D.Disk.past in
    let write = subst (λ (l : List ℕ). Goes (Within Double (Wrote 0 l (is_ok c.write.result))) (disk c.args.disk.now) (disk c.write.new.self)) c.as_bytes.ensures.value c.write.ensures.goes in
    during_copy before c.args.batch.now c.as_bytes.ensures.is_batch _ _ known _ write

pub returns-in_err-sync-clause-crash : goal.returns-in_err-sync-clause-crash
returns-in_err-sync-clause-crash g c = λ before known.
    let disk = g.D.Disk.past in
    let write = subst (λ (l : List ℕ). Goes (Within Double (Wrote 0 l (is_ok c.write.result))) (disk c.args.disk.now) (disk c.write.new.self)) c.as_bytes.ensures.value c.write.ensures.goes in
    during_failed_copy before c.args.batch.now c.as_bytes.ensures.is_batch _ _ known _ write _ c.in_err-sync.ensures.goes

pub returns-clause-stands : goal.returns-clause-stands
returns-clause-stands g c = λ before known.
    let disk = g.D.Disk.past in
    let write = subst (λ (l : List ℕ). Goes (Within Double (Wrote 0 l true)) (disk c.args.disk.now) (disk c.write.new.self)) c.as_bytes.ensures.value c.in_ok-write.ensures.goes in
    after_copies before c.args.batch.now c.as_bytes.ensures.is_batch _ _ _ known write c.in_ok-sync.ensures.goes

pub returns-clause-crash : goal.returns-clause-crash
returns-clause-crash g c = λ before known.
    let disk = g.D.Disk.past in
    let write = subst (λ (l : List ℕ). Goes (Within Double (Wrote 0 l true)) (disk c.args.disk.now) (disk c.write.new.self)) c.as_bytes.ensures.value c.in_ok-write.ensures.goes in
    during_copies before c.args.batch.now c.as_bytes.ensures.is_batch _ _ _ known write c.in_ok-sync.ensures.goes

pub returns-in_err-write-clause-reads : goal.returns-in_err-write-clause-reads
returns-in_err-write-clause-reads g c = copy_leads c.as_bytes.result.now (is_ok c.write.result) _ _ c.write.ensures.goes

pub returns-in_err-sync-clause-reads : goal.returns-in_err-sync-clause-reads
returns-in_err-sync-clause-reads g c = copied_leads c.as_bytes.result.now false _ _ _ c.in_ok-write.ensures.goes c.in_err-sync.ensures.goes

pub returns-clause-reads : goal.returns-clause-reads
returns-clause-reads g c = copied_leads c.as_bytes.result.now true _ _ _ c.in_ok-write.ensures.goes c.in_ok-sync.ensures.goes
