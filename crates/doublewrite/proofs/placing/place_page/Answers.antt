use Rattle.std.proofs.Common.{◌≡◌, ℕ, ◌*◌, true, ◌∙◌, ap, arith}
use Rattle.std.specs.Prelude.{is_ok}
use Rattle.stored_pages.specs.Words.{number_of}
use Rattle.doublewrite.specs.Batches.{page_at, number_at}
use Rattle.doublewrite.proofs.Calls.{meant, after_place, after_placed, during_place, after_sync, during_sync, placed_next, placed_last}
use Rattle.doublewrite.proofs.Places.{place_leads, placed_leads}
use Rattle.doublewrite.proofs.placing.place_page.Goals as goal

pub overflow_add-slot : goal.overflow_add-slot
overflow_add-slot g c = omega (arith, c.page-page.ensures.is_batch.few, c.requires)

pub returns-in_err-write-clause-stands : goal.returns-in_err-write-clause-stands
returns-in_err-write-clause-stands g c = λ before known.
    let disk = g.D.Disk.past in
    let batch = c.args.batch.now in
    let law0 = g.met.D.Disk.seen_may_be_left c.args.disk.now in
    let law1 = g.met.D.Disk.seen_may_be_left c.write.new.self in
    let place : 4096 * c.from.result ≡ 4096 * number_at batch c.args.slot = ap (λ (n : ℕ). 4096 * n) (c.from.ensures ∙ c.number_in.ensures ∙ ap number_of c.page-page.ensures.value) in
    let write = meant _ _ c.page-page.result.now (page_at batch c.args.slot) (is_ok c.write.result) (disk c.args.disk.now) (disk c.write.new.self) place c.page-page.ensures.value c.write.ensures.goes in
    after_place batch c.page-page.ensures.is_batch c.args.slot c.requires before _ _ law0 known _ write

pub returns-in_err-write-clause-crash : goal.returns-in_err-write-clause-crash
returns-in_err-write-clause-crash g c = λ before known.
    let disk = g.D.Disk.past in
    let batch = c.args.batch.now in
    let law0 = g.met.D.Disk.seen_may_be_left c.args.disk.now in
    let law1 = g.met.D.Disk.seen_may_be_left c.write.new.self in
    let place : 4096 * c.from.result ≡ 4096 * number_at batch c.args.slot = ap (λ (n : ℕ). 4096 * n) (c.from.ensures ∙ c.number_in.ensures ∙ ap number_of c.page-page.ensures.value) in
    let write = meant _ _ c.page-page.result.now (page_at batch c.args.slot) (is_ok c.write.result) (disk c.args.disk.now) (disk c.write.new.self) place c.page-page.ensures.value c.write.ensures.goes in
    during_place batch c.page-page.ensures.is_batch c.args.slot c.requires before _ _ law0 known _ write

pub returns-then-slot-len-clause-stands : goal.returns-then-slot-len-clause-stands
returns-then-slot-len-clause-stands g c = λ before known.
    let disk = g.D.Disk.past in
    let batch = c.args.batch.now in
    let law0 = g.met.D.Disk.seen_may_be_left c.args.disk.now in
    let law1 = g.met.D.Disk.seen_may_be_left c.write.new.self in
    let place : 4096 * c.from.result ≡ 4096 * number_at batch c.args.slot = ap (λ (n : ℕ). 4096 * n) (c.from.ensures ∙ c.number_in.ensures ∙ ap number_of c.page-page.ensures.value) in
    let write = meant _ _ c.page-page.result.now (page_at batch c.args.slot) true (disk c.args.disk.now) (disk c.write.new.self) place c.page-page.ensures.value c.in_ok-write.ensures.goes in
    after_place batch c.page-page.ensures.is_batch c.args.slot c.requires before _ _ law0 known true write

pub returns-then-slot-len-clause-honest : goal.returns-then-slot-len-clause-honest
returns-then-slot-len-clause-honest g c = λ before known more.
    let disk = g.D.Disk.past in
    let batch = c.args.batch.now in
    let law0 = g.met.D.Disk.seen_may_be_left c.args.disk.now in
    let law1 = g.met.D.Disk.seen_may_be_left c.write.new.self in
    let place : 4096 * c.from.result ≡ 4096 * number_at batch c.args.slot = ap (λ (n : ℕ). 4096 * n) (c.from.ensures ∙ c.number_in.ensures ∙ ap number_of c.page-page.ensures.value) in
    let write = meant _ _ c.page-page.result.now (page_at batch c.args.slot) true (disk c.args.disk.now) (disk c.write.new.self) place c.page-page.ensures.value c.in_ok-write.ensures.goes in
    after_placed batch c.page-page.ensures.is_batch c.args.slot c.requires before _ _ law0 known write

pub returns-then-slot-len-clause-placed : goal.returns-then-slot-len-clause-placed
returns-then-slot-len-clause-placed g c = λ known.
    let disk = g.D.Disk.past in
    let batch = c.args.batch.now in
    let law0 = g.met.D.Disk.seen_may_be_left c.args.disk.now in
    let law1 = g.met.D.Disk.seen_may_be_left c.write.new.self in
    let place : 4096 * c.from.result ≡ 4096 * number_at batch c.args.slot = ap (λ (n : ℕ). 4096 * n) (c.from.ensures ∙ c.number_in.ensures ∙ ap number_of c.page-page.ensures.value) in
    let write = meant _ _ c.page-page.result.now (page_at batch c.args.slot) true (disk c.args.disk.now) (disk c.write.new.self) place c.page-page.ensures.value c.in_ok-write.ensures.goes in
    placed_next batch c.page-page.ensures.is_batch c.args.slot c.requires _ _ law0 known write (omega (arith, c.len.ensures.value, c.if-slot-len.true))

pub returns-then-slot-len-clause-crash : goal.returns-then-slot-len-clause-crash
returns-then-slot-len-clause-crash g c = λ before known.
    let disk = g.D.Disk.past in
    let batch = c.args.batch.now in
    let law0 = g.met.D.Disk.seen_may_be_left c.args.disk.now in
    let law1 = g.met.D.Disk.seen_may_be_left c.write.new.self in
    let place : 4096 * c.from.result ≡ 4096 * number_at batch c.args.slot = ap (λ (n : ℕ). 4096 * n) (c.from.ensures ∙ c.number_in.ensures ∙ ap number_of c.page-page.ensures.value) in
    let write = meant _ _ c.page-page.result.now (page_at batch c.args.slot) true (disk c.args.disk.now) (disk c.write.new.self) place c.page-page.ensures.value c.in_ok-write.ensures.goes in
    during_place batch c.page-page.ensures.is_batch c.args.slot c.requires before _ _ law0 known true write

pub returns-in_err-sync-clause-stands : goal.returns-in_err-sync-clause-stands
returns-in_err-sync-clause-stands g c = λ before known.
    let disk = g.D.Disk.past in
    let batch = c.args.batch.now in
    let law0 = g.met.D.Disk.seen_may_be_left c.args.disk.now in
    let law1 = g.met.D.Disk.seen_may_be_left c.write.new.self in
    let place : 4096 * c.from.result ≡ 4096 * number_at batch c.args.slot = ap (λ (n : ℕ). 4096 * n) (c.from.ensures ∙ c.number_in.ensures ∙ ap number_of c.page-page.ensures.value) in
    let write = meant _ _ c.page-page.result.now (page_at batch c.args.slot) true (disk c.args.disk.now) (disk c.write.new.self) place c.page-page.ensures.value c.in_ok-write.ensures.goes in
    after_sync batch c.page-page.ensures.is_batch c.args.slot c.requires before _ _ _ law0 law1 known write _ c.in_err-sync.ensures.goes

pub returns-in_err-sync-clause-crash : goal.returns-in_err-sync-clause-crash
returns-in_err-sync-clause-crash g c = λ before known.
    let disk = g.D.Disk.past in
    let batch = c.args.batch.now in
    let law0 = g.met.D.Disk.seen_may_be_left c.args.disk.now in
    let law1 = g.met.D.Disk.seen_may_be_left c.write.new.self in
    let place : 4096 * c.from.result ≡ 4096 * number_at batch c.args.slot = ap (λ (n : ℕ). 4096 * n) (c.from.ensures ∙ c.number_in.ensures ∙ ap number_of c.page-page.ensures.value) in
    let write = meant _ _ c.page-page.result.now (page_at batch c.args.slot) true (disk c.args.disk.now) (disk c.write.new.self) place c.page-page.ensures.value c.in_ok-write.ensures.goes in
    during_sync batch c.page-page.ensures.is_batch c.args.slot c.requires before _ _ _ law0 law1 known write _ c.in_err-sync.ensures.goes

pub returns-clause-stands : goal.returns-clause-stands
returns-clause-stands g c = λ before known.
    let disk = g.D.Disk.past in
    let batch = c.args.batch.now in
    let law0 = g.met.D.Disk.seen_may_be_left c.args.disk.now in
    let law1 = g.met.D.Disk.seen_may_be_left c.write.new.self in
    let place : 4096 * c.from.result ≡ 4096 * number_at batch c.args.slot = ap (λ (n : ℕ). 4096 * n) (c.from.ensures ∙ c.number_in.ensures ∙ ap number_of c.page-page.ensures.value) in
    let write = meant _ _ c.page-page.result.now (page_at batch c.args.slot) true (disk c.args.disk.now) (disk c.write.new.self) place c.page-page.ensures.value c.in_ok-write.ensures.goes in
    after_sync batch c.page-page.ensures.is_batch c.args.slot c.requires before _ _ _ law0 law1 known write _ c.in_ok-sync.ensures.goes

pub returns-clause-placed : goal.returns-clause-placed
returns-clause-placed g c = λ known.
    let disk = g.D.Disk.past in
    let batch = c.args.batch.now in
    let law0 = g.met.D.Disk.seen_may_be_left c.args.disk.now in
    let law1 = g.met.D.Disk.seen_may_be_left c.write.new.self in
    let place : 4096 * c.from.result ≡ 4096 * number_at batch c.args.slot = ap (λ (n : ℕ). 4096 * n) (c.from.ensures ∙ c.number_in.ensures ∙ ap number_of c.page-page.ensures.value) in
    let write = meant _ _ c.page-page.result.now (page_at batch c.args.slot) true (disk c.args.disk.now) (disk c.write.new.self) place c.page-page.ensures.value c.in_ok-write.ensures.goes in
    placed_last batch c.page-page.ensures.is_batch c.args.slot c.requires _ _ law0 known write _ c.in_ok-sync.ensures.goes

pub returns-clause-crash : goal.returns-clause-crash
returns-clause-crash g c = λ before known.
    let disk = g.D.Disk.past in
    let batch = c.args.batch.now in
    let law0 = g.met.D.Disk.seen_may_be_left c.args.disk.now in
    let law1 = g.met.D.Disk.seen_may_be_left c.write.new.self in
    let place : 4096 * c.from.result ≡ 4096 * number_at batch c.args.slot = ap (λ (n : ℕ). 4096 * n) (c.from.ensures ∙ c.number_in.ensures ∙ ap number_of c.page-page.ensures.value) in
    let write = meant _ _ c.page-page.result.now (page_at batch c.args.slot) true (disk c.args.disk.now) (disk c.write.new.self) place c.page-page.ensures.value c.in_ok-write.ensures.goes in
    during_sync batch c.page-page.ensures.is_batch c.args.slot c.requires before _ _ _ law0 law1 known write _ c.in_ok-sync.ensures.goes

pub returns-then-slot-len-clause-reads : goal.returns-then-slot-len-clause-reads
returns-then-slot-len-clause-reads g c =
    let disk = g.D.Disk.past in
    let batch = c.args.batch.now in
    let place : 4096 * c.from.result ≡ 4096 * number_at batch c.args.slot =
    ap (λ (n : ℕ). 4096 * n) (c.from.ensures ∙ c.number_in.ensures ∙ ap number_of c.page-page.ensures.value) in
    let write = meant _ _ c.page-page.result.now (page_at batch c.args.slot) true (disk c.args.disk.now) (disk c.write.new.self)
    place c.page-page.ensures.value c.in_ok-write.ensures.goes in
    place_leads batch c.page-page.ensures.is_batch c.args.slot c.requires _ _ write

pub returns-clause-reads : goal.returns-clause-reads
returns-clause-reads g c =
    let disk = g.D.Disk.past in
    let batch = c.args.batch.now in
    let place : 4096 * c.from.result ≡ 4096 * number_at batch c.args.slot =
    ap (λ (n : ℕ). 4096 * n) (c.from.ensures ∙ c.number_in.ensures ∙ ap number_of c.page-page.ensures.value) in
    let write = meant _ _ c.page-page.result.now (page_at batch c.args.slot) true (disk c.args.disk.now) (disk c.write.new.self)
    place c.page-page.ensures.value c.in_ok-write.ensures.goes in
    placed_leads batch c.page-page.ensures.is_batch c.args.slot c.requires _ _ write _ c.in_ok-sync.ensures.goes
