use Rattle.std.proofs.Common.{◌≡◌, Some, ◌∙◌, ap, subst, arith}
use Rattle.doublewrite.specs.Batches.{BatchView, StagedView}
use Rattle.doublewrite.specs.Kept.{HasPlaced}
use Rattle.store_api.specs.Past.{Now}
use Rattle.flusher.specs.Cleaning.{Cleans}
use Rattle.flusher.proofs.Runs.{placed_run, last_run, last_home, none_home, place_crash, all_placed}
use Rattle.flusher.proofs.Cleaned.{settled_same}
use Rattle.flusher.proofs.Homes.{placed_kept, settled_kept}
use Rattle.flusher.proofs.work.go_on.Goals as goal

pub returns-in-Ok-true-clause-stands : goal.returns-in-Ok-true-clause-stands
returns-in-Ok-true-clause-stands g c = λ first groups base log ready held.
    let place = c.place_next in
    placed_run first groups base c.args.staged log (g.D.Disk.past c.args.disk.now)
    (g.D.Disk.past place.new.disk) ready held place.new.self place.ensures.batch place.ensures.stands place.ensures.placed

pub returns-in-Ok-true-clause-crash : goal.returns-in-Ok-true-clause-crash
returns-in-Ok-true-clause-crash g c = λ first groups base log ready held.
    place_crash first groups base c.args.staged log (g.D.Disk.past c.args.disk.now) (g.D.Disk.past c.place_next.new.disk) ready held c.place_next.ensures.crash

pub returns-in-Ok-false-clause-in_place : goal.returns-in-Ok-false-clause-in_place
returns-in-Ok-false-clause-in_place g c = λ held.
    let place = c.place_next in
    let next = place.new.self in
    let count : next.batch.count ≡ c.args.staged.batch.count = ap (λ (b : BatchView). b.count) place.ensures.batch in
    let all : next.placed ≡ next.batch.count =
    all_placed c.in-Ok-false.field-0 c.args.staged.placed next.placed next.batch.count c.in-Ok-false.field-0-test c.in-Ok-false.ensures.more
    c.in-Ok-false.ensures.ok (omega (arith, c.requires, count)) in
    let whole : next ≡ record {
      batch = c.args.staged.batch;
      placed = c.args.staged.batch.count;
    } = λ i. record { batch = place.ensures.batch i; placed = (all ∙ count) i } in
    subst (λ (s : StagedView). Now (HasPlaced s) (g.D.Disk.past place.new.disk)) whole (place.ensures.placed held)

pub returns-in-Ok-false-clause-stands : goal.returns-in-Ok-false-clause-stands
returns-in-Ok-false-clause-stands g c = λ first groups base log ready held.
    let place = c.place_next in
    let next = place.new.self in
    let count : next.batch.count ≡ c.args.staged.batch.count = ap (λ (b : BatchView). b.count) place.ensures.batch in
    let all : next.placed ≡ next.batch.count =
    all_placed c.in-Ok-false.field-0 c.args.staged.placed next.placed next.batch.count c.in-Ok-false.field-0-test c.in-Ok-false.ensures.more
    c.in-Ok-false.ensures.ok (omega (arith, c.requires, count)) in
    last_run first groups base c.args.staged log (g.D.Disk.past c.args.disk.now)
    (g.D.Disk.past place.new.disk) ready held next place.ensures.batch place.ensures.stands place.ensures.placed all

pub returns-in-Ok-false-clause-crash : goal.returns-in-Ok-false-clause-crash
returns-in-Ok-false-clause-crash g c = λ first groups base log ready held.
    place_crash first groups base c.args.staged log (g.D.Disk.past c.args.disk.now) (g.D.Disk.past c.place_next.new.disk) ready held c.place_next.ensures.crash

pub returns-in-Err-clause-stands : goal.returns-in-Err-clause-stands
returns-in-Err-clause-stands g c = λ first groups base log ready held.
    let place = c.place_next in
    placed_run first groups base c.args.staged log (g.D.Disk.past c.args.disk.now)
    (g.D.Disk.past place.new.disk) ready held place.new.self place.ensures.batch place.ensures.stands place.ensures.placed

pub returns-in-Err-clause-crash : goal.returns-in-Err-clause-crash
returns-in-Err-clause-crash g c = λ first groups base log ready held.
    place_crash first groups base c.args.staged log (g.D.Disk.past c.args.disk.now) (g.D.Disk.past c.place_next.new.disk) ready held c.place_next.ensures.crash

pub returns-in-Ok-true-clause-home : goal.returns-in-Ok-true-clause-home
returns-in-Ok-true-clause-home g c = λ first groups base log newest ready held. none_home c.args.pool.now (g.D.Disk.past c.place_next.new.disk)

pub returns-in-Err-clause-home : goal.returns-in-Err-clause-home
returns-in-Err-clause-home g c = λ first groups base log newest ready held. none_home c.args.pool.now (g.D.Disk.past c.place_next.new.disk)

pub returns-in-Ok-false-clause-home : goal.returns-in-Ok-false-clause-home
returns-in-Ok-false-clause-home g c = λ first groups base log newest ready held.
    let place = c.place_next in
    let next = place.new.self in
    let staged = c.args.staged in
    let count : next.batch.count ≡ staged.batch.count = ap (λ (b : BatchView). b.count) place.ensures.batch in
    let all : next.placed ≡ next.batch.count = all_placed c.in-Ok-false.field-0 staged.placed next.placed next.batch.count c.in-Ok-false.field-0-test
    c.in-Ok-false.ensures.more c.in-Ok-false.ensures.ok (omega (arith, c.requires, count)) in
    let whole : next ≡ record { batch = staged.batch; placed = staged.batch.count } = λ i. record { batch = place.ensures.batch i; placed = (all ∙ count) i } in
    let cleans = subst (λ (b : BatchView). Cleans b b.count c.args.pool.now c.settle.new.pool) (c.done-batch.ensures ∙ place.ensures.batch) c.settle.ensures in
    last_home first groups base staged log (g.D.Disk.past c.args.disk.now)
    (g.D.Disk.past place.new.disk) ready held next place.ensures.batch place.ensures.stands place.ensures.placed whole c.args.pool.now
    c.settle.new.pool newest cleans

pub returns-in-Ok-true-clause-kept : goal.returns-in-Ok-true-clause-kept
returns-in-Ok-true-clause-kept g c = λ first groups base log newest ready changed held kept.
    let place = c.place_next in
    placed_kept first groups base c.args.staged place.new.self log (g.D.Disk.past c.args.disk.now) (g.D.Disk.past place.new.disk) c.args.pool.now
    place.ensures.batch ready held place.ensures.stands changed kept

pub returns-in-Err-clause-kept : goal.returns-in-Err-clause-kept
returns-in-Err-clause-kept g c = λ first groups base log newest ready changed held kept.
    let place = c.place_next in
    placed_kept first groups base c.args.staged place.new.self log (g.D.Disk.past c.args.disk.now) (g.D.Disk.past place.new.disk) c.args.pool.now
    place.ensures.batch ready held place.ensures.stands changed kept

pub returns-in-Ok-false-clause-kept : goal.returns-in-Ok-false-clause-kept
returns-in-Ok-false-clause-kept g c = λ first groups base log newest ready changed held kept.
    let place = c.place_next in
    let next = place.new.self in
    let staged = c.args.staged in
    let count : next.batch.count ≡ staged.batch.count = ap (λ (b : BatchView). b.count) place.ensures.batch in
    let all : next.placed ≡ next.batch.count = all_placed c.in-Ok-false.field-0 staged.placed next.placed next.batch.count
    c.in-Ok-false.field-0-test c.in-Ok-false.ensures.more c.in-Ok-false.ensures.ok (omega (arith, c.requires, count)) in
    let whole : next ≡ record { batch = staged.batch; placed = staged.batch.count } =
    λ i. record { batch = place.ensures.batch i; placed = (all ∙ count) i } in
    let cleans = subst (λ (b : BatchView). Cleans b b.count c.args.pool.now c.settle.new.pool) (c.done-batch.ensures ∙ place.ensures.batch) c.settle.ensures in
    let home = last_home first groups base staged log (g.D.Disk.past c.args.disk.now) (g.D.Disk.past place.new.disk) ready held next place.ensures.batch
    place.ensures.stands place.ensures.placed whole c.args.pool.now c.settle.new.pool newest cleans in
    settled_kept groups base c.args.pool.now c.settle.new.pool (g.D.Disk.past place.new.disk) newest
    (settled_same (Some staged.batch) c.args.pool.now c.settle.new.pool cleans)
    (placed_kept first groups base staged next log (g.D.Disk.past c.args.disk.now) (g.D.Disk.past place.new.disk) c.args.pool.now
    place.ensures.batch ready held place.ensures.stands changed kept) home
