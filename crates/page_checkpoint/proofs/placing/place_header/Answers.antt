use Rattle.std.proofs.Common.{◌≡◌, OnOk, refl, subst, ◌∙◌, ap}
use Rattle.store_api.specs.Past.{Now, Meanwhile}
use Rattle.store_api.proofs.Moments.{Meanwhile-join}
use Rattle.doublewrite.specs.Batches.{BatchView, StagedView}
use Rattle.doublewrite.specs.Kept.{IsStagedHonestly, IsStaged, HasPlaced, KeepsPages}
use Rattle.page_checkpoint.specs.Beginning.{alone}
use Rattle.page_checkpoint.proofs.Alone.{none_placed, on_any, grown}
use Rattle.page_checkpoint.proofs.placing.place_header.Goals as goal

pub returns-in-Ok-clause-stands : goal.returns-in-Ok-clause-stands
returns-in-Ok-clause-stands g c = λ before ready.
    let past = g.D.Disk.past in
    let whole : c.add_bytes.new.self ≡ alone c.args.header.now =
    grown c.args.batch c.add_bytes.new.self c.args.header.now c.requires.none c.add_bytes.ensures.batch in
    let same : c.in-Ok.staged.batch ≡ alone c.args.header.now = ap (λ (s : StagedView). s.batch) c.in-Ok.ensures.ok ∙ whole in
    let honest : Now (IsStagedHonestly before (alone c.args.header.now)) (past c.stage.new.disk) =
    subst (λ (b : BatchView). Now (IsStagedHonestly before b) (past c.stage.new.disk)) whole (c.in-Ok.ensures.stands before ready) in
    on_any (Now (IsStaged before (alone c.args.header.now)) (past c.place_alone.new.disk)) c.place_alone.result
    (subst (λ (b : BatchView). Now (IsStagedHonestly before b) (past c.stage.new.disk) → Now (IsStaged before b) (past c.place_alone.new.disk)) same
    (c.place_alone.ensures.stands before) honest)

pub returns-in-Ok-clause-placed : goal.returns-in-Ok-clause-placed
returns-in-Ok-clause-placed g c =
    let past = g.D.Disk.past in
    let whole : c.add_bytes.new.self ≡ alone c.args.header.now =
    grown c.args.batch c.add_bytes.new.self c.args.header.now c.requires.none c.add_bytes.ensures.batch in
    let same : c.in-Ok.staged ≡ record { batch = alone c.args.header.now; placed = 0 } =
    c.in-Ok.ensures.ok ∙ ap (λ (b : BatchView). record { batch = b; placed = 0 }) whole in
    subst
    (λ (s : StagedView). Now (HasPlaced s) (past c.stage.new.disk)
    → OnOk c.place_alone.result (Now (HasPlaced (record { batch = s.batch; placed = 1 })) (past c.place_alone.new.disk)))
    same c.place_alone.ensures.placed (λ s ticks is. none_placed (alone c.args.header.now) s refl)

pub returns-in-Ok-clause-crash : goal.returns-in-Ok-clause-crash
returns-in-Ok-clause-crash g c = λ before ready.
    let past = g.D.Disk.past in
    let whole : c.add_bytes.new.self ≡ alone c.args.header.now =
    grown c.args.batch c.add_bytes.new.self c.args.header.now c.requires.none c.add_bytes.ensures.batch in
    let same : c.in-Ok.staged.batch ≡ alone c.args.header.now = ap (λ (s : StagedView). s.batch) c.in-Ok.ensures.ok ∙ whole in
    let honest : Now (IsStagedHonestly before (alone c.args.header.now)) (past c.stage.new.disk) =
    subst (λ (b : BatchView). Now (IsStagedHonestly before b) (past c.stage.new.disk)) whole (c.in-Ok.ensures.stands before ready) in
    Meanwhile-join (KeepsPages before (alone c.args.header.now)) (past c.args.disk.now) (past c.stage.new.disk) (past c.place_alone.new.disk)
    (subst (λ (b : BatchView). Meanwhile (KeepsPages before b) (past c.args.disk.now) (past c.stage.new.disk)) whole (c.in-Ok.ensures.crash before ready))
    (subst
    (λ (b : BatchView). Now (IsStagedHonestly before b) (past c.stage.new.disk)
    → Meanwhile (KeepsPages before b) (past c.stage.new.disk) (past c.place_alone.new.disk))
    same (c.place_alone.ensures.crash before) honest)

pub returns-in-Err-clause-crash : goal.returns-in-Err-clause-crash
returns-in-Err-clause-crash g c = λ before ready.
    let past = g.D.Disk.past in
    let whole : c.add_bytes.new.self ≡ alone c.args.header.now =
    grown c.args.batch c.add_bytes.new.self c.args.header.now c.requires.none c.add_bytes.ensures.batch in
    subst (λ (b : BatchView). Meanwhile (KeepsPages before b) (past c.args.disk.now) (past c.stage.new.disk)) whole (c.in-Err.ensures.crash before ready)
