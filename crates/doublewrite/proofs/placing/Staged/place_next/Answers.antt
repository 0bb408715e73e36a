use Rattle.std.proofs.Common.{◌≡◌, sym, ap, subst, arith}
use Rattle.store_api.specs.Past.{Now, Meanwhile}
use Rattle.doublewrite.specs.Batches.{BatchView, StagedView}
use Rattle.doublewrite.specs.Kept.{IsStagedHonestly, KeepsPages, HasPlaced}
use Rattle.doublewrite.proofs.placing.Staged.place_next.Goals as goal

pub overflow_add-self : goal.overflow_add-self
overflow_add-self g c = omega (arith, c.in-Ok.ensures.few)

pub returns-in-Ok-clause-stands : goal.returns-in-Ok-clause-stands
returns-in-Ok-clause-stands g c = λ before known.
    let disk = g.D.Disk.past in
    let is : c.self.inside.batch ≡ c.args.self.now.batch = ap (λ (v : StagedView). v.batch) c.self.view_is in
    let staged = subst (λ (b : BatchView). Now (IsStagedHonestly before b) (disk c.args.disk.now)) (sym is) known in
    c.in-Ok.ensures.stands before staged

pub returns-in-Ok-clause-honest : goal.returns-in-Ok-clause-honest
returns-in-Ok-clause-honest g c = λ before known.
    let disk = g.D.Disk.past in
    let is : c.self.inside.batch ≡ c.args.self.now.batch = ap (λ (v : StagedView). v.batch) c.self.view_is in
    let staged = subst (λ (b : BatchView). Now (IsStagedHonestly before b) (disk c.args.disk.now)) (sym is) known in
    c.in-Ok.ensures.honest before staged

pub returns-in-Ok-clause-placed : goal.returns-in-Ok-clause-placed
returns-in-Ok-clause-placed g c = λ known. c.in-Ok.ensures.placed (subst (λ (v : StagedView). Now (HasPlaced v) (g.D.Disk.past c.args.disk.now)) (sym c.self.view_is) known)

pub returns-in-Ok-clause-crash : goal.returns-in-Ok-clause-crash
returns-in-Ok-clause-crash g c = λ before known.
    let disk = g.D.Disk.past in
    let is : c.self.inside.batch ≡ c.args.self.now.batch = ap (λ (v : StagedView). v.batch) c.self.view_is in
    let staged = subst (λ (b : BatchView). Now (IsStagedHonestly before b) (disk c.args.disk.now)) (sym is) known in
    subst (λ (b : BatchView). Meanwhile (KeepsPages before b) (disk c.args.disk.now) (disk c.place_page.new.disk)) is (c.in-Ok.ensures.crash before staged)

pub returns-in-Err-clause-stands : goal.returns-in-Err-clause-stands
returns-in-Err-clause-stands g c = λ before known.
    let disk = g.D.Disk.past in
    let is : c.self.inside.batch ≡ c.args.self.now.batch = ap (λ (v : StagedView). v.batch) c.self.view_is in
    let staged = subst (λ (b : BatchView). Now (IsStagedHonestly before b) (disk c.args.disk.now)) (sym is) known in
    c.in-Err.ensures.stands before staged

pub returns-in-Err-clause-crash : goal.returns-in-Err-clause-crash
returns-in-Err-clause-crash g c = λ before known.
    let disk = g.D.Disk.past in
    let is : c.self.inside.batch ≡ c.args.self.now.batch = ap (λ (v : StagedView). v.batch) c.self.view_is in
    let staged = subst (λ (b : BatchView). Now (IsStagedHonestly before b) (disk c.args.disk.now)) (sym is) known in
    subst (λ (b : BatchView). Meanwhile (KeepsPages before b) (disk c.args.disk.now) (disk c.place_page.new.disk)) is (c.in-Err.ensures.crash before staged)
