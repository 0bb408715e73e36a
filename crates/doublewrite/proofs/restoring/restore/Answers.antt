use Rattle.std.proofs.Common.{◌≡◌, ℕ, ◌*◌, Bool, true, ap, subst}
use Rattle.std.specs.Prelude.{is_ok, MatchBool}
use Rattle.store_api.specs.Areas.{piece}
use Rattle.store_api.specs.Past.{Now}
use Rattle.stored_pages.specs.Reading.{IsGoodPage, place_of}
use Rattle.stored_pages.proofs.Newest.{inside}
use Rattle.doublewrite.proofs.Calls.{meant}
use Rattle.doublewrite.proofs.Repairs.{during_look, after_in_place, after_restore, during_restore}
use Rattle.doublewrite.proofs.restoring.restore.Goals as goal

pub returns-in_err-is_in_place-clause-crash : goal.returns-in_err-is_in_place-clause-crash
returns-in_err-is_in_place-clause-crash g c = λ before known. during_look before c.args.double.now c.args.slot _ _ _ known c.in_err-is_in_place.ensures.goes

pub returns-then-branch-clause-stands : goal.returns-then-branch-clause-stands
returns-then-branch-clause-stands g c = λ before known.
    let number = c.args.number in
    let good = subst (λ (b : Bool). Now (λ s. MatchBool b (IsGoodPage number (place_of number s.pages.seen)) (IsGoodPage number (place_of number s.pages.seen) → ⊥)) (g.D.Disk.past c.args.disk.now)) c.if-branch.true c.in_ok-is_in_place.ensures.good in
    after_in_place before c.args.double.now c.args.slot c.requires.slot number c.requires.good _ _ known good c.in_ok-is_in_place.ensures.goes

pub returns-then-branch-clause-crash : goal.returns-then-branch-clause-crash
returns-then-branch-clause-crash g c = λ before known. during_look before c.args.double.now c.args.slot _ _ _ known c.in_ok-is_in_place.ensures.goes

pub copy_at-newest-requires : goal.copy_at-newest-requires
copy_at-newest-requires g c = inside c.newest_slot.result c.args.double.now c.newest_slot.ensures.newest.copy.good.size

pub returns-in_err-write-clause-crash : goal.returns-in_err-write-clause-crash
returns-in_err-write-clause-crash g c = λ before known.
    let disk = g.D.Disk.past in
    let number = c.args.number in
    let page = piece 4096 c.newest_slot.result c.args.double.now in
    let law = g.met.D.Disk.seen_may_be_left c.is_in_place.new.disk in
    let bad = subst (λ (b : Bool). Now (λ s. MatchBool b (IsGoodPage number (place_of number s.pages.seen)) (IsGoodPage number (place_of number s.pages.seen) → ⊥)) (disk c.args.disk.now)) c.if-branch.false c.in_ok-is_in_place.ensures.good in
    let place : 4096 * c.from.result ≡ 4096 * number = ap (λ (n : ℕ). 4096 * n) c.from.ensures in
    let write = meant _ _ c.copy_at-newest.result.now page (is_ok c.write.result) (disk c.is_in_place.new.disk) (disk c.write.new.self) place c.copy_at-newest.ensures.value c.write.ensures.goes in
    during_restore before c.args.double.now c.args.slot c.requires.slot number c.requires.good page c.newest_slot.ensures.newest _ _ _ law known bad c.in_ok-is_in_place.ensures.goes _ write

pub returns-clause-stands : goal.returns-clause-stands
returns-clause-stands g c = λ before known.
    let disk = g.D.Disk.past in
    let number = c.args.number in
    let page = piece 4096 c.newest_slot.result c.args.double.now in
    let law = g.met.D.Disk.seen_may_be_left c.is_in_place.new.disk in
    let bad = subst (λ (b : Bool). Now (λ s. MatchBool b (IsGoodPage number (place_of number s.pages.seen)) (IsGoodPage number (place_of number s.pages.seen) → ⊥)) (disk c.args.disk.now)) c.if-branch.false c.in_ok-is_in_place.ensures.good in
    let place : 4096 * c.from.result ≡ 4096 * number = ap (λ (n : ℕ). 4096 * n) c.from.ensures in
    let write = meant _ _ c.copy_at-newest.result.now page true (disk c.is_in_place.new.disk) (disk c.write.new.self) place c.copy_at-newest.ensures.value c.in_ok-write.ensures.goes in
    after_restore before c.args.double.now c.args.slot c.requires.slot number c.requires.good page c.newest_slot.ensures.newest _ _ _ law known bad c.in_ok-is_in_place.ensures.goes write

pub returns-clause-crash : goal.returns-clause-crash
returns-clause-crash g c = λ before known.
    let disk = g.D.Disk.past in
    let number = c.args.number in
    let page = piece 4096 c.newest_slot.result c.args.double.now in
    let law = g.met.D.Disk.seen_may_be_left c.is_in_place.new.disk in
    let bad = subst (λ (b : Bool). Now (λ s. MatchBool b (IsGoodPage number (place_of number s.pages.seen)) (IsGoodPage number (place_of number s.pages.seen) → ⊥)) (disk c.args.disk.now)) c.if-branch.false c.in_ok-is_in_place.ensures.good in
    let place : 4096 * c.from.result ≡ 4096 * number = ap (λ (n : ℕ). 4096 * n) c.from.ensures in
    let write = meant _ _ c.copy_at-newest.result.now page true (disk c.is_in_place.new.disk) (disk c.write.new.self) place c.copy_at-newest.ensures.value c.in_ok-write.ensures.goes in
    during_restore before c.args.double.now c.args.slot c.requires.slot number c.requires.good page c.newest_slot.ensures.newest _ _ _ law known bad c.in_ok-is_in_place.ensures.goes _ write
