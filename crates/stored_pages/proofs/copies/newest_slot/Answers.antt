use Rattle.std.proofs.lemmas.Grind.{common_steps}
use Rattle.std.proofs.Common.{◌≡◌, ℕ, ◌+◌, ◌<◌, ◌≤◌, Bool, sym, subst, arith}
use Rattle.std.specs.Prelude.{MatchBool}
use Rattle.store_api.specs.Areas.{piece}
use Rattle.stored_pages.specs.Words.{lsn_of}
use Rattle.stored_pages.specs.Reading.{IsGoodPage}
use Rattle.stored_pages.proofs.Newest.{inside}
use Rattle.stored_pages.proofs.Newest.{IsNewestTo, newer, no_newer, none_newer, newest_is}
use Rattle.stored_pages.proofs.copies.newest_slot.Goals as goal
use Rattle.stored_pages.proofs.copies.newest_slot.Goals.{then-is_newer, else-is_newer}

pub loop-slot-init : goal.loop-slot-init
loop-slot-init c = none_newer c.args.double.now c.args.number c.args.first c.requires.slot c.requires.good

pub is_newer-requires-clause-newest : goal.is_newer-requires-clause-newest
is_newer-requires-clause-newest c = inside c.loop-slot.newest c.args.double.now c.loop-slot.invariant.good.size

pub loop-slot-preserved : goal.loop-slot-preserved
loop-slot-preserved c =
    let double = c.args.double.now in
    let number = c.args.number in
    let slot = c.loop-slot.slot in
    let newest = c.loop-slot.newest in
    let Newer = IsGoodPage number (piece 4096 slot double) × (lsn_of (piece 4096 newest double) < lsn_of (piece 4096 slot double)) in
    let NotNewer = IsGoodPage number (piece 4096 slot double) → lsn_of (piece 4096 slot double) ≤ lsn_of (piece 4096 newest double) in
    elim c.if-is_newer.branch [
      | then-is_newer w ↦
          let found = subst (λ (b : Bool). MatchBool b Newer NotNewer) w.if-is_newer.true c.is_newer.ensures in
          subst (IsNewestTo double number (slot + 1)) (sym w.newest-is) (newer double number slot newest c.loop-slot.invariant c.loop-slot-test.true found.0 found.1)
      | else-is_newer w ↦
          let none = subst (λ (b : Bool). MatchBool b Newer NotNewer) w.if-is_newer.false c.is_newer.ensures in
          subst (IsNewestTo double number (slot + 1)) (sym w.newest-is) (no_newer double number slot newest c.loop-slot.invariant none)
    ]

pub returns-clause-newest : goal.returns-clause-newest
returns-clause-newest c =
    let all : c.loop-slot.slot ≡ 64 = omega (arith, c.loop-slot.auto.slot-end, c.loop-slot-test.false) in
    newest_is c.args.double.now c.args.number c.loop-slot.newest (subst (λ (n : ℕ). IsNewestTo c.args.double.now c.args.number n c.loop-slot.newest) all c.loop-slot.invariant)

pub is_newer-requires-clause-slot : goal.is_newer-requires-clause-slot
is_newer-requires-clause-slot c = grind (arith, common_steps)
