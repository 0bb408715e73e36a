use Rattle.std.proofs.Common.{◌≡◌, ℕ, length, arith}
use Rattle.std.proofs.lemmas.List.{length-replicate}
use Rattle.doublewrite.proofs.Looked.{too_short, not_good, same_number}
use Rattle.doublewrite.proofs.restoring.is_in_place.Goals as goal

pub returns-then-len-lt-PAGE-clause-good : goal.returns-then-len-lt-PAGE-clause-good
returns-then-len-lt-PAGE-clause-good g c = λ s ticks told.
    let size : length c.read.new.into ≡ 4096 = omega (arith, c.read.auto.into, length-replicate {A = ℕ} 4096 0) in
    too_short c.args.number c.from.result c.in_ok-len.len c.read.new.into s.pages.seen size c.from.ensures (c.in_ok-len.ensures.bytes s ticks told) c.if-len-lt-PAGE.true

pub returns-in-Some-clause-good : goal.returns-in-Some-clause-good
returns-in-Some-clause-good g c = λ s ticks told.
    let size : length c.read.new.into ≡ 4096 = omega (arith, c.read.auto.into, length-replicate {A = ℕ} 4096 0) in
    same_number c.args.number c.from.result c.in_ok-len.len c.read.new.into s.pages.seen size c.from.ensures (c.in_ok-len.ensures.bytes s ticks told) c.in-Some.found c.if-len-lt-PAGE.false c.in-Some.ensures

pub returns-in-None-clause-good : goal.returns-in-None-clause-good
returns-in-None-clause-good g c = λ s ticks told.
    let size : length c.read.new.into ≡ 4096 = omega (arith, c.read.auto.into, length-replicate {A = ℕ} 4096 0) in
    not_good c.args.number c.from.result c.in_ok-len.len c.read.new.into s.pages.seen size c.from.ensures (c.in_ok-len.ensures.bytes s ticks told) c.if-len-lt-PAGE.false c.in-None.ensures
