use Rattle.std.proofs.Common.{◌≡◌, ℕ, length, take, drop, ◌∙◌, ap, arith}
use Rattle.std.proofs.lemmas.List.{take_at}
use Rattle.doublewrite.proofs.restoring.read_copies.Goals as goal

pub returns-clause-bytes : goal.returns-clause-bytes
returns-clause-bytes g c = λ s ticks told.
    let new = c.read.new.into in
    let n = c.in_ok-len.len in
    let size : length new ≡ 262144 = omega (arith, c.read.auto.into, c.deref_mut.ensures.len, c.requires) in
    let long : length new ≡ c.args.into.now.len = omega (arith, size, c.requires) in
    ap (take n) (take_at new (drop (length new) c.args.into.now.items) c.args.into.now.len long) ∙ c.in_ok-len.ensures.bytes s ticks told ∙ ap (λ (k : ℕ). take k s.double.seen) size
