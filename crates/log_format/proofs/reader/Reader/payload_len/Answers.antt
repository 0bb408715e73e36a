use Rattle.std.proofs.Common.{◌≡◌, ◌*◌, ◌≤◌, List, ℕ, length, take, drop, sym, ◌∙◌, ap, rules, arith, length-take, length-drop}
use Rattle.std.proofs.lemmas.List.{take_all}
use Rattle.store_api.specs.Areas.{piece}
use Rattle.log_format.specs.Block.{payload_of}
use Rattle.log_format.specs.Given.{ReaderView}
use Rattle.log_format.proofs.reader.Reader.payload_len.Goals as goal

pub overflow_mul-number : goal.overflow_mul-number
overflow_mul-number g c =
    let end : c.self.inside.block ≡ c.args.self.now.block = ap (λ (v : ReaderView). v.block) c.self.view_is in
    omega (arith, end, c.requires, c.self.invariant.2)

pub returns-clause-len : goal.returns-clause-len
returns-clause-len g c = λ s ticks told good.
    let size : length c.read.new.into ≡ 512 = search rules in
    let number = c.args.number in
    let n = c.in_ok-_count._count in
    let read : take n c.read.new.into ≡ piece 512 number s.log.seen =
    c.in_ok-_count.ensures.bytes s ticks told ∙ (λ i. take (size i) (drop (512 * number) s.log.seen)) in
    let inside = good.inside in
    let whole : 512 ≤ n =
    omega (arith, size, ap length read, length-take n c.read.new.into, length-take 512 (drop (512 * number) s.log.seen), length-drop (512 * number) s.log.seen, inside) in
    let same : c.read.new.into ≡ piece 512 number s.log.seen =
    sym (take_all n c.read.new.into (omega (arith, size, whole))) ∙ read in
    ap length (c.payload.ensures.payload ∙ ap payload_of same)
