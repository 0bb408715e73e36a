use Rattle.std.proofs.Common.{ℕ, ◌+◌, List, [], ◌∷◌, take, refl, ap, ◌∙◌, arith}
use Rattle.std.specs.Prelude.{replicate}
use Rattle.std.proofs.lemmas.List.{length-take-le}
use Rattle.std.specs.Int.{w16, to_be_bytes}
use Rattle.btree_split.proofs.Laid.{Lays, spelled}
use Rattle.btree_grow.proofs.Laid.{laid_root}
use Rattle.btree_grow.proofs.root.raised_root.Goals as goal

pub slice_bounds-lay-end-2 : goal.slice_bounds-lay-end-2
slice_bounds-lay-end-2 c = omega (arith, c.requires.size, length-take-le 208 c.args.bytes.now (omega (arith, c.requires.size)))

pub lay-requires : goal.lay-requires
lay-requires c = omega (arith, length-take-le 208 c.args.bytes.now (omega (arith, c.requires.size)))

pub returns : goal.returns
returns c = λ fields.
    let bytes = c.args.bytes.now in
    let n = c.args.key_len in
    let zeros : List ℕ = replicate 4096 0 in
    let one : Lays 0 (take 208 bytes) zeros c.lay.new.into = c.lay.ensures.whole in
    let two : Lays 20 (4 ∷ c.args.level ∷ []) c.lay.new.into c.lay-2.new.into = c.lay-2.ensures.whole in
    let three : Lays 22 c.u16_bytes.result c.lay-2.new.into c.lay-3.new.into = c.lay-3.ensures.whole in
    let four : Lays 32 c.u16_bytes-2.result c.lay-3.new.into c.lay-4.new.into = c.lay-4.ensures.whole in
    let five : Lays (208 + c.from-2.result) c.u32_bytes.result c.lay-4.new.into c.lay-5.new.into = c.lay-5.ensures.whole in
    laid_root bytes c.lay.new.into c.lay-2.new.into c.lay-3.new.into c.lay-4.new.into c.lay-5.new.into n c.args.number 4096 c.args.level
    c.requires.inner c.requires.low
    c.requires.size fields c.requires.short refl one two
    (spelled 22 22 c.u16_bytes.result _ c.lay-2.new.into _ c.lay-3.new.into refl c.u16_bytes.ensures refl three)
    (spelled 32 32 c.u16_bytes-2.result _ c.lay-3.new.into _ c.lay-4.new.into refl
    (c.u16_bytes-2.ensures ∙ ap (λ k. to_be_bytes w16 (k + 4)) c.from.ensures) refl four)
    (spelled (208 + c.from-2.result) (208 + n) c.u32_bytes.result _ c.lay-4.new.into _ c.lay-5.new.into
    (ap (λ k. 208 + k) c.from-2.ensures) c.u32_bytes.ensures refl five)
