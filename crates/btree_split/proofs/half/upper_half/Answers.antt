use Rattle.std.proofs.Common.{◌≡◌, ℕ, ◌+◌, ◌-◌, ◌*◌, List, [], ◌∷◌, length, take, drop, refl, ap, ◌∙◌, arith}
use Rattle.std.specs.Prelude.{replicate}
use Rattle.std.specs.Int.{w16, to_be_bytes}
use Rattle.page_format.specs.Words.{count_of, record_len_of}
use Rattle.btree_split.proofs.Laid.{Lays, spelled, laid_upper}
use Rattle.btree_split.proofs.half.upper_half.Goals as goal

pub returns : goal.returns
returns c = λ fields.
    let bytes = c.args.bytes.now in
    let key = c.args.key.now in
    let w = record_len_of bytes in
    let zeros : List ℕ = replicate 4096 0 in
    let at = c.begin_of-at.result in
    let end = c.begin_of.result in
    let at_is : at ≡ 208 + c.args.i * w = c.begin_of-at.ensures in
    let end_is : end ≡ 208 + count_of bytes * w = c.begin_of.ensures ∙ ap (λ k. 208 + k * w) c.read_u16-count.ensures in
    let moved : List ℕ = take (end - at) (drop at bytes) in
    let one : Lays 208 moved c.copy_from_slice.new.self c.lay-moved.new.into = c.lay-moved.ensures.whole in
    let two : Lays c.lay-moved.result (take (at - 208) zeros) c.lay-moved.new.into c.lay.new.into = c.lay.ensures.whole in
    let three : Lays 22 c.u16_bytes.result c.lay.new.into c.lay-2.new.into = c.lay-2.ensures.whole in
    let four : Lays 34 (length key ∷ []) c.lay-2.new.into c.lay-3.new.into = c.lay-3.ensures.whole in
    let five : Lays 36 key c.lay-3.new.into c.lay-behind.new.into = c.lay-behind.ensures.whole in
    let six : Lays c.lay-behind.result (take (80 - length key) zeros) c.lay-behind.new.into c.lay-4.new.into = c.lay-4.ensures.whole in
    let seven : Lays 8 c.u32_bytes.result c.lay-4.new.into c.lay-5.new.into = c.lay-5.ensures.whole in
    let counted = c.u16_bytes.ensures ∙ ap (λ k. to_be_bytes w16 (k - c.args.i)) c.read_u16-count.ensures in
    laid_upper bytes c.lay-moved.new.into c.lay.new.into c.lay-2.new.into c.lay-3.new.into c.lay-behind.new.into c.lay-4.new.into c.lay-5.new.into key moved
    c.args.i
    c.args.number 4096 c.requires.size fields c.requires.place c.requires.key c.ranges.number.fits (omega arith)
    (λ j. take (end_is j - at_is j) (drop (at_is j) bytes))
    (spelled 208 208 moved moved c.copy_from_slice.new.self bytes c.lay-moved.new.into refl refl c.copy_from_slice.ensures.after one)
    (spelled c.lay-moved.result _ (take (at - 208) zeros) _ c.lay-moved.new.into _ c.lay.new.into c.lay-moved.ensures.end
    (λ j. take (at_is j - 208) zeros) refl two)
    (spelled 22 22 c.u16_bytes.result _ c.lay.new.into _ c.lay-2.new.into refl counted refl three)
    four five
    (spelled c.lay-behind.result _ (take (80 - length key) zeros) _ c.lay-behind.new.into _ c.lay-4.new.into c.lay-behind.ensures.end refl refl six)
    (spelled 8 8 c.u32_bytes.result _ c.lay-4.new.into _ c.lay-5.new.into refl c.u32_bytes.ensures refl seven)
