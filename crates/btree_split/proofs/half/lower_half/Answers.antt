use Rattle.std.proofs.Common.{◌≡◌, ℕ, ◌+◌, ◌-◌, ◌*◌, List, [], ◌∷◌, length, take, refl, ap, ◌∙◌, arith}
use Rattle.std.specs.Prelude.{replicate}
use Rattle.page_format.specs.Words.{count_of, record_len_of}
use Rattle.btree_split.proofs.Laid.{Lays, spelled, laid_lower}
use Rattle.btree_split.proofs.half.lower_half.Goals as goal

pub returns : goal.returns
returns c = λ fields.
    let bytes = c.args.bytes.now in
    let key = c.args.key.now in
    let w = record_len_of bytes in
    let zeros : List ℕ = replicate 4096 0 in
    let at = c.begin_of-at.result in
    let end = c.begin_of-end.result in
    let at_is : at ≡ 208 + c.args.i * w = c.begin_of-at.ensures in
    let end_is : end ≡ 208 + count_of bytes * w = c.begin_of-end.ensures ∙ ap (λ k. 208 + k * w) c.read_u16.ensures in
    let one : Lays at (take (end - at) zeros) c.copy_from_slice.new.self c.lay.new.into = c.lay.ensures.whole in
    let two : Lays 22 c.u16_bytes.result c.lay.new.into c.lay-2.new.into = c.lay-2.ensures.whole in
    let three : Lays 35 (length key ∷ []) c.lay-2.new.into c.lay-3.new.into = c.lay-3.ensures.whole in
    let four : Lays 116 key c.lay-3.new.into c.lay-behind.new.into = c.lay-behind.ensures.whole in
    let five : Lays c.lay-behind.result (take (80 - length key) zeros) c.lay-behind.new.into c.lay-4.new.into = c.lay-4.ensures.whole in
    let six : Lays 28 c.u32_bytes.result c.lay-4.new.into c.lay-5.new.into = c.lay-5.ensures.whole in
    laid_lower bytes c.lay.new.into c.lay-2.new.into c.lay-3.new.into c.lay-behind.new.into c.lay-4.new.into c.lay-5.new.into key c.args.i c.args.number 4096
    c.requires.size fields c.requires.place c.requires.key c.ranges.number.fits (omega arith)
    (spelled at _ (take (end - at) zeros) _ c.copy_from_slice.new.self bytes c.lay.new.into at_is (λ j. take (end_is j - at_is j) zeros)
    c.copy_from_slice.ensures.after one)
    (spelled 22 22 c.u16_bytes.result _ c.lay.new.into _ c.lay-2.new.into refl c.u16_bytes.ensures refl two)
    three four
    (spelled c.lay-behind.result _ (take (80 - length key) zeros) _ c.lay-behind.new.into _ c.lay-4.new.into c.lay-behind.ensures.end refl refl five)
    (spelled 28 28 c.u32_bytes.result _ c.lay-4.new.into _ c.lay-5.new.into refl c.u32_bytes.ensures refl six)
