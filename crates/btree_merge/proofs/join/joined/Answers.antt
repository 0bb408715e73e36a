use Rattle.std.proofs.Common.{◌≡◌, ℕ, ◌+◌, ◌-◌, ◌*◌, List, take, drop, refl, ap, ◌∙◌}
use Rattle.std.specs.Int.{w16, to_be_bytes}
use Rattle.page_format.specs.Words.{count_of, record_len_of}
use Rattle.btree_merge.proofs.Joining.{Lays, spelled, joins}
use Rattle.btree_merge.proofs.join.joined.Goals as goal

pub returns : goal.returns
returns c = λ fields also.
    let left = c.args.left.now in
    let right = c.args.right.now in
    let end = c.begin_of.result in
    let moved : List ℕ = take (end - 208) (drop 208 right) in
    let at_is : c.begin_of-end.result ≡ 208 + count_of left * record_len_of left =
    c.begin_of-end.ensures ∙ ap (λ k. 208 + k * record_len_of left) c.read_u16-count.ensures in
    let end_is : end ≡ 208 + count_of right * record_len_of right =
    c.begin_of.ensures ∙ ap (λ k. 208 + k * record_len_of right) c.read_u16-more.ensures in
    let count_is : c.u16_bytes.result ≡ to_be_bytes w16 (count_of left + count_of right) =
    c.u16_bytes.ensures ∙ (λ j. to_be_bytes w16 (c.read_u16-count.ensures j + c.read_u16-more.ensures j)) in
    let one : Lays c.begin_of-end.result moved c.copy_from_slice.new.self c.lay.new.into = c.lay.ensures.whole in
    let two : Lays 22 c.u16_bytes.result c.lay.new.into c.lay-2.new.into = c.lay-2.ensures.whole in
    joins left right moved c.requires.left_size c.requires.right_size fields also c.requires.alike c.requires.fits
    (ap (λ k. take (k - 208) (drop 208 right)) end_is)
    c.lay.new.into c.lay-2.new.into (spelled c.begin_of-end.result _ moved moved c.copy_from_slice.new.self left c.lay.new.into at_is refl
    c.copy_from_slice.ensures.after one)
    (spelled 22 22 c.u16_bytes.result _ c.lay.new.into _ c.lay-2.new.into refl count_is refl two) c.lay-3.new.into c.lay-4.new.into c.lay-5.new.into
    c.lay-3.ensures.whole c.lay-4.ensures.whole c.lay-5.ensures.whole
