use Rattle.std.proofs.Common.{◌≡◌, ◌<◌, ℕ, List, [], Some, length, take, drop, slice_index_or, refl, sym, ap, ◌∙◌, arith}
use Rattle.page_format.specs.Words.{count_of, record_len_of, records_of}
use Rattle.page_format.proofs.Pieces.{length-pieces}
use Rattle.btree.proofs.Rows.{pair_here}
use Rattle.btree.proofs.leaf.copy_row.Goals as goal

pub returns-clause-row : goal.returns-clause-row
returns-clause-row c =
    let bytes = c.args.bytes.now in
    let n = c.args.tree.key_len in
    let one = slice_index_or (records_of bytes) c.args.spot.place [] in
    let all : length (records_of bytes) ≡ count_of bytes = length-pieces (record_len_of bytes) (count_of bytes) (drop 208 bytes) in
    let within : c.args.spot.place < length (records_of bytes) = omega (arith, all) in
    let key : c.copy_into.new.into.items ≡ take n one =
    c.copy_into.ensures.items ∙ c.split_at.ensures.front ∙ ap (λ k. take k c.record_at.result.now) c.from.ensures ∙ ap (take n) c.record_at.ensures.value in
    let value : c.copy_into-2.new.into.items ≡ drop n one =
    c.copy_into-2.ensures.items ∙ c.split_at.ensures.back ∙ ap (λ k. drop k c.record_at.result.now) c.from.ensures ∙ ap (drop n) c.record_at.ensures.value in
    pair_here n (records_of bytes) c.args.spot.place within ∙ ap (λ (k : List ℕ). Some (k, drop n one)) (sym key)
    ∙ ap (λ (v : List ℕ). Some (c.copy_into.new.into.items, v)) (sym value)

pub returns-then-spot-read_u16-clause-refused : goal.returns-then-spot-read_u16-clause-refused
returns-then-spot-read_u16-clause-refused c =
    let bytes = c.args.bytes.now in
    let all : length (records_of bytes) ≡ count_of bytes = length-pieces (record_len_of bytes) (count_of bytes) (drop 208 bytes) in
    (refl, λ has. let inside = has.inside in omega (arith, all, inside))
