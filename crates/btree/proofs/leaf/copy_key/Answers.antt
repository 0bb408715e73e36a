use Rattle.std.proofs.Common.{◌≡◌, ◌<◌, [], length, take, drop, slice_index_or, refl, sym, subst, ◌∙◌, arith}
use Rattle.entries.specs.Calls.{HasKey}
use Rattle.page_format.specs.Words.{count_of, record_len_of, records_of}
use Rattle.page_format.proofs.Pieces.{length-pieces}
use Rattle.btree.proofs.Rows.{pair_here}
use Rattle.btree.proofs.leaf.copy_key.Goals as goal

pub returns-clause-key : goal.returns-clause-key
returns-clause-key c =
    let bytes = c.args.bytes.now in
    let n = c.args.tree.key_len in
    let one = slice_index_or (records_of bytes) c.args.spot.place [] in
    let all : length (records_of bytes) ≡ count_of bytes = length-pieces (record_len_of bytes) (count_of bytes) (drop 208 bytes) in
    let within : c.args.spot.place < length (records_of bytes) = omega (arith, all) in
    let key : c.copy_into.new.into.items ≡ take n one = c.copy_into.ensures.items ∙ c.key_at.ensures in
    subst (λ (o : _). HasKey c.copy_into.new.into.items o) (sym (pair_here n (records_of bytes) c.args.spot.place within)) (sym key)

pub returns-then-spot-read_u16-clause-refused : goal.returns-then-spot-read_u16-clause-refused
returns-then-spot-read_u16-clause-refused c =
    let bytes = c.args.bytes.now in
    let all : length (records_of bytes) ≡ count_of bytes = length-pieces (record_len_of bytes) (count_of bytes) (drop 208 bytes) in
    (refl, λ has. let inside = has.inside in omega (arith, all, inside))
