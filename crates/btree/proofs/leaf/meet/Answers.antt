use Rattle.std.proofs.Common.{◌≡◌, length, drop, subst, arith}
use Rattle.page_format.specs.Words.{count_of, record_len_of, records_of}
use Rattle.page_format.proofs.Pieces.{length-pieces}
use Rattle.btree.specs.Places.{record_passes, StartsAt}
use Rattle.btree.proofs.leaf.meet.Goals as goal

pub returns-then-place-read_u16-clause-meets : goal.returns-then-place-read_u16-clause-meets
returns-then-place-read_u16-clause-meets c =
    let bytes = c.args.bytes.now in
    let all : length (records_of bytes) ≡ count_of bytes = length-pieces (record_len_of bytes) (count_of bytes) (drop 208 bytes) in
    (omega (arith, all), c.first_place-place.ensures.place)

pub returns-else-place-read_u16-clause-meets : goal.returns-else-place-read_u16-clause-meets
returns-else-place-read_u16-clause-meets c =
    let bytes = c.args.bytes.now in
    let all : length (records_of bytes) ≡ count_of bytes = length-pieces (record_len_of bytes) (count_of bytes) (drop 208 bytes) in
    let end : c.first_place-place.result ≡ length (records_of bytes) = omega (arith, all) in (
      c.read_u32.ensures,
      λ rising. subst (λ k. StartsAt (record_passes c.args.tree.key_len c.args.bound c.args.key.now) (records_of bytes) k) end
          (c.first_place-place.ensures.place rising),
    )
