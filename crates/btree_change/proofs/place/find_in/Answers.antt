use Rattle.std.proofs.Common.{◌≡◌, ◌<◌, [], length, take, drop, slice_index_or, sym, ap, ◌∙◌, arith}
use Rattle.std.specs.Ordering.{nat_cmp}
use Rattle.std.specs.Cmp.Lexicographic.{slice_cmp}
use Rattle.page_format.specs.Words.{count_of, record_len_of, records_of}
use Rattle.page_format.proofs.Pieces.{length-pieces}
use Rattle.btree_change.proofs.Finding.{at_key, before_key, starts_for}
use Rattle.btree_change.proofs.place.find_in.Goals as goal

pub returns-then-place-read_u16-clause-found : goal.returns-then-place-read_u16-clause-found
returns-then-place-read_u16-clause-found c =
    let bytes = c.args.bytes.now in
    let all : length (records_of bytes) ≡ count_of bytes = length-pieces (record_len_of bytes) (count_of bytes) (drop 208 bytes) in
    λ rising.
    before_key c.args.key.now (records_of bytes) c.first_place-place.result
    (starts_for c.args.tree.key_len c.args.key.now (records_of bytes) c.first_place-place.result c.requires.key (c.first_place-place.ensures.place rising))
    (λ within. absurd (omega (arith, all, within)))

pub returns-in-Equal-clause-found : goal.returns-in-Equal-clause-found
returns-in-Equal-clause-found c =
    let bytes = c.args.bytes.now in
    let key = c.args.key.now in
    let i = c.first_place-place.result in
    let all : length (records_of bytes) ≡ count_of bytes = length-pieces (record_len_of bytes) (count_of bytes) (drop 208 bytes) in
    let within : i < length (records_of bytes) = omega (arith, all) in
    let front : c.key_at.result.now ≡ take (length key) (slice_index_or (records_of bytes) i []) =
    c.key_at.ensures ∙ ap (λ n. take n (slice_index_or (records_of bytes) i [])) (sym c.requires.key) in
    λ rising.
    at_key key (records_of bytes) i (starts_for c.args.tree.key_len key (records_of bytes) i c.requires.key (c.first_place-place.ensures.place rising))
    within (ap (λ l. slice_cmp nat_cmp l key) (sym front) ∙ sym c.in-Equal.ensures)

pub returns-in_default-clause-found : goal.returns-in_default-clause-found
returns-in_default-clause-found c =
    let bytes = c.args.bytes.now in
    let key = c.args.key.now in
    let i = c.first_place-place.result in
    let front : c.key_at.result.now ≡ take (length key) (slice_index_or (records_of bytes) i []) =
    c.key_at.ensures ∙ ap (λ n. take n (slice_index_or (records_of bytes) i [])) (sym c.requires.key) in
    λ rising.
    before_key key (records_of bytes) i (starts_for c.args.tree.key_len key (records_of bytes) i c.requires.key (c.first_place-place.ensures.place rising))
    (λ within same. c.in_default.not-Equal (c.cmp.ensures ∙ ap (λ l. slice_cmp nat_cmp l key) front ∙ same))
