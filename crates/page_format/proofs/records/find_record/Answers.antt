use Rattle.std.proofs.Common.{◌≡◌, ◌<◌, ◌≤◌, length, drop, sym, ◌∙◌, arith}
use Rattle.page_format.specs.Words.{count_of, records_of, record_len_of}
use Rattle.page_format.proofs.Orders.{same_bytes}
use Rattle.page_format.proofs.Pieces.{length-pieces}
use Rattle.page_format.proofs.Searching.{is_greater}
use Rattle.page_format.proofs.records.find_record.Goals as goal

pub returns-then-place-read_u16 : goal.returns-then-place-read_u16
returns-then-place-read_u16 c =
    let bytes = c.args.bytes.now in
    let all : length (records_of bytes) ≡ c.read_u16.result = length-pieces (record_len_of bytes) (count_of bytes) (drop 208 bytes) ∙ sym c.read_u16.ensures in
    let end : c.count_below-place.result ≡ c.read_u16.result = c.if-place-read_u16.true in
    (c.count_below-place.ensures.below, omega (arith, all, end), λ within. absurd (omega (arith, all, end, within)))

pub returns-in-Equal : goal.returns-in-Equal
returns-in-Equal c =
    let bytes = c.args.bytes.now in
    let all : length (records_of bytes) ≡ count_of bytes = length-pieces (record_len_of bytes) (count_of bytes) (drop 208 bytes) in
    let within : c.count_below-place.result < length (records_of bytes) = omega (arith, all, c.read_u16.ensures, c.if-place-read_u16.false) in
    (c.count_below-place.ensures.below, within, same_bytes _ c.args.key.now (sym c.in-Equal.ensures))

pub returns-in_default : goal.returns-in_default
returns-in_default c =
    let bytes = c.args.bytes.now in
    let all : length (records_of bytes) ≡ count_of bytes = length-pieces (record_len_of bytes) (count_of bytes) (drop 208 bytes) in
    let within : c.count_below-place.result ≤ length (records_of bytes) = omega (arith, all) in (
      c.count_below-place.ensures.below,
      within,
      λ here. is_greater _ (c.count_below-place.ensures.next (omega (arith, all, here)))
          (λ same. c.in_default.not-Equal (c.compare_at.ensures ∙ same)),
    )
