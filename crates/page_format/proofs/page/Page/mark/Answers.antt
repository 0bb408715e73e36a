use Rattle.std.proofs.Common.{◌≡◌, ℕ, ◌<◌, List, ap, sym, ◌∙◌, map, take, drop, length, rules, arith}
use Rattle.page_format.specs.Words.{records_of, record_len_of, count_of}
use Rattle.page_format.specs.Changes.{mark_byte, with_byte}
use Rattle.page_format.proofs.Edited.{body_of}
use Rattle.page_format.proofs.Orders.{keys-with_byte, rising_by_keys}
use Rattle.page_format.proofs.Decided.{mark_is}
use Rattle.page_format.proofs.Pieces.{length-pieces}
use Rattle.page_format.proofs.page.Page.mark.Goals as goal

pub returns-clause-records : goal.returns-clause-records
returns-clause-records c =
    let byte : c.from.result ≡ mark_byte c.args.on = c.from.ensures ∙ mark_is c.args.on in
    let old : c.args.self.now ≡ c.self.inside.bytes = cc (c.self.view_is) in
    c.mark_record.ensures.records ∙ (λ j. with_byte c.args.i c.args.key_len (byte j) (records_of (sym old j)))

pub returns-clause-keys : goal.returns-clause-keys
returns-clause-keys c =
    let same : c.args.self.now ≡ c.self.inside.bytes = cc (c.self.view_is) in
    let old = c.self.inside.bytes in
    let place : c.args.i < count_of old = rw same at c.requires.place in
    ap (map (take c.args.key_len)) c.mark_record.ensures.records ∙ keys-with_byte c.args.i c.args.key_len c.from.result (records_of old) (omega (arith, place, length-pieces (record_len_of old) (count_of old) (drop 208 old))) ∙ ap (λ (l : List ℕ). map (take c.args.key_len) (records_of l)) (sym same)

pub returns-clause-order : goal.returns-clause-order
returns-clause-order c = λ r.
    let new = c.mark_record.new.bytes in
    let size : length new ≡ 4096 = search rules in
    rising_by_keys (record_len_of new) c.args.key_len (records_of new) (body_of new size c.mark_record.ensures.fields).wide (rw (returns-clause-keys c) r)
