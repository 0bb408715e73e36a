use Rattle.std.proofs.Common.{◌≡◌, ℕ, ◌+◌, ◌-◌, ◌≤◌, ◌++◌, suc, List, length, take, drop, ap, ◌∙◌, arith}
use Rattle.std.specs.Prelude.{replicate}
use Rattle.std.proofs.lemmas.List.{length-take-le, length-drop}
use Rattle.page_format.specs.Words.{count_of, record_len_of}
use Rattle.page_format.proofs.Edited.{ordered}
use Rattle.btree_change.specs.Edits.{begin_of}
use Rattle.btree_change.proofs.Bytes.{zeros_behind}
use Rattle.btree_change.proofs.edit.Edit.removal.Goals as goal

pub returns : goal.returns
returns c =
    let bytes = c.args.bytes.now in
    let w = c.from-width.result in
    let from = c.begin_of-at.result in
    let to = c.begin_of-end.result in
    let width : w ≡ record_len_of bytes = c.from-width.ensures ∙ c.read_u16.ensures in
    let at : from ≡ begin_of c.args.i bytes = c.begin_of-at.ensures in
    let end : to ≡ begin_of (count_of bytes) bytes = c.begin_of-end.ensures ∙ ap (λ k. begin_of k bytes) c.read_u16-count.ensures in
    let moved : List ℕ = take (to - (from + w)) (drop (from + w) bytes) in
    let order = ordered (suc c.args.i) (count_of bytes) (record_len_of bytes) (omega arith) in
    let next : from + w ≤ to = omega (arith, order, at, end, width) in
    let inside : to ≤ 4096 = omega (arith, c.requires.inside, end) in
    let begins : 208 ≤ from = omega (arith, at) in
    let long : length moved ≡ to - (from + w) =
    length-take-le (to - (from + w)) (drop (from + w) bytes) (omega (arith, length-drop (from + w) bytes, c.requires.size, inside)) in
    let whole : c.lay-moved.result ≡ length moved = c.lay-moved.ensures.end ∙ omega arith in
    record {
      at = at;
      piece =
          ap (λ k. take (k + w) c.lay-moved.new.into) whole
          ∙ zeros_behind 3888 w moved c.lay-moved.new.into (omega (arith, long, next, inside, begins)) c.lay-moved.ensures.whole
          ∙ (λ j. take (end j - (at j + width j)) (drop (at j + width j) bytes) ++ replicate (width j) 0);
      count = ap (λ k. k - 1) c.read_u16-count.ensures;
    }
