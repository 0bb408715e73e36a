use Rattle.std.proofs.Common.{◌≡◌, ◌<◌, is_lt, length, drop, take, map, sym, ◌∙◌, ap, subst, arith}
use Rattle.std.specs.Ordering.{nat_cmp}
use Rattle.std.specs.Cmp.Lexicographic.{slice_cmp}
use Rattle.std.specs.declared.cmp.Ordering.TheVariants.{Less}
use Rattle.std.proofs.lemmas.Bool.{false≢true}
use Rattle.std.proofs.lemmas.List.{take_all}
use Rattle.page_format.specs.Words.{count_of, record_len_of, records_of}
use Rattle.page_format.specs.Shape.{AreRising}
use Rattle.page_format.proofs.Pieces.{length-pieces}
use Rattle.tree_check.proofs.Nodes.{start, one_more, falls, is_less}
use Rattle.tree_check.proofs.node.keys_rise.Goals as goal

pub loop-i-init : goal.loop-i-init
loop-i-init c = record { some = omega arith; rising = start c.args.tree.key_len (records_of c.args.bytes.now) }

pub returns-then-not-is_lt : goal.returns-then-not-is_lt
returns-then-not-is_lt c = λ rising.
    let bytes = c.args.bytes.now in
    let n = c.args.tree.key_len in
    let all : length (records_of bytes) ≡ count_of bytes = length-pieces (record_len_of bytes) (count_of bytes) (drop 208 bytes) in
    let within : c.loop-i.i < length (records_of bytes) = omega (arith, c.loop-i-test.true, c.read_u16-i-end.ensures, all) in
    let less = falls n c.loop-i.i (records_of bytes) c.loop-i.invariant.some within rising in
    let cmp : c.cmp.result ≡ Less = c.cmp.ensures ∙ (λ j. slice_cmp nat_cmp (c.key_at.ensures j) (c.key_at-in-loop-i.ensures j)) ∙ less in
    absurd (false≢true (sym c.if-not-is_lt.true ∙ c.is_lt.ensures ∙ ap is_lt cmp))

pub loop-i-preserved : goal.loop-i-preserved
loop-i-preserved c =
    let bytes = c.args.bytes.now in
    let n = c.args.tree.key_len in
    let all : length (records_of bytes) ≡ count_of bytes = length-pieces (record_len_of bytes) (count_of bytes) (drop 208 bytes) in
    let within : c.loop-i.i < length (records_of bytes) = omega (arith, c.loop-i-test.true, c.read_u16-i-end.ensures, all) in
    let less : c.cmp.result ≡ Less = is_less c.cmp.result (sym c.is_lt.ensures ∙ c.if-not-is_lt.false) in
    record {
      some = omega arith;
      rising = one_more n c.loop-i.i (records_of bytes) c.loop-i.invariant.some within c.loop-i.invariant.rising
          (sym (c.cmp.ensures ∙ (λ j. slice_cmp nat_cmp (c.key_at.ensures j) (c.key_at-in-loop-i.ensures j))) ∙ less);
    }

pub returns : goal.returns
returns c =
    let bytes = c.args.bytes.now in
    let all : length (records_of bytes) ≡ count_of bytes = length-pieces (record_len_of bytes) (count_of bytes) (drop 208 bytes) in
    subst (λ rs. AreRising (map (take c.args.tree.key_len) rs))
    (take_all c.loop-i.i (records_of bytes) (omega (arith, c.loop-i-test.false, c.read_u16-i-end.ensures, all))) c.loop-i.invariant.rising
