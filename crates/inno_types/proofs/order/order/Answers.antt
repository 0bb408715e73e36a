use Rattle.std.proofs.Common.{◌≡◌, ◌+◌, ◌*◌, ◌/◌, ◌<◌, ◌≤◌, ◌++◌, min, ℕ, List, [], length, take, drop, slice_index_or, sym, ap, ◌∙◌, arith}
use Rattle.std.proofs.Math.Seq.{take-add}
use Rattle.std.specs.Int.{w64, to_be_bytes}
use Rattle.std.specs.Ordering.{nat_cmp}
use Rattle.std.specs.Cmp.Lexicographic.{slice_cmp}
use Rattle.inno_types.proofs.Fronts.{behind_alike}
use Rattle.inno_types.proofs.Words.{chunk_is, words_decide}
use Rattle.inno_types.proofs.order.order.Goals as goal

pub returns-then-word-other_word : goal.returns-then-word-other_word
returns-then-word-other_word c =
    let a = c.args.bytes.now in
    let b = c.args.other.now in
    let i = c.loop-i.i in
    let test : i < c.min-both.result = c.loop-i-test.true in
    let both : c.min-both.result ≡ min (length c.as_chunks.result.0.now) (length c.as_chunks-2.result.0.now) = c.min-both.ensures in
    let long : length c.as_chunks.result.0.now ≡ length a / 8 = c.as_chunks.ensures.front_len in
    let long_b : length c.as_chunks-2.result.0.now ≡ length b / 8 = c.as_chunks-2.ensures.front_len in
    let first = c.number_of-word.ensures
    ∙ (ap (λ (l : List (List ℕ)). slice_index_or l i []) c.as_chunks.ensures.front
    ∙ chunk_is i (length a / 8) a (omega (arith, test, both, long)))
    in
    let second = c.number_of-other_word.ensures
    ∙ (ap (λ (l : List (List ℕ)). slice_index_or l i []) c.as_chunks-2.ensures.front
    ∙ chunk_is i (length b / 8) b (omega (arith, test, both, long_b)))
    in
    c.cmp.ensures
    ∙ words_decide (8 * i) c.number_of-word.result c.number_of-other_word.result a b c.loop-i.invariant first second c.number_of-word.type_inv
    c.number_of-other_word.type_inv c.if-word-other_word.true

pub loop-i-preserved : goal.loop-i-preserved
loop-i-preserved c =
    let a = c.args.bytes.now in
    let b = c.args.other.now in
    let i = c.loop-i.i in
    let test : i < c.min-both.result = c.loop-i-test.true in
    let both : c.min-both.result ≡ min (length c.as_chunks.result.0.now) (length c.as_chunks-2.result.0.now) = c.min-both.ensures in
    let long : length c.as_chunks.result.0.now ≡ length a / 8 = c.as_chunks.ensures.front_len in
    let long_b : length c.as_chunks-2.result.0.now ≡ length b / 8 = c.as_chunks-2.ensures.front_len in
    let first = c.number_of-word.ensures
    ∙ (ap (λ (l : List (List ℕ)). slice_index_or l i []) c.as_chunks.ensures.front
    ∙ chunk_is i (length a / 8) a (omega (arith, test, both, long)))
    in
    let second = c.number_of-other_word.ensures
    ∙ (ap (λ (l : List (List ℕ)). slice_index_or l i []) c.as_chunks-2.ensures.front
    ∙ chunk_is i (length b / 8) b (omega (arith, test, both, long_b)))
    in
    let same : take 8 (drop (8 * i) a) ≡ take 8 (drop (8 * i) b) = sym first ∙ (ap (λ (n : ℕ). to_be_bytes w64 n) c.if-word-other_word.false ∙ second) in
    let next : 8 * (i + 1) ≡ 8 * i + 8 = omega arith in
    ap (λ (n : ℕ). take n a) next ∙ (take-add (8 * i) 8 a
    ∙ (ap (λ (l : List ℕ). l ++ take 8 (drop (8 * i) a)) c.loop-i.invariant
    ∙ (ap (λ (l : List ℕ). take (8 * i) b ++ l) same ∙ (sym (take-add (8 * i) 8 b) ∙ ap (λ (n : ℕ). take n b) (sym next)))))

pub returns : goal.returns
returns c =
    let a = c.args.bytes.now in
    let b = c.args.other.now in
    let done : c.min-both.result ≤ c.loop-i.i = c.loop-i-test.false in
    let most : c.loop-i.i ≤ c.min-both.result = c.loop-i.auto.i-end in
    let all : c.loop-i.i ≡ c.min-both.result = omega (arith, done, most) in
    let alike = c.loop-i.invariant in
    let n : 8 * c.loop-i.i ≡ 8 * c.min-both.result = ap (λ (k : ℕ). 8 * k) all in
    c.cmp-2.ensures
    ∙ (ap (λ (l : List ℕ). slice_cmp nat_cmp l c.split_at-2.result.1.now) (c.split_at.ensures.back ∙ ap (λ (k : ℕ). drop k a) (sym n))
    ∙ (ap (λ (l : List ℕ). slice_cmp nat_cmp (drop (8 * c.loop-i.i) a) l) (c.split_at-2.ensures.back ∙ ap (λ (k : ℕ). drop k b) (sym n))
    ∙ behind_alike (8 * c.loop-i.i) a b alike))
