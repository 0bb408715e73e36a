-- Blocks of which the last one stays open: it is put anew, with more bytes behind its own.
use Rattle.std.proofs.Common.{◌≡◌, ℕ, ◌+◌, ◌-◌, ◌*◌, ◌≤◌, List, [], ◌∷◌, ◌++◌, length, take, drop, refl, sym, ◌∙◌, ap, subst, arith, append_assoc, length-take, length-drop}
use Rattle.std.specs.Prelude.{All}
use Rattle.std.specs.Int.{w16, from_be_bytes}
use Rattle.std.specs.List.{flat_map}
use Rattle.std.proofs.Math.Seq.{take-nil, drop-nil}
use Rattle.std.proofs.lemmas.List.{append-nil, take_at, drop_at, take-append-drop, length-take-le}
use Rattle.std.proofs.lemmas.List.Concat.{flat_map-append}
use Rattle.std.proofs.lemmas.List.Elements.{All-head, All-take, All-drop}
use Rattle.log_format.specs.Block.{block_bytes, sealed, payload_of, AreBlocks}
use Rattle.log_format.proofs.Sealed.{payload-block}
use Rattle.log_format.proofs.Good.{IsSmall, length-sealed}
use Rattle.log_format.proofs.Blocks.{sealed-append, AreBlocks-append}

-- ---- the payload of one block, or of none

abbrev used : List ℕ → ℕ
used block = from_be_bytes w16 (take 2 (drop 24 block))

pub payload_none : payload_of [] ≡ []
unfolding payload_of
payload_none = ap (λ (l : List ℕ). take (used []) l) (drop-nil 28) ∙ take-nil (used [])

pub length_payload : (block : List ℕ) → length (payload_of block) ≤ length block - 28
unfolding payload_of
length_payload block = omega (arith, length-take (used block) (drop 28 block), length-drop 28 block)

payload_part : (run k : ℕ) (ps : List (List ℕ)) → All IsSmall ps → length ps ≤ 1 → payload_of (sealed run k ps) ≡ flat_map (λ (p : List ℕ). p) ps
payload_part run k [] small few = payload_none
payload_part run k (p ∷ []) small few =
    ap payload_of (append-nil (block_bytes run k p)) ∙ payload-block run k p (All-head IsSmall p [] small) ∙ sym (append-nil p)
payload_part run k (p ∷ (q ∷ ps)) small few = absurd (omega (arith, few))

-- what one block holds at most is its payload
open_payload : (run k : ℕ) (bytes : List ℕ) (n : ℕ) (block : List ℕ) → AreBlocks run k bytes n block → n ≤ 1 → payload_of block ≡ bytes
open_payload run k bytes n block are few =
    ap payload_of are.spelled ∙ payload_part run k are.parts are.small (omega (arith, few, are.count)) ∙ are.whole

-- ---- some blocks, and those behind

record AreDivided (run k : ℕ) (bytes : List ℕ) (m n : ℕ) (blocks : List ℕ) : Type 0 where
  front : List ℕ
  back : List ℕ
  whole : bytes ≡ front ++ back
  first : AreBlocks run k front m (take (512 * m) blocks)
  second : AreBlocks run (k + m) back n (drop (512 * m) blocks)

divide : (run k : ℕ) (bytes : List ℕ) (m n : ℕ) (blocks : List ℕ) → AreBlocks run k bytes (m + n) blocks → AreDivided run k bytes m n blocks
divide run k bytes m n blocks are =
    let ps = take m are.parts in
    let qs = drop m are.parts in
    let all : ps ++ qs ≡ are.parts = take-append-drop m are.parts in
    let many : length ps ≡ m = length-take-le m are.parts (omega (arith, are.count)) in
    let few : All IsSmall ps = All-take IsSmall m are.parts are.small in
    let long : length (sealed run k ps) ≡ 512 * m = length-sealed run k ps few ∙ ap (λ (j : ℕ). 512 * j) many in
    let spelled : blocks ≡ sealed run k ps ++ sealed run (k + m) qs =
    are.spelled
    ∙ ap (sealed run k) (sym all)
    ∙ sealed-append run k ps qs
    ∙ ap (λ (j : ℕ). sealed run k ps ++ sealed run (k + j) qs) many in
    record {
      front = flat_map (λ (p : List ℕ). p) ps;
      back = flat_map (λ (p : List ℕ). p) qs;
      whole = sym are.whole ∙ ap (flat_map (λ (p : List ℕ). p)) (sym all) ∙ flat_map-append (λ (p : List ℕ). p) ps qs;
      first = record {
        parts = ps;
        count = sym many;
        small = few;
        whole = refl;
        spelled = ap (take (512 * m)) spelled ∙ take_at (sealed run k ps) (sealed run (k + m) qs) (512 * m) long;
      };
      second = record {
        parts = qs;
        count = omega (arith, length-drop m are.parts, are.count);
        small = All-drop IsSmall m are.parts are.small;
        whole = refl;
        spelled = ap (drop (512 * m)) spelled ∙ drop_at (sealed run k ps) (sealed run (k + m) qs) (512 * m) long;
      };
    }

-- Some of the blocks stay, all or all but the last, and behind them stands what the last one held, with more bytes.
pub AreBlocks-more : (run k : ℕ) (bytes : List ℕ) (count : ℕ) (blocks : List ℕ) → AreBlocks run k bytes count blocks
    → (kept : ℕ) → kept ≤ count → count ≤ kept + 1 → (more : List ℕ) (n : ℕ) (put : List ℕ)
    → AreBlocks run (k + kept) (payload_of (drop (512 * kept) blocks) ++ more) n put
    → AreBlocks run k (bytes ++ more) (kept + n) (take (512 * kept) blocks ++ put)
AreBlocks-more run k bytes count blocks are kept few most more n put are_put =
    let number : count ≡ kept + (count - kept) = omega (arith, few) in
    let parts = divide run k bytes kept (count - kept) blocks (subst (λ (c : ℕ). AreBlocks run k bytes c blocks) number are) in
    let held : payload_of (drop (512 * kept) blocks) ≡ parts.back =
    open_payload run (k + kept) parts.back (count - kept) (drop (512 * kept) blocks) parts.second (omega (arith, most)) in
    let whole : parts.front ++ (payload_of (drop (512 * kept) blocks) ++ more) ≡ bytes ++ more =
    ap (λ (l : List ℕ). parts.front ++ (l ++ more)) held
    ∙ sym (append_assoc parts.front parts.back more)
    ∙ ap (λ (l : List ℕ). l ++ more) (sym parts.whole) in
    subst (λ (l : List ℕ). AreBlocks run k l (kept + n) (take (512 * kept) blocks ++ put)) whole
    (AreBlocks-append run k parts.front (payload_of (drop (512 * kept) blocks) ++ more) kept n (take (512 * kept) blocks) put parts.first are_put)
