-- Blocks that stand one behind the other.
use Rattle.std.proofs.Common.{◌≡◌, ◌⊎◌, inl, inr, ℕ, suc, ◌+◌, ◌<◌, ◌≤◌, min, List, [], ◌∷◌, ◌++◌, length, refl, sym, ◌∙◌, ap, subst, arith, add-zero, append_assoc, length-append}
use Rattle.std.proofs.lemmas.List.{append-nil, nil_from_length}
use Rattle.std.proofs.lemmas.List.Concat.{flat_map-append}
use Rattle.std.proofs.lemmas.List.Elements.{All-nil, All-cons, All-append}
use Rattle.log_format.specs.Block.{block_bytes, sealed, AreBlocks, blocks_for}

pub sealed-append : (run k : ℕ) (ps qs : List (List ℕ)) → sealed run k (ps ++ qs) ≡ sealed run k ps ++ sealed run (k + length ps) qs
sealed-append run k [] qs = ap (λ (n : ℕ). sealed run n qs) (sym (add-zero k))
sealed-append run k (p ∷ ps) qs =
    let number : (k + 1) + length ps ≡ k + suc (length ps) = omega arith in
    ap (λ (l : List ℕ). block_bytes run k p ++ l) (sealed-append run (k + 1) ps qs ∙ ap (λ (n : ℕ). sealed run (k + 1) ps ++ sealed run n qs) number)
    ∙ sym (append_assoc (block_bytes run k p) (sealed run (k + 1) ps) (sealed run (k + suc (length ps)) qs))

pub AreBlocks-none : (run k : ℕ) → AreBlocks run k [] 0 []
AreBlocks-none run k = record { parts = []; count = refl; small = All-nil (λ (part : List ℕ). length part ≤ 484); whole = refl; spelled = refl }

pub AreBlocks-one : (run k : ℕ) (part : List ℕ) → length part ≤ 484 → AreBlocks run k part 1 (block_bytes run k part)
AreBlocks-one run k part small = record {
  parts = part ∷ [];
  count = refl;
  small = All-cons (λ (p : List ℕ). length p ≤ 484) part [] small (All-nil (λ (p : List ℕ). length p ≤ 484));
  whole = append-nil part;
  spelled = sym (append-nil (block_bytes run k part));
}

pub AreBlocks-append : (run k : ℕ) (xs ys : List ℕ) (m n : ℕ) (us vs : List ℕ) → AreBlocks run k xs m us → AreBlocks run (k + m) ys n vs → AreBlocks run k (xs ++ ys) (m + n) (us ++ vs)
AreBlocks-append run k xs ys m n us vs first second = record {
  parts = first.parts ++ second.parts;
  count = omega (arith, first.count, second.count, length-append first.parts second.parts);
  small = All-append (λ (p : List ℕ). length p ≤ 484) first.parts second.parts first.small second.small;
  whole = flat_map-append (λ p. p) first.parts second.parts ∙ (λ i. first.whole i ++ second.whole i);
  spelled =
      (λ i. first.spelled i ++ second.spelled i)
      ∙ ap (λ (j : ℕ). sealed run k first.parts ++ sealed run (k + j) second.parts) first.count
      ∙ sym (sealed-append run k first.parts second.parts);
}

-- the blocks of what is done stand behind what stood there, and what is left
pub record BlocksSoFar (run k : ℕ) (bytes before : List ℕ) (count : ℕ) (rest out : List ℕ) : Type 0 where
  pub done : List ℕ
  pub blocks : List ℕ
  pub are : AreBlocks run k done count blocks
  pub parts : bytes ≡ done ++ rest
  pub number : count + blocks_for (length rest) ≡ blocks_for (length bytes)
  pub whole : out ≡ before ++ blocks

pub none_so_far : (run k : ℕ) (bytes before : List ℕ) → BlocksSoFar run k bytes before 0 bytes before
none_so_far run k bytes before = record { done = []; blocks = []; are = AreBlocks-none run k; parts = refl; number = omega arith; whole = sym (append-nil before) }

pub one_more : (run k : ℕ) (bytes before : List ℕ) (count : ℕ) (rest out part after : List ℕ) → BlocksSoFar run k bytes before count rest out → 0 < length rest → length part ≡ min (length rest) 484 → rest ≡ part ++ after
    → BlocksSoFar run k bytes before (count + 1) after (out ++ block_bytes run (k + count) part)
one_more run k bytes before count rest out part after so_far some size split =
    let block = block_bytes run (k + count) part in
    record {
      done = so_far.done ++ part;
      blocks = so_far.blocks ++ block;
      are = AreBlocks-append run k so_far.done part count 1 so_far.blocks block so_far.are (AreBlocks-one run (k + count) part (omega (arith, size)));
      parts = so_far.parts ∙ ap (λ (r : List ℕ). so_far.done ++ r) split ∙ sym (append_assoc so_far.done part after);
      number = omega (arith, so_far.number, size, some, ap length split, length-append part after);
      whole = ap (λ (o : List ℕ). o ++ block) so_far.whole ∙ append_assoc before so_far.blocks block;
    }

pub all_done : (run k : ℕ) (bytes before : List ℕ) (count : ℕ) (rest out : List ℕ) → BlocksSoFar run k bytes before count rest out → length rest ≡ 0
    → ((blocks : List ℕ) × AreBlocks run k bytes count blocks × (out ≡ before ++ blocks)) × (count ≡ blocks_for (length bytes))
all_done run k bytes before count rest out so_far none =
    let nothing : rest ≡ [] = nil_from_length rest none in
    let all : so_far.done ≡ bytes = sym (so_far.parts ∙ ap (λ (r : List ℕ). so_far.done ++ r) nothing ∙ append-nil so_far.done) in
    ((so_far.blocks, subst (λ (l : List ℕ). AreBlocks run k l count so_far.blocks) all so_far.are, so_far.whole), omega (arith, so_far.number, none))

-- A block's payload is what fits of the first list, and then of the second: the first is done with before the second is begun.
pub both_split : (first rest front first_after back after : List ℕ) → first ≡ front ++ first_after → rest ≡ back ++ after
    → (length first_after ≡ 0) ⊎ (length back ≡ 0) → first ++ rest ≡ (front ++ back) ++ (first_after ++ after)
both_split first rest front first_after back after first_is rest_is (inl none) =
    let nothing : first_after ≡ [] = nil_from_length first_after none in
    let all : first ≡ front = first_is ∙ ap (λ (l : List ℕ). front ++ l) nothing ∙ append-nil front in
    (λ i. all i ++ rest_is i)
    ∙ sym (append_assoc front back after)
    ∙ ap (λ (l : List ℕ). (front ++ back) ++ (l ++ after)) (sym nothing)
both_split first rest front first_after back after first_is rest_is (inr none) =
    let nothing : back ≡ [] = nil_from_length back none in
    let all : rest ≡ after = rest_is ∙ ap (λ (l : List ℕ). l ++ after) nothing in
    (λ i. first_is i ++ all i)
    ∙ append_assoc front first_after after
    ∙ ap (λ (l : List ℕ). l ++ (first_after ++ after)) (sym (append-nil front) ∙ ap (λ (l : List ℕ). front ++ l) (sym nothing))
