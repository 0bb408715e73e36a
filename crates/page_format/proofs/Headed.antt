-- Fields in front of the records that are written over.
use Rattle.std.proofs.Common.{◌≡◌, ◌⊎◌, inl, inr, ℕ, ◌+◌, ◌-◌, ◌*◌, ◌^◌, ◌<◌, ◌≤◌, eqb, List, [], ◌∷◌, ◌++◌, length, take, drop, get_or, Some, refl, sym, ap, ◌∙◌, length-append, arith}
use Rattle.std.specs.Prelude.{slice_index, replicate, if◌then◌else◌, ◌==◌}
use Rattle.std.specs.Int.{w16, w32, from_be_bytes, to_be_bytes}
use Rattle.std.proofs.lemmas.Bool.{ne_eqb, cond-false}
use Rattle.std.proofs.lemmas.List.{take_at, drop_at, take-take, drop-take, drop-drop, length-take-le, length-drop, length-replicate}
use Rattle.std.proofs.lemmas.List.Elements.{All-replicate}
use Rattle.std.proofs.lemmas.Nat.{from_be_bytes-to_be_bytes_4}
use Rattle.page_format.specs.Words.{kind_of, level_of, count_of, record_len_of, records_of, low_of, high_of, pieces, fence}
use Rattle.stored_pages.specs.Words.{u16_at, u32_at}
use Rattle.page_format.specs.Shape.{AreZeros, HasTreeFields, IsFence, fence_width}
use Rattle.stored_pages.proofs.Sealed.{back_part}
use Rattle.page_format.proofs.Edited.{same_part, same_byte, byte_is}

-- parts of equal ends are equal
pub back_byte : (a b : List ℕ) (to at : ℕ) → to ≤ at → drop to a ≡ drop to b → get_or a at 0 ≡ get_or b at 0
back_byte a b to at behind e = byte_is a at ∙ ap (λ (l : List ℕ). get_or l 0 0) (back_part a b to at 1 behind e) ∙ sym (byte_is b at)

pub back_more : (a b : List ℕ) (to at : ℕ) → to ≤ at → drop to a ≡ drop to b → drop at a ≡ drop at b
back_more a b to at behind e =
    let place : to + (at - to) ≡ at = omega (arith, behind) in
    ap (λ (k : ℕ). drop k a) (sym place) ∙ sym (drop-drop (at - to) to a) ∙ ap (drop (at - to)) e ∙ drop-drop (at - to) to b ∙ ap (λ (k : ℕ). drop k b) place

-- bytes of which a piece was written over
pub record Over (at to : ℕ) (piece old new : List ℕ) : Type 0 where
  pub front : take at new ≡ take at old
  pub here : take (length piece) (drop at new) ≡ piece
  pub back : drop to new ≡ drop to old
  pub size : length new ≡ length old

pub over : (at to : ℕ) (piece old new : List ℕ) → at + length piece ≡ to → to ≤ length old → new ≡ take at old ++ (piece ++ drop to old) → Over at to piece old new
over at to piece old new to_is inside new_is =
    let n = length piece in
    let front_length : length (take at old) ≡ at = length-take-le at old (omega (arith, to_is, inside)) in
    let behind : drop at new ≡ piece ++ drop to old = ap (drop at) new_is ∙ drop_at (take at old) (piece ++ drop to old) at front_length in
    record {
      front = ap (take at) new_is ∙ take_at (take at old) (piece ++ drop to old) at front_length;
      here = ap (take n) behind ∙ take_at piece (drop to old) n refl;
      back = ap (λ (k : ℕ). drop k new) (sym to_is) ∙ sym (drop-drop n at new) ∙ ap (drop n) behind ∙ drop_at piece (drop to old) n refl;
      size = ap length new_is ∙ omega (arith, length-append (take at old) (piece ++ drop to old), length-append piece (drop to old), front_length, length-drop to old, to_is, inside);
    }

-- The words that a tree page's shape and records hang on are the same, its fences aside.
pub record SameWords (old new : List ℕ) : Type 0 where
  pub kind : kind_of new ≡ kind_of old
  pub level : level_of new ≡ level_of old
  pub count : count_of new ≡ count_of old
  pub width : record_len_of new ≡ record_len_of old
  pub body : drop 196 new ≡ drop 196 old

pub tree_from : (old new : List ℕ) → HasTreeFields old → SameWords old new → IsFence (slice_index new 34) (take 80 (drop 36 new)) → IsFence (slice_index new 35) (take 80 (drop 116 new)) → HasTreeFields new × (records_of new ≡ records_of old)
tree_from old new fields same low high =
    let used : count_of new * record_len_of new ≡ count_of old * record_len_of old = λ i. same.count i * same.width i in
    let body : drop 208 new ≡ drop 208 old = back_more new old 196 208 (omega arith) same.body in
    let rest : drop (208 + count_of new * record_len_of new) new ≡ drop (208 + count_of old * record_len_of old) old = ap (λ (k : ℕ). drop (208 + k) new) used ∙ back_more new old 196 (208 + count_of old * record_len_of old) (omega arith) same.body in (
      record {
        level = same.kind ∙ fields.level ∙ ap (λ (l : ℕ). if l == 0 then 3 else 4) (sym same.level);
        depth = omega (arith, same.level, fields.depth);
        width = omega (arith, same.width, fields.width);
        inside = rw used fields.inside;
        low = low;
        high = high;
        gap = rw (ap (take 12) same.body) fields.gap;
        rest = rw rest fields.rest;
      },
      λ i. pieces (same.width i) (same.count i) (body i),
    )

-- a number of four bytes in front of the fences
pub tree_over : (old new : List ℕ) (at : ℕ) → (at ≡ 8) ⊎ (at ≡ 28) → HasTreeFields old → take at new ≡ take at old → drop (at + 4) new ≡ drop (at + 4) old → HasTreeFields new × (records_of new ≡ records_of old)
unfolding u16_at
tree_over old new at (inl first) fields front back =
    let back' : drop 12 new ≡ drop 12 old = rw first at back in
    tree_from old new fields (record {
      kind = back_byte new old 12 20 (omega arith) back';
      level = back_byte new old 12 21 (omega arith) back';
      count = ap (from_be_bytes w16) (back_part new old 12 22 2 (omega arith) back');
      width = ap (from_be_bytes w16) (back_part new old 12 32 2 (omega arith) back');
      body = back_more new old 12 196 (omega arith) back';
    }) (rw (back_byte new old 12 34 (omega arith) back', back_part new old 12 36 80 (omega arith) back') fields.low) (rw (back_byte new old 12 35 (omega arith) back', back_part new old 12 116 80 (omega arith) back') fields.high)
tree_over old new at (inr second) fields front back =
    let back' : drop 32 new ≡ drop 32 old = rw second at back in
    let front' : take 28 new ≡ take 28 old = rw second at front in
    tree_from old new fields (record {
      kind = same_byte new old 20 28 (omega arith) front';
      level = same_byte new old 21 28 (omega arith) front';
      count = ap (from_be_bytes w16) (same_part new old 22 2 28 (omega arith) front');
      width = ap (from_be_bytes w16) (back_part new old 32 32 2 (omega arith) back');
      body = back_more new old 32 196 (omega arith) back';
    }) (rw (back_byte new old 32 34 (omega arith) back', back_part new old 32 36 80 (omega arith) back') fields.low) (rw (back_byte new old 32 35 (omega arith) back', back_part new old 32 116 80 (omega arith) back') fields.high)

pub number_over : (old new : List ℕ) (at n : ℕ) → n < 2 ^ 32 → at + 4 ≤ length old → new ≡ take at old ++ (to_be_bytes w32 n ++ drop (at + 4) old) → (u32_at at new ≡ n) × (take at new ≡ take at old) × (drop (at + 4) new ≡ drop (at + 4) old)
unfolding u32_at
number_over old new at n fits inside new_is =
    let done = over at (at + 4) (to_be_bytes w32 n) old new refl inside new_is in
    (ap (from_be_bytes w32) done.here ∙ from_be_bytes-to_be_bytes_4 n fits, done.front, done.back)

-- ---- fences

-- a fence that was written: its length, the key, and zeros behind it
pub record Fenced (len_at at : ℕ) (key old new : List ℕ) : Type 0 where
  pub front : take len_at new ≡ take len_at old
  pub len : get_or new len_at 0 ≡ length key
  pub between : (p size : ℕ) → len_at + 1 ≤ p → p + size ≤ at → take size (drop p new) ≡ take size (drop p old)
  pub here : take (length key) (drop at new) ≡ key
  pub zeros : AreZeros (drop (length key) (take 80 (drop at new)))
  pub back : drop (at + 80) new ≡ drop (at + 80) old

pub fenced : (len_at at : ℕ) (key old b1 b2 new : List ℕ) → len_at + 1 ≤ at → length key ≤ 80 → at + 80 ≤ length old → b1 ≡ take len_at old ++ ((length key ∷ []) ++ drop (len_at + 1) old)
    → b2 ≡ take at b1 ++ (key ++ drop (at + length key) b1) → new ≡ take (at + length key) b2 ++ (replicate (at + 80 - (at + length key)) 0 ++ drop (at + 80) b2) → Fenced len_at at key old new
fenced len_at at key old b1 b2 new order short inside first second third =
    let n = length key in
    let zeros : List ℕ = replicate (at + 80 - (at + n)) 0 in
    let zeros_length : length zeros ≡ at + 80 - (at + n) = length-replicate {A = ℕ} (at + 80 - (at + n)) 0 in
    let one = over len_at (len_at + 1) (length key ∷ []) old b1 refl (omega (arith, order, inside)) first in
    let two = over at (at + n) key b1 b2 refl (omega (arith, short, inside, one.size)) second in
    let three = over (at + n) (at + 80) zeros b2 new (omega (arith, zeros_length, short)) (omega (arith, inside, one.size, two.size)) third in
    let front_2 : take at new ≡ take at b2 = sym (take-take at (at + n) new (omega arith)) ∙ ap (take at) three.front ∙ take-take at (at + n) b2 (omega arith) in
    let front_1 : take at new ≡ take at b1 = front_2 ∙ two.front in
    let whole : n + (80 - n) ≡ 80 = omega (arith, short) in
    let rest : at + 80 - (at + n) ≡ 80 - n = omega (arith, short) in
    let cut : drop n (take 80 (drop at new)) ≡ zeros =
    ap (λ (k : ℕ). drop n (take k (drop at new))) (sym whole) ∙ drop-take n (80 - n) (drop at new) ∙ ap (take (80 - n)) (drop-drop n at new) ∙ ap (λ (k : ℕ). take k (drop (at + n) new)) (sym (zeros_length ∙ rest)) ∙ three.here in
    record {
      front = sym (take-take len_at at new (omega (arith, order))) ∙ ap (take len_at) front_1 ∙ take-take len_at at b1 (omega (arith, order)) ∙ one.front;
      len = same_byte new b1 len_at at (omega (arith, order)) front_1 ∙ byte_is b1 len_at ∙ ap (λ (l : List ℕ). get_or l 0 0) one.here;
      between = λ p size low high. same_part new b1 p size at high front_1 ∙ back_part b1 old (len_at + 1) p size low one.back;
      here = same_part new b2 at n (at + n) (omega arith) three.front ∙ two.here;
      zeros = rw cut (All-replicate (λ (b : ℕ). b ≡ 0) (at + 80 - (at + n)) 0 refl);
      back = three.back ∙ back_more b2 b1 (at + n) (at + 80) (omega (arith, short)) two.back ∙ back_more b1 old (len_at + 1) (at + 80) (omega (arith, order)) one.back;
    }

plain_width : (n : ℕ) → n ≤ 80 → fence_width n ≡ n
plain_width n short = cond-false (eqb n 255) 0 n (ne_eqb n 255 (λ e. omega (arith, short, e)))

pub is_fence : (len : ℕ) (key part : List ℕ) → len ≡ length key → length key ≤ 80 → AreZeros (drop (length key) part) → IsFence len part
is_fence len key part len_is short zeros =
    let width : fence_width len ≡ length key = ap fence_width len_is ∙ plain_width (length key) short in
    record { fits = rw width short; padded = rw width zeros }

pub fence_is : (len : ℕ) (key part : List ℕ) → len ≡ length key → length key ≤ 80 → take (length key) part ≡ key → fence len part ≡ Some key
fence_is len key part len_is short here =
    ap (λ (n : ℕ). fence n part) len_is ∙ cond-false (eqb (length key) 255) _ (Some (take (length key) part)) (ne_eqb (length key) 255 (λ e. omega (arith, short, e))) ∙ ap (λ (l : List ℕ). Some l) here

pub low_set : (old new key : List ℕ) → HasTreeFields old → length key ≤ 80 → Fenced 34 36 key old new → HasTreeFields new × (records_of new ≡ records_of old) × (low_of new ≡ Some key) × (slice_index new 35 ≡ slice_index old 35)
unfolding u16_at
low_set old new key fields short f =
    let high_len : slice_index new 35 ≡ slice_index old 35 = byte_is new 35 ∙ ap (λ (l : List ℕ). get_or l 0 0) (f.between 35 1 (omega arith) (omega arith)) ∙ sym (byte_is old 35) in
    let high : take 80 (drop 116 new) ≡ take 80 (drop 116 old) = ap (take 80) f.back in
    let tree = tree_from old new fields (record {
      kind = same_byte new old 20 34 (omega arith) f.front;
      level = same_byte new old 21 34 (omega arith) f.front;
      count = ap (from_be_bytes w16) (same_part new old 22 2 34 (omega arith) f.front);
      width = ap (from_be_bytes w16) (same_part new old 32 2 34 (omega arith) f.front);
      body = back_more new old 116 196 (omega arith) f.back;
    }) (is_fence (slice_index new 34) key (take 80 (drop 36 new)) f.len short f.zeros) (rw (high_len, high) fields.high) in
    let here : take (length key) (take 80 (drop 36 new)) ≡ key = take-take (length key) 80 (drop 36 new) short ∙ f.here in
    (tree.0, tree.1, fence_is (slice_index new 34) key (take 80 (drop 36 new)) f.len short here, high_len)

pub high_set : (old new key : List ℕ) → HasTreeFields old → length key ≤ 80 → Fenced 35 116 key old new → HasTreeFields new × (records_of new ≡ records_of old) × (high_of new ≡ Some key) × (take 80 (drop 36 new) ≡ take 80 (drop 36 old))
unfolding u16_at
high_set old new key fields short f =
    let low_len : slice_index new 34 ≡ slice_index old 34 = same_byte new old 34 35 (omega arith) f.front in
    let low : take 80 (drop 36 new) ≡ take 80 (drop 36 old) = f.between 36 80 (omega arith) (omega arith) in
    let tree = tree_from old new fields (record {
      kind = same_byte new old 20 35 (omega arith) f.front;
      level = same_byte new old 21 35 (omega arith) f.front;
      count = ap (from_be_bytes w16) (same_part new old 22 2 35 (omega arith) f.front);
      width = ap (from_be_bytes w16) (same_part new old 32 2 35 (omega arith) f.front);
      body = f.back;
    }) (rw (low_len, low) fields.low) (is_fence (slice_index new 35) key (take 80 (drop 116 new)) f.len short f.zeros) in
    let here : take (length key) (take 80 (drop 116 new)) ≡ key = take-take (length key) 80 (drop 116 new) short ∙ f.here in
    (tree.0, tree.1, fence_is (slice_index new 35) key (take 80 (drop 116 new)) f.len short here, low)
