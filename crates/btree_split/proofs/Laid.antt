-- Pages of which pieces were written over, one after another: the two halves of a split.
use Rattle.std.proofs.Common.{◌≡◌, ℕ, ◌+◌, ◌-◌, ◌*◌, ◌<◌, ◌≤◌, ◌^◌, List, [], ◌∷◌, ◌++◌, length, take, drop, inl, inr, refl, sym, ap, ◌∙◌}
use Rattle.std.proofs.Common.{append_assoc, length-append, arith}
use Rattle.std.specs.Prelude.{replicate}
use Rattle.std.specs.Int.{w16, w32, to_be_bytes}
use Rattle.std.proofs.lemmas.List.{take_at, drop_at, drop-drop, length-take-le, length-drop, length-replicate, take-replicate}
use Rattle.page_format.specs.Words.{count_of, record_len_of}
use Rattle.page_format.specs.Changes.{IsLowerHalf, IsUpperHalf}
use Rattle.page_format.specs.Shape.{HasTreeFields}
use Rattle.page_format.proofs.Edited.{ordered, first_records, last_records}
use Rattle.page_format.proofs.Headed.{Fenced, fenced, low_set, high_set, number_over, tree_over}
use Rattle.page_format.proofs.Halves.{lower, upper}

-- a piece was written over
abbrev pub Lays : ℕ → List ℕ → List ℕ → List ℕ → Type 0
Lays at piece old new = new ≡ take at old ++ (piece ++ drop (at + length piece) old)

-- the same place, piece and bytes, spelled otherwise
pub spelled : (at place : ℕ) (piece other old bytes new : List ℕ) → at ≡ place → piece ≡ other → old ≡ bytes → Lays at piece old new
    → Lays place other bytes new
spelled at place piece other old bytes new at_is piece_is old_is is =
    is ∙ (λ j. take (at_is j) (old_is j) ++ (piece_is j ++ drop (at_is j + length (piece_is j)) (old_is j)))

pub laid_length : (at : ℕ) (piece old new : List ℕ) → at + length piece ≤ length old → Lays at piece old new → length new ≡ length old
laid_length at piece old new inside is =
    ap length is
    ∙ omega (
      arith,
      length-append (take at old) (piece ++ drop (at + length piece) old),
      length-append piece (drop (at + length piece) old),
      length-take-le at old (omega (arith, inside)),
      length-drop (at + length piece) old,
      inside,
    )

pub zeros_long : (n m : ℕ) → n ≤ m → length {A = ℕ} (take n (replicate m 0)) ≡ n
zeros_long n m few = length-take-le n (replicate m 0) (omega (arith, few, length-replicate {A = ℕ} m 0))

-- zeros were written
pub laid_zeros : (at n m : ℕ) (old new : List ℕ) → n ≤ m → Lays at (take n (replicate m 0)) old new
    → new ≡ take at old ++ (replicate n 0 ++ drop (at + n) old)
laid_zeros at n m old new few is =
    let zeros : take n (replicate m 0) ≡ replicate n 0 = take-replicate n m 0 few in
    let long : length (take n (replicate m 0)) ≡ n = ap length zeros ∙ length-replicate {A = ℕ} n 0 in
    is ∙ (λ j. take at old ++ (zeros j ++ drop (at + long j) old))

-- a fence was written: its length, its bytes, and zeros behind them
pub laid_fence : (len_at at m : ℕ) (key old b1 b2 new : List ℕ) → len_at + 1 ≤ at → length key ≤ 80 → at + 80 ≤ length old → 80 ≤ m
    → Lays len_at (length key ∷ []) old b1 → Lays at key b1 b2 → Lays (at + length key) (take (80 - length key) (replicate m 0)) b2 new
    → Fenced len_at at key old new
laid_fence len_at at m key old b1 b2 new order short inside many first second third =
    let n = length key in
    let rest : 80 - n ≡ at + 80 - (at + n) = omega (arith, short) in
    let end : at + n + (80 - n) ≡ at + 80 = omega (arith, short) in
    fenced len_at at key old b1 b2 new order short inside first second
    (laid_zeros (at + n) (80 - n) m b2 new (omega (arith, many)) third ∙ (λ j. take (at + n) b2 ++ (replicate (rest j) 0 ++ drop (end j) b2)))

-- ---- the lower half

pub laid_lower : (old b1 b2 c1 c2 c3 new key : List ℕ) (i number m : ℕ) → length old ≡ 4096 → HasTreeFields old → i ≤ count_of old → length key ≤ 80
    → number < 2 ^ 32 → 4096 ≤ m
    → Lays (208 + i * record_len_of old) (take (208 + count_of old * record_len_of old - (208 + i * record_len_of old)) (replicate m 0)) old b1
    → Lays 22 (to_be_bytes w16 i) b1 b2 → Lays 35 (length key ∷ []) b2 c1 → Lays 116 key c1 c2
    → Lays (116 + length key) (take (80 - length key) (replicate m 0)) c2 c3 → Lays 28 (to_be_bytes w32 number) c3 new
    → IsLowerHalf old i key number new
laid_lower old b1 b2 c1 c2 c3 new key i number m size fields place short fits many first counted len fence pad right =
    let w = record_len_of old in
    let from = 208 + i * w in
    let to = 208 + count_of old * w in
    let order = ordered i (count_of old) w place in
    let end : from + (to - from) ≡ to = omega (arith, order) in
    let cleared : b1 ≡ take from old ++ (replicate (to - from) 0 ++ drop to old) =
    laid_zeros from (to - from) m old b1 (omega (arith, fields.inside, many)) first ∙ ap (λ k. take from old ++ (replicate (to - from) 0 ++ drop k old)) end in
    let kept = first_records old b1 b2 i size fields place cleared counted in
    let size1 : length b1 ≡ 4096 = ap length cleared ∙ omega (
      arith,
      length-append (take from old) (replicate (to - from) 0 ++ drop to old),
      length-append {A = ℕ} (replicate (to - from) 0) (drop to old),
      length-replicate {A = ℕ} (to - from) 0,
      length-take-le from old (omega (arith, size, order, fields.inside)),
      length-drop to old,
      size,
      order,
      fields.inside,
    ) in
    let size2 : length b2 ≡ 4096 = laid_length 22 (to_be_bytes w16 i) b1 b2 (omega (arith, size1)) counted ∙ size1 in
    let high = laid_fence 35 116 m key b2 c1 c2 c3 (omega arith) short (omega (arith, size2)) (omega (arith, many)) len fence pad in
    let set = high_set b2 c3 key kept.0 short high in
    let size3 : length c1 ≡ 4096 = laid_length 35 (length key ∷ []) b2 c1 (omega (arith, size2)) len ∙ size2 in
    let size4 : length c2 ≡ 4096 = laid_length 116 key c1 c2 (omega (arith, size3, short)) fence ∙ size3 in
    let few = zeros_long (80 - length key) m (omega (arith, many)) in
    let size5 : length c3 ≡ 4096 =
    laid_length (116 + length key) (take (80 - length key) (replicate m 0)) c2 c3 (omega (arith, size4, short, few)) pad ∙ size4 in
    let done = number_over c3 new 28 number fits (omega (arith, size5)) right in
    let tree = tree_over c3 new 28 (inr refl) set.0 done.1 done.2 in
    lower old b2 c3 new i key number kept.2 kept.1 set.1 set.2 high.front set.3 tree.0 tree.1 done.0 done.1 done.2

-- ---- the upper half

-- records are moved to the front, and zeros stand behind them
moved_front : (old b1 b2 moved : List ℕ) (n m at to : ℕ) → length old ≡ 4096 → 208 ≤ at → at ≤ to → to ≤ 4096 → 4096 ≤ m → moved ≡ take (to - at) (drop at old)
    → Lays 208 moved old b1 → Lays (208 + length moved) (take (at - 208) (replicate m 0)) b1 b2
    → b2 ≡ take 208 old ++ (moved ++ (replicate (at - 208) 0 ++ drop to old))
moved_front old b1 b2 moved n m at to size begins order inside many moved_is first second =
    let k = at - 208 in
    let moved_length : length moved ≡ to - at =
    ap length moved_is ∙ length-take-le (to - at) (drop at old) (omega (arith, length-drop at old, size, order, inside)) in
    let front_length : length (take 208 old) ≡ 208 = length-take-le 208 old (omega (arith, size)) in
    let whole : length (take 208 old ++ moved) ≡ 208 + length moved = omega (arith, length-append (take 208 old) moved, front_length) in
    let grouped : b1 ≡ (take 208 old ++ moved) ++ drop (208 + length moved) old =
    first ∙ sym (append_assoc (take 208 old) moved (drop (208 + length moved) old)) in
    let front : take (208 + length moved) b1 ≡ take 208 old ++ moved =
    ap (take (208 + length moved)) grouped ∙ take_at (take 208 old ++ moved) (drop (208 + length moved) old) (208 + length moved) whole in
    let behind : drop (208 + length moved) b1 ≡ drop (208 + length moved) old =
    ap (drop (208 + length moved)) grouped ∙ drop_at (take 208 old ++ moved) (drop (208 + length moved) old) (208 + length moved) whole in
    let end : 208 + length moved + k ≡ to = omega (arith, moved_length, begins, order) in
    let back : drop (208 + length moved + k) b1 ≡ drop to old =
    sym (drop-drop k (208 + length moved) b1) ∙ ap (drop k) behind ∙ drop-drop k (208 + length moved) old ∙ ap (λ p. drop p old) end in
    laid_zeros (208 + length moved) k m b1 b2 (omega (arith, many, begins, order, inside)) second
    ∙ (λ j. front j ++ (replicate k 0 ++ back j))
    ∙ append_assoc (take 208 old) moved (replicate k 0 ++ drop to old)

pub laid_upper : (old b1 b2 b3 c1 c2 c3 new key moved : List ℕ) (i number m : ℕ) → length old ≡ 4096 → HasTreeFields old → i ≤ count_of old → length key ≤ 80
    → number < 2 ^ 32 → 4096 ≤ m
    → moved ≡ take (208 + count_of old * record_len_of old - (208 + i * record_len_of old)) (drop (208 + i * record_len_of old) old)
    → Lays 208 moved old b1 → Lays (208 + length moved) (take (208 + i * record_len_of old - 208) (replicate m 0)) b1 b2
    → Lays 22 (to_be_bytes w16 (count_of old - i)) b2 b3 → Lays 34 (length key ∷ []) b3 c1 → Lays 36 key c1 c2
    → Lays (36 + length key) (take (80 - length key) (replicate m 0)) c2 c3 → Lays 8 (to_be_bytes w32 number) c3 new
    → IsUpperHalf old i key number new
laid_upper old b1 b2 b3 c1 c2 c3 new key moved i number m size fields place short fits many moved_is first second counted len fence pad named =
    let w = record_len_of old in
    let at = 208 + i * w in
    let to = 208 + count_of old * w in
    let order = ordered i (count_of old) w place in
    let shift : 208 + (at - 208) ≡ at = omega arith in
    let made : b2 ≡ take 208 old ++ (moved ++ (replicate (at - 208) 0 ++ drop to old)) =
    moved_front old b1 b2 moved 0 m at to size (omega arith) order fields.inside many moved_is first second in
    let spelled : b2 ≡ take 208 old ++ (take (to - (208 + (at - 208))) (drop (208 + (at - 208)) old) ++ (replicate (at - 208) 0 ++ drop to old)) =
    made ∙ (λ j. take 208 old ++ (moved_is j ++ (replicate (at - 208) 0 ++ drop to old)))
    ∙ (λ j. take 208 old ++ (take (to - sym shift j) (drop (sym shift j) old) ++ (replicate (at - 208) 0 ++ drop to old))) in
    let kept = last_records old b2 b3 i size fields place spelled counted in
    let moved_length : length moved ≡ to - at =
    ap length moved_is ∙ length-take-le (to - at) (drop at old) (omega (arith, length-drop at old, size, order, fields.inside)) in
    let size1 : length b1 ≡ 4096 = laid_length 208 moved old b1 (omega (arith, size, moved_length, order, fields.inside)) first ∙ size in
    let zeros = zeros_long (at - 208) m (omega (arith, many, order, fields.inside)) in
    let size2 : length b2 ≡ 4096 =
    laid_length (208 + length moved) (take (at - 208) (replicate m 0)) b1 b2 (omega (arith, size1, moved_length, zeros, order, fields.inside)) second ∙ size1 in
    let size3 : length b3 ≡ 4096 = laid_length 22 (to_be_bytes w16 (count_of old - i)) b2 b3 (omega (arith, size2)) counted ∙ size2 in
    let low = laid_fence 34 36 m key b3 c1 c2 c3 (omega arith) short (omega (arith, size3)) (omega (arith, many)) len fence pad in
    let set = low_set b3 c3 key kept.0 short low in
    let size4 : length c1 ≡ 4096 = laid_length 34 (length key ∷ []) b3 c1 (omega (arith, size3)) len ∙ size3 in
    let size5 : length c2 ≡ 4096 = laid_length 36 key c1 c2 (omega (arith, size4, short)) fence ∙ size4 in
    let few = zeros_long (80 - length key) m (omega (arith, many)) in
    let size6 : length c3 ≡ 4096 =
    laid_length (36 + length key) (take (80 - length key) (replicate m 0)) c2 c3 (omega (arith, size5, short, few)) pad ∙ size5 in
    let done = number_over c3 new 8 number fits (omega (arith, size6)) named in
    let tree = tree_over c3 new 8 (inl refl) set.0 done.1 done.2 in
    upper old b3 c3 new i key number kept.2 kept.1 set.1 set.2 low.front set.3 low.back tree.0 tree.1 done.0 done.2
