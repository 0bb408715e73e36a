-- Two edits of bytes one after the other.
use Rattle.std.proofs.Common.{◌≡◌, ℕ, ◌+◌, ◌-◌, ◌≤◌, List, ◌++◌, length, take, drop, sym, ap, ◌∙◌, append_assoc, length-append, arith}
use Rattle.std.specs.Prelude.{replicate}
use Rattle.std.proofs.lemmas.List.{take_at, drop_at, take-take, drop-drop, take-append-le, length-take-le, length-drop}

pub inserted : (b b1 b2 piece : List ℕ) (at end : ℕ) → at ≤ end → end + length piece ≤ length b → b1 ≡ take (at + length piece) b ++ (take (end - at) (drop at b) ++ drop (at + length piece + (end - at)) b)
    → b2 ≡ take at b1 ++ (piece ++ drop (at + length piece) b1) → b2 ≡ take at b ++ (piece ++ (take (end - at) (drop at b) ++ drop (end + length piece) b))
inserted b b1 b2 piece at end order room first second =
    let n = length piece in
    let long : length (take (at + n) b) ≡ at + n = length-take-le (at + n) b (omega (arith, order, room)) in
    let tail = take (end - at) (drop at b) ++ drop (at + n + (end - at)) b in
    let front : take at b1 ≡ take at b = ap (take at) first ∙ take-append-le at (take (at + n) b) tail (omega (arith, long)) ∙ take-take at (at + n) b (omega arith) in
    let back : drop (at + n) b1 ≡ tail = ap (drop (at + n)) first ∙ drop_at (take (at + n) b) tail (at + n) long in
    let end_is : at + n + (end - at) ≡ end + n = omega (arith, order) in
    second ∙ (λ i. front i ++ (piece ++ back i)) ∙ ap (λ (k : ℕ). take at b ++ (piece ++ (take (end - at) (drop at b) ++ drop k b))) end_is

pub removed : (b b1 b2 : List ℕ) (at end len : ℕ) → at + len ≤ end → end ≤ length b → b1 ≡ take at b ++ (take (end - (at + len)) (drop (at + len) b) ++ drop (at + (end - (at + len))) b)
    → b2 ≡ take (end - len) b1 ++ (replicate (end - (end - len)) 0 ++ drop end b1) → b2 ≡ take at b ++ (take (end - (at + len)) (drop (at + len) b) ++ (replicate len 0 ++ drop end b))
removed b b1 b2 at end len order inside first second =
    let moved = take (end - (at + len)) (drop (at + len) b) in
    let front_length : length (take at b) ≡ at = length-take-le at b (omega (arith, order, inside)) in
    let moved_length : length moved ≡ end - (at + len) = length-take-le (end - (at + len)) (drop (at + len) b) (omega (arith, length-drop (at + len) b, order, inside)) in
    let kept_length : length (take at b ++ moved) ≡ end - len = omega (arith, length-append (take at b) moved, front_length, moved_length, order) in
    let old : at + (end - (at + len)) ≡ end - len = omega (arith, order) in
    let grouped : b1 ≡ (take at b ++ moved) ++ drop (end - len) b = first ∙ ap (λ (k : ℕ). take at b ++ (moved ++ drop k b)) old ∙ sym (append_assoc (take at b) moved (drop (end - len) b)) in
    let front : take (end - len) b1 ≡ take at b ++ moved = ap (take (end - len)) grouped ∙ take_at (take at b ++ moved) (drop (end - len) b) (end - len) kept_length in
    let behind : drop (end - len) b1 ≡ drop (end - len) b = ap (drop (end - len)) grouped ∙ drop_at (take at b ++ moved) (drop (end - len) b) (end - len) kept_length in
    let whole : end - len + len ≡ end = omega (arith, order) in
    let back : drop end b1 ≡ drop end b = ap (λ (k : ℕ). drop k b1) (sym whole) ∙ sym (drop-drop len (end - len) b1) ∙ ap (drop len) behind ∙ drop-drop len (end - len) b ∙ ap (λ (k : ℕ). drop k b) whole in
    let count : end - (end - len) ≡ len = omega (arith, order) in
    second ∙ (λ i. front i ++ (replicate (count i) 0 ++ back i)) ∙ append_assoc (take at b) moved (replicate len 0 ++ drop end b)
