-- A page whose sum is set.
use Rattle.std.proofs.Common.{◌≡◌, ℕ, ◌+◌, ◌-◌, ◌^◌, ◌<◌, ◌≤◌, List, ◌++◌, take, drop, sym, ap, ◌∙◌, refl, arith}
use Rattle.std.specs.Int.{w64, to_be_bytes, from_be_bytes}
use Rattle.std.proofs.lemmas.List.{take_at, drop_at, drop-drop}
use Rattle.std.proofs.lemmas.Nat.{from_be_bytes-to_be_bytes_8}
use Rattle.sum64.specs.Fnv.{fnv_of}
use Rattle.sum64.proofs.Bound.{fnv_of_below}
use Rattle.store_api.specs.Areas.{PassesSum}

-- bytes that are the same from a place on have the same parts behind it
pub back_part : (a b : List ℕ) (to at size : ℕ) → to ≤ at → drop to a ≡ drop to b → take size (drop at a) ≡ take size (drop at b)
back_part a b to at size behind e =
    let place : to + (at - to) ≡ at = omega (arith, behind) in
    ap (λ (k : ℕ). take size (drop k a)) (sym place) ∙ ap (take size) (sym (drop-drop (at - to) to a) ∙ ap (drop (at - to)) e ∙ drop-drop (at - to) to b) ∙ ap (λ (k : ℕ). take size (drop k b)) place

pub sealed : (old new : List ℕ) (sum : ℕ) → sum ≡ fnv_of (drop 8 old) → new ≡ to_be_bytes w64 sum ++ drop 8 old → PassesSum new × (drop 8 new ≡ drop 8 old)
sealed old new sum sum_is new_is =
    let rest : drop 8 new ≡ drop 8 old = ap (drop 8) new_is ∙ drop_at (to_be_bytes w64 sum) (drop 8 old) 8 refl in
    let front : take 8 new ≡ to_be_bytes w64 sum = ap (take 8) new_is ∙ take_at (to_be_bytes w64 sum) (drop 8 old) 8 refl in
    let below : sum < 2 ^ 64 = rw sum_is (fnv_of_below (drop 8 old)) in
    (ap (from_be_bytes w64) front ∙ from_be_bytes-to_be_bytes_8 sum below ∙ sum_is ∙ ap fnv_of (sym rest), rest)
