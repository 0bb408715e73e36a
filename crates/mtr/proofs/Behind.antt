-- What stands behind a page's first 20 bytes is the same in bytes that show the page.
use Rattle.std.proofs.Common.{◌≡◌, ℕ, ◌+◌, ◌-◌, ◌≤◌, List, take, drop, get_or-drop, sym, ap, ◌∙◌, arith}
use Rattle.std.specs.Prelude.{slice_index}
use Rattle.std.proofs.lemmas.List.{drop-drop}
use Rattle.std.specs.Int.{w32, from_be_bytes}
use Rattle.stored_pages.specs.Words.{u32_at}

pub drop-behind : (at : ℕ) (a b : List ℕ) → 20 ≤ at → drop 20 a ≡ drop 20 b → drop at a ≡ drop at b
drop-behind at a b begins same =
    let place : 20 + (at - 20) ≡ at = omega arith in
    ap (λ (n : ℕ). drop n a) (sym place) ∙ sym (drop-drop (at - 20) 20 a) ∙ ap (drop (at - 20)) same ∙ drop-drop (at - 20) 20 b ∙ ap (λ (n : ℕ). drop n b) place

pub u32-behind : (at : ℕ) (a b : List ℕ) → 20 ≤ at → drop 20 a ≡ drop 20 b → u32_at at a ≡ u32_at at b
unfolding u32_at
u32-behind at a b begins same = ap (λ (l : List ℕ). from_be_bytes w32 (take 4 l)) (drop-behind at a b begins same)

pub byte-behind : (at : ℕ) (a b : List ℕ) → 20 ≤ at → drop 20 a ≡ drop 20 b → slice_index a at ≡ slice_index b at
byte-behind at a b begins same =
    let place : 20 + (at - 20) ≡ at = omega arith in
    ap (slice_index a) (sym place) ∙ sym (get_or-drop 20 a (at - 20) 0) ∙ ap (λ (l : List ℕ). slice_index l (at - 20)) same ∙ get_or-drop 20 b (at - 20) 0 ∙ ap (slice_index b) place
