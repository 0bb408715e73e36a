-- What stands on a page where bytes were written over: they in their place, and before and behind them what stood there.
use Rattle.std.proofs.Common.{◌≡◌, ℕ, ◌+◌, ◌-◌, ◌<◌, ◌≤◌, List, ◌++◌, length, take, drop, sym, ap, ◌∙◌, arith, length-append, length-drop, get_or-drop}
use Rattle.std.specs.Prelude.{slice_index}
use Rattle.std.proofs.lemmas.List.{drop-take, drop-drop, take-append-le, take-append-drop, length-take-le, get_or-take}
use Rattle.std.proofs.Math.Seq.{drop-append_seam, drop-append-add}
use Rattle.mtr.specs.Seen.{with_bytes}

pub size : (at : ℕ) (xs page : List ℕ) → at + length xs ≤ length page → length (with_bytes at xs page) ≡ length page
size at xs page inside =
    omega (
      arith,
      inside,
      length-append (take at page) (xs ++ drop (at + length xs) page),
      length-append xs (drop (at + length xs) page),
      length-take-le at page (omega (arith, inside)),
      length-drop (at + length xs) page,
    )

pub front : (n at : ℕ) (xs page : List ℕ) → n ≤ at → at ≤ length page → take n (with_bytes at xs page) ≡ take n page
front n at xs page first inside =
    let long = length-take-le at page inside in
    take-append-le n (take at page) (xs ++ drop (at + length xs) page) (omega (arith, first, long))
    ∙ sym (take-append-le n (take at page) (drop at page) (omega (arith, first, long)))
    ∙ ap (take n) (take-append-drop at page)

pub before : (n a at : ℕ) (xs page : List ℕ) → a + n ≤ at → at ≤ length page → take n (drop a (with_bytes at xs page)) ≡ take n (drop a page)
before n a at xs page first inside =
    sym (drop-take a n (with_bytes at xs page)) ∙ ap (drop a) (front (a + n) at xs page first inside) ∙ drop-take a n page

pub here : (at : ℕ) (xs page : List ℕ) → at ≤ length page → drop at (with_bytes at xs page) ≡ xs ++ drop (at + length xs) page
here at xs page inside =
    ap (λ (m : ℕ). drop m (with_bytes at xs page)) (sym (length-take-le at page inside)) ∙ drop-append_seam (take at page) (xs ++ drop (at + length xs) page)

pub behind : (b at : ℕ) (xs page : List ℕ) → at + length xs ≤ b → at ≤ length page → drop b (with_bytes at xs page) ≡ drop b page
behind b at xs page last inside =
    let k = b - (at + length xs) in
    let long = length-take-le at page inside in
    let place : b ≡ length (take at page) + (length xs + k) = omega (arith, last, long) in
    let end : at + length xs + k ≡ b = omega (arith, last) in
    ap (λ (m : ℕ). drop m (with_bytes at xs page)) place
    ∙ drop-append-add (take at page) (xs ++ drop (at + length xs) page) (length xs + k)
    ∙ drop-append-add xs (drop (at + length xs) page) k
    ∙ drop-drop k (at + length xs) page
    ∙ ap (λ (m : ℕ). drop m page) end

pub byte_before : (i at : ℕ) (xs page : List ℕ) → i < at → at ≤ length page → slice_index (with_bytes at xs page) i ≡ slice_index page i
byte_before i at xs page first inside =
    sym (get_or-take at (with_bytes at xs page) i 0 first)
    ∙ ap (λ (l : List ℕ). slice_index l i) (front at at xs page (omega arith) inside)
    ∙ get_or-take at page i 0 first

pub byte_from : (a i : ℕ) (xs ys : List ℕ) → a ≤ i → drop a xs ≡ drop a ys → slice_index xs i ≡ slice_index ys i
byte_from a i xs ys begins same =
    let place : a + (i - a) ≡ i = omega (arith, begins) in
    ap (slice_index xs) (sym place) ∙ sym (get_or-drop a xs (i - a) 0) ∙ ap (λ (l : List ℕ). slice_index l (i - a)) same ∙ get_or-drop a ys (i - a) 0
    ∙ ap (slice_index ys) place
