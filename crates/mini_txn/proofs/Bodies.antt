-- The bytes of a page from byte 20 on: what an edit and a stamp leave of them.
use Rattle.std.proofs.Common.{◌≡◌, ℕ, zero, suc, ◌+◌, ◌-◌, ◌^◌, ◌<◌, ◌≤◌, List, [], ◌∷◌, ◌++◌, length, take, drop, replicate, refl, sym, ap, ◌∙◌, arith}
use Rattle.std.proofs.Common.{length-append, length-drop, append_assoc}
use Rattle.std.proofs.lemmas.List.{take_at, drop_at, drop-drop, drop-take, drop-append-le, length-take-le, replicate-append-replicate, drop-replicate}
use Rattle.std.specs.Int.{w32, w64, from_be_bytes}
use Rattle.std.proofs.lemmas.Nat.{from_be_bytes-to_be_bytes_4, from_be_bytes-to_be_bytes_8}
use Rattle.schema_codec.specs.Numbers.{u32_bytes, u64_bytes}
use Rattle.schema_codec.proofs.Lengths.{length-u32, length-u64}
use Rattle.stored_pages.specs.Words.{u32_at, u64_at, number_of, lsn_of}
use Rattle.mtr.specs.Seen.{with_bytes}
use Rattle.mini_txn.specs.Edits.{blank}
use Rattle.mini_txn.specs.View.{body_of, stamped}

pub length-body : (bytes : List ℕ) → length bytes ≡ 4096 → length (body_of bytes) ≡ 4096
unfolding body_of
length-body bytes size = omega (arith, length-drop 20 bytes, size)

pub drop-body : (bytes : List ℕ) → drop 20 (body_of bytes) ≡ drop 20 bytes
unfolding body_of
drop-body bytes = refl

pub body-same : (a b : List ℕ) → drop 20 a ≡ drop 20 b → body_of a ≡ body_of b
unfolding body_of
body-same a b same = ap (λ (l : List ℕ). replicate 20 0 ++ l) same

-- what stands behind the first of some bytes, at a place behind them
take_behind : (front back : List ℕ) (at : ℕ) → length front ≤ at → take at (front ++ back) ≡ front ++ take (at - length front) back
take_behind [] back at fits = let same : at ≡ at - 0 = omega arith in ap (λ (n : ℕ). take n back) same
take_behind (x ∷ front) back zero fits = absurd (omega (arith, fits))
take_behind (x ∷ front) back (suc at) fits =
    let same : at - length front ≡ suc at - suc (length front) = omega arith in
    ap (λ (l : List ℕ). x ∷ l) (take_behind front back at (omega (arith, fits)) ∙ ap (λ (n : ℕ). front ++ take n back) same)

drop_behind : (front back : List ℕ) (at : ℕ) → length front ≤ at → drop at (front ++ back) ≡ drop (at - length front) back
drop_behind [] back at fits = let same : at ≡ at - 0 = omega arith in ap (λ (n : ℕ). drop n back) same
drop_behind (x ∷ front) back zero fits = absurd (omega (arith, fits))
drop_behind (x ∷ front) back (suc at) fits =
    let same : at - length front ≡ suc at - suc (length front) = omega arith in
    drop_behind front back at (omega (arith, fits)) ∙ ap (λ (n : ℕ). drop n back) same

pub body-written : (at : ℕ) (piece bytes : List ℕ) → 20 ≤ at → at ≤ length bytes → body_of (with_bytes at piece bytes) ≡ with_bytes at piece (body_of bytes)
unfolding body_of
body-written at piece bytes begins ends =
    let behind : List ℕ = piece ++ drop (at + length piece) bytes in
    let long : 20 ≤ length (take at bytes) = omega (arith, begins, length-take-le at bytes ends) in
    let place : 20 + (at - 20) ≡ at = omega arith in
    let over : 20 + (at + length piece - 20) ≡ at + length piece = omega (arith, begins) in
    let cut : drop 20 (take at bytes) ≡ take (at - 20) (drop 20 bytes) = ap (λ (n : ℕ). drop 20 (take n bytes)) (sym place) ∙ drop-take 20 (at - 20) bytes in
    let left : drop 20 (take at bytes ++ behind) ≡ take (at - 20) (drop 20 bytes) ++ behind = drop-append-le 20 (take at bytes) behind long
    ∙ ap (λ (l : List ℕ). l ++ behind) cut in
    let front : take at (body_of bytes) ≡ replicate 20 0 ++ take (at - 20) (drop 20 bytes) = take_behind (replicate 20 0) (drop 20 bytes) at begins in
    let back : drop (at + length piece) (body_of bytes) ≡ drop (at + length piece) bytes =
    drop_behind (replicate 20 0) (drop 20 bytes) (at + length piece) (omega (arith, begins))
    ∙ drop-drop (at + length piece - 20) 20 bytes ∙ ap (λ (n : ℕ). drop n bytes) over in
    ap (λ (l : List ℕ). replicate 20 0 ++ l) left
    ∙ sym (append_assoc (replicate 20 0) (take (at - 20) (drop 20 bytes)) behind)
    ∙ ap (λ (l : List ℕ). l ++ behind) (sym front)
    ∙ ap (λ (l : List ℕ). take at (body_of bytes) ++ (piece ++ l)) (sym back)

abbrev zeros : ℕ → List ℕ
zeros n = replicate n 0

zeros_behind : (n : ℕ) → 20 ≤ n → zeros 20 ++ drop 20 (zeros n) ≡ zeros n
zeros_behind n many =
    let whole : 20 + (n - 20) ≡ n = omega (arith, many) in
    let back : drop 20 (zeros n) ≡ zeros (n - 20) = drop-replicate 20 n 0 in
    let both : zeros 20 ++ zeros (n - 20) ≡ zeros (20 + (n - 20)) = replicate-append-replicate 20 (n - 20) 0 in
    ap (λ (l : List ℕ). zeros 20 ++ l) back ∙ both ∙ ap zeros whole

pub body-blank : body_of blank ≡ blank
unfolding blank body_of
body-blank = zeros_behind 4096 (omega arith)

pub blank_is : blank ≡ replicate 4096 0
unfolding blank
blank_is = refl

stamp_parts : (page lsn : ℕ) (bytes : List ℕ) → stamped page lsn bytes ≡ (take 8 bytes ++ (u32_bytes page ++ u64_bytes lsn)) ++ drop 20 bytes
stamp_parts page lsn bytes =
    ap (λ (l : List ℕ). take 8 bytes ++ l) (sym (append_assoc (u32_bytes page) (u64_bytes lsn) (drop 20 bytes)))
    ∙ sym (append_assoc (take 8 bytes) (u32_bytes page ++ u64_bytes lsn) (drop 20 bytes))

pub drop-stamped : (page lsn : ℕ) (bytes : List ℕ) → 20 ≤ length bytes → drop 20 (stamped page lsn bytes) ≡ drop 20 bytes
drop-stamped page lsn bytes size =
    let front : List ℕ = take 8 bytes ++ (u32_bytes page ++ u64_bytes lsn) in
    let long : length front ≡ 20 =
    omega (
      arith,
      length-append (take 8 bytes) (u32_bytes page ++ u64_bytes lsn),
      length-append (u32_bytes page)
          (u64_bytes lsn),
      length-u32 page,
      length-u64 lsn,
      length-take-le 8 bytes (omega (arith, size)),
    ) in
    ap (drop 20) (stamp_parts page lsn bytes) ∙ drop_at front (drop 20 bytes) 20 long

-- the number and the LSN of stamped bytes
pub number-stamped : (page lsn : ℕ) (bytes : List ℕ) → 20 ≤ length bytes → page < 2 ^ 32 → number_of (stamped page lsn bytes) ≡ page
unfolding u32_at u32_bytes
number-stamped page lsn bytes size fits =
    let rest : List ℕ = u64_bytes lsn ++ drop 20 bytes in
    let cut : drop 8 (stamped page lsn bytes) ≡ u32_bytes page ++ rest = drop_at (take 8 bytes) (u32_bytes page ++ rest) 8
    (length-take-le 8 bytes (omega (arith, size))) in
    ap (λ (l : List ℕ). from_be_bytes w32 (take 4 l)) cut ∙ ap (from_be_bytes w32) (take_at (u32_bytes page) rest 4 refl)
    ∙ from_be_bytes-to_be_bytes_4 page fits

pub lsn-stamped : (page lsn : ℕ) (bytes : List ℕ) → 20 ≤ length bytes → lsn < 2 ^ 64 → lsn_of (stamped page lsn bytes) ≡ lsn
unfolding u64_at u64_bytes
lsn-stamped page lsn bytes size fits =
    let front : List ℕ = take 8 bytes ++ u32_bytes page in
    let long : length front ≡ 12 = omega (
      arith,
      length-append (take 8 bytes) (u32_bytes page),
      length-u32 page,
      length-take-le 8 bytes
          (omega (arith, size)),
    ) in
    let cut : drop 12 (stamped page lsn bytes) ≡ u64_bytes lsn ++ drop 20 bytes =
    ap (drop 12) (sym (append_assoc (take 8 bytes) (u32_bytes page) (u64_bytes lsn ++ drop 20 bytes)))
    ∙ drop_at front (u64_bytes lsn ++ drop 20 bytes) 12 long in
    ap (λ (l : List ℕ). from_be_bytes w64 (take 8 l)) cut ∙ ap (from_be_bytes w64) (take_at (u64_bytes lsn) (drop 20 bytes) 8 refl)
    ∙ from_be_bytes-to_be_bytes_8 lsn fits

pub length-stamped : (page lsn : ℕ) (bytes : List ℕ) → length bytes ≡ 4096 → length (stamped page lsn bytes) ≡ 4096
length-stamped page lsn bytes size =
    omega (
      arith,
      length-append (take 8 bytes) (u32_bytes page ++ (u64_bytes lsn ++ drop 20 bytes)),
      length-append (u32_bytes page) (u64_bytes lsn ++ drop 20 bytes),
      length-append (u64_bytes lsn) (drop 20 bytes),
      length-u32 page,
      length-u64 lsn,
      length-take-le 8 bytes (omega (arith, size)),
      length-drop 20 bytes,
      size,
    )
