-- A block that was put is good, and its payload is read again.
use Rattle.std.proofs.Common.{◌≡◌, ℕ, ◌-◌, ◌^◌, ◌<◌, ◌≤◌, List, [], ◌∷◌, ◌++◌, length, take, drop, replicate, refl, sym, ◌∙◌, ap, arith, append_assoc, length-append}
use Rattle.std.specs.Int.{w16, w64, from_be_bytes}
use Rattle.std.proofs.lemmas.List.{take_at, drop_at, length-replicate}
use Rattle.std.proofs.lemmas.Nat.{from_be_bytes-to_be_bytes_2, from_be_bytes-to_be_bytes_8}
use Rattle.sum64.specs.Fnv.{fnv_of}
use Rattle.sum64.proofs.Bound.{fnv_of_below}
use Rattle.store_api.specs.Areas.{PassesSum}
use Rattle.schema_codec.specs.Numbers.{u16_bytes, u64_bytes}
use Rattle.schema_codec.proofs.Lengths.{length-u16, length-u64}
use Rattle.log_format.specs.Block.{block_rest, block_bytes, payload_of}

read-u16 : (n : ℕ) → n < 2 ^ 16 → from_be_bytes w16 (u16_bytes n) ≡ n
unfolding u16_bytes
read-u16 n fits = from_be_bytes-to_be_bytes_2 n fits

read-u64 : (n : ℕ) → n < 2 ^ 64 → from_be_bytes w64 (u64_bytes n) ≡ n
unfolding u64_bytes
read-u64 n fits = from_be_bytes-to_be_bytes_8 n fits

-- a part between two others
between_parts : (front part back : List ℕ) (n m : ℕ) → length front ≡ n → length part ≡ m → take m (drop n (front ++ (part ++ back))) ≡ part
between_parts front part back n m is_n is_m = ap (λ (l : List ℕ). take m l) (drop_at front (part ++ back) n is_n) ∙ take_at part back m is_m

module _ (run k : ℕ) (payload : List ℕ) where
  parts : block_bytes run k payload ≡ u64_bytes (fnv_of (block_rest run k payload)) ++ (u64_bytes run ++ (u64_bytes k ++ (u16_bytes (length payload) ++ ((0 ∷ 0 ∷ []) ++ (payload ++ replicate (484 - length payload) 0)))))
  unfolding block_bytes block_rest
  parts = simp append_assoc

  pub length-block : length payload ≤ 484 → length (block_bytes run k payload) ≡ 512
  length-block small = ap length parts ∙ simp (length-append, length-u64, length-u16, length-replicate) (omega arith)

  pub sum_passes : PassesSum (block_bytes run k payload)
  unfolding block_bytes
  sum_passes =
      let rest = block_rest run k payload in
      let stored = u64_bytes (fnv_of rest) in
      ap (from_be_bytes w64) (take_at stored rest 8 (length-u64 (fnv_of rest))) ∙ read-u64 (fnv_of rest) (fnv_of_below rest)
      ∙ ap fnv_of (sym (drop_at stored rest 8 (length-u64 (fnv_of rest))))

  stored : List ℕ
  stored = u64_bytes (fnv_of (block_rest run k payload))

  back : List ℕ
  back = payload ++ replicate (484 - length payload) 0

  pub run_of : run < 2 ^ 64 → from_be_bytes w64 (take 8 (drop 8 (block_bytes run k payload))) ≡ run
  unfolding stored back
  run_of fits =
      ap (λ (l : List ℕ). from_be_bytes w64 (take 8 (drop 8 l))) parts
      ∙ ap (from_be_bytes w64) (between_parts stored (u64_bytes run) (u64_bytes k ++ (u16_bytes (length payload) ++ ((0 ∷ 0 ∷ []) ++ back))) 8 8 (length-u64 _) (length-u64 run))
      ∙ read-u64 run fits

  pub number_of : k < 2 ^ 64 → from_be_bytes w64 (take 8 (drop 16 (block_bytes run k payload))) ≡ k
  unfolding stored back
  number_of fits =
      let front = stored ++ u64_bytes run in
      let split : block_bytes run k payload ≡ front ++ (u64_bytes k ++ (u16_bytes (length payload) ++ ((0 ∷ 0 ∷ []) ++ back))) = parts ∙ sym (append_assoc stored (u64_bytes run) _) in
      ap (λ (l : List ℕ). from_be_bytes w64 (take 8 (drop 16 l))) split
      ∙ ap (from_be_bytes w64) (between_parts front (u64_bytes k) (u16_bytes (length payload) ++ ((0 ∷ 0 ∷ []) ++ back)) 16 8 (simp (length-append, length-u64)) (length-u64 k))
      ∙ read-u64 k fits

  used_of : length payload ≤ 484 → from_be_bytes w16 (take 2 (drop 24 (block_bytes run k payload))) ≡ length payload
  unfolding stored back
  used_of small =
      let front = stored ++ (u64_bytes run ++ u64_bytes k) in
      let split : block_bytes run k payload ≡ front ++ (u16_bytes (length payload) ++ ((0 ∷ 0 ∷ []) ++ back)) = parts ∙ sym (simp append_assoc) in
      ap (λ (l : List ℕ). from_be_bytes w16 (take 2 (drop 24 l))) split
      ∙ ap (from_be_bytes w16) (between_parts front (u16_bytes (length payload)) ((0 ∷ 0 ∷ []) ++ back) 24 2 (simp (length-append, length-u64)) (length-u16 (length payload)))
      ∙ read-u16 (length payload) (omega arith)

  pub payload-block : length payload ≤ 484 → payload_of (block_bytes run k payload) ≡ payload
  unfolding payload_of stored back
  payload-block small =
      let front = stored ++ (u64_bytes run ++ (u64_bytes k ++ (u16_bytes (length payload) ++ (0 ∷ 0 ∷ [])))) in
      let split : block_bytes run k payload ≡ front ++ (payload ++ replicate (484 - length payload) 0) = parts ∙ sym (simp append_assoc) in
      ap (λ (n : ℕ). take n (drop 28 (block_bytes run k payload))) (used_of small)
      ∙ ap (λ (l : List ℕ). take (length payload) (drop 28 l)) split
      ∙ between_parts front payload (replicate (484 - length payload) 0) 28 (length payload) (simp (length-append, length-u64, length-u16)) refl
