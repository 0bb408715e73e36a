-- Blocks of 512 bytes: a sum over the rest, the run, the block's number, how many bytes are used, two zeros, and 484 bytes.
use Rattle.std.specs.Prelude.{◌≡◌, ℕ, zero, suc, ◌+◌, ◌-◌, ◌*◌, ◌/◌, ◌≤◌, List, [], ◌∷◌, ◌++◌, length, take, drop, replicate, All}
use Rattle.std.specs.List.{flat_map}
use Rattle.std.specs.Int.{w16, w64, from_be_bytes}
use Rattle.schema_codec.specs.Numbers.{u16_bytes, u64_bytes}
use Rattle.sum64.specs.Fnv.{fnv_of}
use Rattle.store_api.specs.Areas.{piece, PassesSum}
use Rattle.log_format.specs.declared.block.TheConstants.{BLOCK, PAYLOAD}

-- what the sum is over
unfoldable pub block_rest : ℕ → ℕ → List ℕ → List ℕ
block_rest run k payload = u64_bytes run ++ u64_bytes k ++ u16_bytes (length payload) ++ (0 ∷ 0 ∷ []) ++ payload ++ replicate (PAYLOAD - length payload) 0

unfoldable pub block_bytes : ℕ → ℕ → List ℕ → List ℕ
block_bytes run k payload = u64_bytes (fnv_of (block_rest run k payload)) ++ block_rest run k payload

-- how many blocks so many bytes take
abbrev pub blocks_for : ℕ → ℕ
blocks_for n = (n + 483) / PAYLOAD

-- blocks of these payloads, numbered from k on
abbrev pub sealed : ℕ → ℕ → List (List ℕ) → List ℕ
sealed run k [] = []
sealed run k (p ∷ ps) = block_bytes run k p ++ sealed run (k + 1) ps

-- These are n blocks, numbered from k on, whose payloads are the bytes one behind the other.
pub record AreBlocks (run k : ℕ) (bytes : List ℕ) (n : ℕ) (blocks : List ℕ) : Type 0 where
  pub parts : List (List ℕ)
  pub count : n ≡ length parts
  pub small : All (λ part. length part ≤ PAYLOAD) parts
  pub whole : flat_map (λ part. part) parts ≡ bytes
  pub spelled : blocks ≡ sealed run k parts

-- the used bytes of a block; where it counts more than there are, all of them
unfoldable pub payload_of : List ℕ → List ℕ
payload_of block = take (from_be_bytes w16 (take 2 (drop 24 block))) (drop 28 block)

-- at its place in the area stands a block of that number in that run
pub record IsGood (run k : ℕ) (area : List ℕ) : Type 0 where
  pub inside : BLOCK * (k + 1) ≤ length area
  pub sum : PassesSum (piece BLOCK k area)
  pub of_run : from_be_bytes w64 (take 8 (drop 8 (piece BLOCK k area))) ≡ run
  pub number : from_be_bytes w64 (take 8 (drop 16 (piece BLOCK k area))) ≡ k

-- the payloads of the first so many blocks, one behind the other
abbrev pub payloads : ℕ → List ℕ → List ℕ
payloads zero area = []
payloads (suc k) area = payloads k area ++ payload_of (piece BLOCK k area)
