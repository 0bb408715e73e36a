-- A log that was opened has its slot, and every other slot is as it was.
use Rattle.std.proofs.Common.{◌≡◌, ◌≢◌, ℕ, ◌+◌, ◌*◌, ◌^◌, ◌<◌, ◌≤◌, inl, inr, List, [], ◌∷◌, ◌++◌, length, take, drop, replicate, refl, sym, ap, ◌∙◌, arith, length-append, append_assoc}
use Rattle.std.specs.Prelude.{slice_index, slice_index_or}
use Rattle.std.specs.Int.{w32, w64, from_be_bytes, to_be_bytes}
use Rattle.std.proofs.lemmas.Bool.{cases_lt}
use Rattle.std.proofs.lemmas.Nat.{from_be_bytes-to_be_bytes_4, from_be_bytes-to_be_bytes_8}
use Rattle.schema_codec.specs.Numbers.{u32_bytes, u64_bytes}
use Rattle.schema_codec.proofs.Lengths.{length-u32, length-u64}
use Rattle.stored_pages.specs.Words.{u32_at, u64_at}
use Rattle.mtr.specs.Seen.{MtrState, with_bytes}
use Rattle.undo_log.specs.Slots.{id_in, first_in, slot_bytes, SeesOpened, SeesClosed}
use Rattle.undo_log.proofs.Written.{size, before, here, behind}
use Rattle.undo_log.proofs.Standing.{next, byte_at}

-- ---- numbers that stand at a place

u64-same : (at : ℕ) (a b : List ℕ) → take 8 (drop at a) ≡ take 8 (drop at b) → u64_at at a ≡ u64_at at b
unfolding u64_at
u64-same at a b same = ap (from_be_bytes w64) same

u32-same : (at : ℕ) (a b : List ℕ) → take 4 (drop at a) ≡ take 4 (drop at b) → u32_at at a ≡ u32_at at b
unfolding u32_at
u32-same at a b same = ap (from_be_bytes w32) same

u64-front : (n : ℕ) (rest : List ℕ) → n < 2 ^ 64 → from_be_bytes w64 (take 8 (u64_bytes n ++ rest)) ≡ n
unfolding u64_bytes
u64-front n rest fits = from_be_bytes-to_be_bytes_8 n fits

u64-there : (at n : ℕ) (bytes rest : List ℕ) → n < 2 ^ 64 → drop at bytes ≡ u64_bytes n ++ rest → u64_at at bytes ≡ n
unfolding u64_at
u64-there at n bytes rest fits is = ap (λ (l : List ℕ). from_be_bytes w64 (take 8 l)) is ∙ u64-front n rest fits

u32-front : (n : ℕ) (rest : List ℕ) → n < 2 ^ 32 → from_be_bytes w32 (take 4 (u32_bytes n ++ rest)) ≡ n
unfolding u32_bytes
u32-front n rest fits = from_be_bytes-to_be_bytes_4 n fits

u32-there : (at n : ℕ) (bytes rest : List ℕ) → n < 2 ^ 32 → drop at bytes ≡ u32_bytes n ++ rest → u32_at at bytes ≡ n
unfolding u32_at
u32-there at n bytes rest fits is = ap (λ (l : List ℕ). from_be_bytes w32 (take 4 l)) is ∙ u32-front n rest fits

-- ---- the slots

-- a part of a slot that isn't the one that was written
part_same : (n k a s slot : ℕ) (bytes page : List ℕ) → a ≡ 40 + 16 * s + k → k + n ≤ 16 → s ≢ slot → length bytes ≡ 16 → 40 + 16 * slot + 16 ≤ length page
    → take n (drop a (with_bytes (40 + 16 * slot) bytes page)) ≡ take n (drop a page)
part_same n k a s slot bytes page is fits apart long inside = elim (cases_lt s slot) [
  | inl less ↦ before n a (40 + 16 * slot) bytes page (omega (arith, is, fits, less)) (omega (arith, inside))
  | inr more ↦ ap (take n) (behind a (40 + 16 * slot) bytes page (omega (arith, is, long, apart, more)) (omega (arith, inside)))
]

long_slot : (id page : ℕ) → length (slot_bytes id page) ≡ 16
long_slot id page =
    omega (arith, length-append (u64_bytes id) (u32_bytes page ++ u32_bytes page), length-append (u32_bytes page) (u32_bytes page), length-u64 id, length-u32 page)

pub other_id : (slot id page : ℕ) (old new : MtrState) → SeesOpened slot id page old new → slot < 68 → (s : ℕ) → s ≢ slot → id_in new.seen s ≡ id_in old.seen s
other_id slot id page old new seen below s apart =
    u64-same (40 + 16 * s) (new.seen 1) (old.seen 1)
    (ap (λ (l : List ℕ). take 8 (drop (40 + 16 * s) l)) seen.slots
    ∙ part_same 8 0 (40 + 16 * s) s slot (slot_bytes id page) (old.seen 1) (omega arith) (omega arith) apart (long_slot id page)
    (omega (arith, seen.size, below)))

pub other_first : (slot id page : ℕ) (old new : MtrState) → SeesOpened slot id page old new → slot < 68 → (s : ℕ) → s ≢ slot → first_in new.seen s ≡ first_in old.seen s
other_first slot id page old new seen below s apart =
    u32-same (40 + 16 * s + 8) (new.seen 1) (old.seen 1)
    (ap (λ (l : List ℕ). take 4 (drop (40 + 16 * s + 8) l)) seen.slots
    ∙ part_same 4 8 (40 + 16 * s + 8) s slot (slot_bytes id page) (old.seen 1) refl (omega arith) apart (long_slot id page)
    (omega (arith, seen.size, below)))

in_slot : (slot id page : ℕ) (old new : MtrState) → SeesOpened slot id page old new → slot < 68
    → drop (40 + 16 * slot) (new.seen 1) ≡ u64_bytes id ++ (u32_bytes page ++ (u32_bytes page ++ drop (40 + 16 * slot + 16) (old.seen 1)))
in_slot slot id page old new seen below =
    let rest = drop (40 + 16 * slot + 16) (old.seen 1) in
    let long = long_slot id page in
    ap (drop (40 + 16 * slot)) seen.slots
    ∙ here (40 + 16 * slot) (slot_bytes id page) (old.seen 1) (omega (arith, seen.size, below))
    ∙ ap (λ (n : ℕ). slot_bytes id page ++ drop (40 + 16 * slot + n) (old.seen 1)) long
    ∙ append_assoc (u64_bytes id) (u32_bytes page ++ u32_bytes page) rest
    ∙ ap (λ (l : List ℕ). u64_bytes id ++ l) (append_assoc (u32_bytes page) (u32_bytes page) rest)

pub own_id : (slot id page : ℕ) (old new : MtrState) → SeesOpened slot id page old new → slot < 68 → id < 2 ^ 64 → id_in new.seen slot ≡ id
own_id slot id page old new seen below fits = u64-there (40 + 16 * slot) id (new.seen 1) _ fits (in_slot slot id page old new seen below)

pub own_first : (slot id page : ℕ) (old new : MtrState) → SeesOpened slot id page old new → slot < 68 → page < 2 ^ 32 → first_in new.seen slot ≡ page
own_first slot id page old new seen below fits =
    let rest = drop (40 + 16 * slot + 16) (old.seen 1) in
    u32-there (40 + 16 * slot + 8) page (new.seen 1) (u32_bytes page ++ rest) fits
    (next (40 + 16 * slot) (new.seen 1) (u64_bytes id) (u32_bytes page ++ (u32_bytes page ++ rest)) 8 (length-u64 id) (in_slot slot id page old new seen below))

pub own_state : (slot id page : ℕ) (old new : MtrState) → SeesOpened slot id page old new → length (old.seen page) ≡ 4096 → slice_index (new.seen page) 50 ≡ 1
own_state slot id page old new seen long =
    let head = with_bytes 32 (u64_bytes id) (old.seen page) in
    let head_long : length head ≡ length (old.seen page) = size 32 (u64_bytes id) (old.seen page) (omega (arith, length-u64 id, long)) in
    byte_at 50 0 (new.seen page) ((1 ∷ []) ++ drop 51 head) 0 (ap (drop 50) seen.log ∙ here 50 (1 ∷ []) head (omega (arith, head_long, long)))

-- ---- a slot that was freed

zeros_same : (slot : ℕ) (old new : MtrState) → SeesClosed slot old new → slot < 68 → (n k a s : ℕ) → a ≡ 40 + 16 * s + k → k + n ≤ 16 → s ≢ slot
    → take n (drop a (new.seen 1)) ≡ take n (drop a (old.seen 1))
zeros_same slot old new seen below n k a s is fits apart =
    ap (λ (l : List ℕ). take n (drop a l)) seen.slots
    ∙ part_same n k a s slot (replicate 16 0) (old.seen 1) is fits apart refl (omega (arith, seen.size, below))

pub kept_id : (slot : ℕ) (old new : MtrState) → SeesClosed slot old new → slot < 68 → (s : ℕ) → s ≢ slot → id_in new.seen s ≡ id_in old.seen s
kept_id slot old new seen below s apart =
    u64-same (40 + 16 * s) (new.seen 1) (old.seen 1) (zeros_same slot old new seen below 8 0 (40 + 16 * s) s (omega arith) (omega arith) apart)

pub kept_first : (slot : ℕ) (old new : MtrState) → SeesClosed slot old new → slot < 68 → (s : ℕ) → s ≢ slot → first_in new.seen s ≡ first_in old.seen s
kept_first slot old new seen below s apart =
    u32-same (40 + 16 * s + 8) (new.seen 1) (old.seen 1) (zeros_same slot old new seen below 4 8 (40 + 16 * s + 8) s refl (omega arith) apart)

zero_there : (at : ℕ) (bytes rest : List ℕ) → drop at bytes ≡ replicate 16 0 ++ rest → u64_at at bytes ≡ 0
unfolding u64_at
zero_there at bytes rest is = ap (λ (l : List ℕ). from_be_bytes w64 (take 8 l)) is

pub no_id : (slot : ℕ) (old new : MtrState) → SeesClosed slot old new → slot < 68 → id_in new.seen slot ≡ 0
no_id slot old new seen below =
    zero_there (40 + 16 * slot) (new.seen 1) _
    (ap (drop (40 + 16 * slot)) seen.slots ∙ here (40 + 16 * slot) (replicate 16 0) (old.seen 1) (omega (arith, seen.size, below)))

-- ---- a slot, byte by byte

numbers : (id page : ℕ) → slot_bytes id page ≡ to_be_bytes w64 id ++ (to_be_bytes w32 page ++ to_be_bytes w32 page)
unfolding u64_bytes u32_bytes
numbers id page = refl

pub spelled : (id page : ℕ) (a b : List ℕ) → a ≡ to_be_bytes w64 id → b ≡ to_be_bytes w32 page
    → (slice_index_or a 0 0 ∷ slice_index_or a 1 0 ∷ slice_index_or a 2 0 ∷ slice_index_or a 3 0 ∷ slice_index_or a 4 0 ∷ slice_index_or a 5 0 ∷ slice_index_or a 6 0
    ∷ slice_index_or a 7 0 ∷ slice_index_or b 0 0 ∷ slice_index_or b 1 0 ∷ slice_index_or b 2 0 ∷ slice_index_or b 3 0 ∷ slice_index_or b 0 0
    ∷ slice_index_or b 1 0 ∷ slice_index_or b 2 0 ∷ slice_index_or b 3 0 ∷ []) ≡ slot_bytes id page
spelled id page a b a_is b_is = rw (a_is, b_is) (sym (numbers id page))
