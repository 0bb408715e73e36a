-- What is found among pairs in order, and what an edit makes of them.
use Rattle.std.proofs.Common.{◌≡◌, ℕ, zero, suc, ◌<◌, Bool, true, false, cond, List, [], ◌∷◌, length, get_or, set, None, refl, sym, ◌∙◌, ap, arith}
use Rattle.std.specs.Prelude.{is_some, remove, insert, Result, Ok, Err, OnErr}
use Rattle.std.specs.declared.cmp.Ordering.{Ordering}
use Rattle.std.specs.declared.cmp.Ordering.TheVariants.{Less, Equal, Greater}
use Rattle.std.specs.Ordering.{match_ordering, is_eq}
use Rattle.std.specs.List.{AllByRecursion}
use Rattle.entries.specs.Pairs.{Pair, key_cmp, AreRising, AreSound, IsShort, value_of, with_pair, without_key}
use Rattle.entries.specs.Places.{StandsAt, IsGapAt, IsFoundAt}
use Rattle.entries.proofs.Order.{key_cmp_total, lower_from, below_all}

-- ---- at the place of a key

pub in_range : (key : List ℕ) (pairs : List Pair) (at : ℕ) → StandsAt key pairs at → at < length pairs
in_range key [] at is = absurd is
in_range key (pair ∷ pairs) zero is = omega arith
in_range key (pair ∷ pairs) (suc at) is = omega (arith, in_range key pairs at is.1)

-- what is above a key is above all keys that compare alike
pub alike : (key other : List ℕ) (pairs : List Pair) → key_cmp key other ≡ Equal → AllByRecursion (λ (later : Pair). key_cmp other later.0 ≡ Less) pairs → AllByRecursion (λ (later : Pair). key_cmp key later.0 ≡ Less) pairs
alike key other [] same all = tt
alike key other (pair ∷ pairs) same all = (key_cmp_total.congr key other pair.0 same ∙ all.0, alike key other pairs same all.1)

there_stands : (key : List ℕ) (pairs : List Pair) (at : ℕ) → StandsAt key pairs at → is_some (value_of key pairs) ≡ true
there_stands key [] at is = absurd is
there_stands key (pair ∷ pairs) zero is = rw is
there_stands key (pair ∷ pairs) (suc at) is = rw is.0 (there_stands key pairs at is.1)

pub none_above : (key : List ℕ) (pairs : List Pair) → AllByRecursion (λ (later : Pair). key_cmp key later.0 ≡ Less) pairs → value_of key pairs ≡ None
none_above key [] all = refl
none_above key (pair ∷ pairs) all = rw all.0 (none_above key pairs all.1)

-- a key that is below one is below all that are above that one
pub all_above : (key other : List ℕ) (pairs : List Pair) → key_cmp key other ≡ Less → AllByRecursion (λ (later : Pair). key_cmp other later.0 ≡ Less) pairs → AllByRecursion (λ (later : Pair). key_cmp key later.0 ≡ Less) pairs
all_above key other [] lt all = tt
all_above key other (pair ∷ pairs) lt all = (below_all key other pair.0 lt all.0, all_above key other pairs lt all.1)

pub value_gap : (key : List ℕ) (pairs : List Pair) (at : ℕ) → AreRising pairs → IsGapAt key pairs at → value_of key pairs ≡ None
value_gap key [] at rising is = refl
value_gap key (pair ∷ pairs) zero rising is = rw is (none_above key pairs (all_above key pair.0 pairs is rising.0))
value_gap key (pair ∷ pairs) (suc at) rising is = rw is.0 (value_gap key pairs at rising.1 is.1)

pub insert_gap : (key value : List ℕ) (pairs : List Pair) (at : ℕ) → IsGapAt key pairs at → insert pairs at (key, value) ≡ with_pair key value pairs
insert_gap key value [] zero is = refl
insert_gap key value [] (suc at) is = absurd is
insert_gap key value (pair ∷ pairs) zero is = rw is
insert_gap key value (pair ∷ pairs) (suc at) is = rw is.0 (ap (λ (l : List Pair). pair ∷ l) (insert_gap key value pairs at is.1))

pub set_stands : (key value : List ℕ) (pairs : List Pair) (at : ℕ) (d : Pair) → StandsAt key pairs at → set pairs at ((get_or pairs at d).0, value) ≡ with_pair key value pairs
set_stands key value [] at d is = absurd is
set_stands key value (pair ∷ pairs) zero d is = rw is
set_stands key value (pair ∷ pairs) (suc at) d is = rw is.0 (ap (λ (l : List Pair). pair ∷ l) (set_stands key value pairs at d is.1))

pub remove_stands : (key : List ℕ) (pairs : List Pair) (at : ℕ) → StandsAt key pairs at → remove pairs at ≡ without_key key pairs
remove_stands key [] at is = absurd is
remove_stands key (pair ∷ pairs) zero is = rw is
remove_stands key (pair ∷ pairs) (suc at) is = rw is.0 (ap (λ (l : List Pair). pair ∷ l) (remove_stands key pairs at is.1))

-- ---- edits keep the order

below_with : (low key value : List ℕ) (pairs : List Pair) → key_cmp low key ≡ Less → AllByRecursion (λ (later : Pair). key_cmp low later.0 ≡ Less) pairs → AllByRecursion (λ (later : Pair). key_cmp low later.0 ≡ Less) (with_pair key value pairs)
below_with low key value [] lt all = (lt, tt)
below_with low key value (pair ∷ pairs) lt all = go (key_cmp key pair.0) (below_with low key value pairs lt all.1) where
  go : (o : Ordering) → AllByRecursion (λ (later : Pair). key_cmp low later.0 ≡ Less) (with_pair key value pairs) → AllByRecursion (λ (later : Pair). key_cmp low later.0 ≡ Less) (match_ordering o ((key, value) ∷ pair ∷ pairs) ((pair.0, value) ∷ pairs) (pair ∷ with_pair key value pairs))
  go Less rest = (lt, all)
  go Equal rest = all
  go Greater rest = (all.0, rest)

pub rising_with : (key value : List ℕ) (pairs : List Pair) → AreRising pairs → AreRising (with_pair key value pairs)
rising_with key value [] rising = (tt, tt)
rising_with key value (pair ∷ pairs) rising = go (key_cmp key pair.0) refl (rising_with key value pairs rising.1) where
  go : (o : Ordering) → o ≡ key_cmp key pair.0 → AreRising (with_pair key value pairs) → AreRising (match_ordering o ((key, value) ∷ pair ∷ pairs) ((pair.0, value) ∷ pairs) (pair ∷ with_pair key value pairs))
  go Less is rest = ((sym is, all_above key pair.0 pairs (sym is) rising.0), rising)
  go Equal is rest = rising
  go Greater is rest = (below_with pair.0 key value pairs (lower_from key pair.0 (sym is)) rising.0, rest)

below_without : (low key : List ℕ) (pairs : List Pair) → AllByRecursion (λ (later : Pair). key_cmp low later.0 ≡ Less) pairs → AllByRecursion (λ (later : Pair). key_cmp low later.0 ≡ Less) (without_key key pairs)
below_without low key [] all = tt
below_without low key (pair ∷ pairs) all = go (is_eq (key_cmp key pair.0)) (below_without low key pairs all.1) where
  go : (b : Bool) → AllByRecursion (λ (later : Pair). key_cmp low later.0 ≡ Less) (without_key key pairs) → AllByRecursion (λ (later : Pair). key_cmp low later.0 ≡ Less) (cond b pairs (pair ∷ without_key key pairs))
  go true rest = all.1
  go false rest = (all.0, rest)

pub rising_without : (key : List ℕ) (pairs : List Pair) → AreRising pairs → AreRising (without_key key pairs)
rising_without key [] rising = tt
rising_without key (pair ∷ pairs) rising = go (is_eq (key_cmp key pair.0)) (rising_without key pairs rising.1) where
  go : (b : Bool) → AreRising (without_key key pairs) → AreRising (cond b pairs (pair ∷ without_key key pairs))
  go true rest = rising.1
  go false rest = (below_without pair.0 key pairs rising.0, rest)

-- ---- and no key or value gets too long

short_with : (key value : List ℕ) (pairs : List Pair) → IsShort (key, value) → AllByRecursion IsShort pairs → AllByRecursion IsShort (with_pair key value pairs)
short_with key value [] short all = (short, tt)
short_with key value (pair ∷ pairs) short all = go (key_cmp key pair.0) (short_with key value pairs short all.1) where
  go : (o : Ordering) → AllByRecursion IsShort (with_pair key value pairs) → AllByRecursion IsShort (match_ordering o ((key, value) ∷ pair ∷ pairs) ((pair.0, value) ∷ pairs) (pair ∷ with_pair key value pairs))
  go Less rest = (short, all)
  go Equal rest = (record { key = all.0.key; value = short.value }, all.1)
  go Greater rest = (all.0, rest)

short_without : (key : List ℕ) (pairs : List Pair) → AllByRecursion IsShort pairs → AllByRecursion IsShort (without_key key pairs)
short_without key [] all = tt
short_without key (pair ∷ pairs) all = go (is_eq (key_cmp key pair.0)) (short_without key pairs all.1) where
  go : (b : Bool) → AllByRecursion IsShort (without_key key pairs) → AllByRecursion IsShort (cond b pairs (pair ∷ without_key key pairs))
  go true rest = all.1
  go false rest = (all.0, rest)

pub sound_with : (key value : List ℕ) (pairs : List Pair) → IsShort (key, value) → AreSound pairs → AreSound (with_pair key value pairs)
sound_with key value pairs short sound = record { rising = rising_with key value pairs sound.rising; short = short_with key value pairs short sound.short }

pub sound_without : (key : List ℕ) (pairs : List Pair) → AreSound pairs → AreSound (without_key key pairs)
sound_without key pairs sound = record { rising = rising_without key pairs sound.rising; short = short_without key pairs sound.short }

-- ---- what a search gives

pub found_at : (key : List ℕ) (pairs : List Pair) (at : ℕ) → StandsAt key pairs at → IsFoundAt key pairs at
found_at key pairs at is = record { stands = is; in_range = in_range key pairs at is; there = there_stands key pairs at is }

pub on_err : {T E : Type 0} {P : Type 0} (answer : Result T E) → P → OnErr answer P
on_err (Ok value) fact = tt
on_err (Err error) fact = fact
