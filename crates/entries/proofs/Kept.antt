-- What a map that is ordered by keys gives, in the words of pairs.
use Rattle.std.proofs.Common.{◌≡◌, ℕ, ◌≤◌, Bool, true, false, cond, not, List, [], ◌∷◌, length, Option, None, Some, refl, sym, ◌∙◌, ap, subst}
use Rattle.std.specs.Prelude.{MatchOption, IfNone, IfOk, OnErr, Result, Ok, Err, if◌then◌else◌, find, filter, is_some, option_map, ◌&&◌}
use Rattle.std.specs.declared.cmp.Ordering.{Ordering}
use Rattle.std.specs.declared.cmp.Ordering.TheVariants.{Less, Equal, Greater}
use Rattle.std.specs.declared.collections.Bound.{Bound}
use Rattle.std.specs.declared.collections.Bound.TheVariants.{Unbounded}
use Rattle.std.specs.Ordering.{nat_cmp, match_ordering, is_eq}
use Rattle.std.specs.Cmp.Lexicographic.{slice_cmp}
use Rattle.std.specs.List.{AllByRecursion}
use Rattle.std.specs.Map.{lookup, remove_entry, set_value}
use Rattle.std.specs.BTreeMap.{is_at, insert_entry}
use Rattle.std.specs.BTreeMap.Range.{entries_between, is_from_start}
use Rattle.entries.specs.Pairs.{Pair, key_cmp, AreRising, AreSound, IsShort, value_of, with_pair, without_key}
use Rattle.entries.proofs.Order.{same_key}
use Rattle.entries.proofs.Edits.{none_above, all_above, sound_with}

-- ---- the order of the map is that of keys

pub got : (key : List ℕ) (pairs : List Pair) → lookup (is_at (slice_cmp nat_cmp key)) pairs ≡ value_of key pairs
unfolding key_cmp
got key pairs = refl

pub inserted : (key value : List ℕ) (pairs : List Pair) → insert_entry (slice_cmp nat_cmp) pairs key value ≡ with_pair key value pairs
unfolding key_cmp
inserted key value pairs = refl

pub removed : (key : List ℕ) (pairs : List Pair) → remove_entry (is_at (slice_cmp nat_cmp key)) pairs ≡ without_key key pairs
unfolding key_cmp
removed key pairs = refl

set_there : (key value : List ℕ) (pairs : List Pair) → set_value (is_at (slice_cmp nat_cmp key)) pairs value ≡ set_value (is_at (key_cmp key)) pairs value
unfolding key_cmp
set_there key value pairs = refl

ranged : (low : Bound (List ℕ)) (pairs : List Pair)
    → entries_between (slice_cmp nat_cmp) low Unbounded pairs ≡ filter (λ (pair : Pair). is_from_start key_cmp low pair.0 && not false) pairs
unfolding key_cmp
ranged low pairs = refl

-- ---- the first pair of a range

cons_nil : (pair : Pair) (pairs : List Pair) → pair ∷ pairs ≡ [] → ⊥
cons_nil pair pairs e = cc

head : (a b : Pair) (l m : List Pair) → a ∷ l ≡ b ∷ m → a ≡ b
head a b l m e = cc

none_found : (test : Pair → Bool) (pairs : List Pair) → filter test pairs ≡ [] → find test pairs ≡ None
none_found test [] none = refl
none_found test (pair ∷ pairs) none = go (test pair) (none_found test pairs) none where
  go : (b : Bool) → (filter test pairs ≡ [] → find test pairs ≡ None) → cond b (pair ∷ filter test pairs) (filter test pairs) ≡ []
      → cond b (Some pair) (find test pairs) ≡ None
  go true rest is = absurd (cons_nil pair (filter test pairs) is)
  go false rest is = rest is

one_found : (test : Pair → Bool) (first : Pair) (others pairs : List Pair) → filter test pairs ≡ first ∷ others → find test pairs ≡ Some first
one_found test first others [] is = cc
one_found test first others (pair ∷ pairs) is = go (test pair) (one_found test first others pairs) is where
  go : (b : Bool) → (filter test pairs ≡ first ∷ others → find test pairs ≡ Some first)
      → cond b (pair ∷ filter test pairs) (filter test pairs) ≡ first ∷ others → cond b (Some pair) (find test pairs) ≡ Some first
  go true rest is = ap (λ (p : Pair). Some p) (head pair first (filter test pairs) others is)
  go false rest is = rest is

and_true : (b : Bool) → b && not false ≡ b
and_true true = refl
and_true false = refl

found_alike : (test : Pair → Bool) (pairs : List Pair) → find (λ (pair : Pair). test pair && not false) pairs ≡ find test pairs
found_alike test [] = refl
found_alike test (pair ∷ pairs) = rw (and_true (test pair)) (ap (λ (o : Option Pair). cond (test pair) (Some pair) o) (found_alike test pairs))

-- what the first step of a range gives
pub first_of : (low : Bound (List ℕ)) (pairs range rest : List Pair) (found : Option Pair)
    → range ≡ entries_between (slice_cmp nat_cmp) low Unbounded pairs → MatchOption found ((range ≡ []) × (rest ≡ [])) (λ pair. range ≡ pair ∷ rest)
    → found ≡ find (λ (pair : Pair). is_from_start key_cmp low pair.0) pairs
first_of low pairs range rest None is took =
    sym (none_found (λ (pair : Pair). is_from_start key_cmp low pair.0 && not false) pairs (sym (is ∙ ranged low pairs) ∙ took.0))
    ∙ found_alike (λ (pair : Pair). is_from_start key_cmp low pair.0) pairs
first_of low pairs range rest (Some pair) is took =
    sym (one_found (λ (pair : Pair). is_from_start key_cmp low pair.0 && not false) pair rest pairs (sym (is ∙ ranged low pairs) ∙ took))
    ∙ found_alike (λ (pair : Pair). is_from_start key_cmp low pair.0) pairs

-- ---- what was found is not too long

same_some : {A : Type 0} (a b : A) → Some a ≡ Some b → a ≡ b
same_some a b e = cc

none_some : {A : Type 0} (a : A) → None ≡ Some a → ⊥
none_some a e = cc

pub short_found : (test : Pair → Bool) (pair : Pair) (pairs : List Pair) → AllByRecursion IsShort pairs → find test pairs ≡ Some pair → IsShort pair
short_found test pair [] all is = absurd (none_some pair is)
short_found test pair (first ∷ pairs) all is = go (test first) all.0 (short_found test pair pairs all.1) is where
  go : (b : Bool) → IsShort first → (find test pairs ≡ Some pair → IsShort pair) → cond b (Some first) (find test pairs) ≡ Some pair → IsShort pair
  go true short rest is = subst IsShort (same_some first pair is) short
  go false short rest is = rest is

pub short_value : (key value : List ℕ) (pairs : List Pair) → AllByRecursion IsShort pairs → value_of key pairs ≡ Some value → length value ≤ 1024
short_value key value [] all is = absurd (none_some value is)
short_value key value (pair ∷ pairs) all is = go (is_eq (key_cmp key pair.0)) all.0 (short_value key value pairs all.1) is where
  go : (b : Bool) → IsShort pair → (value_of key pairs ≡ Some value → length value ≤ 1024) → cond b (Some pair.1) (value_of key pairs) ≡ Some value
      → length value ≤ 1024
  go true short rest is = subst (λ (v : List ℕ). length v ≤ 1024) (same_some pair.1 value is) short.value
  go false short rest is = rest is

-- ---- another value at a key that is there

value_set : (key value kept : List ℕ) (pairs : List Pair) → AreRising pairs → value_of key pairs ≡ Some kept
    → set_value (is_at (key_cmp key)) pairs value ≡ with_pair key value pairs
value_set key value kept [] rising is = absurd (none_some kept is)
value_set key value kept (pair ∷ pairs) rising is = go (key_cmp key pair.0) refl (value_set key value kept pairs rising.1) is where
  go : (o : Ordering) → o ≡ key_cmp key pair.0
      → (value_of key pairs ≡ Some kept → set_value (is_at (key_cmp key)) pairs value ≡ with_pair key value pairs)
      → cond (is_eq o) (Some pair.1) (value_of key pairs) ≡ Some kept
      → cond (is_eq o) ((pair.0, value) ∷ pairs) (pair ∷ set_value (is_at (key_cmp key)) pairs value)
      ≡ match_ordering o ((key, value) ∷ pair ∷ pairs) ((pair.0, value) ∷ pairs) (pair ∷ with_pair key value pairs)
  go Less at rest is = absurd (none_some kept (sym (none_above key pairs (all_above key pair.0 pairs (sym at) rising.0)) ∙ is))
  go Equal at rest is = refl
  go Greater at rest is = ap (λ (l : List Pair). pair ∷ l) (rest is)

pub replaced : (key value kept : List ℕ) (pairs : List Pair) → AreRising pairs → value_of key pairs ≡ Some kept
    → set_value (is_at (slice_cmp nat_cmp key)) pairs value ≡ with_pair key value pairs
replaced key value kept pairs rising is = set_there key value pairs ∙ value_set key value kept pairs rising is

-- what is shown of a first step is its pair
pub shown_first : {A B : Type 0} (shows : A → B) (found : Option A) (none : Type 0) (one : B → Type 0)
    → MatchOption found none (λ x. one (shows x)) → MatchOption (option_map shows found) none one
shown_first shows None none one m = m
shown_first shows (Some x) none one m = m

short_there : (key kept : List ℕ) (pairs : List Pair) → AllByRecursion IsShort pairs → value_of key pairs ≡ Some kept → length key ≤ 67
short_there key kept [] all is = absurd (none_some kept is)
short_there key kept (pair ∷ pairs) all is = go (key_cmp key pair.0) refl all.0 (short_there key kept pairs all.1) is where
  go : (o : Ordering) → o ≡ key_cmp key pair.0 → IsShort pair → (value_of key pairs ≡ Some kept → length key ≤ 67)
      → cond (is_eq o) (Some pair.1) (value_of key pairs) ≡ Some kept → length key ≤ 67
  go Less at short rest is = rest is
  go Equal at short rest is = subst (λ (k : List ℕ). length k ≤ 67) (sym (same_key key pair.0 (sym at))) short.key
  go Greater at short rest is = rest is

-- another value keeps pairs sound
pub sound_put : (key value : List ℕ) (pairs : List Pair) → AreSound pairs → is_some (value_of key pairs) ≡ true → length value ≤ 1024
    → AreSound (with_pair key value pairs)
sound_put key value pairs sound there fits = go (value_of key pairs) refl there where
  go : (o : Option (List ℕ)) → o ≡ value_of key pairs → is_some o ≡ true → AreSound (with_pair key value pairs)
  go None is there = cc
  go (Some kept) is there =
      sound_with key value pairs (record { key = short_there key kept pairs sound.short (sym is); value = fits }) sound

pub removed_if : (key : List ℕ) (pairs new : List Pair) (value : Option (List ℕ)) → new ≡ remove_entry (is_at (slice_cmp nat_cmp key)) pairs
    → IfNone value (new ≡ pairs) → new ≡ (if is_some value then without_key key pairs else pairs)
removed_if key pairs new None is stays = stays
removed_if key pairs new (Some value) is stays = is ∙ removed key pairs

-- a copy of a pair was put
pub put_copy : (key value key-copy value-copy : List ℕ) (pairs new : List Pair) → key-copy ≡ key → value-copy ≡ value
    → new ≡ insert_entry (slice_cmp nat_cmp) pairs key-copy value-copy → new ≡ with_pair key value pairs
put_copy key value key-copy value-copy pairs new same-key same-value is =
    is ∙ ap (λ (k : List ℕ). insert_entry (slice_cmp nat_cmp) pairs k value-copy) same-key
    ∙ ap (λ (v : List ℕ). insert_entry (slice_cmp nat_cmp) pairs key v) same-value ∙ inserted key value pairs

-- a value of known length has that length
pub same_length : (found : Option (List ℕ)) (kept value : List ℕ) → option_map (λ (kept : List ℕ). length kept) found ≡ Some (length value)
    → Some kept ≡ found → length kept ≡ length value
same_length found kept value long is = same_some (length kept) (length value) (ap (option_map (λ (v : List ℕ). length v)) is ∙ long)

pub no_length : (found : Option (List ℕ)) (n : ℕ) → option_map (λ (kept : List ℕ). length kept) found ≡ Some n → None ≡ found → ⊥
no_length found n long none = none_some n (ap (option_map (λ (v : List ℕ). length v)) none ∙ long)

pub there_is : (found : Option (List ℕ)) (n : ℕ) → option_map (λ (kept : List ℕ). length kept) found ≡ Some n → is_some found ≡ true
there_is None n long = absurd (none_some n long)
there_is (Some kept) n long = refl

-- a copy of a pair was put where its key wasn't there
module _ (key value key-copy value-copy : List ℕ) (pairs new : List Pair) (same-key : key-copy ≡ key) (same-value : value-copy ≡ value) where
  abbrev WasPut : Option (List ℕ) → Type 0
  WasPut kept = new ≡ (if is_some kept then pairs else insert_entry (slice_cmp nat_cmp) pairs key-copy value-copy)

  put_if : (there : Bool) → new ≡ (if there then pairs else insert_entry (slice_cmp nat_cmp) pairs key-copy value-copy)
      → new ≡ (if there then pairs else with_pair key value pairs)
  put_if true is = is
  put_if false is = put_copy key value key-copy value-copy pairs new same-key same-value is

  pub put_new_is : {E : Type 0} (answer : Result (Option (List ℕ)) E) → IfOk answer WasPut
      → IfOk answer (λ kept. new ≡ (if is_some kept then pairs else with_pair key value pairs))
  put_new_is (Ok kept) ok = put_if (is_some kept) ok
  put_new_is (Err e) ok = ok

  sound_if : (there : Bool) → AreSound pairs → IsShort (key, value) → new ≡ (if there then pairs else with_pair key value pairs) → AreSound new
  sound_if true sound short is = subst AreSound (sym is) sound
  sound_if false sound short is = subst AreSound (sym is) (sound_with key value pairs short sound)

  pub put_new_sound : {E : Type 0} (answer : Result (Option (List ℕ)) E) → AreSound pairs → IsShort (key, value) → IfOk answer WasPut → OnErr answer (new ≡ pairs)
      → AreSound new
  put_new_sound (Ok kept) sound short ok err = sound_if (is_some kept) sound short (put_if (is_some kept) ok)
  put_new_sound (Err e) sound short ok err = subst AreSound (sym err) sound

  pub put_new_kept : {E : Type 0} (answer : Result (Option (List ℕ)) E) → IfOk answer (λ kept. kept ≡ lookup (is_at (slice_cmp nat_cmp key-copy)) pairs)
      → IfOk answer (λ kept. kept ≡ value_of key pairs)
  put_new_kept (Ok kept) is = is ∙ ap (λ (k : List ℕ). lookup (is_at (slice_cmp nat_cmp k)) pairs) same-key ∙ got key pairs
  put_new_kept (Err e) is = is
