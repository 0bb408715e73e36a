-- Slots of versions: what a slot more, and a slot that is filled, make of what is kept.
use Rattle.std.proofs.Common.{◌≡◌, ◌≢◌, ℕ, zero, suc, ◌+◌, ◌-◌, ◌<◌, ◌≤◌, List, [], ◌∷◌, ◌++◌, length, Option, None, Some, refl, ap, sym, ◌∙◌, subst, arith, inl, inr, add-one}
use Rattle.std.specs.Prelude.{slice_get, slice_set}
use Rattle.std.proofs.lemmas.Bool.{cases_eq}
use native.Mathlib.Numerals.{unary_clauses}
use Rattle.std.proofs.Math.Path.{fun_ext}
use Rattle.row_versions.specs.declared.kept.Kept.{Kept}
use Rattle.row_versions.specs.Versions.{IsShort}
use Rattle.index_store.proofs.Places.{get_set_here, get_set_elsewhere}
use Rattle.list_store.specs.Slots.{filled, kept_behind, AreShort}

taken_at : (slots : List (Option Kept)) (place : ℕ) → filled (slice_get (slots ++ None ∷ []) place) ≡ filled (slice_get slots place)
taken_at [] zero = refl
taken_at [] (suc place) = refl
taken_at (slot ∷ slots) zero = refl
taken_at (slot ∷ slots) (suc place) = taken_at slots place

taken_behind : (slots : List (Option Kept)) (pointer : ℕ) → kept_behind (slots ++ None ∷ []) pointer ≡ kept_behind slots pointer
taken_behind slots zero = refl
taken_behind slots (suc place) = taken_at slots place

-- a slot that was taken is not filled
pub kept_taken : (slots : List (Option Kept)) → kept_behind (slots ++ None ∷ []) ≡ kept_behind slots
kept_taken slots = fun_ext (taken_behind slots)

past_at : (slots : List (Option Kept)) → filled (slice_get (slots ++ None ∷ []) (length slots)) ≡ None
past_at [] = refl
past_at (slot ∷ slots) = past_at slots

pub kept_past : (slots : List (Option Kept)) → kept_behind (slots ++ None ∷ []) (length slots + 1) ≡ None
kept_past slots = rw add-one (past_at slots)

pub short_taken : (slots : List (Option Kept)) → AreShort slots → AreShort (slots ++ None ∷ [])
short_taken slots short = record { short = λ pointer kept is. short.short pointer kept (sym (taken_behind slots pointer) ∙ is) }

-- what was filled is kept behind its pointer
pub kept_filled : (slots : List (Option Kept)) (pointer : ℕ) (kept : Kept) → 0 < pointer → pointer ≤ length slots
    → kept_behind (slice_set slots (pointer - 1) (Some kept)) pointer ≡ Some kept
kept_filled slots zero kept above there = absurd (omega arith)
kept_filled slots (suc place) kept above there = simp unary_clauses (ap filled (get_set_here slots place (Some kept) (omega arith)))

pub kept_elsewhere : (slots : List (Option Kept)) (pointer other : ℕ) (kept : Kept) → 0 < pointer → other ≢ pointer
    → kept_behind (slice_set slots (pointer - 1) (Some kept)) other ≡ kept_behind slots other
kept_elsewhere slots zero other kept above another = absurd (omega arith)
kept_elsewhere slots (suc place) zero kept above another = refl
kept_elsewhere slots (suc place) (suc other) kept above another =
    simp unary_clauses (ap filled (get_set_elsewhere slots place other (Some kept) (λ same. another (ap suc same))))

short_filled_at : (slots : List (Option Kept)) (pointer : ℕ) (kept : Kept) → AreShort slots → IsShort kept → 0 < pointer → pointer ≤ length slots
    → (other : ℕ) (found : Kept) → kept_behind (slice_set slots (pointer - 1) (Some kept)) other ≡ Some found → IsShort found
short_filled_at slots pointer kept short fits above there other found is = elim (cases_eq other pointer) [
  | inl same ↦ let here = subst (λ (n : ℕ). kept_behind (slice_set slots (pointer - 1) (Some kept)) n ≡ Some found) same is in
      let eq : kept ≡ found = let e : Some kept ≡ Some found = sym (kept_filled slots pointer kept above there) ∙ here in cc in subst IsShort eq fits
  | inr another ↦ short.short other found (sym (kept_elsewhere slots pointer other kept above another) ∙ is)
]

pub short_filled : (slots : List (Option Kept)) (pointer : ℕ) (kept : Kept) → AreShort slots → IsShort kept → 0 < pointer → pointer ≤ length slots
    → AreShort (slice_set slots (pointer - 1) (Some kept))
short_filled slots pointer kept short fits above there = record { short = short_filled_at slots pointer kept short fits above there }
