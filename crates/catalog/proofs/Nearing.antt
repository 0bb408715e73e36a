-- The count of tables is halved in: a page in use, or one that isn't, tells on which side it lies.
use Rattle.std.proofs.Common.{◌≡◌, ℕ, ◌+◌, ◌-◌, ◌*◌, ◌<◌, ◌≤◌, inl, inr, List, drop, arith}
use Rattle.std.specs.Prelude.{slice_index}
use Rattle.std.proofs.lemmas.Bool.{cases_lt}
use Rattle.mtr.proofs.Behind.{byte-behind}
use Rattle.catalog.specs.Creating.{Nears}

module _ (place step : ℕ) (pages : ℕ → List ℕ) (bytes : List ℕ) (same : drop 20 bytes ≡ drop 20 (pages (5 + (place + step - 1)))) (some : 0 < step) (inside : place + 2 * step ≤ 16) where
  shown : slice_index bytes 32 ≡ slice_index (pages (5 + (place + step - 1))) 32
  shown = byte-behind 32 bytes (pages (5 + (place + step - 1))) (omega arith) same

  pub near_used : slice_index bytes 32 ≡ 1 → Nears place step (place + step) pages
  near_used used = λ n filled from to. elim (cases_lt (place + step - 1) n) [
    | inl below ↦ (omega arith, omega arith)
    | inr past ↦ absurd (omega (arith, shown, used, filled.unused (place + step - 1) past (omega arith)))
  ]

  pub near_unused : (slice_index bytes 32 ≡ 1 → ⊥) → Nears place step place pages
  near_unused unused = λ n filled from to. elim (cases_lt (place + step - 1) n) [
    | inl below ↦ absurd (unused (omega (arith, shown, filled.used (place + step - 1) below)))
    | inr past ↦ (from, omega arith)
  ]
