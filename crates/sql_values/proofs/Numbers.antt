-- A checked operation answers exactly where its result is a BIGINT.
use Rattle.std.proofs.Common.{◌≡◌, ℕ, ◌<◌, ◌≤◌, ◌^◌, ℤ, pos, negsuc, Option, Some, None, Ok, Err, ap, ◌∙◌, arith, ltb, ⊎_elim}
use Rattle.std.specs.Prelude.{SomeIff, FitsSigned, if◌then◌else◌}
use Rattle.std.specs.Int.{w64}
use Rattle.std.proofs.lemmas.Bool.{cases_lt}
use Rattle.std.proofs.lemmas.Bool.Decides.{nat_tests}
use Rattle.inno_types.specs.declared.value.Value.TheVariants.{Int}
use Rattle.inno_types.specs.declared.reply.SqlError.TheVariants.{OutOfRange}
use Rattle.inno_db.specs.Expressions.{Valued, in_range}
use Rattle.sql_values.specs.Calculated.{number_or_refusal}

fits_pos : (m : ℕ) → FitsSigned w64 (pos m) → m < 2 ^ 63
fits_pos m h = h.sfits

fits_negsuc : (m : ℕ) → FitsSigned w64 (negsuc m) → m < 2 ^ 63
fits_negsuc m h = h.sfits

inside : (m : ℕ) (z : ℤ) → m < 2 ^ 63 → ◌≡◌ {A = Valued} (Ok (Int z)) (if ltb m (2 ^ 63) then Ok (Int z) else Err OutOfRange)
inside m z h = grind (arith, nat_tests)

outside : (m : ℕ) (z : ℤ) → 2 ^ 63 ≤ m → ◌≡◌ {A = Valued} (Err OutOfRange) (if ltb m (2 ^ 63) then Ok (Int z) else Err OutOfRange)
outside m z h = grind (arith, nat_tests)

past : (m : ℕ) (z : ℤ) → (m < 2 ^ 63 → FitsSigned w64 z) → (FitsSigned w64 z → ⊥) → 2 ^ 63 ≤ m
past m z fits none = ⊎_elim (λ (h : m < 2 ^ 63). absurd (none (fits h))) (λ (h : 2 ^ 63 ≤ m). h) (cases_lt m (2 ^ 63))

pub number_in_range : (o : Option ℤ) (z : ℤ) → SomeIff o (FitsSigned w64 z) z → number_or_refusal o ≡ in_range z
number_in_range (Some n) (pos m) h = ap (λ k. Ok (Int k)) h.1 ∙ inside m (pos m) (fits_pos m h.0)
number_in_range (Some n) (negsuc m) h = ap (λ k. Ok (Int k)) h.1 ∙ inside m (negsuc m) (fits_negsuc m h.0)
number_in_range None (pos m) h = outside m (pos m) (past m (pos m) (λ k. record { sfits = k }) h)
number_in_range None (negsuc m) h = outside m (negsuc m) (past m (negsuc m) (λ k. record { sfits = k }) h)
