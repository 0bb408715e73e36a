-- How large a number of few digits can be, whatever its bytes are.
use Rattle.std.proofs.Common.{ℕ, zero, suc, ◌+◌, ◌*◌, ◌<◌, ◌≤◌, add-one, arith}

pub largest : ℕ → ℕ
largest zero = 0
largest (suc digits) = largest digits * 10 + 255

pub largest_begins : 0 ≤ largest 0
largest_begins = omega arith

pub largest_grows : (digits number digit : ℕ) → number ≤ largest digits → digit ≤ 255 → number * 10 + digit ≤ largest (digits + 1)
unfolding largest
largest_grows digits number digit small byte = rw add-one (omega arith)

pub largest_fits : (digits : ℕ) → digits < 5 → largest (digits + 1) ≤ 2833305
unfolding largest
largest_fits zero few = omega arith
largest_fits (suc zero) few = omega arith
largest_fits (suc (suc zero)) few = omega arith
largest_fits (suc (suc (suc zero))) few = omega arith
largest_fits (suc (suc (suc (suc zero)))) few = omega arith
largest_fits (suc (suc (suc (suc (suc digits))))) few = omega arith
