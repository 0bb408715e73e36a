-- A list of zeros has zero at each place, and behind its end.
use Rattle.std.proofs.Common.{◌≡◌, ℕ, get_or, inl, inr}
use Rattle.std.proofs.Math.ListN.{replicate}
use Rattle.std.proofs.lemmas.List.{get_or-replicate, get_or_past, length-replicate}
use Rattle.std.proofs.lemmas.Bool.{cases_lt}

pub zeros : (n y : ℕ) → ◌≡◌ {A = ℕ} (get_or (replicate n 0) y 0) 0
zeros n y =
    elim (cases_lt y n) [ inl below ↦ get_or-replicate n y 0 0 below | inr past ↦ get_or_past (replicate n 0) y 0 (rw length-replicate past) ]
