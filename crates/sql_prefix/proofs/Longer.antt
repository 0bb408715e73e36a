-- A front of what begins a statement begins one.
use Rattle.std.proofs.Common.{◌≡◌, ℕ, ◌+◌, ◌<◌, ◌≤◌, List, ◌++◌, length, take, drop, ◌∙◌, ap, sym, subst, arith, append_assoc}
use Rattle.std.proofs.lemmas.List.{take-append-drop, take-take}
use Rattle.sql_prefix.specs.Prefix.{IsStatement, Begins, IsLongestPrefix}

pub front_begins : (bytes more : List ℕ) → Begins (bytes ++ more) → Begins bytes
front_begins bytes more b = (more ++ b.0, subst (λ (z : List ℕ). IsStatement z) (append_assoc bytes more b.0) b.1)

shorter_begins : (bytes : List ℕ) (k n : ℕ) → k ≤ n → Begins (take n bytes) → Begins (take k bytes)
shorter_begins bytes k n le b =
    let joined : take n bytes ≡ take k (take n bytes) ++ drop k (take n bytes) = sym (take-append-drop k (take n bytes)) in
    let split : take n bytes ≡ take k bytes ++ drop k (take n bytes) =
    joined ∙ ap (λ (z : List ℕ). z ++ drop k (take n bytes)) (take-take k n bytes le) in
    front_begins (take k bytes) (drop k (take n bytes)) (subst (λ (z : List ℕ). Begins z) split b)

pub no_longer : (bytes : List ℕ) (at n : ℕ) → IsLongestPrefix bytes at → at < n → n ≤ length bytes → Begins (take n bytes) → ⊥
no_longer bytes at n l less le b = l.longest (omega (arith, less, le)) (shorter_begins bytes (at + 1) n (omega (arith, less)) b)
