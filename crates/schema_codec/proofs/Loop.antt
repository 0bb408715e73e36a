-- Reading items one after the other, as a loop does.
use Rattle.std.proofs.Common.{◌≡◌, ℕ, suc, ◌-◌, ◌+◌, ◌≤◌, ◌<◌, List, [], ◌∷◌, ◌++◌, Option, Some, None, refl, sym, ap, ◌∙◌, append_assoc, arith}
use Rattle.std.proofs.lemmas.List.{append-nil}
use Rattle.schema_codec.specs.declared.stop.Stop.{Stop}
use Rattle.schema_codec.specs.declared.stop.Stop.TheVariants.{Memory, Malformed}
use Rattle.schema_codec.specs.Reading.{◌>>=◌, Fails, list_at}

-- what was read before, and what is still read
abbrev pub with_front : {A : Type 0} → List A → Option (List A × List ℕ) → Option (List A × List ℕ)
with_front front read = read >>= λ x. Some (front ++ x.0, x.1)

regroup : {A : Type 0} (front : List A) (r : A) (read : Option (List A × List ℕ)) → with_front front (read >>= λ x. Some (r ∷ x.0, x.1)) ≡ with_front (front ++ r ∷ []) read
regroup {A = A} front r (Some x) = ap (λ (rs : List A). Some (rs, x.1)) (simp append_assoc)
regroup front r None = refl

module _ {A : Type 0} (item : List ℕ → Option (A × List ℕ)) where
  pub goes_on : (front : List A) (count i : ℕ) (bytes : List ℕ) (r : A) (after : List ℕ) (total : Option (List A × List ℕ)) → i < count → item bytes ≡ Some (r, after)
      → with_front front (list_at item (count - i) bytes) ≡ total → with_front (front ++ r ∷ []) (list_at item (count - (i + 1)) after) ≡ total
  unfolding list_at
  goes_on front count i bytes r after total lt here so_far =
      let left : count - i ≡ suc (count - (i + 1)) = omega arith in
      let one : with_front front (list_at item (count - i) bytes) ≡ with_front (front ++ r ∷ []) (list_at item (count - (i + 1)) after) = rw (left, here) (regroup front r (list_at item (count - (i + 1)) after)) in
      sym one ∙ so_far

  pub ends : (e : Stop) (front : List A) (count i : ℕ) (bytes : List ℕ) (total : Option (List A × List ℕ)) → i < count → Fails e (item bytes) → with_front front (list_at item (count - i) bytes) ≡ total → Fails e total
  unfolding list_at
  ends Memory front count i bytes total lt here so_far = tt
  ends Malformed front count i bytes total lt here so_far =
      let left : count - i ≡ suc (count - (i + 1)) = omega arith in
      let one : with_front front (list_at item (count - i) bytes) ≡ None = rw (left, here) refl in
      sym so_far ∙ one

  pub is_done : (front : List A) (count i : ℕ) (bytes : List ℕ) (total : Option (List A × List ℕ)) → count ≤ i → with_front front (list_at item (count - i) bytes) ≡ total → total ≡ Some (front, bytes)
  unfolding list_at
  is_done front count i bytes total le so_far =
      let left : count - i ≡ 0 = omega arith in
      let one : with_front front (list_at item (count - i) bytes) ≡ Some (front, bytes) = rw left (ap (λ (rs : List A). Some (rs, bytes)) (append-nil front)) in
      sym so_far ∙ one
