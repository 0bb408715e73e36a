-- Which records pass in a search, where their keys rise.
use Rattle.std.proofs.Common.{◌≡◌, ℕ, Bool, true, false, zero, suc, ◌<◌, ◌≤◌, List, []}
use Rattle.std.proofs.Common.{◌∷◌, length, take, map, slice_index_or, refl, sym, ◌∙◌, ap, subst, arith}
use Rattle.std.proofs.lemmas.Bool.{false≢true}
use Rattle.std.specs.declared.cmp.Ordering.{Ordering}
use Rattle.std.specs.declared.cmp.Ordering.TheVariants.{Less, Equal, Greater}
use Rattle.std.specs.Ordering.{is_le, is_lt}
use Rattle.std.specs.List.{AllByRecursion}
use Rattle.entries.specs.Pairs.{key_cmp}
use Rattle.entries.proofs.Order.{key_cmp_is, same_key, below_all}
use Rattle.page_format.specs.Shape.{AreRising}
use Rattle.btree.specs.declared.tree.Bound.{Bound}
use Rattle.btree.specs.declared.tree.Bound.TheVariants.{AtOrAbove, Above}
use Rattle.btree.specs.Places.{passes, record_passes}

-- a key above one that passes passes
pub passes_on : (bound : Bound) (key one other : List ℕ) → passes bound key one ≡ true → key_cmp one other ≡ Less → passes bound key other ≡ true
passes_on AtOrAbove key one other here less = go (key_cmp key one) refl where
  go : (o : Ordering) → o ≡ key_cmp key one → is_le (key_cmp key other) ≡ true
  go Less is = ap is_le (below_all key one other (sym is) less)
  go Equal is = ap is_le (subst (λ k. key_cmp k other ≡ Less) (sym (same_key key one (sym is))) less)
  go Greater is = absurd (false≢true (ap is_le is ∙ here))
passes_on Above key one other here less = go (key_cmp key one) refl where
  go : (o : Ordering) → o ≡ key_cmp key one → is_lt (key_cmp key other) ≡ true
  go Less is = ap is_lt (below_all key one other (sym is) less)
  go Equal is = absurd (false≢true (ap is_lt is ∙ here))
  go Greater is = absurd (false≢true (ap is_lt is ∙ here))

-- one below a key that fails fails
pub fails_before : (bound : Bound) (key one other : List ℕ) → key_cmp one other ≡ Less → passes bound key other ≡ false → passes bound key one ≡ false
fails_before bound key one other less fails = go (passes bound key one) refl where
  go : (b : Bool) → b ≡ passes bound key one → passes bound key one ≡ false
  go true is = absurd (false≢true (sym fails ∙ passes_on bound key one other (sym is) less))
  go false is = sym is

-- where a record fails, so do those before it
pub fail_up_to : (n : ℕ) (bound : Bound) (key : List ℕ) (rs : List (List ℕ)) (i : ℕ) → AreRising (map (take n) rs) → i < length rs
    → record_passes n bound key (slice_index_or rs i []) ≡ false → AllByRecursion (λ r. record_passes n bound key r ≡ false) (take (suc i) rs)
fail_up_to n bound key [] i rising within fails = absurd (omega (arith, within))
fail_up_to n bound key (r ∷ rs) zero rising within fails = (fails, tt)
fail_up_to n bound key (r ∷ []) (suc i) rising within fails = absurd (omega (arith, within))
fail_up_to n bound key (r ∷ s ∷ rs) (suc i) rising within fails =
    let more = fail_up_to n bound key (s ∷ rs) i rising.1 (omega (arith, within)) fails in
    (fails_before bound key (take n r) (take n s) (key_cmp_is (take n r) (take n s) ∙ rising.0) more.0, more)

-- What halving keeps: the records before `low` fail, and the one at `high` passes, where there is one.
pub record IsNarrowed (n : ℕ) (bound : Bound) (key : List ℕ) (records : List (List ℕ)) (count low high : ℕ) : Type 0 where
  pub order : low ≤ high
  pub inside : high ≤ count
  pub before : AreRising (map (take n) records) → AllByRecursion (λ r. record_passes n bound key r ≡ false) (take low records)
  pub here : AreRising (map (take n) records) → high < count → record_passes n bound key (slice_index_or records high []) ≡ true
