-- Where halving stops among the records of a leaf is where `find` finds the key.
use Rattle.std.proofs.Common.{◌≡◌, ◌≢◌, ℕ, ◌<◌, true, false, List, [], ◌∷◌, length, take, slice_index_or, refl, sym, ◌∙◌, ap, subst}
use Rattle.std.specs.declared.cmp.Ordering.{Ordering}
use Rattle.std.specs.declared.cmp.Ordering.TheVariants.{Less, Equal, Greater}
use Rattle.std.specs.Ordering.{nat_cmp, is_le}
use Rattle.std.specs.List.{AllByRecursion}
use Rattle.std.specs.Cmp.Lexicographic.{slice_cmp}
use Rattle.std.proofs.lemmas.Bool.{false≢true}
use Rattle.std.proofs.lemmas.List.Elements.{All-from_recursion}
use Rattle.entries.specs.Pairs as pairs
use Rattle.entries.proofs.Order.{key_cmp_is, same_key, key_itself, lower_from, higher_from}
use Rattle.page_format.specs.declared.records.Found.TheVariants.{At, Before}
use Rattle.page_format.specs.Found.{IsFound, key_cmp}
use Rattle.page_format.proofs.Orders.{same_bytes}
use Rattle.btree.specs.declared.tree.Bound.TheVariants.{AtOrAbove}
use Rattle.btree.specs.Places.{record_passes, StartsAt}

-- a record that doesn't pass begins below the key
below_by : (key front : List ℕ) → is_le (pairs.key_cmp key front) ≡ false → slice_cmp nat_cmp front key ≡ Less
below_by key front fails = go (pairs.key_cmp key front) refl where
  go : (o : Ordering) → o ≡ pairs.key_cmp key front → slice_cmp nat_cmp front key ≡ Less
  go Less is = absurd (false≢true (sym fails ∙ ap is_le (sym is)))
  go Equal is = absurd (false≢true (sym fails ∙ ap is_le (sym is)))
  go Greater is = sym (key_cmp_is front key) ∙ lower_from key front (sym is)

-- one that passes and isn't the key's begins above it
above_by : (key front : List ℕ) → is_le (pairs.key_cmp key front) ≡ true → slice_cmp nat_cmp front key ≢ Equal → slice_cmp nat_cmp front key ≡ Greater
above_by key front passes other = go (pairs.key_cmp key front) refl where
  go : (o : Ordering) → o ≡ pairs.key_cmp key front → slice_cmp nat_cmp front key ≡ Greater
  go Less is = sym (key_cmp_is front key) ∙ higher_from key front (sym is)
  go Equal is =
      let same : key ≡ front = same_key key front (sym is) in
      absurd (other (subst (λ k. slice_cmp nat_cmp front k ≡ Equal) (sym same) (sym (key_cmp_is front front) ∙ key_itself front)))
  go Greater is = absurd (false≢true (ap is_le is ∙ passes))

all_below : (key : List ℕ) (rs : List (List ℕ)) → AllByRecursion (λ r. record_passes (length key) AtOrAbove key r ≡ false) rs
    → AllByRecursion (λ r. key_cmp key r ≡ Less) rs
all_below key [] all = tt
all_below key (r ∷ rs) all = (below_by key (take (length key) r) all.0, all_below key rs all.1)

module _ (key : List ℕ) (rs : List (List ℕ)) (i : ℕ) (starts : StartsAt (record_passes (length key) AtOrAbove key) rs i) where
  pub at_key : i < length rs → slice_cmp nat_cmp (take (length key) (slice_index_or rs i [])) key ≡ Equal → IsFound rs key (At i)
  at_key within same = (
    All-from_recursion (λ r. key_cmp key r ≡ Less) (take i rs) (all_below key (take i rs) starts.before),
    within,
    same_bytes (take (length key) (slice_index_or rs i [])) key same,
  )

  pub before_key : (i < length rs → slice_cmp nat_cmp (take (length key) (slice_index_or rs i [])) key ≢ Equal) → IsFound rs key (Before i)
  before_key other = (
    All-from_recursion (λ r. key_cmp key r ≡ Less) (take i rs) (all_below key (take i rs) starts.before),
    starts.within,
    λ within. above_by key (take (length key) (slice_index_or rs i [])) (starts.here within) (other within),
  )

-- a search by keys of the tree's length
pub starts_for : (n : ℕ) (key : List ℕ) (rs : List (List ℕ)) (i : ℕ) → length key ≡ n → StartsAt (record_passes n AtOrAbove key) rs i
    → StartsAt (record_passes (length key) AtOrAbove key) rs i
starts_for n key rs i long starts = subst (λ k. StartsAt (record_passes k AtOrAbove key) rs i) (sym long) starts
