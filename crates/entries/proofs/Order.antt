-- The order of keys.
use Rattle.std.proofs.Common.{◌≡◌, ℕ, List, refl, ◌∙◌, ap}
use Rattle.std.specs.declared.cmp.Ordering.TheVariants.{Less, Equal, Greater}
use Rattle.std.specs.Ordering.{nat_cmp, ordering_reverse}
use Rattle.std.specs.Cmp.{IsTotalOrder}
use Rattle.std.specs.Cmp.Lexicographic.{slice_cmp}
use Rattle.std.proofs.lemmas.Cmp.{nat_list_cmp_total, tied_itself}
use Rattle.std.proofs.lemmas.Map.Lookups.{exact_bytes}
use Rattle.entries.specs.Pairs.{key_cmp}

pub key_cmp_is : (key other : List ℕ) → key_cmp key other ≡ slice_cmp nat_cmp key other
unfolding key_cmp
key_cmp_is key other = refl

pub key_cmp_total : IsTotalOrder key_cmp
unfolding key_cmp
key_cmp_total = nat_list_cmp_total

-- keys that compare alike are one
pub same_key : (key other : List ℕ) → key_cmp key other ≡ Equal → key ≡ other
unfolding key_cmp
same_key key other = exact_bytes key other

pub key_itself : (key : List ℕ) → key_cmp key key ≡ Equal
key_itself key = tied_itself key_cmp_total key

pub lower_from : (key other : List ℕ) → key_cmp key other ≡ Greater → key_cmp other key ≡ Less
lower_from key other h = key_cmp_total.antisymm other key ∙ ap ordering_reverse h

pub higher_from : (key other : List ℕ) → key_cmp key other ≡ Less → key_cmp other key ≡ Greater
higher_from key other h = key_cmp_total.antisymm other key ∙ ap ordering_reverse h

-- a key below a key is below all keys above that one
pub below_all : (key other third : List ℕ) → key_cmp key other ≡ Less → key_cmp other third ≡ Less → key_cmp key third ≡ Less
below_all key other third h k = key_cmp_total.trans key other third h k
