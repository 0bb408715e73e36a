-- What is kept of one row, and what that says of all that is kept.
use Rattle.std.proofs.Common.{◌≡◌, ◌≢◌, ◌∙◌, ◌⊎◌, ⊎_elim, sym, ap, subst, refl, ℕ, Bool, true, false, List, [], ◌∷◌, Option, None, Some}
use Rattle.std.specs.Prelude.{◌==◌, ◌&&◌, if◌then◌else◌}
use Rattle.std.specs.Ordering.{is_eq}
use Rattle.std.specs.declared.cmp.Ordering.{Ordering}
use Rattle.std.specs.declared.cmp.Ordering.TheVariants.{Less, Equal, Greater}
use Rattle.std.proofs.lemmas.Bool.{and_from, and_parts, eq-eqb, eqb-true, true≢false}
use Rattle.inno_types.specs.declared.value.Schema.{Schema}
use Rattle.entries.specs.Pairs.{key_cmp}
use Rattle.entries.proofs.Order.{same_key, key_itself}
use Rattle.row_versions.specs.{declared.kept.Kept.Kept, declared.version.Version.Version}
use Rattle.law_stored_rows.specs.Records.{LeadTo, KeepsMore, if_of, kept_of}

-- ---- whether it is of the row

same_by_test : (a b : List ℕ) → is_eq (key_cmp a b) ≡ true → a ≡ b
same_by_test a b is = go (key_cmp a b) refl where
  go : (o : Ordering) → key_cmp a b ≡ o → a ≡ b
  go Less e = absurd (true≢false (sym is ∙ ap is_eq e))
  go Equal e = same_key a b e
  go Greater e = absurd (true≢false (sym is ∙ ap is_eq e))

some_if : (b : Bool) (one found : Kept) → (if b then Some one else None) ≡ Some found → (b ≡ true) × (one ≡ found)
some_if true one found is = (refl, cc)
some_if false one found is = absurd (cc)

of_row : (table : ℕ) (key : List ℕ) (o : Option Kept) (found : Kept) → if_of table key o ≡ Some found
    → (o ≡ Some found) × (found.table ≡ table) × (found.key ≡ key)
of_row table key None found is = absurd (cc)
of_row table key (Some one) found is =
    let some = some_if (one.table == table && is_eq (key_cmp key one.key)) one found is in
    let both = and_parts (one.table == table) (is_eq (key_cmp key one.key)) some.0 in (
      ap Some some.1,
      subst (λ (k : Kept). k.table ≡ table) some.1 (eqb-true one.table table both.0),
      subst (λ (k : Kept). k.key ≡ key) some.1 (sym (same_by_test key one.key both.1)),
    )

module _ (kept : ℕ → Option Kept) (table : ℕ) (key : List ℕ) where
  -- what is kept of a row is kept
  pub found_of : KeepsMore (kept_of kept table key) kept
  found_of pointer found is = (of_row table key (kept pointer) found is).0

  pub kept_row : (pointer : ℕ) (found : Kept) → kept_of kept table key pointer ≡ Some found → (found.table ≡ table) × (found.key ≡ key)
  kept_row pointer found is = let row = of_row table key (kept pointer) found is in (row.1, row.2)

  pub kept_here : (pointer : ℕ) (found : Kept) → kept pointer ≡ Some found → found.table ≡ table → found.key ≡ key
      → kept_of kept table key pointer ≡ Some found
  kept_here pointer found is table_is key_is =
      ap (if_of table key) is
      ∙ ap (λ (b : Bool). if b then Some found else None) (and_from (found.table == table) (is_eq (key_cmp key found.key))
      (eq-eqb found.table table table_is) (ap is_eq (ap (key_cmp key) key_is ∙ key_itself key)))

  -- what is kept for a pointer along a row is of the row
  pub kept_along : (schema : Schema) (pointer : ℕ) (versions : List Version) (found : Kept) → LeadTo schema key (kept_of kept table key) pointer versions
      → pointer ≢ 0 → kept pointer ≡ Some found → kept_of kept table key pointer ≡ Some found
  kept_along schema pointer [] found leads some there = absurd (some leads)
  kept_along schema pointer (version ∷ older) found leads some there =
      let also = found_of pointer leads.0 leads.1.there in
      let one : leads.0 ≡ found = cc (also, there) in
      leads.1.there ∙ ap Some one

-- ---- more is kept, or less

pub more_of : (old new : ℕ → Option Kept) (table : ℕ) (key : List ℕ) → KeepsMore old new → KeepsMore (kept_of old table key) (kept_of new table key)
more_of old new table key more pointer found is =
    let row = kept_row old table key pointer found is in
    kept_here new table key pointer found (more pointer found (found_of old table key pointer found is)) row.0 row.1

-- what goes of one row is of no other
pub others_keep : (old new : ℕ → Option Kept) (gone table other : ℕ) (key also : List ℕ) (former : Kept)
    → ((pointer : ℕ) → pointer ≢ gone → new pointer ≡ old pointer) → kept_of old table key gone ≡ Some former → (other ≢ table) ⊎ (also ≢ key)
    → KeepsMore (kept_of old other also) (kept_of new other also)
others_keep old new gone table other key also former same is apart pointer found there =
    let row = kept_row old other also pointer found there in
    let mine = kept_row old table key gone former is in
    let differs : pointer ≢ gone = λ e.
    let here = subst (λ (p : ℕ). kept_of old other also p ≡ Some found) e there in
    let one : found ≡ former = (let a = found_of old other also gone found here in let b = found_of old table key gone former is in cc) in
    ⊎_elim (λ tables. tables (sym row.0 ∙ ap (λ (k : Kept). k.table) one ∙ mine.0)) (λ keys. keys (sym row.1 ∙ ap (λ (k : Kept). k.key) one ∙ mine.1)) apart in
    kept_here new other also pointer found (same pointer differs ∙ found_of old other also pointer found there) row.0 row.1
