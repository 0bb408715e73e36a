-- The tables of the catalog: pages hold one list of them, and another one goes behind.
use Rattle.std.proofs.Common.{◌≡◌, ◌≢◌, ℕ, ◌+◌, ◌<◌, ◌≤◌, inl, inr, List, [], ◌∷◌, ◌++◌, length, take, drop, get_or, true, sym, ◌∙◌, subst, arith, length-append}
use Rattle.std.proofs.lemmas.Bool.{cases_lt}
use Rattle.std.proofs.lemmas.List.{same_lists}
use Rattle.std.proofs.lemmas.Option.{slice_get_cases, slice_get_within, get_or_from_slice_get}
use Rattle.catalog.specs.declared.held.Held.{Held}
use Rattle.catalog.proofs.Entries.{one_entry}
use Rattle.catalog.specs.Makeable.{is_makeable}
use Rattle.catalog.specs.Tables.{IsUnused, HoldsTable, is_new_name, IsTable, page_count, IsCatalog}
use Rattle.catalog.specs.Creating.{IsFilled}
use Rattle.catalog.proofs.Prefixes.{table_at}

pub filled : (tables : List Held) (pages : ℕ → List ℕ) → IsCatalog tables pages → IsFilled (length tables) pages
filled tables pages catalog = record {
  used = λ k below. elim (slice_get_cases tables k).1 [
    | inl found ↦ (catalog.each k found.0 found.2).holds.head.in_use
    | inr past ↦ absurd (omega (arith, past.0))
  ];
  unused = λ k from to. (catalog.unused (5 + k) (omega arith) (omega arith)).in_use;
}

not_fewer : (m n : ℕ) (pages : ℕ → List ℕ) → n ≤ 16 → IsFilled m pages → IsFilled n pages → m < n → ⊥
not_fewer m n pages few a b fewer = omega (arith, a.unused m (omega arith) (omega arith), b.used m fewer)

one_count : (m n : ℕ) (pages : ℕ → List ℕ) → m ≤ 16 → n ≤ 16 → IsFilled m pages → IsFilled n pages → m ≡ n
one_count m n pages few_m few_n a b = elim (cases_lt m n) [
  | inl fewer ↦ absurd (not_fewer m n pages few_n a b fewer)
  | inr rest ↦ elim (cases_lt n m) [ inl fewer ↦ absurd (not_fewer n m pages few_m b a fewer) | inr others ↦ omega arith ]
]

module _ (a b : List Held) (pages : ℕ → List ℕ) (first : IsCatalog a pages) (second : IsCatalog b pages) where
  pub as_many : length a ≡ length b
  as_many = one_count (length a) (length b) pages (omega (arith, first.inside)) (omega (arith, second.inside)) (filled a pages first) (filled b pages second)

  same_at : (k : ℕ) (d : Held) → k < length a → get_or a k d ≡ get_or b k d
  same_at k d below = elim (slice_get_cases a k).1 [
    | inr past ↦ absurd (omega (arith, past.0))
    | inl in_a ↦ elim (slice_get_cases b k).1 [
      | inr past ↦ absurd (omega (arith, past.0, as_many))
      | inl in_b ↦
          get_or_from_slice_get a k in_a.0 d in_a.2
          ∙ one_entry (drop 33 (pages (5 + k))) in_a.0 in_b.0 (first.each k in_a.0 in_a.2).holds.entry (second.each k in_b.0 in_b.2).holds.entry
          ∙ sym (get_or_from_slice_get b k in_b.0 d in_b.2)
    ]
  ]

  -- pages hold one catalog
  pub one_catalog : a ≡ b
  one_catalog = same_lists a b as_many same_at

-- another table on the first page that isn't in use
pub catalog_added : (tables : List Held) (held : Held) (old new : ℕ → List ℕ) → IsCatalog tables old → length tables < 16 → page_count new ≡ page_count old → ((page : ℕ) → 5 ≤ page → page < 21 → page ≢ 5 + length tables → new page ≡ old page)
    → HoldsTable (page_count new) held (new (5 + length tables)) → is_makeable held.schema ≡ true → is_new_name held.schema.name tables ≡ true → IsCatalog (tables ++ held ∷ []) new
catalog_added tables held old new catalog fewer count same holds makeable new_name =
    let longer = length-append tables (held ∷ []) in
    record {
      inside = omega (arith, longer);
      each = table_at tables held new (record { holds = holds; makeable = makeable; new_name = new_name })
          (λ i h is.
          let within = slice_get_within tables i h is in
          let page : new (5 + i) ≡ old (5 + i) = same (5 + i) (omega arith) (omega arith) (λ e. omega arith) in
          subst (λ (l : List ℕ). IsTable (page_count new) (take i tables) h l) (sym page) (subst (λ (n : ℕ). IsTable n (take i tables) h (old (5 + i))) (sym count) (catalog.each i h is)));
      unused = λ page from to. subst IsUnused (sym (same page (omega arith) to (λ e. omega (arith, longer)))) (catalog.unused page (omega (arith, longer)) to);
    }
