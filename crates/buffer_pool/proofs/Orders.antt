-- Pages in the order of their last use: what a promotion and a new entry leave, and the last page that passes.
use Rattle.std.proofs.Common.{◌≡◌, ℕ, suc, ◌+◌, ◌-◌, ◌<◌, ◌≤◌, nat_eq, Bool, true, false, cond, ◌⊎◌, List, [], ◌∷◌, ◌++◌, length, take, Option, Some, None, refl, sym, ap, subst, ◌∙◌, inl, inr, arith}
use Rattle.std.proofs.lemmas.Bool.{eqb-true, eqb-false}
use Rattle.std.proofs.lemmas.List.{take_all}
use Rattle.std.specs.Prelude.{◌||◌, ◌==◌}
use Rattle.std.specs.List.{list_any}
use Rattle.std.specs.Option.{option_map_or}
use Rattle.std.specs.Map.{keys_of, lookup_entry, remove_entry}
use Rattle.lru.specs.LruCache.{LruCache, promoted, put_entries}
use Rattle.lru.proofs.CallerLemmas.{Contains-lookup_entry}
use Rattle.buffer_pool.specs.Order.{without, used, last_where}

abbrev pub Knows : ℕ → List ℕ → Type 0
Knows page order = list_any (λ other. page == other) order ≡ true

apart_below : (q page : ℕ) → q < page → (q == page) ≡ false
apart_below q page lower = go (q == page) refl where
  go : (b : Bool) → (q == page) ≡ b → (q == page) ≡ false
  go true is = let same : q ≡ page = eqb-true q page is in absurd (omega (arith, lower, same))
  go false is = is

without_knows : (q page : ℕ) (order : List ℕ) → (q == page) ≡ false → Knows q order → Knows q (without page order)
without_knows q page [] apart h = h
without_knows q page (other ∷ order) apart h = go (page == other) refl (q == other) refl h (without_knows q page order apart) where
  go : (b : Bool) → (page == other) ≡ b → (d : Bool) → (q == other) ≡ d → (d || list_any (λ o. q == o) order) ≡ true → (Knows q order → Knows q (without page order))
      → list_any (λ o. q == o) (cond b order (other ∷ without page order)) ≡ true
  go true is true at k ih =
      let same : page ≡ other = eqb-true page other is in
      let here : (q == page) ≡ true = subst (λ x. (q == x) ≡ true) (sym same) at in
      let clash : true ≡ false = sym here ∙ apart in cc
  go true is false at k ih = k
  go false is true at k ih = ap (λ e. e || list_any (λ o. q == o) (without page order)) at
  go false is false at k ih = ap (λ e. e || list_any (λ o. q == o) (without page order)) at ∙ ih k

-- who was known is known, once a page was used
pub used_knows : (q page : ℕ) (order : List ℕ) → Knows q order → Knows q (used page order)
used_knows q page order h = go (q == page) refl where
  go : (b : Bool) → (q == page) ≡ b → ((q == page) || list_any (λ o. q == o) (without page order)) ≡ true
  go true is = ap (λ e. e || list_any (λ o. q == o) (without page order)) is
  go false is = ap (λ e. e || list_any (λ o. q == o) (without page order)) is ∙ without_knows q page order is h

module _ {V : Type 0} (page : ℕ) where
  keys-removed : (es : List (ℕ × V)) → keys_of (remove_entry (nat_eq page) es) ≡ without page (keys_of es)
  keys-removed [] = refl
  keys-removed (e ∷ es) = go (page == e.0) (keys-removed es) where
    go : (b : Bool) → keys_of (remove_entry (nat_eq page) es) ≡ without page (keys_of es)
        → keys_of (cond b es (e ∷ remove_entry (nat_eq page) es)) ≡ cond b (keys_of es) (e.0 ∷ without page (keys_of es))
    go true h = refl
    go false h = ap (λ ks. e.0 ∷ ks) h

  length-removed : (es : List (ℕ × V)) → length (remove_entry (nat_eq page) es) ≤ length es
  length-removed [] = let none : 0 ≤ 0 = omega arith in none
  length-removed (e ∷ es) = go (page == e.0) (length-removed es) where
    go : (b : Bool) → length (remove_entry (nat_eq page) es) ≤ length es → length (cond b es (e ∷ remove_entry (nat_eq page) es)) ≤ suc (length es)
    go true h = let more : length es ≤ suc (length es) = omega arith in more
    go false h = let more : suc (length (remove_entry (nat_eq page) es)) ≤ suc (length es) = omega (arith, h) in more

  found : (es : List (ℕ × V)) → Knows page (keys_of es) → (e : ℕ × V) × ((lookup_entry (nat_eq page) es ≡ Some e) × (e.0 ≡ page))
  found [] h = cc
  found (e ∷ es) h = go (page == e.0) refl h (found es) where
    go : (b : Bool) → (page == e.0) ≡ b → (b || list_any (λ other. page == other) (keys_of es)) ≡ true
        → (Knows page (keys_of es) → (f : ℕ × V) × ((lookup_entry (nat_eq page) es ≡ Some f) × (f.0 ≡ page)))
        → (f : ℕ × V) × ((cond b (Some e) (lookup_entry (nat_eq page) es) ≡ Some f) × (f.0 ≡ page))
    go true is h ih = (e, (refl, sym (eqb-true page e.0 is)))
    go false is h ih = ih h

  pub keys-promoted : (es : List (ℕ × V)) → Knows page (keys_of es) → keys_of (promoted (nat_eq page) es) ≡ used page (keys_of es)
  keys-promoted es h =
      let f = found es h in
      ap (λ o. keys_of (option_map_or (λ e. e ∷ remove_entry (nat_eq page) es) o es)) f.1.0
      ∙ (ap (λ k. k ∷ keys_of (remove_entry (nat_eq page) es)) f.1.1 ∙ ap (λ ks. page ∷ ks) (keys-removed es))

  -- a new entry in a cache that isn't full
  put_is : (c : LruCache ℕ V) (v : V) → length c.entries ≤ c.cap - 1
      → ((e : ℕ × V) × ((lookup_entry (nat_eq page) c.entries ≡ Some e) × (put_entries nat_eq c page v ≡ (e.0, v) ∷ remove_entry (nat_eq page) c.entries)))
      ⊎ (put_entries nat_eq c page v ≡ (page, v) ∷ c.entries)
  put_is c v few = go (lookup_entry (nat_eq page) c.entries) refl where
    go : (o : Option (ℕ × V)) → lookup_entry (nat_eq page) c.entries ≡ o
        → ((e : ℕ × V) × ((lookup_entry (nat_eq page) c.entries ≡ Some e) × (put_entries nat_eq c page v ≡ (e.0, v) ∷ remove_entry (nat_eq page) c.entries)))
        ⊎ (put_entries nat_eq c page v ≡ (page, v) ∷ c.entries)
    go (Some e) is = inl (e, (is, ap (λ o. option_map_or (λ d. (d.0, v) ∷ remove_entry (nat_eq page) c.entries) o ((page, v) ∷ take (c.cap - 1) c.entries)) is))
    go None is = inr (ap (λ o. option_map_or (λ d. (d.0, v) ∷ remove_entry (nat_eq page) c.entries) o ((page, v) ∷ take (c.cap - 1) c.entries)) is
        ∙ ap (λ es. (page, v) ∷ es) (take_all (c.cap - 1) c.entries few))

knows_first : (q page : ℕ) (order : List ℕ) → (q < page → Knows q order) → q < page + 1 → Knows q (page ∷ order)
knows_first q page order h below = go (q == page) refl where
  go : (b : Bool) → (q == page) ≡ b → ((q == page) || list_any (λ o. q == o) order) ≡ true
  go true is = ap (λ e. e || list_any (λ o. q == o) order) is
  go false is =
      let apart : q ≡ page → ⊥ = eqb-false q page is in
      let lower : q < page = omega (arith, below, apart) in
      ap (λ e. e || list_any (λ o. q == o) order) is ∙ h lower

-- what the cache of the first pages is with the next one
pub record HoldsFirst {V : Type 0} (page : ℕ) (es : List (ℕ × V)) : Type 0 where
  pub few : length es ≤ page
  pub known : (q : ℕ) → q < page → Knows q (keys_of es)

pub put_next : {V : Type 0} (page : ℕ) (c : LruCache ℕ V) (v : V) → page ≤ c.cap - 1 → HoldsFirst page c.entries → HoldsFirst (page + 1) (put_entries nat_eq c page v)
put_next {V} page c v fits h = go (put_is page c v (omega (arith, h.few, fits))) where
  go : ((e : ℕ × V) × ((lookup_entry (nat_eq page) c.entries ≡ Some e) × (put_entries nat_eq c page v ≡ (e.0, v) ∷ remove_entry (nat_eq page) c.entries)))
      ⊎ (put_entries nat_eq c page v ≡ (page, v) ∷ c.entries) → HoldsFirst (page + 1) (put_entries nat_eq c page v)
  go (inr is) = subst (HoldsFirst (page + 1)) (sym is) (record {
    few = let more : suc (length c.entries) ≤ page + 1 = omega (arith, h.few) in more;
    known = λ q below. knows_first q page (keys_of c.entries) (h.known q) below;
  })
  go (inl p) =
      let same : page ≡ p.0.0 = eqb-true page p.0.0 (Contains-lookup_entry (nat_eq page) c.entries p.0 p.1.0).1 in
      let keys : keys_of ((p.0.0, v) ∷ remove_entry (nat_eq page) c.entries) ≡ used page (keys_of c.entries) =
      ap (λ k. k ∷ keys_of (remove_entry (nat_eq page) c.entries)) (sym same) ∙ ap (λ ks. page ∷ ks) (keys-removed page c.entries) in
      subst (HoldsFirst (page + 1)) (sym p.1.1) (record {
        few = let more : suc (length (remove_entry (nat_eq page) c.entries)) ≤ page + 1 = omega (arith, h.few, length-removed page c.entries) in more;
        known = λ q below. subst (Knows q) (sym keys) (knows_first q page (without page (keys_of c.entries)) (λ lower. without_knows q page (keys_of c.entries) (apart_below q page lower) (h.known q lower)) below);
      })

-- the last page that passes, from the end
pub last_where-push : {V : Type 0} (test : ℕ → Bool) (es : List (ℕ × V)) (e : ℕ × V) → last_where test (keys_of (es ++ e ∷ [])) ≡ cond (test e.0) (Some e.0) (last_where test (keys_of es))
last_where-push test [] e = refl
last_where-push test (d ∷ es) e = ap (λ o. option_map_or Some o (cond (test d.0) (Some d.0) None)) (last_where-push test es e) ∙ go (test e.0) where
  go : (b : Bool) → option_map_or Some (cond b (Some e.0) (last_where test (keys_of es))) (cond (test d.0) (Some d.0) None)
      ≡ cond b (Some e.0) (option_map_or Some (last_where test (keys_of es)) (cond (test d.0) (Some d.0) None))
  go true = refl
  go false = refl

-- it passes
pub last_where_passes : (test : ℕ → Bool) (order : List ℕ) (page : ℕ) → last_where test order ≡ Some page → test page ≡ true
last_where_passes test [] page h = cc
last_where_passes test (other ∷ order) page h = go (last_where test order) refl (test other) refl h (last_where_passes test order page) where
  go : (o : Option ℕ) → last_where test order ≡ o → (b : Bool) → test other ≡ b → option_map_or Some o (cond b (Some other) None) ≡ Some page
      → (last_where test order ≡ Some page → test page ≡ true) → test page ≡ true
  go (Some p) is b at k ih = ih (is ∙ k)
  go None is true at k ih = let same : other ≡ page = cc in subst (λ p. test p ≡ true) same at
  go None is false at k ih = cc

-- one page more was looked at, from the end
pub last_step : {V : Type 0} (test : ℕ → Bool) (es rest : List (ℕ × V)) (e : ℕ × V) (b : Bool) (order : List ℕ) → es ≡ rest ++ e ∷ [] → test e.0 ≡ b
    → last_where test (keys_of es) ≡ last_where test order → cond b (Some e.0) (last_where test (keys_of rest)) ≡ last_where test order
last_step test es rest e b order is at same =
    ap (λ d. cond d (Some e.0) (last_where test (keys_of rest))) (sym at) ∙ (sym (last_where-push test rest e) ∙ (ap (λ xs. last_where test (keys_of xs)) (sym is) ∙ same))
