-- A row that is put behind all others.
use Rattle.std.proofs.Common.{◌≡◌, ◌∙◌, ap, refl, Bool, true, false, cond, T, List, [], ◌∷◌, ◌++◌, None, Some, Ordering}
use Rattle.std.specs.Prelude.{◌&&◌}
use Rattle.std.specs.Ordering.{is_eq, is_lt, ordering_reverse}
use Rattle.std.specs.declared.cmp.Ordering.TheVariants.{Less, Equal, Greater}
use Rattle.std.specs.FinMap.{find, put, is_sorted}
use Rattle.std.specs.FinMap.Entries.{by_order, below_all}
use Rattle.inno_types.specs.declared.value.Value.{Value}
use Rattle.inno_db.specs.Database.{Place, place_cmp}
use Rattle.inno_db.specs.Order.{place_cmp_total}

-- a row at its place
abbrev pub Entry : Type 0
Entry = Place × List Value

first : (a b : Bool) → T (a && b) → T a
first true b h = tt
first false b h = h

second : (a b : Bool) → T (a && b) → T b
second true b h = h
second false b h = absurd h

both : (a b : Bool) → T a → T b → T (a && b)
both true b h k = k
both false b h k = h

less_is : (o : Ordering) → T (is_lt o) → o ≡ Less
less_is Less h = refl
less_is Equal h = absurd h
less_is Greater h = absurd h

below_last : (x k : Place) (v : List Value) (es : List Entry) → T (below_all place_cmp x (es ++ (k, v) ∷ [])) → place_cmp x k ≡ Less
below_last x k v [] h = less_is (place_cmp x k) (first (is_lt (place_cmp x k)) true h)
below_last x k v (e ∷ es) h = below_last x k v es (second (is_lt (place_cmp x e.0)) (below_all place_cmp x (es ++ (k, v) ∷ [])) h)

module _ (k : Place) (v : List Value) where
  -- the last place is above the first
  above : (e : Entry) (es : List Entry) → T (is_sorted place_cmp (e ∷ (es ++ (k, v) ∷ []))) → place_cmp k e.0 ≡ Greater
  above e es h =
      place_cmp_total.antisymm k e.0
      ∙ ap ordering_reverse (below_last e.0 k v es (first (below_all place_cmp e.0 (es ++ (k, v) ∷ [])) (is_sorted place_cmp (es ++ (k, v) ∷ [])) h))

  pub put_last : (es : List Entry) → T (is_sorted place_cmp (es ++ (k, v) ∷ [])) → put place_cmp k v es ≡ es ++ (k, v) ∷ []
  put_last [] h = refl
  put_last (e ∷ es) h =
      ap (λ o. by_order o ((k, v) ∷ e ∷ es) ((e.0, v) ∷ es) (e ∷ put place_cmp k v es)) (above e es h)
      ∙ ap (λ fs. e ∷ fs) (put_last es (second (below_all place_cmp e.0 (es ++ (k, v) ∷ [])) (is_sorted place_cmp (es ++ (k, v) ∷ [])) h))

  -- no row stood there
  pub not_yet : (es : List Entry) → T (is_sorted place_cmp (es ++ (k, v) ∷ [])) → find place_cmp k es ≡ None
  not_yet [] h = refl
  not_yet (e ∷ es) h =
      ap (λ o. cond (is_eq o) (Some e.1) (find place_cmp k es)) (above e es h)
      ∙ not_yet es (second (below_all place_cmp e.0 (es ++ (k, v) ∷ [])) (is_sorted place_cmp (es ++ (k, v) ∷ [])) h)

below_front : (x : Place) (es fs : List Entry) → T (below_all place_cmp x (es ++ fs)) → T (below_all place_cmp x es)
below_front x [] fs h = tt
below_front x (e ∷ es) fs h =
    both (is_lt (place_cmp x e.0)) (below_all place_cmp x es) (first (is_lt (place_cmp x e.0)) (below_all place_cmp x (es ++ fs)) h)
    (below_front x es fs (second (is_lt (place_cmp x e.0)) (below_all place_cmp x (es ++ fs)) h))

-- the front of what rises does
pub front_rises : (es fs : List Entry) → T (is_sorted place_cmp (es ++ fs)) → T (is_sorted place_cmp es)
front_rises [] fs h = tt
front_rises (e ∷ es) fs h =
    both (below_all place_cmp e.0 es) (is_sorted place_cmp es)
    (below_front e.0 es fs (first (below_all place_cmp e.0 (es ++ fs)) (is_sorted place_cmp (es ++ fs)) h))
    (front_rises es fs (second (below_all place_cmp e.0 (es ++ fs)) (is_sorted place_cmp (es ++ fs)) h))
