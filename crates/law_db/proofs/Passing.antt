-- The rows of a table that pass a test are the same in two databases that differ in none of them.
use Rattle.std.proofs.Common.{◌≡◌, ◌∙◌, ap, sym, refl, subst, ℕ, Bool, true, false, cond, List, [], ◌∷◌, Option, Some, None, T, map, ⊎_elim}
use Rattle.std.specs.Prelude.{filter, ◌==◌, ◌&&◌, if◌then◌else◌}
use Rattle.std.specs.Ordering.{is_eq, is_lt, eq_by_cmp}
use Rattle.std.specs.declared.cmp.Ordering.{Ordering}
use Rattle.std.specs.declared.cmp.Ordering.TheVariants.{Less, Equal, Greater}
use Rattle.std.specs.FinMap.{get, entries, entries_sorted, find, is_sorted, get-entries}
use Rattle.std.specs.FinMap.Entries.{below_all, same_entries}
use Rattle.std.proofs.lemmas.Bool.Decides.{eqb_tells}
use Rattle.inno_types.specs.declared.value.Value.{Value}
use Rattle.inno_db.specs.Database.{Database, Place, place_cmp, rows_of}
use Rattle.inno_db.specs.Order.{place_cmp_total}
use Rattle.inno_db.proofs.Tables.{place_cmp-IsAntisymmetric}
use Rattle.law_db.specs.Beside.{passed}

abbrev Entry : Type 0
Entry = Place × List Value

both : (a b : Bool) → T a → T b → T (a && b)
both true b p q = q
both false b p q = p

front : (a b : Bool) → T (a && b) → T a
front true b p = tt
front false b p = p

behind : (a b : Bool) → T (a && b) → T b
behind true b p = p
behind false b p = absurd p

tied : (o : Ordering) → is_eq o ≡ true → o ≡ Equal
tied Less e = cc
tied Equal e = refl
tied Greater e = cc

less : (o : Ordering) → T (is_lt o) → o ≡ Less
less Less p = refl
less Equal p = absurd p
less Greater p = absurd p

below_tied : (x y : Place) (es : List Entry) → place_cmp x y ≡ Equal → T (below_all place_cmp y es) → T (below_all place_cmp x es)
below_tied x y [] p h = tt
below_tied x y (e ∷ es) p h = both _ _ (subst (λ r. T (is_lt r)) (sym (place_cmp_total.congr x y e.0 p)) (front _ _ h)) (below_tied x y es p (behind _ _ h))

find_below : (q : Place) (es : List Entry) → T (below_all place_cmp q es) → find place_cmp q es ≡ None
find_below q [] h = refl
find_below q (e ∷ es) h = ap (λ r. cond (is_eq r) (Some e.1) (find place_cmp q es)) (less _ (front _ _ h)) ∙ find_below q es (behind _ _ h)

module _ (test : Entry → Bool) where
  below_filter : (x : Place) (es : List Entry) → T (below_all place_cmp x es) → T (below_all place_cmp x (filter test es))
  below_filter x [] h = tt
  below_filter x (e ∷ es) h =
      let rest = below_filter x es (behind _ _ h) in
      elim (test e) as (λ b. T (below_all place_cmp x (cond b (e ∷ filter test es) (filter test es)))) [ true ↦ both _ _ (front _ _ h) rest | false ↦ rest ]

  sorted_filter : (es : List Entry) → T (is_sorted place_cmp es) → T (is_sorted place_cmp (filter test es))
  sorted_filter [] h = tt
  sorted_filter (e ∷ es) h =
      let rest = sorted_filter es (behind _ _ h) in
      elim (test e) as (λ b. T (is_sorted place_cmp (cond b (e ∷ filter test es) (filter test es)))) [ true ↦ both _ _ (below_filter e.0 es (front _ _ h)) rest | false ↦ rest ]

  -- what the test leaves at a place
  abbrev left_at : Place → Option (List Value) → Option (List Value)
  left_at place None = None
  left_at place (Some row) = if test (place, row) then Some row else None

  find_filter : (place : Place) (es : List Entry) → T (is_sorted place_cmp es) → find place_cmp place (filter test es) ≡ left_at place (find place_cmp place es)
  find_filter place [] h = refl
  find_filter place (e ∷ es) h =
      let rest = find_filter place es (behind _ _ h) in
      elim (eq_by_cmp place_cmp place e.0) as (λ t. eq_by_cmp place_cmp place e.0 ≡ t → find place_cmp place (cond (test e) (e ∷ filter test es) (filter test es)) ≡ left_at place (cond t (Some e.1) (find place_cmp place es))) [
        | true ↦ λ t.
            let is = tied (place_cmp place e.0) t in
            let same : place ≡ e.0 = place_cmp-IsAntisymmetric place e.0 is in
            let none : find place_cmp place (filter test es) ≡ None = find_below place (filter test es) (below_filter place es (below_tied place e.0 es is (front _ _ h))) in
            elim (test e) as (λ b. test e ≡ b → find place_cmp place (cond b (e ∷ filter test es) (filter test es)) ≡ (if test (place, e.1) then Some e.1 else None)) [
              | true ↦ λ b. ap (λ c. cond c (Some e.1) (find place_cmp place (filter test es))) t ∙ sym (ap (λ (p : Place). if test (p, e.1) then Some e.1 else None) same ∙ ap (λ c. if c then Some e.1 else None) b)
              | false ↦ λ b. none ∙ sym (ap (λ (p : Place). if test (p, e.1) then Some e.1 else None) same ∙ ap (λ c. if c then Some e.1 else None) b)
            ] refl
        | false ↦ λ t. elim (test e) as (λ b. find place_cmp place (cond b (e ∷ filter test es) (filter test es)) ≡ find place_cmp place (filter test es)) [
          | true ↦ ap (λ c. cond c (Some e.1) (find place_cmp place (filter test es))) t
          | false ↦ refl
        ] ∙ rest
      ] refl

  same_filter : (es fs : List Entry) → T (is_sorted place_cmp es) → T (is_sorted place_cmp fs) → ((place : Place) → left_at place (find place_cmp place es) ≡ left_at place (find place_cmp place fs)) → filter test es ≡ filter test fs
  same_filter es fs g h is =
      same_entries place_cmp place_cmp_total place_cmp-IsAntisymmetric (filter test es) (filter test fs) (sorted_filter es g) (sorted_filter fs h)
      (λ place. find_filter place es g ∙ is place ∙ sym (find_filter place fs h))

module _ (table : ℕ) (test : List Value → Bool) where
  abbrev passes : Entry → Bool
  passes e = (e.0.0 == table) && test e.1

  passing_rows : (es : List Entry) → filter test (map (λ (e : Entry). e.1) (filter (λ (e : Entry). e.0.0 == table) es)) ≡ map (λ (e : Entry). e.1) (filter passes es)
  passing_rows [] = refl
  passing_rows (e ∷ es) =
      let rest = passing_rows es in
      let here = filter (λ (e : Entry). e.0.0 == table) es in
      elim (e.0.0 == table) as (λ b. filter test (map (λ (e : Entry). e.1) (cond b (e ∷ here) here)) ≡ map (λ (e : Entry). e.1) (cond (b && test e.1) (e ∷ filter passes es) (filter passes es))) [
        | true ↦ elim (test e.1) as (λ b. cond b (e.1 ∷ filter test (map (λ (e : Entry). e.1) here)) (filter test (map (λ (e : Entry). e.1) here)) ≡ map (λ (e : Entry). e.1) (cond b (e ∷ filter passes es) (filter passes es))) [
          | true ↦ ap (λ rows. e.1 ∷ rows) rest
          | false ↦ rest
        ]
        | false ↦ rest
      ]

  left_here : (key : Value) (o : Option (List Value)) (t : ℕ) → (t == table) ≡ true → left_at passes (t, key) o ≡ passed test o
  left_here key None t is = refl
  left_here key (Some row) t is = ap (λ b. if b && test row then Some row else None) is

  left_elsewhere : (key : Value) (o : Option (List Value)) (t : ℕ) → (t == table) ≡ false → left_at passes (t, key) o ≡ None
  left_elsewhere key None t is = refl
  left_elsewhere key (Some row) t is = ap (λ b. if b && test row then Some row else None) is

  -- the rows that pass are those of the places
  pub same_passing : (a b : Database) → ((key : Value) → passed test (get a.rows (table, key)) ≡ passed test (get b.rows (table, key))) → filter test (rows_of table a) ≡ filter test (rows_of table b)
  same_passing a b alike =
      passing_rows (entries a.rows)
      ∙ ap (map (λ (e : Entry). e.1)) (same_filter passes (entries a.rows) (entries b.rows) (entries_sorted a.rows) (entries_sorted b.rows) at)
      ∙ sym (passing_rows (entries b.rows))
    where
      at : (place : Place) → left_at passes place (find place_cmp place (entries a.rows)) ≡ left_at passes place (find place_cmp place (entries b.rows))
      at place = elim (place.0 == table) as (λ t. (place.0 == table) ≡ t → left_at passes place (find place_cmp place (entries a.rows)) ≡ left_at passes place (find place_cmp place (entries b.rows))) [
        | true ↦ λ t.
            let same : place.0 ≡ table = ⊎_elim (λ here. here.1) (λ there. absurd (there.1 (let e = t in cc))) (eqb_tells place.0 table) in
            let got : (m : Database) → find place_cmp place (entries m.rows) ≡ get m.rows (table, place.1) = λ m. sym (get-entries m.rows place) ∙ ap (λ n. get m.rows (n, place.1)) same in
            left_here place.1 (find place_cmp place (entries a.rows)) place.0 t
            ∙ ap (passed test) (got a) ∙ alike place.1 ∙ sym (ap (passed test) (got b))
            ∙ sym (left_here place.1 (find place_cmp place (entries b.rows)) place.0 t)
        | false ↦ λ t. left_elsewhere place.1 (find place_cmp place (entries a.rows)) place.0 t ∙ sym (left_elsewhere place.1 (find place_cmp place (entries b.rows)) place.0 t)
      ] refl
