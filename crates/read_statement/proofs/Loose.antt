-- Rows that were the newest at some moment of the item make a database that a SELECT at READ UNCOMMITTED may answer by.
use Rattle.std.proofs.Common.{◌≡◌, ◌≢◌, ℕ, Bool, true, false, cond, eqb, Option, Some, None, List, [], ◌∷◌, refl, sym, ap, subst, ◌∙◌, inl, inr}
use Rattle.std.proofs.lemmas.Bool.Decides.{eqb_tells}
use Rattle.std.specs.Prelude.{is_some, IsTrue}
use Rattle.std.specs.Ordering.{is_eq, eq_by_cmp}
use Rattle.std.specs.declared.cmp.Ordering.{Ordering}
use Rattle.std.specs.declared.cmp.Ordering.TheVariants.{Less, Equal, Greater}
use Rattle.std.specs.FinMap.{get, find, entries, insert, remove, get-insert, get-remove, get-entries, is_sorted}
use Rattle.inno_types.specs.declared.value.Value.{Value}
use Rattle.inno_db.specs.Database.{Place, RowMap, place_cmp, rows_of}
use Rattle.inno_db.specs.Order.{place_cmp_total}
use Rattle.inno_model.specs.declared.event.Event.{Event}
use Rattle.inno_model.specs.Moments.{Sometime, Throughout}
use Rattle.sql_history.specs.LooseReading.{newest, IsQuiet, IsLooseReading}
use Rattle.law_past_agreement.specs.DatabaseTables.{at_places, rows_in}
use Rattle.law_past_agreement.proofs.Walk.{rows_are, same_places}

-- ---- moments

-- what held throughout held at that moment
at_once : (P Q : List Event → Type 0) (C : Type 0) (s : ℕ) → ((past : List Event) → P past → Q past → C) → (h : List Event) → Throughout P s h
    → Sometime Q s h → C
at_once P Q C s f [] all when = absurd when
at_once P Q C s f (e ∷ h) all (inl now) = f (e ∷ h) all.0 now
at_once P Q C s f (e ∷ h) all (inr before) = at_once P Q C s f h (all.1 before.0) before.1

now_of : (P : List Event → Type 0) (s : ℕ) (h : List Event) → h ≢ [] → Throughout P s h → P h
now_of P s [] some all = absurd (some refl)
now_of P s (e ∷ h) some all = all.0

now_too : (P : List Event → Type 0) (s : ℕ) (h : List Event) → h ≢ [] → P h → Sometime P s h
now_too P s [] some now = absurd (some refl)
now_too P s (e ∷ h) some now = inl now

-- ---- a map whose rows of one table are these

-- the row that stands in the list, or else the other one
abbrev pub or_else : Option (List Value) → Option (List Value) → Option (List Value)
or_else None other = other
or_else (Some row) other = Some row

abbrev pub with_rows : RowMap → List (Place × List Value) → RowMap
with_rows m [] = m
with_rows m (e ∷ es) = insert (with_rows m es) e.0 e.1

abbrev pub without : ℕ → RowMap → List (Place × List Value) → RowMap
without table m [] = m
without table m (e ∷ es) = cond (eqb e.0.0 table) (remove (without table m es) e.0) (without table m es)

either_row : (b : Bool) (row : List Value) (x y : Option (List Value)) → cond b (Some row) (or_else x y) ≡ or_else (cond b (Some row) x) y
either_row true row x y = refl
either_row false row x y = refl

get_with : (m : RowMap) (es : List (Place × List Value)) (place : Place) → get (with_rows m es) place ≡ or_else (find place_cmp place es) (get m place)
get_with m [] place = refl
get_with m (e ∷ es) place =
    get-insert place_cmp_total (with_rows m es) e.0 e.1 place
    ∙ (ap (cond (eq_by_cmp place_cmp place e.0) (Some e.1)) (get_with m es place) ∙ either_row (eq_by_cmp place_cmp place e.0) e.1 (find place_cmp place es)
    (get m place))

equal_test : (o : Ordering) → is_eq o ≡ true → o ≡ Equal
equal_test Less e = cc
equal_test Equal e = refl
equal_test Greater e = cc

apart : (place other : Place) → place.0 ≢ other.0 → eq_by_cmp place_cmp place other ≡ false
apart place other differ = go (eq_by_cmp place_cmp place other) refl where
  go : (b : Bool) → eq_by_cmp place_cmp place other ≡ b → eq_by_cmp place_cmp place other ≡ false
  go true is = absurd (differ (ap (λ (p : Place). p.0) (same_places place other (equal_test (place_cmp place other) is))))
  go false is = is

-- the rows of other tables stay
get_elsewhere : (table : ℕ) (m : RowMap) (es : List (Place × List Value)) (place : Place) → place.0 ≢ table → get (without table m es) place ≡ get m place
get_elsewhere table m [] place differ = refl
get_elsewhere table m (e ∷ es) place differ =
    elim (eqb_tells e.0.0 table) [
      | inl same ↦
          ap (λ b. get (cond b (remove (without table m es) e.0) (without table m es)) place) same.0
          ∙ (get-remove place_cmp_total (without table m es) e.0 place
          ∙ (ap (λ b. cond b None (get (without table m es) place)) (apart place e.0 (λ is. differ (is ∙ same.1))) ∙ get_elsewhere table m es place differ))
      | inr other ↦ ap (λ b. get (cond b (remove (without table m es) e.0) (without table m es)) place) other.0 ∙ get_elsewhere table m es place differ
    ]

gone_here : (b : Bool) (row : List Value) (x y : Option (List Value)) → cond b None (cond (is_some x) None y) ≡ cond (is_some (cond b (Some row) x)) None y
gone_here true row x y = refl
gone_here false row x y = refl

-- those of the table that are in the list go
get_here : (table : ℕ) (m : RowMap) (es : List (Place × List Value)) (place : Place) → place.0 ≡ table
    → get (without table m es) place ≡ cond (is_some (find place_cmp place es)) None (get m place)
get_here table m [] place is = refl
get_here table m (e ∷ es) place is =
    elim (eqb_tells e.0.0 table) [
      | inl same ↦
          ap (λ b. get (cond b (remove (without table m es) e.0) (without table m es)) place) same.0
          ∙ (get-remove place_cmp_total (without table m es) e.0 place
          ∙ (ap (cond (eq_by_cmp place_cmp place e.0) None) (get_here table m es place is) ∙ gone_here (eq_by_cmp place_cmp place e.0) e.1
          (find place_cmp place es) (get m place)))
      | inr other ↦
          ap (λ b. get (cond b (remove (without table m es) e.0) (without table m es)) place) other.0
          ∙ (get_here table m es place is
          ∙ sym (ap (λ b. cond (is_some (cond b (Some e.1) (find place_cmp place es))) None (get m place)) (apart place e.0 (λ same. other.1 (sym same ∙ is)))))
    ]

none_or : (x : Option (List Value)) → cond (is_some x) None x ≡ None
none_or None = refl
none_or (Some row) = refl

-- without all that it has of the table a map has nothing there
none_left : (table : ℕ) (m : RowMap) (place : Place) → place.0 ≡ table → get (without table m (entries m)) place ≡ None
none_left table m place is =
    get_here table m (entries m) place is ∙ (ap (λ x. cond (is_some (find place_cmp place (entries m))) None x) (get-entries m place) ∙ none_or
    (find place_cmp place (entries m)))

none_of_rows : (table : ℕ) (place : Place) → place.0 ≢ table → (rows : List (Value × List Value)) → find place_cmp place (at_places table rows) ≡ None
none_of_rows table place differ [] = refl
none_of_rows table place differ (r ∷ rows) = rw (apart place (table, r.0) differ) (none_of_rows table place differ rows)

or_none : (x : Option (List Value)) → or_else x None ≡ x
or_none None = refl
or_none (Some row) = refl

module _ (table : ℕ) (m : RowMap) (rows : List (Value × List Value)) where
  abbrev pub replaced : RowMap
  replaced = with_rows (without table m (entries m)) (at_places table rows)

  pub replaced_here : (key : Value) → get replaced (table, key) ≡ find place_cmp (table, key) (at_places table rows)
  replaced_here key =
      get_with (without table m (entries m)) (at_places table rows) (table, key)
      ∙ (ap (or_else (find place_cmp (table, key) (at_places table rows))) (none_left table m (table, key) refl) ∙ or_none
      (find place_cmp (table, key) (at_places table rows)))

  pub replaced_elsewhere : (place : Place) → place.0 ≢ table → get replaced place ≡ get m place
  replaced_elsewhere place differ =
      get_with (without table m (entries m)) (at_places table rows) place
      ∙ (ap (λ x. or_else x (get (without table m (entries m)) place)) (none_of_rows table place differ rows) ∙ get_elsewhere table m (entries m) place differ)

-- ---- the database

module _ (h : List Event) (s table : ℕ) (rows : List (Value × List Value)) (some : h ≢ [])
    (each : (key : Value) → Sometime (λ g. get (newest g).rows (table, key) ≡ find place_cmp (table, key) (at_places table rows)) s h) where
  still_is : (place : Place) (row : Option (List Value)) → Throughout (λ g. get (newest g).rows place ≡ row) s h
      → get (replaced table (newest h).rows rows) place ≡ row
  still_is place row all =
      elim (eqb_tells place.0 table) [
        | inl here ↦
            subst (λ t. Throughout (λ g. get (newest g).rows (t, place.1) ≡ row) s h → get (replaced table (newest h).rows rows) (t, place.1) ≡ row)
            (sym here.1)
            (λ throughout.
            replaced_here table (newest h).rows rows place.1
            ∙ at_once (λ g. get (newest g).rows (table, place.1) ≡ row)
            (λ g. get (newest g).rows (table, place.1) ≡ find place_cmp (table, place.1) (at_places table rows))
            (find place_cmp (table, place.1) (at_places table rows) ≡ row) s
            (λ g is found. sym found ∙ is) h throughout (each place.1))
            all
        | inr differ ↦ replaced_elsewhere table (newest h).rows rows place differ.1 ∙ now_of (λ g. get (newest g).rows place ≡ row) s h some all
      ]

  moved_is : (place : Place) → Sometime (λ g. get (newest g).rows place ≡ get (replaced table (newest h).rows rows) place) s h
  moved_is place =
      elim (eqb_tells place.0 table) [
        | inl here ↦
            subst (λ t. Sometime (λ g. get (newest g).rows (t, place.1) ≡ get (replaced table (newest h).rows rows) (t, place.1)) s h) (sym here.1)
            (subst (λ row. Sometime (λ g. get (newest g).rows (table, place.1) ≡ row) s h) (sym (replaced_here table (newest h).rows rows place.1))
            (each place.1))
        | inr differ ↦ now_too (λ g. get (newest g).rows place ≡ get (replaced table (newest h).rows rows) place) s h some
            (sym (replaced_elsewhere table (newest h).rows rows place differ.1))
      ]

  pub table_is : IsTrue (is_sorted place_cmp (at_places table rows))
      → rows_of table (record { schemas = (newest h).schemas; rows = replaced table (newest h).rows rows }) ≡ rows_in rows
  table_is rising =
      rows_are table (replaced table (newest h).rows rows) rows (record { rising = rising; each = λ key. sym (replaced_here table (newest h).rows rows key) })

  pub loose : IsLooseReading s newest (IsQuiet s) (record { schemas = (newest h).schemas; rows = replaced table (newest h).rows rows }) h
  loose = record { tables = refl; still = λ place row all quiet. still_is place row all; moved = λ place. inr (moved_is place) }
