-- Rows that rise by their keys, each the one of its key in a map, are the rows of their table.
use Rattle.std.proofs.Common.{◌≡◌, ◌≢◌, ℕ, Bool, T, None, List, [], ◌∷◌, ◌==◌, map, refl, sym, ap, subst, ◌∙◌, inl, inr, Equal}
use Rattle.std.proofs.lemmas.Bool.Decides.{eqb_tells}
use Rattle.std.specs.FinMap.{find, entries, entries_sorted, get-entries, IsAntisymmetric}
use Rattle.std.specs.FinMap.Entries.{where_key, same_entries, is_sorted-where_key, find-where_key}
use Rattle.inno_types.specs.declared.value.Value.{Value}
use Rattle.inno_db.specs.{Database.Place, Database.RowMap, Database.place_cmp, Database.rows_of, Order.place_cmp_total}
use Rattle.inno_db.proofs.{Applying.apart_of, Tables.place_cmp-IsAntisymmetric}
use Rattle.law_past_agreement.specs.DatabaseTables.{at_places, rows_in, AreRowsOfTable}

pub same_places : IsAntisymmetric place_cmp
same_places = place_cmp-IsAntisymmetric

none_elsewhere : (table : ℕ) (place : Place) → place.0 ≢ table → (rows : List (Value × List Value)) → find place_cmp place (at_places table rows) ≡ None
none_elsewhere table place apart [] = refl
none_elsewhere table place apart (r ∷ rows) = rw (apart_of place.0 table place.1 r.0 apart) (none_elsewhere table place apart rows)

rows_back : (table : ℕ) (rows : List (Value × List Value)) → map (λ (e : Place × List Value). e.1) (at_places table rows) ≡ rows_in rows
rows_back table [] = refl
rows_back table (r ∷ rows) = ap (λ (later : List (List Value)). r.1 ∷ later) (rows_back table rows)

pub rows_are : (table : ℕ) (m : RowMap) (rows : List (Value × List Value)) → AreRowsOfTable table m rows
    → rows_of table (record { schemas = []; rows = m }) ≡ rows_in rows
rows_are table m rows are =
    let here : Place → Bool = λ place. place.0 == table in
    let alike : (q x : Place) → place_cmp q x ≡ Equal → here x ≡ here q = λ q x is. ap here (sym (same_places q x is)) in
    let same : where_key place_cmp here (entries m) ≡ at_places table rows =
    same_entries place_cmp place_cmp_total same_places (where_key place_cmp here (entries m)) (at_places table rows)
    (is_sorted-where_key place_cmp here (entries m) (entries_sorted m)) (subst T (sym are.rising) tt)
    (λ place. find-where_key place_cmp here place (alike place) (entries m) ∙ elim (eqb_tells place.0 table) [
      | inl of ↦ rw of.0 (subst (λ t. find place_cmp (t, place.1) (entries m) ≡ find place_cmp (t, place.1) (at_places table rows)) (sym of.1)
          (sym (get-entries m (table, place.1)) ∙ sym (are.each place.1)))
      | inr apart ↦ rw apart.0 (sym (none_elsewhere table place apart.1 rows))
    ]) in
    ap (map (λ (e : Place × List Value). e.1)) same ∙ rows_back table rows
