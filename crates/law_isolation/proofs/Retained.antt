-- The rows that stand in a database without those that were missed.
use Rattle.std.proofs.Common.{◌≡◌, ◌∙◌, ap, sym, refl, ℕ, Bool, true, false, not, cond, List, [], ◌∷◌, map, T, Some, None}
use Rattle.std.specs.Prelude.{filter, ◌==◌, ◌&&◌}
use Rattle.std.specs.List.{AllByRecursion}
use Rattle.std.specs.Ordering.{eq_by_cmp, is_eq, is_lt}
use Rattle.std.specs.Cmp.{eq_by_cmp_equiv}
use Rattle.std.proofs.lemmas.Cmp.{tied_itself}
use Rattle.std.specs.declared.cmp.Ordering.{Ordering}
use Rattle.std.specs.declared.cmp.Ordering.TheVariants.{Less, Equal, Greater}
use Rattle.std.specs.FinMap.{entries, entries_sorted, get, find, is_sorted, retain_keys, from_sorted, get-entries, get-retain_keys, get-from_sorted, entries-from_sorted, same_map}
use Rattle.std.specs.FinMap.Entries.{where_key, below_all, is_sorted-where_key, find-where_key}
use Rattle.inno_types.specs.declared.value.Value.{Value}
use Rattle.inno_db.specs.Database.{Database, Place, RowMap, place_cmp, rows_of}
use Rattle.inno_db.specs.Order.{place_cmp_total}
use Rattle.inno_db.proofs.Tables.{place_cmp-IsAntisymmetric}
use Rattle.law_isolation.specs.Searching.{is_missed, without_missed}

-- ---- a map of which some places are kept

alike : (p : Place → Bool) (q x : Place) → place_cmp q x ≡ Equal → p x ≡ p q
alike p q x tied = ap p (sym (place_cmp-IsAntisymmetric q x tied))

pub get_kept : (m : RowMap) (p : Place → Bool) (place : Place) → get (retain_keys m p) place ≡ cond (p place) (get m place) None
get_kept m p place = get-retain_keys m p place (alike p place)

pub entries_kept : (m : RowMap) (p : Place → Bool) → entries (retain_keys m p) ≡ where_key place_cmp p (entries m)
entries_kept m p =
    let kept = where_key place_cmp p (entries m) in
    let rising = is_sorted-where_key place_cmp p (entries m) (entries_sorted m) in
    let same : (q : Place) → get (retain_keys m p) q ≡ get (from_sorted kept) q =
    λ q. get_kept m p q ∙ ap (λ o. cond (p q) o None) (get-entries m q) ∙ sym (find-where_key place_cmp p q (alike p q) (entries m)) ∙ sym
    (get-from_sorted place_cmp kept q rising) in
    ap entries (same_map place_cmp_total place_cmp-IsAntisymmetric (retain_keys m p) (from_sorted kept) same) ∙ entries-from_sorted place_cmp kept rising

-- ---- each entry of a map stands at its place

both : (a b : Bool) → T (a && b) → T a × T b
both true b h = (tt, h)
both false b h = absurd h

lower : (o : Ordering) → T (is_lt o) → is_eq o ≡ false
lower Less h = refl
lower Equal h = absurd h
lower Greater h = absurd h

later : (e : Place × List Value) (es fs : List (Place × List Value)) → T (below_all place_cmp e.0 es)
    → AllByRecursion (λ x. find place_cmp x.0 fs ≡ Some x.1) es → AllByRecursion (λ x. find place_cmp x.0 (e ∷ fs) ≡ Some x.1) es
later e [] fs below all = tt
later e (x ∷ es) fs below all =
    let parts = both (is_lt (place_cmp e.0 x.0)) (below_all place_cmp e.0 es) below in
    let apart : eq_by_cmp place_cmp x.0 e.0 ≡ false = sym ((eq_by_cmp_equiv place_cmp_total).symm e.0 x.0) ∙ lower (place_cmp e.0 x.0) parts.0 in
    (ap (λ b. cond b (Some e.1) (find place_cmp x.0 fs)) apart ∙ all.0, later e es fs parts.1 all.1)

standing : (es : List (Place × List Value)) → T (is_sorted place_cmp es) → AllByRecursion (λ e. find place_cmp e.0 es ≡ Some e.1) es
standing [] rising = tt
standing (e ∷ es) rising =
    let parts = both (below_all place_cmp e.0 es) (is_sorted place_cmp es) rising in
    (ap (λ o. cond (is_eq o) (Some e.1) (find place_cmp e.0 es)) (tied_itself place_cmp_total e.0), later e es es parts.0 (standing es parts.1))

by_get : (m : RowMap) (es : List (Place × List Value)) → AllByRecursion (λ e. find place_cmp e.0 (entries m) ≡ Some e.1) es
    → AllByRecursion (λ e. get m e.0 ≡ Some e.1) es
by_get m [] all = tt
by_get m (e ∷ es) all = (get-entries m e.0 ∙ all.0, by_get m es all.1)

pub all_stand : (m : RowMap) → AllByRecursion (λ e. get m e.0 ≡ Some e.1) (entries m)
all_stand m = by_get m (entries m) (standing (entries m) (entries_sorted m))

-- ---- the rows of the table

module _ (table : ℕ) (test found : List Value → Bool) where
  abbrev rows_in : List (Place × List Value) → List (List Value)
  rows_in es = filter test (map (λ (e : Place × List Value). e.1) (filter (λ (e : Place × List Value). e.0.0 == table) es))

  rows_kept : (p : Place → Bool) (es : List (Place × List Value))
      → AllByRecursion (λ e. p e.0 ≡ not ((e.0.0 == table) && is_missed test found (Some e.1))) es
      → rows_in (where_key place_cmp p es) ≡ filter found (rows_in es)
  rows_kept p [] all = refl
  rows_kept p (e ∷ es) all =
      let rest = rows_kept p es all.1 in
      elim (e.0.0 == table) as (λ b. (e.0.0 == table) ≡ b → rows_in (where_key place_cmp p (e ∷ es)) ≡ filter found (rows_in (e ∷ es))) [
        | false ↦ λ other. let kept : p e.0 ≡ true = all.0 ∙ ap (λ b. not (b && is_missed test found (Some e.1))) other in rw kept (rw other rest)
        | true ↦ λ here. elim (test e.1) as (λ b. test e.1 ≡ b → rows_in (where_key place_cmp p (e ∷ es)) ≡ filter found (rows_in (e ∷ es))) [
          | false ↦ λ fails.
              let kept : p e.0 ≡ true = all.0 ∙ ap (λ b. not (b && is_missed test found (Some e.1))) here ∙ ap (λ b. not (b && not (found e.1))) fails in
              rw kept (rw here (rw fails rest))
          | true ↦ λ passes.
              let left : p e.0 ≡ not (not (found e.1)) =
              all.0 ∙ ap (λ b. not (b && is_missed test found (Some e.1))) here ∙ ap (λ b. not (b && not (found e.1))) passes in
              elim (found e.1) as (λ b. found e.1 ≡ b → rows_in (where_key place_cmp p (e ∷ es)) ≡ filter found (rows_in (e ∷ es))) [
                | true ↦ λ was. let kept : p e.0 ≡ true =
                    left ∙ ap (λ b. not (not b)) was in rw kept (rw here (rw passes (rw was (ap (λ (rs : List (List Value)). e.1 ∷ rs) rest))))
                | false ↦ λ was. let gone : p e.0 ≡ false = left ∙ ap (λ b. not (not b)) was in rw gone (rw here (rw passes (rw was rest)))
              ] refl
        ] refl
      ] refl

  kept_by : (m : RowMap) (es : List (Place × List Value)) → AllByRecursion (λ e. get m e.0 ≡ Some e.1) es
      → AllByRecursion (λ e. not ((e.0.0 == table) && is_missed test found (get m e.0)) ≡ not ((e.0.0 == table) && is_missed test found (Some e.1))) es
  kept_by m [] all = tt
  kept_by m (e ∷ es) all = (ap (λ o. not ((e.0.0 == table) && is_missed test found o)) all.0, kept_by m es all.1)

  -- The rows that the statement gives are those that were found.
  pub rows_found : (db : Database) → filter test (rows_of table (without_missed table test found db)) ≡ filter found (filter test (rows_of table db))
  rows_found db =
      let p : Place → Bool = λ place. not ((place.0 == table) && is_missed test found (get db.rows place)) in
      ap rows_in (entries_kept db.rows p) ∙ rows_kept p (entries db.rows) (kept_by db.rows (entries db.rows) (all_stand db.rows))
