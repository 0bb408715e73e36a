-- What changes do to the rows of a database.
use Rattle.std.proofs.Common.{◌≡◌, ◌≢◌, ◌∙◌, ap, sym, subst, refl, ℕ, Bool, List, [], ◌∷◌, ◌++◌, map, true, false, not, cond, Some, None, Ordering}
use Rattle.std.specs.Prelude.{filter, ◌==◌}
use Rattle.std.specs.Ordering.{eq_by_cmp, is_eq}
use Rattle.std.specs.declared.cmp.Ordering.TheVariants.{Less, Equal, Greater}
use Rattle.std.specs.FinMap.{entries, entries_sorted, get, remove, find, put, from_sorted, entries-from_sorted, entries-insert, get-from_sorted, get-entries, get-insert, get-remove, same_map}
use Rattle.std.specs.FinMap.Entries.{by_order, where_key, is_sorted-where_key, find-where_key}
use Rattle.std.specs.Cmp.{alike_right, eq_by_cmp_equiv}
use Rattle.std.proofs.lemmas.Cmp.{tied_itself}
use Rattle.std.proofs.lemmas.List.Sums.{fold-append}
use Rattle.std.proofs.lemmas.Bool.{ne_eqb}
use Rattle.inno_types.specs.declared.value.Value.{Value}
use Rattle.inno_db.specs.declared.change.Change.{Change}
use Rattle.inno_db.specs.declared.change.Change.TheVariants.{Create, Put, Remove}
use Rattle.inno_db.specs.Database.{Database, Place, RowMap, place_cmp, key_in, rows_of}
use Rattle.inno_db.specs.Order.{place_cmp_total}
use Rattle.inno_db.specs.Changes.{apply_one, apply}
use Rattle.inno_db.proofs.Tables.{place_cmp-IsAntisymmetric}

-- to make some changes and then others is to make them all
pub apply-append : (db : Database) (first second : List Change) → apply db (first ++ second) ≡ apply (apply db first) second
apply-append db first second = fold-append apply_one db first second

-- a row that was put stands at its key
pub get_put : (db : Database) (table : ℕ) (row : List Value) → get (apply_one db (Put table row)).rows (table, key_in db.schemas table row) ≡ Some row
get_put db table row =
    let place : Place = (table, key_in db.schemas table row) in
    get-insert place_cmp_total db.rows place row place
    ∙ ap (λ o. cond (is_eq o) (Some row) (get db.rows place)) (tied_itself place_cmp_total place)

-- and all other places are as they were
pub get_put_other : (db : Database) (table : ℕ) (row : List Value) (place : Place) → eq_by_cmp place_cmp place (table, key_in db.schemas table row) ≡ false → get (apply_one db (Put table row)).rows place ≡ get db.rows place
get_put_other db table row place apart =
    get-insert place_cmp_total db.rows (table, key_in db.schemas table row) row place
    ∙ ap (λ b. cond b (Some row) (get db.rows place)) apart

pub get_removed_other : (db : Database) (table : ℕ) (key : Value) (place : Place) → eq_by_cmp place_cmp place (table, key) ≡ false → get (apply_one db (Remove table key)).rows place ≡ get db.rows place
get_removed_other db table key place apart =
    get-remove place_cmp_total db.rows (table, key) place ∙ ap (λ b. cond b None (get db.rows place)) apart

turned : {A : Type 0} (b c : Bool) (x y : A) → b ≡ c → cond b x y ≡ cond (not c) y x
turned true c x y e = subst (λ d. x ≡ cond (not d) y x) e refl
turned false c x y e = subst (λ d. y ≡ cond (not d) y x) e refl

-- what is found after a removal is found among the entries that it leaves
get-removed : (m : RowMap) (place q : Place) → get (remove m place) q ≡ find place_cmp q (where_key place_cmp (λ x. not (eq_by_cmp place_cmp place x)) (entries m))
get-removed m place q =
    get-remove place_cmp_total m place q
    ∙ ap (λ o. cond (eq_by_cmp place_cmp q place) None o) (get-entries m q)
    ∙ turned (eq_by_cmp place_cmp q place) (eq_by_cmp place_cmp place q) None (find place_cmp q (entries m)) ((eq_by_cmp_equiv place_cmp_total).symm q place)
    ∙ sym (find-where_key place_cmp (λ x. not (eq_by_cmp place_cmp place x)) q (λ x t. ap (λ o. not (is_eq o)) (sym (alike_right place_cmp_total q x place t))) (entries m))

-- the entries that a removal leaves
pub entries-remove : (m : RowMap) (place : Place) → entries (remove m place) ≡ where_key place_cmp (λ x. not (eq_by_cmp place_cmp place x)) (entries m)
entries-remove m place =
    let kept = where_key place_cmp (λ x. not (eq_by_cmp place_cmp place x)) (entries m) in
    let rising = is_sorted-where_key place_cmp (λ x. not (eq_by_cmp place_cmp place x)) (entries m) (entries_sorted m) in
    let same_find : (q : Place) → get (remove m place) q ≡ get (from_sorted kept) q = λ q. get-removed m place q ∙ sym (get-from_sorted place_cmp kept q rising) in
    ap entries (same_map place_cmp_total place_cmp-IsAntisymmetric (remove m place) (from_sorted kept) (λ q. same_find q))
    ∙ entries-from_sorted place_cmp kept rising

eq_is : (o : Ordering) → is_eq o ≡ true → o ≡ Equal
eq_is Less e = cc
eq_is Equal e = refl
eq_is Greater e = cc

pub apart_of : (t u : ℕ) (k l : Value) → t ≢ u → eq_by_cmp place_cmp (t, k) (u, l) ≡ false
apart_of t u k l apart =
    elim (eq_by_cmp place_cmp (t, k) (u, l)) as (λ b. eq_by_cmp place_cmp (t, k) (u, l) ≡ b → b ≡ false) [
      | true ↦ λ e. absurd (apart (ap (λ (p : Place). p.0) (place_cmp-IsAntisymmetric (t, k) (u, l) (eq_is (place_cmp (t, k) (u, l)) e))))
      | false ↦ λ e. refl
    ] refl

-- the entries of a table
abbrev of_table : ℕ → List (Place × List Value) → List (Place × List Value)
of_table table es = filter (λ (e : Place × List Value). e.0.0 == table) es

not_of_table : (table : ℕ) (e : Place × List Value) (es : List (Place × List Value)) → e.0.0 ≢ table → of_table table (e ∷ es) ≡ of_table table es
not_of_table table e es apart = ap (λ b. cond b (e ∷ of_table table es) (of_table table es)) (ne_eqb e.0.0 table apart)

-- an entry of another table that is put
of_table-put : (table other : ℕ) (key : Value) (row : List Value) (es : List (Place × List Value)) → other ≢ table → of_table table (put place_cmp (other, key) row es) ≡ of_table table es
of_table-put table other key row [] apart = not_of_table table ((other, key), row) [] apart
of_table-put table other key row (e ∷ es) apart =
    elim (place_cmp (other, key) e.0) as (λ o. place_cmp (other, key) e.0 ≡ o → of_table table (by_order o (((other, key), row) ∷ e ∷ es) ((e.0, row) ∷ es) (e ∷ put place_cmp (other, key) row es)) ≡ of_table table (e ∷ es)) [
      | Less ↦ λ is. not_of_table table ((other, key), row) (e ∷ es) apart
      | Equal ↦ λ is.
          let there : other ≡ e.0.0 = ap (λ (p : Place). p.0) (place_cmp-IsAntisymmetric (other, key) e.0 is) in
          let elsewhere : e.0.0 ≢ table = λ here. apart (there ∙ here) in
          not_of_table table (e.0, row) es elsewhere ∙ sym (not_of_table table e es elsewhere)
      | Greater ↦ λ is. ap (λ rest. cond (e.0.0 == table) (e ∷ rest) rest) (of_table-put table other key row es apart)
    ] refl

-- an entry of another table that is removed
of_table-removed : (table other : ℕ) (key : Value) (es : List (Place × List Value)) → other ≢ table → of_table table (where_key place_cmp (λ x. not (eq_by_cmp place_cmp (other, key) x)) es) ≡ of_table table es
of_table-removed table other key [] apart = refl
of_table-removed table other key (e ∷ es) apart =
    let rest = of_table-removed table other key es apart in
    elim (eq_by_cmp place_cmp (other, key) e.0) as (λ b. eq_by_cmp place_cmp (other, key) e.0 ≡ b → of_table table (cond (not b) (e ∷ where_key place_cmp (λ x. not (eq_by_cmp place_cmp (other, key) x)) es) (where_key place_cmp (λ x. not (eq_by_cmp place_cmp (other, key) x)) es)) ≡ of_table table (e ∷ es)) [
      | true ↦ λ is.
          let there : other ≡ e.0.0 = ap (λ (p : Place). p.0) (place_cmp-IsAntisymmetric (other, key) e.0 (eq_is (place_cmp (other, key) e.0) is)) in
          rest ∙ sym (not_of_table table e es (λ here. apart (there ∙ here)))
      | false ↦ λ is. ap (λ after. cond (e.0.0 == table) (e ∷ after) after) rest
    ] refl

-- whether a change is of another table, or of none
abbrev pub IsElsewhere : ℕ → Change → Type 0
IsElsewhere table (Create schema) = Unit {0}
IsElsewhere table (Put other row) = other ≢ table
IsElsewhere table (Remove other key) = other ≢ table

-- a change of another table leaves a table's rows
pub rows_of-elsewhere : (table : ℕ) (db : Database) (change : Change) → IsElsewhere table change → rows_of table (apply_one db change) ≡ rows_of table db
rows_of-elsewhere table db (Create schema) h = refl
rows_of-elsewhere table db (Put other row) h =
    ap (λ es. map (λ (e : Place × List Value). e.1) (of_table table es)) (entries-insert place_cmp_total db.rows (other, key_in db.schemas other row) row)
    ∙ ap (map (λ (e : Place × List Value). e.1)) (of_table-put table other (key_in db.schemas other row) row (entries db.rows) h)
rows_of-elsewhere table db (Remove other key) h =
    ap (λ es. map (λ (e : Place × List Value). e.1) (of_table table es)) (entries-remove db.rows (other, key))
    ∙ ap (map (λ (e : Place × List Value). e.1)) (of_table-removed table other key (entries db.rows) h)

abbrev pub AreElsewhere : ℕ → List Change → Type 0
AreElsewhere table [] = Unit {0}
AreElsewhere table (change ∷ changes) = IsElsewhere table change × AreElsewhere table changes

-- and so do several
pub rows_of-all_elsewhere : (table : ℕ) (db : Database) (changes : List Change) → AreElsewhere table changes → rows_of table (apply db changes) ≡ rows_of table db
rows_of-all_elsewhere table db [] h = refl
rows_of-all_elsewhere table db (change ∷ changes) h =
    rows_of-all_elsewhere table (apply_one db change) changes h.1 ∙ rows_of-elsewhere table db change h.0
