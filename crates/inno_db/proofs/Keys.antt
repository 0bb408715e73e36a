-- Each row stands at its key, and a table has a row of a key exactly where one stands there.
use Rattle.std.proofs.Common.{◌≡◌, ◌∙◌, ap, sym, subst, refl, ℕ, zero, suc, ◌+◌, ◌<◌, Bool, List, [], ◌∷◌, ◌++◌, map, length, true, false, not, cond, Option, Some, is_some, ⊎_elim, arith, length-append, append_assoc}
use Rattle.std.specs.Prelude.{filter, ◌==◌, ◌||◌, slice_get}
use Rattle.std.specs.Ordering.{eq_by_cmp, is_eq, ordering_then}
use Rattle.std.specs.Cmp.{eq_by_cmp_equiv, nat_cmp_total}
use Rattle.std.proofs.lemmas.Cmp.{tied_itself}
use Rattle.std.proofs.lemmas.Bool.Decides.{eqb_tells}
use Rattle.std.specs.declared.cmp.Ordering.TheVariants.{Less, Equal, Greater}
use Rattle.std.specs.FinMap.{entries, get, find, put, get-entries, entries-insert}
use Rattle.std.specs.FinMap.Entries.{by_order, where_key}
use Rattle.std.proofs.lemmas.Option.{slice_get_within}
use Rattle.inno_types.specs.declared.value.Value.{Value}
use Rattle.inno_types.specs.declared.value.Schema.{Schema}
use Rattle.inno_db.specs.declared.change.Change.{Change}
use Rattle.inno_db.specs.declared.change.Change.TheVariants.{Create, Put, Remove}
use Rattle.inno_db.specs.Changes.{apply_one}
use Rattle.inno_db.specs.Database.{Database, Place, place_cmp, value_cmp, key_of, key_in, rows_of, placed, all_placed, database_of, IsInOrder}
use Rattle.inno_db.specs.Keyed.{IsAtItsKey, AreAtTheirKeys, IsKeyed}
use Rattle.inno_db.specs.Order.{place_cmp_total}
use Rattle.inno_db.specs.Outcome.{is_same_value, has_key}
use Rattle.inno_db.proofs.Tables.{place_cmp-IsAntisymmetric, entries-from_rising}
use Rattle.inno_db.proofs.Applying.{apart_of, entries-remove}

same_some : {A : Type 0} {x y : A} → Some x ≡ Some y → x ≡ y
same_some e = cc

-- the key of a row by the schema of its table
pub key_in-at : (schemas : List Schema) (table : ℕ) (schema : Schema) (row : List Value) → slice_get schemas table ≡ Some schema → key_in schemas table row ≡ key_of schema row
key_in-at [] table schema row is = cc
key_in-at (s ∷ schemas) zero schema row is = ap (λ c. key_of c row) (same_some is)
key_in-at (s ∷ schemas) (suc table) schema row is = key_in-at schemas table schema row is

-- the test of a key against a place of its table
same_place : (table : ℕ) (k key : Value) → is_same_value k key ≡ eq_by_cmp place_cmp (table, key) (table, k)
same_place table k key =
    sym (ap (λ o. is_eq (ordering_then o (value_cmp k key))) (tied_itself nat_cmp_total table))
    ∙ (eq_by_cmp_equiv place_cmp_total).symm (table, k) (table, key)

or_found : {A : Type 0} (b c : Bool) (x : A) (o : Option A) → b ≡ c → (b || is_some o) ≡ is_some (cond c (Some x) o)
or_found true true x o e = refl
or_found true false x o e = cc
or_found false true x o e = cc
or_found false false x o e = refl

key_here : (schemas : List Schema) (table : ℕ) (schema : Schema) (key : Value) (e : Place × List Value) → slice_get schemas table ≡ Some schema → IsAtItsKey schemas e → e.0.0 ≡ table → is_same_value (key_of schema e.1) key ≡ eq_by_cmp place_cmp (table, key) e.0
key_here schemas table schema key e is at here =
    let kept : e.0.1 ≡ key_of schema e.1 = at.1 ∙ ap (λ t. key_in schemas t e.1) here ∙ key_in-at schemas table schema e.1 is in
    same_place table (key_of schema e.1) key
    ∙ ap (λ (p : Place). eq_by_cmp place_cmp (table, key) p) (λ i. (sym here i, sym kept i))

has_key-find : (schemas : List Schema) (table : ℕ) (schema : Schema) (key : Value) (es : List (Place × List Value)) → slice_get schemas table ≡ Some schema → AreAtTheirKeys schemas es
    → has_key schema key (map (λ (e : Place × List Value). e.1) (filter (λ (e : Place × List Value). e.0.0 == table) es)) ≡ is_some (find place_cmp (table, key) es)
has_key-find schemas table schema key [] is at = refl
has_key-find schemas table schema key (e ∷ es) is at =
    let rest = has_key-find schemas table schema key es is at.1 in
    ⊎_elim
    (λ here. rw here.0 (
    (ap (λ b. is_same_value (key_of schema e.1) key || b) rest)
    ∙ or_found (is_same_value (key_of schema e.1) key) (eq_by_cmp place_cmp (table, key) e.0) e.1 (find place_cmp (table, key) es) (key_here schemas table schema key e is at.0 here.1)))
    (λ there. rw there.0 (rest ∙ sym (ap (λ b. is_some (cond b (Some e.1) (find place_cmp (table, key) es))) (apart_of table e.0.0 key e.0.1 (λ same. there.1 (sym same))))))
    (eqb_tells e.0.0 table)

-- one of a table's rows has a key exactly where a row stands there
pub has_key-get : (db : Database) (table : ℕ) (schema : Schema) (key : Value) → IsKeyed db → slice_get db.schemas table ≡ Some schema → has_key schema key (rows_of table db) ≡ is_some (get db.rows (table, key))
has_key-get db table schema key keyed is =
    has_key-find db.schemas table schema key (entries db.rows) is keyed ∙ ap is_some (sym (get-entries db.rows (table, key)))

at_keys-put : (schemas : List Schema) (table : ℕ) (row : List Value) (es : List (Place × List Value)) → table < length schemas → AreAtTheirKeys schemas es → AreAtTheirKeys schemas (put place_cmp (table, key_in schemas table row) row es)
at_keys-put schemas table row [] there at = ((there, refl), tt)
at_keys-put schemas table row (e ∷ es) there at =
    let place : Place = (table, key_in schemas table row) in
    elim (place_cmp place e.0) as (λ o. place_cmp place e.0 ≡ o → AreAtTheirKeys schemas (by_order o ((place, row) ∷ e ∷ es) ((e.0, row) ∷ es) (e ∷ put place_cmp place row es))) [
      | Less ↦ λ is. ((there, refl), at)
      | Equal ↦ λ is. (subst (λ (p : Place). IsAtItsKey schemas (p, row)) (place_cmp-IsAntisymmetric place e.0 is) (there, refl), at.1)
      | Greater ↦ λ is. (at.0, at_keys-put schemas table row es there at.1)
    ] refl

at_keys-where : (schemas : List Schema) (p : Place → Bool) (es : List (Place × List Value)) → AreAtTheirKeys schemas es → AreAtTheirKeys schemas (where_key place_cmp p es)
at_keys-where schemas p [] at = tt
at_keys-where schemas p (e ∷ es) at =
    let rest = at_keys-where schemas p es at.1 in
    elim (p e.0) as (λ b. AreAtTheirKeys schemas (cond b (e ∷ where_key place_cmp p es) (where_key place_cmp p es))) [ true ↦ (at.0, rest) | false ↦ rest ]

key_in-more : (schemas : List Schema) (schema : Schema) (table : ℕ) (row : List Value) → table < length schemas → key_in (schemas ++ schema ∷ []) table row ≡ key_in schemas table row
key_in-more [] schema table row there = absurd (omega arith)
key_in-more (s ∷ schemas) schema zero row there = refl
key_in-more (s ∷ schemas) schema (suc table) row there = let less : table < length schemas = omega arith in key_in-more schemas schema table row less

at_keys-more : (schemas : List Schema) (schema : Schema) (es : List (Place × List Value)) → AreAtTheirKeys schemas es → AreAtTheirKeys (schemas ++ schema ∷ []) es
at_keys-more schemas schema [] at = tt
at_keys-more schemas schema (e ∷ es) at =
    let there : e.0.0 < length schemas = at.0.0 in
    let more : e.0.0 < length (schemas ++ schema ∷ []) = omega (arith, length-append schemas (schema ∷ [])) in
    ((more, at.0.1 ∙ sym (key_in-more schemas schema e.0.0 e.1 there)), at_keys-more schemas schema es at.1)

-- a change of a table that is there
abbrev pub IsOfTable : ℕ → Change → Type 0
IsOfTable tables (Create schema) = Unit {0}
IsOfTable tables (Put table row) = table < tables
IsOfTable tables (Remove table key) = table < tables

-- a change of a table that is there leaves each row at its key
pub IsKeyed-apply : (db : Database) (change : Change) → IsOfTable (length db.schemas) change → IsKeyed db → IsKeyed (apply_one db change)
IsKeyed-apply db (Create schema) there keyed = at_keys-more db.schemas schema (entries db.rows) keyed
IsKeyed-apply db (Put table row) there keyed =
    subst (AreAtTheirKeys db.schemas) (sym (entries-insert place_cmp_total db.rows (table, key_in db.schemas table row) row))
    (at_keys-put db.schemas table row (entries db.rows) there keyed)
IsKeyed-apply db (Remove table key) there keyed =
    subst (AreAtTheirKeys db.schemas) (sym (entries-remove db.rows (table, key)))
    (at_keys-where db.schemas (λ x. not (eq_by_cmp place_cmp (table, key) x)) (entries db.rows) keyed)

at_keys-append : (schemas : List Schema) (es fs : List (Place × List Value)) → AreAtTheirKeys schemas es → AreAtTheirKeys schemas fs → AreAtTheirKeys schemas (es ++ fs)
at_keys-append schemas [] fs at behind = behind
at_keys-append schemas (e ∷ es) fs at behind = (at.0, at_keys-append schemas es fs at.1 behind)

at_keys-placed : (schemas : List Schema) (table : ℕ) (schema : Schema) (rows : List (List Value)) → slice_get schemas table ≡ Some schema → AreAtTheirKeys schemas (placed table schema rows)
at_keys-placed schemas table schema [] is = tt
at_keys-placed schemas table schema (row ∷ rows) is =
    ((slice_get_within schemas table schema is, sym (key_in-at schemas table schema row is)), at_keys-placed schemas table schema rows is)

slice_get-seam : (front : List Schema) (schema : Schema) (back : List Schema) → slice_get (front ++ schema ∷ back) (length front) ≡ Some schema
slice_get-seam [] schema back = refl
slice_get-seam (s ∷ front) schema back = slice_get-seam front schema back

at_keys-all : (front back : List Schema) (tables : List (List (List Value))) → AreAtTheirKeys (front ++ back) (all_placed (length front) back tables)
at_keys-all front [] tables = tt
at_keys-all front (s ∷ back) [] = tt
at_keys-all front (s ∷ back) (rows ∷ tables) =
    let next : length (front ++ s ∷ []) ≡ length front + 1 = omega (arith, length-append front (s ∷ [])) in
    let rest = at_keys-all (front ++ s ∷ []) back tables in
    at_keys-append (front ++ s ∷ back) (placed (length front) s rows) (all_placed (length front + 1) back tables)
    (at_keys-placed (front ++ s ∷ back) (length front) s rows (slice_get-seam front s back))
    (subst (λ n. AreAtTheirKeys (front ++ s ∷ back) (all_placed n back tables)) next
    (subst (λ schemas. AreAtTheirKeys schemas (all_placed (length (front ++ s ∷ [])) back tables)) (append_assoc front (s ∷ []) back) rest))

-- and so does each row of a database that is given by the lists of its tables' rows
pub IsKeyed-database : (schemas : List Schema) (tables : List (List (List Value))) → IsInOrder schemas tables → IsKeyed (database_of schemas tables)
IsKeyed-database schemas tables order =
    subst (AreAtTheirKeys schemas) (sym (entries-from_rising (all_placed 0 schemas tables) order.rising)) (at_keys-all [] schemas tables)
