-- The lists of rows of the tables, and the map that they stand for.
use Rattle.std.proofs.Common.{◌≡◌, ◌≢◌, ◌∙◌, ap, sym, subst, refl, ℕ, zero, suc, ◌+◌, ◌<◌, Bool, List, [], ◌∷◌, ◌++◌, map, length, get_or, T, arith, eq-eqb, append-nil}
use Rattle.std.specs.Prelude.{IsTrue, filter, ◌==◌}
use Rattle.std.proofs.lemmas.List.{map-append}
use Rattle.std.proofs.lemmas.List.Elements.{filter-append}
use Rattle.std.proofs.lemmas.Bool.{ne_eqb}
use Rattle.std.specs.Ordering.{nat_cmp, int_cmp, ordering_then}
use Rattle.std.specs.declared.cmp.Ordering.{Ordering}
use Rattle.std.specs.declared.cmp.Ordering.TheVariants.{Less, Equal, Greater}
use Rattle.std.specs.FinMap.{entries, is_sorted, from_entries, from_sorted, entries-from_sorted, get-from_sorted, get-from_entries, same_map, IsAntisymmetric, nat_cmp-IsAntisymmetric, int_cmp-IsAntisymmetric, slice_cmp-IsAntisymmetric}
use Rattle.inno_types.specs.declared.value.Value.{Value}
use Rattle.inno_types.specs.declared.value.Value.TheVariants.{Null, Int, Text}
use Rattle.inno_types.specs.declared.value.Schema.{Schema}
use Rattle.inno_db.specs.Database.{Place, place_cmp, value_cmp, placed, all_placed, database_of, rows_of, IsInOrder}
use Rattle.inno_db.specs.Order.{place_cmp_total}

passed : {b : Bool} → IsTrue b → T b
passed h = subst T (sym h) tt

split_then : (a b : Ordering) → ordering_then a b ≡ Equal → (a ≡ Equal) × (b ≡ Equal)
split_then Less b e = cc
split_then Equal b e = (refl, e)
split_then Greater b e = cc

pub value_cmp-IsAntisymmetric : IsAntisymmetric value_cmp
value_cmp-IsAntisymmetric Null Null e = refl
value_cmp-IsAntisymmetric Null (Int n) e = cc
value_cmp-IsAntisymmetric Null (Text t) e = cc
value_cmp-IsAntisymmetric (Int n) Null e = cc
value_cmp-IsAntisymmetric (Int n) (Int m) e = ap Int (int_cmp-IsAntisymmetric n m (split_then (int_cmp n m) Equal e).0)
value_cmp-IsAntisymmetric (Int n) (Text t) e = cc
value_cmp-IsAntisymmetric (Text t) Null e = cc
value_cmp-IsAntisymmetric (Text t) (Int m) e = cc
value_cmp-IsAntisymmetric (Text t) (Text u) e = ap Text (slice_cmp-IsAntisymmetric nat_cmp-IsAntisymmetric t u e)

pub place_cmp-IsAntisymmetric : IsAntisymmetric place_cmp
place_cmp-IsAntisymmetric x y e =
    let both = split_then (nat_cmp x.0 y.0) (value_cmp x.1 y.1) e in
    λ i. (nat_cmp-IsAntisymmetric x.0 y.0 both.0 i, value_cmp-IsAntisymmetric x.1 y.1 both.1 i)

-- a list in order is the entries of its map
pub entries-from_rising : (es : List (Place × List Value)) → IsTrue (is_sorted place_cmp es) → entries (from_entries {R = place_cmp} es) ≡ es
entries-from_rising es h =
    ap entries (same_map place_cmp_total place_cmp-IsAntisymmetric (from_entries es) (from_sorted es) (λ q. get-from_entries place_cmp_total es q ∙ sym (get-from_sorted place_cmp es q (passed h))))
    ∙ entries-from_sorted place_cmp es (passed h)

-- the rows among some entries that are a table's
abbrev rows_among : ℕ → List (Place × List Value) → List (List Value)
rows_among table es = map (λ (e : Place × List Value). e.1) (filter (λ (e : Place × List Value). e.0.0 == table) es)

rows_among-append : (table : ℕ) (es fs : List (Place × List Value)) → rows_among table (es ++ fs) ≡ rows_among table es ++ rows_among table fs
rows_among-append table es fs =
    ap (map (λ (e : Place × List Value). e.1)) (filter-append (λ (e : Place × List Value). e.0.0 == table) es fs)
    ∙ map-append (λ (e : Place × List Value). e.1) (filter (λ (e : Place × List Value). e.0.0 == table) es) (filter (λ (e : Place × List Value). e.0.0 == table) fs)

rows_among-same : (table : ℕ) (schema : Schema) (rows : List (List Value)) → rows_among table (placed table schema rows) ≡ rows
rows_among-same table schema [] = refl
rows_among-same table schema (row ∷ rows) = rw (eq-eqb table table refl) (ap (λ rs. row ∷ rs) (rows_among-same table schema rows))

rows_among-other : (table other : ℕ) (schema : Schema) (rows : List (List Value)) → other ≢ table → rows_among table (placed other schema rows) ≡ []
rows_among-other table other schema [] h = refl
rows_among-other table other schema (row ∷ rows) h = rw (ne_eqb other table h) (rows_among-other table other schema rows h)

rows_among-above : (table n : ℕ) (schemas : List Schema) (tables : List (List (List Value))) → table < n → rows_among table (all_placed n schemas tables) ≡ []
rows_among-above table n [] tables h = refl
rows_among-above table n (s ∷ schemas) [] h = refl
rows_among-above table n (s ∷ schemas) (rows ∷ tables) h =
    let apart : n ≢ table = omega arith in
    let above : table < n + 1 = omega arith in
    rows_among-append table (placed n s rows) (all_placed (n + 1) schemas tables)
    ∙ ap (λ rs. rs ++ rows_among table (all_placed (n + 1) schemas tables)) (rows_among-other table n s rows apart)
    ∙ rows_among-above table (n + 1) schemas tables above

-- the lists of rows of the tables, counted from n on
rows_among-all : (k n : ℕ) (schemas : List Schema) (tables : List (List (List Value))) → length tables ≡ length schemas → rows_among (n + k) (all_placed n schemas tables) ≡ get_or tables k []
rows_among-all k n [] [] h = refl
rows_among-all k n [] (rows ∷ tables) h = absurd (omega arith)
rows_among-all k n (s ∷ schemas) [] h = absurd (omega arith)
rows_among-all zero n (s ∷ schemas) (rows ∷ tables) h =
    let here : n + 0 ≡ n = omega arith in
    let above : n < n + 1 = omega arith in
    ap (λ m. rows_among m (placed n s rows ++ all_placed (n + 1) schemas tables)) here
    ∙ rows_among-append n (placed n s rows) (all_placed (n + 1) schemas tables)
    ∙ ap (λ rs. rs ++ rows_among n (all_placed (n + 1) schemas tables)) (rows_among-same n s rows)
    ∙ ap (λ rs. rows ++ rs) (rows_among-above n (n + 1) schemas tables above)
    ∙ append-nil rows
rows_among-all (suc k) n (s ∷ schemas) (rows ∷ tables) h =
    let apart : n ≢ n + suc k = omega arith in
    let next : n + suc k ≡ n + 1 + k = omega arith in
    let fewer : length tables ≡ length schemas = omega arith in
    rows_among-append (n + suc k) (placed n s rows) (all_placed (n + 1) schemas tables)
    ∙ ap (λ rs. rs ++ rows_among (n + suc k) (all_placed (n + 1) schemas tables)) (rows_among-other (n + suc k) n s rows apart)
    ∙ ap (λ m. rows_among m (all_placed (n + 1) schemas tables)) next
    ∙ rows_among-all k (n + 1) schemas tables fewer

-- the rows of a table are the list that it was given
pub rows_of-database : (table : ℕ) (schemas : List Schema) (tables : List (List (List Value))) → IsInOrder schemas tables → rows_of table (database_of schemas tables) ≡ get_or tables table []
rows_of-database table schemas tables h =
    let from : 0 + table ≡ table = omega arith in
    ap (rows_among table) (entries-from_rising (all_placed 0 schemas tables) h.rising)
    ∙ ap (λ m. rows_among m (all_placed 0 schemas tables)) (sym from)
    ∙ rows_among-all table 0 schemas tables h.as_many
