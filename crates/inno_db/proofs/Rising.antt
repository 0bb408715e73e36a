-- The rows of a table of a database rise.
use Rattle.std.proofs.Common.{◌≡◌, ◌∙◌, ap, sym, refl, ℕ, zero, suc, ◌+◌, ◌<◌, ◌&&◌, Bool, List, [], ◌∷◌, ◌++◌, length, get_or, true, false, arith}
use Rattle.std.specs.List.{AllByRecursion}
use Rattle.std.specs.Ordering.{is_lt, ordering_then}
use Rattle.std.specs.declared.cmp.Ordering.{Ordering}
use Rattle.std.specs.declared.cmp.Ordering.TheVariants.{Less, Equal, Greater}
use Rattle.std.specs.Cmp.{nat_cmp_total}
use Rattle.std.proofs.lemmas.Cmp.{tied_itself}
use Rattle.std.proofs.lemmas.Bool.{false≢true}
use Rattle.std.specs.FinMap.{is_sorted}
use Rattle.std.specs.FinMap.Entries.{below_all}
use Rattle.inno_types.specs.declared.value.Value.{Value}
use Rattle.inno_types.specs.declared.value.Schema.{Schema}
use Rattle.inno_db.specs.Database.{Place, place_cmp, value_cmp, key_of, placed, all_placed, IsInOrder}
use Rattle.inno_db.specs.Keeping.{AreRising}

left : (a b : Bool) → (a && b) ≡ true → a ≡ true
left true b h = refl
left false b h = h

right : (a b : Bool) → (a && b) ≡ true → b ≡ true
right true b h = h
right false b h = absurd (false≢true h)

less_of : (o : Ordering) → is_lt o ≡ true → o ≡ Less
less_of Less h = refl
less_of Equal h = absurd (false≢true h)
less_of Greater h = absurd (false≢true h)

below : (n : ℕ) (schema : Schema) (key : Value) (rows : List (List Value)) (rest : List (Place × List Value))
    → below_all place_cmp (n, key) (placed n schema rows ++ rest) ≡ true → AllByRecursion (λ after. value_cmp key (key_of schema after) ≡ Less) rows
below n schema key [] rest h = tt
below n schema key (r ∷ rows) rest h =
    let beside : place_cmp (n, key) (n, key_of schema r) ≡ value_cmp key (key_of schema r) =
    ap (λ o. ordering_then o (value_cmp key (key_of schema r))) (tied_itself nat_cmp_total n) in (
      sym beside ∙ less_of (place_cmp (n, key) (n, key_of schema r)) (left _ (below_all place_cmp (n, key) (placed n schema rows ++ rest)) h),
      below n schema key rows rest (right (is_lt (place_cmp (n, key) (n, key_of schema r))) _ h),
    )

rising_of : (n : ℕ) (schema : Schema) (rows : List (List Value)) (rest : List (Place × List Value))
    → is_sorted place_cmp (placed n schema rows ++ rest) ≡ true → AreRising schema rows
rising_of n schema [] rest h = tt
rising_of n schema (r ∷ rows) rest h =
    let more = placed n schema rows ++ rest in
    let first = below_all place_cmp (n, key_of schema r) more in
    (below n schema (key_of schema r) rows rest (left first (is_sorted place_cmp more) h), rising_of n schema rows rest (right first (is_sorted place_cmp more) h))

behind : (n : ℕ) (schema : Schema) (rows : List (List Value)) (rest : List (Place × List Value))
    → is_sorted place_cmp (placed n schema rows ++ rest) ≡ true → is_sorted place_cmp rest ≡ true
behind n schema [] rest h = h
behind n schema (r ∷ rows) rest h =
    let more = placed n schema rows ++ rest in
    behind n schema rows rest (right (below_all place_cmp (n, key_of schema r) more) (is_sorted place_cmp more) h)

each_rises : (n k : ℕ) (schemas : List Schema) (tables : List (List (List Value))) (d : Schema) → length tables ≡ length schemas → k < length schemas
    → is_sorted place_cmp (all_placed n schemas tables) ≡ true → AreRising (get_or schemas k d) (get_or tables k [])
each_rises n k [] tables d many there h = absurd (omega (arith, there))
each_rises n k (s ∷ schemas) [] d many there h = absurd (omega (arith, many))
each_rises n zero (s ∷ schemas) (rows ∷ tables) d many there h = rising_of n s rows (all_placed (n + 1) schemas tables) h
each_rises n (suc k) (s ∷ schemas) (rows ∷ tables) d many there h =
    each_rises (n + 1) k schemas tables d (omega (arith, many)) (omega (arith, there)) (behind n s rows (all_placed (n + 1) schemas tables) h)

pub table_rises : (schemas : List Schema) (tables : List (List (List Value))) (table : ℕ) (d : Schema) → IsInOrder schemas tables → table < length schemas
    → AreRising (get_or schemas table d) (get_or tables table [])
table_rises schemas tables table d order there = each_rises 0 table schemas tables d order.as_many there order.rising
