-- A search that locks begins; it passes a pair that lies before its range; and of a range of one key.
-- `SearchSteps` cites them. What is known behind each is `IsLocking` (specs/Locking.antt).
use Rattle.std.proofs.Common.{arith, ◌≡◌, ◌∙◌, refl, sym, ap, subst, ℕ, zero, suc, ◌≤◌, Bool, true, false, cond, ◌&&◌, not, List, [], ◌∷◌, length, take, Option}
use Rattle.std.proofs.Common.{None, Some}
use Rattle.std.proofs.lemmas.Bool.{true≢false, and_parts}
use Rattle.std.specs.Ordering.{is_le, is_lt, is_ge, is_gt, nat_cmp}
use Rattle.std.specs.Cmp.Lexicographic.{slice_cmp}
use Rattle.std.specs.declared.cmp.Ordering.{Ordering}
use Rattle.std.specs.declared.cmp.Ordering.TheVariants.{Less, Equal, Greater}
use Rattle.inno_types.specs.{declared.lock.Lock.Lock, declared.value.Schema.Schema, declared.value.Value.Value, declared.stmt.Range.Range}
use Rattle.inno_types.specs.{declared.stmt.Bound.Bound, declared.stmt.Bound.TheVariants.Open, declared.stmt.Bound.TheVariants.With}
use Rattle.inno_types.specs.{declared.stmt.Bound.TheVariants.Without}
use Rattle.inno_types.specs.Ranges.{is_within, is_from, is_up_to, beside}
use Rattle.inno_db.specs.Indexes.{index_of}
use Rattle.store_api.specs.declared.answers.Undo.{Undo}
use Rattle.key_codec.specs.Keys.{key_width}
use Rattle.entries.specs.Pairs.{Pair, key_cmp, IsFirstOf}
use Rattle.entries.proofs.Order.{key_cmp_total, key_cmp_is, same_key}
use Rattle.sql_plan.specs.Visits.{index_key, kind_at}
use Rattle.world.specs.{State.WorldState, Told.pairs_of}
use Rattle.row_search.specs.{declared.scan.Scan.Scan, declared.found.FoundRow.FoundRow, FoundRows.AreFound, FoundRows.once_if, Ranges.lies_in}
use Rattle.row_search.specs.{Ranges.lies_up_to, Tables.HaveKeys}
use Rattle.row_search.proofs.{KeyOrder.begins_before, KeyOrder.up_to_below, KeyOrder.not_lt, KeyOrder.le_is, Coming.comes_next, Coming.comes_before}
use Rattle.row_search.proofs.{Rows.found_same}
use Rattle.law_locked_rows.specs.Now.{row_now}
use Rattle.law_locked_rows.specs.Locking.{to_come, lies_past, IsLocking}
use Rattle.law_locked_rows.proofs.Coming.{Rises}

-- ---- the beginning

bounds : (range : Range) (key : List ℕ) → is_within range key ≡ true → (is_from range.low key ≡ true) × (is_up_to range.high key ≡ true)
bounds range key inside = and_parts (is_from range.low key) (is_up_to range.high key) (and_parts (not range.empty) _ inside).1

-- each key of the range is yet to come
all_to_come : (scan : Scan) (key : List ℕ) → is_within scan.range key ≡ true → to_come scan None key ≡ true
all_to_come scan key inside = begins_before scan.range.low key (bounds scan.range key inside).0

pub begins : (schema : Schema) (scan : Scan) (s txn made : ℕ) (log : List Undo) (state : WorldState) (granted : List Lock) → scan.rows.items ≡ []
    → IsLocking schema scan s txn made log (to_come scan None) state granted
begins schema scan s txn made log state granted empty = record {
  range = λ key may inside. absurd (true≢false (sym (all_to_come scan key inside) ∙ may.1));
  rows = λ value row is lies. absurd (true≢false (sym lies ∙ none row));
  found = subst (λ (rows : List FoundRow). AreFound schema scan.which (row_now s scan.table state.past) (lies_past schema scan (to_come scan None)) rows)
      (sym empty) (record {
        seen = tt;
        once = λ value. sym (nothing (row_now s scan.table state.past value));
        order = λ zeroth. tt;
      });
}
  where
    go : (b : Bool) (key : List ℕ) → is_within scan.range key ≡ b → (b && not (to_come scan None key)) ≡ false
    go true key inside = ap not (all_to_come scan key inside)
    go false key inside = refl

    none : (row : List Value) → lies_past schema scan (to_come scan None) row ≡ false
    none row = ap (λ b. b && not (to_come scan None (index_key schema scan.which row))) refl ∙ go_at
        (is_within scan.range (index_key schema scan.which row)) refl
      where
        go_at : (b : Bool) → is_within scan.range (index_key schema scan.which row) ≡ b
            → (is_within scan.range (index_key schema scan.which row) && not (to_come scan None (index_key schema scan.which row))) ≡ false
        go_at b is = ap (λ c. c && not (to_come scan None (index_key schema scan.which row))) is ∙ go b (index_key schema scan.which row) is

    nothing : (found : Option (List Value)) → once_if (lies_past schema scan (to_come scan None)) found ≡ 0
    nothing None = refl
    nothing (Some row) = ap (λ b. cond b 1 0) (none row)

-- ---- a pair before the range

ge_is : (r : Ordering) → is_ge r ≡ not (is_lt r)
ge_is Less = refl
ge_is Equal = refl
ge_is Greater = refl

gt_is : (r : Ordering) → is_gt r ≡ not (is_le r)
gt_is Less = refl
gt_is Equal = refl
gt_is Greater = refl

not_false : (b : Bool) → not b ≡ false → b ≡ true
not_false true is = refl
not_false false is = absurd (cc)

-- a key below one that lies before the range does so, too
pub before_below : (low : Bound) (key other : List ℕ) → is_le (key_cmp key other) ≡ true → is_from low other ≡ false → is_from low key ≡ false
before_below Open key other le is = absurd (true≢false is)
before_below (With bound) key other le is =
    ge_is (beside key bound) ∙ ap not (up_to_below (Without bound) other key le
    (not_false (is_lt (beside other bound)) (sym (ge_is (beside other bound)) ∙ is)))
before_below (Without bound) key other le is =
    gt_is (beside key bound) ∙ ap not (up_to_below (With bound) other key le (not_false (is_le (beside other bound)) (sym (gt_is (beside other bound)) ∙ is)))

-- The first pair that is to come lies before the range: it is passed without a lock.
pub passes_before : (schema : Schema) (scan : Scan) (s txn made : ℕ) (log : List Undo) (passes : List ℕ → Bool) → Rises passes → (state : WorldState)
    (granted : List Lock)
    → HaveKeys schema scan.which (pairs_of state (index_of scan.table scan.which)) (row_now s scan.table state.past) → (pair : Pair)
    → IsFirstOf passes (pairs_of state (index_of scan.table scan.which)) pair → is_from scan.range.low pair.0 ≡ false
    → IsLocking schema scan s txn made log passes state granted
    → IsLocking schema scan s txn made log (to_come scan (Some pair.0)) state granted
passes_before schema scan s txn made log passes rises state granted keys pair first out is = record {
  range = λ key may inside. absurd (true≢false (sym (bounds scan.range key inside).0
      ∙ before_below scan.range.low key pair.0 (not_lt key_cmp key_cmp_total pair.0 key may.1) out));
  rows = λ value row seen lies.
      let parts = and_parts (lies_in schema scan row) (not (to_come scan (Some pair.0) (index_key schema scan.which row))) lies in
      absurd (true≢false (sym (bounds scan.range (index_key schema scan.which row) parts.0).0
      ∙ before_below scan.range.low (index_key schema scan.which row) pair.0
      (le_is key_cmp key_cmp_total pair.0 (index_key schema scan.which row) ∙ parts.1) out));
  found = found_same schema (row_now s scan.table state.past) (lies_up_to schema scan pair.0) (lies_past schema scan (to_come scan (Some pair.0)))
      (λ value row seen. ap (λ b. lies_in schema scan row && b) (le_is key_cmp key_cmp_total pair.0 (index_key schema scan.which row)))
      (comes_before schema scan (row_now s scan.table state.past) (pairs_of state (index_of scan.table scan.which)) keys pair.0
      (comes_next schema scan (row_now s scan.table state.past) (pairs_of state (index_of scan.table scan.which)) keys passes is.found pair first
      (λ row lies none. rises pair.0 (index_key schema scan.which row) first.passes none)) out);
}

-- ---- a range of one key

take_all : (n : ℕ) (key : List ℕ) → length key ≤ n → take n key ≡ key
take_all zero [] within = refl
take_all (suc n) [] within = refl
take_all zero (k ∷ key) within = absurd (omega (arith, within))
take_all (suc n) (k ∷ key) within = ap (λ (rest : List ℕ). k ∷ rest) (take_all n key (omega (arith, within)))

-- Both bounds are one value, as long as the keys of the index: no other key of that length lies in the range.
pub one_key_within : (schema : Schema) (range : Range) (bound key : List ℕ) → range.low ≡ With bound → range.high ≡ With bound
    → key_width (kind_at schema.columns schema.primary) ≤ length bound → length key ≡ key_width (kind_at schema.columns schema.primary)
    → is_within range key ≡ true → key ≡ bound
one_key_within schema range bound key low high wide long inside =
    let both = bounds range key inside in
    let whole : take (length bound) key ≡ key = take_all (length bound) key (omega (arith, wide, long)) in
    let ge : is_ge (key_cmp key bound) ≡ true = ap is_ge (key_cmp_is key bound) ∙ ap (λ (k : List ℕ). is_ge (slice_cmp nat_cmp k bound)) (sym whole)
    ∙ ap (λ (b : Bound). is_from b key) (sym low) ∙ both.0 in
    let le : is_le (key_cmp key bound) ≡ true = ap is_le (key_cmp_is key bound) ∙ ap (λ (k : List ℕ). is_le (slice_cmp nat_cmp k bound)) (sym whole)
    ∙ ap (λ (b : Bound). is_up_to b key) (sym high) ∙ both.1 in
    go (key_cmp key bound) refl ge le
  where
    go : (r : Ordering) → key_cmp key bound ≡ r → is_ge (key_cmp key bound) ≡ true → is_le (key_cmp key bound) ≡ true → key ≡ bound
    go Less is ge le = absurd (true≢false (sym ge ∙ ap is_ge is))
    go Equal is ge le = same_key key bound is
    go Greater is ge le = absurd (true≢false (sym le ∙ ap is_le is))
