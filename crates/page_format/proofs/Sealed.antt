-- A page whose sum is set.
use Rattle.std.proofs.Common.{◌≡◌, ℕ, ◌≤◌, Bool, true, false, List, take, drop, sym, ap, subst, arith}
use Rattle.std.specs.Int.{w16, w32, from_be_bytes}
use Rattle.std.specs.Prelude.{MatchBool, Option, slice_index}
use Rattle.store_api.specs.Areas.{PassesSum}
use Rattle.page_format.specs.Words.{kind_of, low_of, high_of, records_of, fence, pieces}
use Rattle.stored_pages.specs.Words.{u16_at, u32_at, number_of}
use Rattle.page_format.specs.Shape.{HasFields, HasOrder, HasTreeFields, HasPlainFields, HasTreeOrder, IsOrdered, IsPage, is_tree}
use Rattle.page_format.proofs.Headed.{back_byte, back_more, tree_from}
use Rattle.stored_pages.proofs.Sealed.{back_part}

-- ---- all words but the sum stand behind it

match_along : (a b : Bool) (P Q P' Q' : Type 0) → b ≡ a → (P → P') → (Q → Q') → MatchBool a P Q → MatchBool b P' Q'
match_along true true P Q P' Q' e f g m = f m
match_along true false P Q P' Q' e f g m = absurd cc
match_along false true P Q P' Q' e f g m = absurd cc
match_along false false P Q P' Q' e f g m = g m

same_tree : (old new : List ℕ) → drop 8 new ≡ drop 8 old → HasTreeFields old → HasTreeFields new × (records_of new ≡ records_of old)
unfolding u16_at
same_tree old new back fields =
    tree_from old new fields (record {
      kind = back_byte new old 8 20 (omega arith) back;
      level = back_byte new old 8 21 (omega arith) back;
      count = ap (from_be_bytes w16) (back_part new old 8 22 2 (omega arith) back);
      width = ap (from_be_bytes w16) (back_part new old 8 32 2 (omega arith) back);
      body = back_more new old 8 196 (omega arith) back;
    }) (rw (back_byte new old 8 34 (omega arith) back, back_part new old 8 36 80 (omega arith) back) fields.low) (rw (back_byte new old 8 35 (omega arith) back, back_part new old 8 116 80 (omega arith) back) fields.high)

same_plain : (old new : List ℕ) → drop 8 new ≡ drop 8 old → HasPlainFields old → HasPlainFields new
same_plain old new back fields = record { kind = rw (back_byte new old 8 20 (omega arith) back) fields.kind; none = rw (back_part new old 8 21 11 (omega arith) back) fields.none }

same_records : (old new : List ℕ) → drop 8 new ≡ drop 8 old → records_of new ≡ records_of old
unfolding u16_at
same_records old new back =
    let count = ap (from_be_bytes w16) (back_part new old 8 22 2 (omega arith) back) in
    let width = ap (from_be_bytes w16) (back_part new old 8 32 2 (omega arith) back) in
    let body = back_more new old 8 208 (omega arith) back in
    λ i. pieces (width i) (count i) (body i)

fence_of : (old new : List ℕ) (len at : ℕ) → 8 ≤ len → 8 ≤ at → drop 8 new ≡ drop 8 old → fence (slice_index new len) (take 80 (drop at new)) ≡ fence (slice_index old len) (take 80 (drop at old))
fence_of old new len at behind_len behind_at back =
    let same = back_byte new old 8 len (omega arith) back in
    let part = back_part new old 8 at 80 (omega arith) back in
    λ j. fence (same j) (part j)

same_order : (old new : List ℕ) → drop 8 new ≡ drop 8 old → HasTreeOrder old → HasTreeOrder new
same_order old new back order =
    let low = fence_of old new 34 36 (omega arith) (omega arith) back in
    let high = fence_of old new 35 116 (omega arith) (omega arith) back in
    let between = subst (λ (rs : List (List ℕ)). IsOrdered (low_of old) (high_of old) rs) (sym (same_records old new back)) order in
    subst (λ (f : Option (List ℕ)). IsOrdered f (high_of new) (records_of new)) (sym low) (subst (λ (f : Option (List ℕ)). IsOrdered (low_of old) f (records_of new)) (sym high) between)

pub readable : (old new : List ℕ) → PassesSum new → drop 8 new ≡ drop 8 old → HasFields old → HasOrder old → IsPage (number_of old) new
unfolding u32_at
readable old new sum back fields order =
    let kind : is_tree (kind_of new) ≡ is_tree (kind_of old) = ap is_tree (back_byte new old 8 20 (omega arith) back) in
    record {
      sum = sum;
      number_is = ap (from_be_bytes w32) (back_part new old 8 8 4 (omega arith) back);
      fields = match_along (is_tree (kind_of old)) (is_tree (kind_of new)) (HasTreeFields old) (HasPlainFields old) (HasTreeFields new) (HasPlainFields new) kind (λ t. (same_tree old new back t).0) (same_plain old new back) fields;
      order = match_along (is_tree (kind_of old)) (is_tree (kind_of new)) (HasTreeOrder old) (Unit {0}) (HasTreeOrder new) (Unit {0}) kind (same_order old new back) (λ u. u) order;
    }
