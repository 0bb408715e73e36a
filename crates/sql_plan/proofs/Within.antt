-- A key lies in the range of an interval that admits its value; the entries of NULL lie in none.
use Rattle.std.proofs.Common.{◌≡◌, ℕ, ◌==◌, Bool, true, false, List, [], ◌∷◌, ◌++◌, length, take, refl, sym, ap, ◌∙◌}
use Rattle.std.specs.Prelude.{not, ◌&&◌, if◌then◌else◌}
use Rattle.std.proofs.Math.Seq.{take-length}
use Rattle.std.proofs.lemmas.List.{take_at}
use Rattle.std.specs.Ordering.{nat_cmp, is_lt, is_le, is_gt, is_ge}
use Rattle.std.specs.Cmp.Lexicographic.{slice_cmp}
use Rattle.inno_types.specs.declared.value.Value.{Value}
use Rattle.inno_types.specs.declared.value.Value.TheVariants.{Null, Int, Text}
use Rattle.inno_types.specs.declared.value.Kind.{Kind}
use Rattle.inno_types.specs.declared.value.Kind.TheVariants.{BigInt, VarBinary}
use Rattle.inno_types.specs.declared.stmt.Bound.{Bound}
use Rattle.inno_types.specs.declared.stmt.Bound.TheVariants as bound
use Rattle.inno_db.specs.Database.{value_cmp}
use Rattle.inno_db.specs.Conditions.{is_null}
use Rattle.inno_db.specs.Declarations.{is_short}
use Rattle.inno_db.specs.Typing.{type_of}
use Rattle.key_codec.specs.Keys.{HasKey, HasEntry, IsOfKind, Has64Bits, key_code, entry_front, entry_code}
use Rattle.key_codec.proofs.Lengths.{length-key_code}
use Rattle.inno_types.proofs.ByteOrder.{itself}
use Rattle.sql_plan.specs.declared.interval.Limit.{Limit}
use Rattle.sql_plan.specs.declared.interval.Limit.TheVariants.{Open, With, Without}
use Rattle.sql_plan.specs.declared.interval.Interval.{Interval}
use Rattle.sql_plan.specs.Intervals.{is_empty}
use Rattle.sql_plan.specs.Bounds.{HasSize, HaveSize, value_bytes, bound_bytes, null_bytes, low_bound, high_bound, range_of}
use Rattle.inno_types.specs.Ranges.{beside, is_from, is_up_to, is_within}
use Rattle.sql_plan.proofs.Admitted.{Admits, and_both, both_and, has_type, low_admits, high_admits, admits_some}
use Rattle.sql_plan.proofs.Bytes.{placed}

-- a key of the index of this number, whose value v has in a column of this kind
pub record IsKeyOf (which : ℕ) (kind : Kind) (v : Value) (key : List ℕ) : Type 0 where
  pub order : (w : Value) → has_type (type_of kind) w ≡ true → Has64Bits w → beside key (bound_bytes which kind w) ≡ value_cmp v w
  pub unbounded : is_from (low_bound which kind Open) key ≡ true

-- a value that is not NULL, of a column
pub present_key : (kind : Kind) (v : Value) → HasEntry kind v → is_null v ≡ false → HasKey kind v
present_key kind Null has present = absurd cc
present_key kind (Int n) has present = has
present_key kind (Text text) has present = has

-- the key of the clustered index
pub clustered_key : (kind : Kind) (v : Value) → HasKey kind v → is_short kind ≡ true → IsKeyOf 0 kind v (key_code kind v)
clustered_key kind v has short = record {
  order = λ w typed size.
      let at = placed kind v w has short typed size in
      let same : length (value_bytes kind w) ≡ length (key_code kind v) = at.width ∙ sym (length-key_code kind v has.0) in
      ap (λ (n : ℕ). slice_cmp nat_cmp (take n (key_code kind v)) (value_bytes kind w)) same ∙ ap (λ (k : List ℕ). slice_cmp nat_cmp k (value_bytes kind w)) (take-length (key_code kind v)) ∙ at.order;
  unbounded = refl;
}

no_null : (kind : Kind) → IsOfKind kind Null → ⊥
no_null BigInt is = is
no_null (VarBinary size) is = is

front_present : (kind : Kind) (v : Value) → HasKey kind v → entry_front kind v ≡ 1 ∷ key_code kind v
front_present kind Null has = absurd (no_null kind has.0)
front_present kind (Int n) has = refl
front_present kind (Text text) has = refl

entry_present : (kind : Kind) (v : Value) (primary : List ℕ) → HasKey kind v → entry_code kind v primary ≡ 1 ∷ (key_code kind v ++ primary)
entry_present kind v primary has = ap (λ (front : List ℕ). front ++ primary) (front_present kind v has)

-- what stands before a value, and before none, in a secondary index
marked : (which : ℕ) (kind : Kind) (w : Value) → (which == 0) ≡ false → bound_bytes which kind w ≡ 1 ∷ value_bytes kind w
marked which kind w e = ap (λ (b : Bool). (if b then [] else 1 ∷ []) ++ value_bytes kind w) e

after_nulls : (which : ℕ) (kind : Kind) → (which == 0) ≡ false → low_bound which kind Open ≡ bound.Without (null_bytes kind)
after_nulls which kind e = ap (λ (b : Bool). if b then bound.Open else bound.Without (null_bytes kind)) e

-- an entry of a secondary index
pub secondary_key : (which : ℕ) (kind : Kind) (v : Value) (primary : List ℕ) → (which == 0) ≡ false → HasKey kind v → is_short kind ≡ true → IsKeyOf which kind v (entry_code kind v primary)
secondary_key which kind v primary secondary has short = record {
  order = λ w typed size.
      let at = placed kind v w has short typed size in
      let bytes = value_bytes kind w in
      let same : length (key_code kind v) ≡ length bytes = length-key_code kind v has.0 ∙ sym at.width in
      ap (beside (entry_code kind v primary)) (marked which kind w secondary)
      ∙ ap (λ (entry : List ℕ). beside entry (1 ∷ bytes)) (entry_present kind v primary has)
      ∙ ap (λ (k : List ℕ). slice_cmp nat_cmp k bytes) (take_at (key_code kind v) primary (length bytes) same) ∙ at.order;
  unbounded = ap (λ (low : Bound). is_from low (entry_code kind v primary)) (after_nulls which kind secondary)
      ∙ ap (λ (entry : List ℕ). is_gt (beside entry (null_bytes kind))) (entry_present kind v primary has);
}

low_holds : (which : ℕ) (kind : Kind) (v : Value) (key : List ℕ) (limit : Limit Value) → IsKeyOf which kind v key → HasSize limit → low_admits (type_of kind) limit v ≡ true → is_from (low_bound which kind limit) key ≡ true
low_holds which kind v key Open is_key size admits = is_key.unbounded
low_holds which kind v key (With w) is_key size admits =
    let parts = and_both (has_type (type_of kind) w) (is_ge (value_cmp v w)) admits in ap is_ge (is_key.order w parts.0 size) ∙ parts.1
low_holds which kind v key (Without w) is_key size admits =
    let parts = and_both (has_type (type_of kind) w) (is_gt (value_cmp v w)) admits in ap is_gt (is_key.order w parts.0 size) ∙ parts.1

high_holds : (which : ℕ) (kind : Kind) (v : Value) (key : List ℕ) (limit : Limit Value) → IsKeyOf which kind v key → HasSize limit → high_admits (type_of kind) limit v ≡ true → is_up_to (high_bound which kind limit) key ≡ true
high_holds which kind v key Open is_key size admits = refl
high_holds which kind v key (With w) is_key size admits =
    let parts = and_both (has_type (type_of kind) w) (is_le (value_cmp v w)) admits in ap is_le (is_key.order w parts.0 size) ∙ parts.1
high_holds which kind v key (Without w) is_key size admits =
    let parts = and_both (has_type (type_of kind) w) (is_lt (value_cmp v w)) admits in ap is_lt (is_key.order w parts.0 size) ∙ parts.1

pub within : (which : ℕ) (kind : Kind) (values : Interval Value) (v : Value) (key : List ℕ) → IsKeyOf which kind v key → HaveSize values → Admits (type_of kind) values v → is_within (range_of which kind values) key ≡ true
within which kind values v key is_key size admits =
    both_and (not (is_empty values)) (is_from (low_bound which kind values.low) key && is_up_to (high_bound which kind values.high) key)
    (ap not (admits_some (type_of kind) values v admits))
    (both_and (is_from (low_bound which kind values.low) key) (is_up_to (high_bound which kind values.high) key)
    (low_holds which kind v key values.low is_key size.0 admits.low)
    (high_holds which kind v key values.high is_key size.1 admits.high))

and_not : (a b c : Bool) → b ≡ false → (a && (b && c)) ≡ false
and_not true true c e = absurd cc
and_not true false c e = refl
and_not false b c e = refl

null_from : (which : ℕ) (kind : Kind) (limit : Limit Value) (primary : List ℕ) → (which == 0) ≡ false → is_from (low_bound which kind limit) (entry_code kind Null primary) ≡ false
null_from which kind Open primary secondary =
    ap (λ (low : Bound). is_from low (entry_code kind Null primary)) (after_nulls which kind secondary)
    ∙ ap is_gt (ap (λ (k : List ℕ). slice_cmp nat_cmp k (null_bytes kind)) (take_at (null_bytes kind) primary (length (null_bytes kind)) refl) ∙ itself (null_bytes kind))
null_from which kind (With w) primary secondary = ap (λ (bytes : List ℕ). is_ge (beside (entry_code kind Null primary) bytes)) (marked which kind w secondary)
null_from which kind (Without w) primary secondary = ap (λ (bytes : List ℕ). is_gt (beside (entry_code kind Null primary) bytes)) (marked which kind w secondary)

-- an entry of NULL lies in no range of a secondary index
pub null_outside : (which : ℕ) (kind : Kind) (values : Interval Value) (primary : List ℕ) → (which == 0) ≡ false → is_within (range_of which kind values) (entry_code kind Null primary) ≡ false
null_outside which kind values primary secondary =
    and_not (not (is_empty values)) (is_from (low_bound which kind values.low) (entry_code kind Null primary)) (is_up_to (high_bound which kind values.high) (entry_code kind Null primary))
    (null_from which kind values.low primary secondary)
