-- Values, keys and places that compare alike are one.
use Rattle.std.proofs.Common.{◌≡◌, ◌≢◌, ◌∙◌, sym, ap, refl, ℕ, true, false, List, slice_get, Some}
use Rattle.std.proofs.lemmas.Bool.{true≢false, false_from_ne_true}
use Rattle.std.specs.Ordering.{is_eq, nat_cmp, ordering_then}
use Rattle.std.specs.declared.cmp.Ordering.{Ordering}
use Rattle.std.specs.declared.cmp.Ordering.TheVariants.{Equal}
use Rattle.std.specs.Cmp.{IsTotalOrder, nat_cmp_total, int_cmp_total, on_total, then_total, tied_itself}
use Rattle.std.specs.Cmp.Lexicographic.{nat_list_cmp_total}
use Rattle.inno_types.specs.{declared.value.Kind.Kind, declared.value.Value.Value, declared.value.Value.TheVariants.Null, declared.value.Column.Column}
use Rattle.inno_types.specs.{declared.value.Schema.Schema}
use Rattle.inno_db.specs.Database.{value_cmp, rank_of, number_of, text_of, key_of}
use Rattle.inno_db.proofs.Tables.{value_cmp-IsAntisymmetric, place_cmp-IsAntisymmetric}
use Rattle.store_api.specs.declared.answers.Version.{Version as Coded}
use Rattle.key_codec.specs.Keys.{HasKey, HasEntry, Has64Bits, key_code}
use Rattle.key_codec.proofs.Once as once
use Rattle.row_versions.specs.{declared.place.Place.Place, Chains.in_model, Chains.place_order, Chains.is_same_place}
use Rattle.law_stored_rows.specs.{Entries.is_same_value, Entries.value_in, Records.IsCodeOf}
use Rattle.law_stored_rows.proofs.{FittingValues.at_or, Coding.value_in-kind}

-- ---- values

pub eq_is : (o : Ordering) → is_eq o ≡ true → o ≡ Equal
eq_is Equal e = refl
eq_is o e = cc

pub value_total : IsTotalOrder value_cmp
value_total = then_total (on_total rank_of nat_cmp_total) (then_total (on_total number_of int_cmp_total) (on_total text_of nat_list_cmp_total))

pub same_value : (a b : Value) → is_same_value a b ≡ true → a ≡ b
same_value a b is = value_cmp-IsAntisymmetric a b (eq_is (value_cmp a b) is)

pub value_itself : (a : Value) → is_same_value a a ≡ true
value_itself a = ap is_eq (tied_itself value_total a)

-- a value that is not one with the first, where the second is
pub apart_from : (a b c : Value) → is_same_value a b ≡ false → is_same_value a c ≡ true → is_same_value b c ≡ false
apart_from a b c apart same = false_from_ne_true (is_same_value b c)
    (λ is. true≢false (sym same ∙ (ap (is_same_value a) (sym (same_value b c is)) ∙ apart)))

-- keys of values that differ are keys of values that don't compare alike
pub apart_by_keys : (kind : Kind) (a b : Value) → key_code kind b ≢ key_code kind a → is_same_value a b ≡ false
apart_by_keys kind a b differ = false_from_ne_true (is_same_value a b) (λ is. differ (ap (key_code kind) (sym (same_value a b is))))

pub one_key : (kind : Kind) (a b : Value) → HasKey kind a → HasKey kind b → key_code kind a ≡ key_code kind b → a ≡ b
one_key kind a b has_a has_b e = once.same_key kind a b has_a.0 has_b.0 has_a.1 has_b.1 e

-- ---- places

pub same_number : (n : ℕ) (r : Ordering) → ordering_then (nat_cmp n n) r ≡ r
same_number n r = ap (λ o. ordering_then o r) (tied_itself nat_cmp_total n)

pub in_one_table : (table : ℕ) (a b : Value) → is_same_place (record { table = table; key = a }) (record { table = table; key = b }) ≡ is_same_value a b
in_one_table table a b = ap is_eq (same_number table (value_cmp a b))

pub same_place : (a b : Place) → is_same_place a b ≡ true → a ≡ b
same_place a b is =
    let e = place_cmp-IsAntisymmetric (in_model a) (in_model b) (eq_is (place_order a b) is) in
    λ i. record { table = (e i).0; key = (e i).1 }

pub place_itself : (a : Place) → is_same_place a a ≡ true
place_itself a = in_one_table a.table a.key a.key ∙ value_itself a.key

pub in_other_table : (a b : Place) → a.table ≢ b.table → is_same_place a b ≡ false
in_other_table a b differ = false_from_ne_true (is_same_place a b) (λ is. differ (ap (λ (p : Place). p.table) (same_place a b is)))

-- ---- what a coded row has

-- its value in a column has an entry
pub entry_there : (schema : Schema) (key bytes : List ℕ) (coded : Coded) (at : ℕ) (column : Column) → IsCodeOf schema key bytes coded
    → slice_get schema.columns at ≡ Some column → HasEntry column.kind (value_in at coded.row)
entry_there schema key bytes coded at column is there =
    (value_in-kind schema.columns coded.row at column is.record_is.fits there, at_or Has64Bits Null coded.row at tt is.numbers.row)

-- its primary value has the key
pub key_there : (schema : Schema) (key bytes : List ℕ) (coded : Coded) (primary : Column) → slice_get schema.columns schema.primary ≡ Some primary
    → IsCodeOf schema key bytes coded
    → HasKey primary.kind (key_of schema coded.row) × (key ≡ key_code primary.kind (key_of schema coded.row))
key_there schema key bytes coded primary is code =
    let one : code.record_is.key_is.column ≡ primary = cc (code.record_is.key_is.primary, is) in
    ((rw one at code.record_is.key_is.present, at_or Has64Bits Null coded.row schema.primary tt code.numbers.row), rw one at code.record_is.key_is.spelled)

-- Versions whose records have one key are of one place.
pub one_place : (schema : Schema) (key bytes others : List ℕ) (coded other : Coded) → IsCodeOf schema key bytes coded
    → IsCodeOf schema key others other → key_of schema coded.row ≡ key_of schema other.row
one_place schema key bytes others coded other code also =
    let k = code.record_is.key_is in
    let a = key_there schema key bytes coded k.column k.primary code in
    let b = key_there schema key others other k.column k.primary also in
    one_key k.column.kind (key_of schema coded.row) (key_of schema other.row) a.0 b.0 (sym a.1 ∙ b.1)
