-- How long the records of changes are.
use Rattle.std.proofs.Common.{◌≡◌, ◌*◌, ◌≤◌, Bool, true, false, List, [], ◌∷◌, ◌++◌, length, refl, arith, length-append}
use Rattle.std.specs.List.{flat_map, AllByRecursion}
use Rattle.std.specs.Int.{w64, cast_unsigned}
use Rattle.std.proofs.lemmas.List.Elements.{recursion_from_All}
use Rattle.inno_types.specs.declared.value.Kind.{Kind}
use Rattle.inno_types.specs.declared.value.Kind.TheVariants.{BigInt, VarBinary}
use Rattle.inno_types.specs.declared.value.Value.{Value}
use Rattle.inno_types.specs.declared.value.Value.TheVariants.{Null, Int, Text}
use Rattle.inno_types.specs.declared.value.Column.{Column}
use Rattle.inno_types.specs.declared.value.Key.{Key}
use Rattle.inno_types.specs.declared.value.Schema.{Schema}
use Rattle.inno_db.specs.declared.change.Change.{Change}
use Rattle.inno_db.specs.declared.change.Change.TheVariants.{Create, Put, Remove}
use Rattle.schema_codec.specs.Schema.{counted, name_bytes, kind_bytes, flag_bytes, column_bytes, key_bytes, schema_bytes, IsColumn, IsKey, IsSchema}
use Rattle.schema_codec.proofs.Lengths.{length-u64}
use Rattle.log_format.specs.Group.{value_bytes, IsValue}
use Rattle.law_crashes.specs.Records.{record_of, change_of}
use Rattle.commit_log.specs.Room.{IsShort, HasRecord}

-- ---- tables

kind_long : (kind : Kind) → length (kind_bytes kind) ≡ 2
kind_long BigInt = refl
kind_long (VarBinary size) = refl

flag_long : (flag : Bool) → length (flag_bytes flag) ≡ 1
flag_long true = refl
flag_long false = refl

column_short : (c : Column) → IsColumn c → length (column_bytes c) ≤ 259
column_short c is =
    let low = is.0 in
    let front = name_bytes c.name ++ kind_bytes c.kind in
    let parts = length-append (name_bytes c.name) (kind_bytes c.kind) in
    omega (arith, length-append front (flag_bytes c.not_null), parts, kind_long c.kind, flag_long c.not_null, low)

key_short : (k : Key) → IsKey k → length (key_bytes k) ≤ 257
key_short k is =
    let name = is.0 in
    omega (arith, length-append (name_bytes k.name) (k.column ∷ []), name)

columns_short : (cs : List Column) → AllByRecursion IsColumn cs → length (flat_map column_bytes cs) ≤ 259 * length cs
columns_short [] all = omega arith
columns_short (c ∷ cs) all = omega (arith, length-append (column_bytes c) (flat_map column_bytes cs), column_short c all.0, columns_short cs all.1)

keys_short : (ks : List Key) → AllByRecursion IsKey ks → length (flat_map key_bytes ks) ≤ 257 * length ks
keys_short [] all = omega arith
keys_short (k ∷ ks) all = omega (arith, length-append (key_bytes k) (flat_map key_bytes ks), key_short k all.0, keys_short ks all.1)

schema_short : (s : Schema) → IsSchema s → length s.columns ≤ 16 → length s.keys ≤ 4 → length (schema_bytes s) ≤ 5431
schema_short s is few_columns few_keys =
    let name = name_bytes s.name in
    let columns = counted column_bytes s.columns in
    let keys = counted key_bytes s.keys in
    let low = is.0 in
    let whole = length-append (name ++ columns ++ (s.primary ∷ [])) keys in
    let front = length-append (name ++ columns) (s.primary ∷ []) in
    let parts = length-append name columns in
    let short = columns_short s.columns (recursion_from_All IsColumn s.columns is.1.1) in
    let short_keys = keys_short s.keys (recursion_from_All IsKey s.keys is.3.1) in
    omega (arith, whole, front, parts, low, few_columns, few_keys, short, short_keys)

-- ---- rows

value_short : (v : Value) → IsValue v → length (value_bytes v) ≤ 257
value_short Null is = omega arith
value_short (Int n) is = omega (arith, length-u64 (cast_unsigned w64 n))
value_short (Text text) is = omega (arith, is)

values_short : (row : List Value) → AllByRecursion IsValue row → length (flat_map value_bytes row) ≤ 257 * length row
values_short [] all = omega arith
values_short (v ∷ row) all = omega (arith, length-append (value_bytes v) (flat_map value_bytes row), value_short v all.0, values_short row all.1)

-- ---- changes

pub has_record : (change : Change) → IsShort change → HasRecord change
has_record (Create schema) is = record { fits = is.fits; short = omega (arith, schema_short schema is.fits is.columns is.keys) }
has_record (Put table row) is =
    let few : length row ≤ 16 = is.1 in
    record {
      fits = (is.0, (omega (arith, few), is.2));
      short = omega (arith, values_short row (recursion_from_All IsValue row is.2), few);
    }
has_record (Remove table key) is = record { fits = (is.0, is.1); short = omega (arith, value_short key is.1) }

pub change_back : (change : Change) → change_of (record_of change) ≡ change ∷ []
change_back (Create schema) = refl
change_back (Put table row) = refl
change_back (Remove table key) = refl
