-- No two versions have one record.
use Rattle.std.proofs.Common.{◌≡◌, ℕ, suc, ◌^◌, ◌<◌, Bool, true, false, List, [], ◌∷◌, ◌++◌, length, take, drop, refl, sym, ap, ◌∙◌, add-one, arith}
use Rattle.std.specs.Prelude.{ℤ, pos, negsuc, FitsSigned, All}
use Rattle.std.specs.Int.{w64, cast_unsigned, cast_signed}
use Rattle.std.proofs.lemmas.Int.{to_z-of_z}
use Rattle.std.proofs.lemmas.List.Elements.{All-head, All-tail, All-take, All-drop, All-get_or}
use Rattle.inno_types.specs.declared.value.Kind.{Kind}
use Rattle.inno_types.specs.declared.value.Kind.TheVariants.{BigInt, VarBinary}
use Rattle.inno_types.specs.declared.value.Value.{Value}
use Rattle.inno_types.specs.declared.value.Value.TheVariants.{Null, Int, Text}
use Rattle.inno_types.specs.declared.value.Column.{Column}
use Rattle.inno_types.specs.declared.value.Schema.{Schema}
use Rattle.store_api.specs.declared.answers.Version.{Version}
use Rattle.inno_db.specs.Database.{key_of}
use Rattle.key_codec.specs.Keys.{IsOfKind, Has64Bits, padded, key_code}
use Rattle.key_codec.specs.Numbers.{u64_bytes}
use Rattle.key_codec.proofs.Once.{same_u64, same_padded, same_key}
use Rattle.row_codec.specs.Rows.{FitsColumn, IsRowOf, IsStored, IsRecordOf, IsVersion, body_code, field_code, fields_code, others_code, mark_code, head_code}
use Rattle.row_codec.specs.declared.read.Head.{Head}
use Rattle.row_codec.specs.Heads.{IsHeadOf, version_head}
use Rattle.row_codec.specs.Reads.{Reads}
use Rattle.row_codec.proofs.Parts.{same_fronts, length-field_code, length-head_code}
use Rattle.row_codec.proofs.Joined.{length-row, Reads-one_rest}
use Rattle.row_codec.proofs.Stored.{around, stored_parts}
use Rattle.key_codec.proofs.Lengths.{length-u64_bytes}
use Rattle.std.proofs.lemmas.List.{take-append-drop, drop_more}

of_z_fits : (n : ℤ) → FitsSigned w64 n → cast_unsigned w64 n < 2 ^ 64
of_z_fits (pos n) fits = omega (arith, fits.sfits)
of_z_fits (negsuc n) fits = omega arith

same_number : (m n : ℤ) → FitsSigned w64 m → FitsSigned w64 n → u64_bytes (cast_unsigned w64 m) ≡ u64_bytes (cast_unsigned w64 n) → m ≡ n
same_number m n fits_m fits_n e =
    sym (to_z-of_z w64 m fits_m) ∙ ap (cast_signed w64) (same_u64 (cast_unsigned w64 m) (cast_unsigned w64 n) (of_z_fits m fits_m) (of_z_fits n fits_n) e) ∙ to_z-of_z w64 n fits_n

same_body : (kind : Kind) (a b : Value) → IsOfKind kind a → IsOfKind kind b → Has64Bits a → Has64Bits b → body_code kind a ≡ body_code kind b → a ≡ b
same_body BigInt Null b is_a is_b fits_a fits_b e = absurd is_a
same_body BigInt (Text text) b is_a is_b fits_a fits_b e = absurd is_a
same_body BigInt (Int m) Null is_a is_b fits_a fits_b e = absurd is_b
same_body BigInt (Int m) (Text text) is_a is_b fits_a fits_b e = absurd is_b
same_body BigInt (Int m) (Int n) is_a is_b fits_a fits_b e = ap (λ (z : ℤ). Int z) (same_number m n fits_a fits_b e)
same_body (VarBinary size) Null b is_a is_b fits_a fits_b e = absurd is_a
same_body (VarBinary size) (Int m) b is_a is_b fits_a fits_b e = absurd is_a
same_body (VarBinary size) (Text text) Null is_a is_b fits_a fits_b e = absurd is_b
same_body (VarBinary size) (Text text) (Int n) is_a is_b fits_a fits_b e = absurd is_b
same_body (VarBinary size) (Text s) (Text t) is_a is_b fits_a fits_b e =
    let len : length s ≡ length t = cc in
    let text : padded size s ≡ padded size t = cc in
    ap (λ (l : List ℕ). Text l) (same_padded size s t len text)

same_field : (column : Column) (a b : Value) → FitsColumn column a → FitsColumn column b → Has64Bits a → Has64Bits b → field_code column.kind a ≡ field_code column.kind b → a ≡ b
same_field column Null Null is_a is_b fits_a fits_b e = refl
same_field column Null (Int n) is_a is_b fits_a fits_b e = absurd cc
same_field column Null (Text t) is_a is_b fits_a fits_b e = absurd cc
same_field column (Int m) Null is_a is_b fits_a fits_b e = absurd cc
same_field column (Text s) Null is_a is_b fits_a fits_b e = absurd cc
same_field column (Int m) (Int n) is_a is_b fits_a fits_b e = same_body column.kind (Int m) (Int n) is_a is_b fits_a fits_b cc
same_field column (Int m) (Text t) is_a is_b fits_a fits_b e = same_body column.kind (Int m) (Text t) is_a is_b fits_a fits_b cc
same_field column (Text s) (Int n) is_a is_b fits_a fits_b e = same_body column.kind (Text s) (Int n) is_a is_b fits_a fits_b cc
same_field column (Text s) (Text t) is_a is_b fits_a fits_b e = same_body column.kind (Text s) (Text t) is_a is_b fits_a fits_b cc

same_fields : (columns : List Column) (a b : List Value) → IsRowOf columns a → IsRowOf columns b → All Has64Bits a → All Has64Bits b → fields_code columns a ≡ fields_code columns b → a ≡ b
same_fields [] [] [] is_a is_b fits_a fits_b e = refl
same_fields [] [] (y ∷ b) is_a is_b fits_a fits_b e = absurd is_b
same_fields [] (x ∷ a) b is_a is_b fits_a fits_b e = absurd is_a
same_fields (column ∷ columns) [] b is_a is_b fits_a fits_b e = absurd is_a
same_fields (column ∷ columns) (x ∷ a) [] is_a is_b fits_a fits_b e = absurd is_b
same_fields (column ∷ columns) (x ∷ a) (y ∷ b) is_a is_b fits_a fits_b e =
    let parts = same_fronts (field_code column.kind x) (field_code column.kind y) (fields_code columns a) (fields_code columns b) (length-field_code column x is_a.0 ∙ sym (length-field_code column y is_b.0)) e in
    let first : x ≡ y = same_field column x y is_a.0 is_b.0 (All-head Has64Bits x a fits_a) (All-head Has64Bits y b fits_b) parts.0 in
    let rest : a ≡ b = same_fields columns a b is_a.1 is_b.1 (All-tail Has64Bits x a fits_a) (All-tail Has64Bits y b fits_b) parts.1 in
    λ i. first i ∷ rest i

-- what two reads of one list of fields find
same_reads : (columns : List Column) (bytes rest other : List ℕ) (a b : List Value) → All Has64Bits a → All Has64Bits b → Reads columns bytes a rest → Reads columns bytes b other → (a ≡ b) × (rest ≡ other)
same_reads columns bytes rest other a b fits_a fits_b first second =
    let parts = Reads-one_rest columns bytes rest other a b first second in (same_fields columns a b first.fits second.fits fits_a fits_b parts.0, parts.1)

mark : (a b : Bool) → mark_code a ≡ mark_code b → a ≡ b
mark true true e = refl
mark true false e = absurd cc
mark false true e = absurd cc
mark false false e = refl

same_head : (a b : Bool) (m n i j : ℕ) → m < 2 ^ 64 → n < 2 ^ 64 → i < 2 ^ 64 → j < 2 ^ 64 → head_code a m i ≡ head_code b n j → (a ≡ b) × (m ≡ n) × (i ≡ j)
unfolding head_code
same_head a b m n i j m_fits n_fits i_fits j_fits e =
    let marks : mark_code a ≡ mark_code b = cc in
    let numbers : u64_bytes m ++ u64_bytes i ≡ u64_bytes n ++ u64_bytes j = cc in
    let parts = same_fronts (u64_bytes m) (u64_bytes n) (u64_bytes i) (u64_bytes j) (length-u64_bytes m ∙ sym (length-u64_bytes n)) numbers in
    (mark a b marks, same_u64 m n m_fits n_fits parts.0, same_u64 i j i_fits j_fits parts.1)

-- the head that is read of a version's record is that version's
pub head_of_record : (schema : Schema) (version : Version) (key value fields : List ℕ) (head : Head) → head.writer < 2 ^ 64 → head.pointer < 2 ^ 64
    → IsHeadOf head fields value → IsVersion version → IsRecordOf schema version key value → head ≡ version_head version
head_of_record schema version key value fields head writer_fits pointer_fits read fits is =
    let one = same_fronts (head_code head.marked head.writer head.pointer) (head_code version.marked version.writer version.pointer)
    fields (others_code schema.primary schema.columns version.row)
    (length-head_code head.marked head.writer head.pointer ∙ sym (length-head_code version.marked version.writer version.pointer)) (sym read ∙ is.value_is) in
    let same = same_head head.marked version.marked head.writer version.writer head.pointer version.pointer writer_fits fits.writer pointer_fits fits.pointer one.0 in
    λ i. record { marked = same.0 i; writer = same.1 i; pointer = same.2 i }

-- a row is what stands before the primary value, that value, and what stands behind it
row_around : (schema : Schema) (row : List Value) → schema.primary < length row → row ≡ take schema.primary row ++ key_of schema row ∷ drop (suc schema.primary) row
row_around schema row inside =
    sym (take-append-drop schema.primary row) ∙ ap (λ (l : List Value). take schema.primary row ++ l) (rw add-one at (drop_more row schema.primary Null inside))

same_row : (schema : Schema) (a b : List Value) (key fields : List ℕ) → All Has64Bits a → All Has64Bits b → IsStored schema a key fields → IsStored schema b key fields → a ≡ b
same_row schema a b key fields fits_a fits_b is_a is_b =
    let p = schema.primary in
    let parts_a = stored_parts schema a key fields is_a in
    let parts_b = stored_parts schema b key fields is_b in
    let before = same_reads (take p schema.columns) fields parts_a.0 parts_b.0 (take p a) (take p b) (All-take Has64Bits p a fits_a) (All-take Has64Bits p b fits_b) parts_a.1 parts_b.1 in
    let read_b : Reads (drop (suc p) schema.columns) parts_a.0 (drop (suc p) b) [] = rw before.1 parts_b.2 in
    let behind = same_reads (drop (suc p) schema.columns) parts_a.0 [] [] (drop (suc p) a) (drop (suc p) b) (All-drop Has64Bits (suc p) a fits_a) (All-drop Has64Bits (suc p) b fits_b) parts_a.2 read_b in
    let split = around schema.columns p is_a.key_is.column is_a.key_is.primary in
    let inside_a : p < length a = omega (arith, split.1, length-row schema.columns a is_a.fits) in
    let inside_b : p < length b = omega (arith, split.1, length-row schema.columns b is_b.fits) in
    let one_column : is_b.key_is.column ≡ is_a.key_is.column = cc (is_a.key_is.primary, is_b.key_is.primary) in
    let kind = is_a.key_is.column.kind in
    let present : IsOfKind kind (key_of schema b) = rw one_column at is_b.key_is.present in
    let spelled : key ≡ key_code kind (key_of schema b) = rw one_column at is_b.key_is.spelled in
    let primary : key_of schema a ≡ key_of schema b = same_key kind (key_of schema a) (key_of schema b) is_a.key_is.present present (All-get_or Has64Bits a p Null inside_a fits_a) (All-get_or Has64Bits b p Null inside_b fits_b) (sym is_a.key_is.spelled ∙ spelled) in
    row_around schema a inside_a ∙ (λ i. before.0 i ++ primary i ∷ behind.0 i) ∙ sym (row_around schema b inside_b)

pub same_version : (schema : Schema) (v w : Version) (key value : List ℕ) → IsVersion v → IsVersion w → IsRecordOf schema v key value → IsRecordOf schema w key value → v ≡ w
same_version schema v w key value fits_v fits_w is_v is_w =
    let p = schema.primary in
    let fields_v = others_code p schema.columns v.row in
    let fields_w = others_code p schema.columns w.row in
    let parts = same_fronts (head_code v.marked v.writer v.pointer) (head_code w.marked w.writer w.pointer) fields_v fields_w (length-head_code v.marked v.writer v.pointer ∙ sym (length-head_code w.marked w.writer w.pointer)) (sym is_v.value_is ∙ is_w.value_is) in
    let head = same_head v.marked w.marked v.writer w.writer v.pointer w.pointer fits_v.writer fits_w.writer fits_v.pointer fits_w.pointer parts.0 in
    let row : v.row ≡ w.row = same_row schema v.row w.row key fields_v fits_v.row fits_w.row (record { fits = is_v.fits; key_is = is_v.key_is; fields_are = refl }) (record { fits = is_w.fits; key_is = is_w.key_is; fields_are = parts.1 }) in
    λ i. record { row = row i; writer = head.1 i; pointer = head.2 i; marked = head.0 i }
