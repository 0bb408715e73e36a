-- Rows stand at the place of their own primary value.
use Rattle.std.proofs.Common.{◌≡◌, sym, subst, ℕ, Bool, true, false, List, [], ◌∷◌, Option, None, Some, inl, inr}
use Rattle.std.specs.Prelude.{IfSome, All}
use Rattle.std.specs.List.{AllByRecursion}
use Rattle.std.proofs.lemmas.List.Elements.{All-from_recursion}
use Rattle.inno_types.specs.{declared.value.Value.Value, declared.value.Schema.Schema}
use Rattle.inno_db.specs.Database.{key_of}
use Rattle.store_api.specs.declared.answers.Version.{Version as Coded}
use Rattle.key_codec.specs.Keys.{key_code}
use Rattle.entries.specs.Pairs.{Pair, value_of}
use Rattle.row_versions.specs.{declared.kept.Kept.Kept, declared.version.Version.Version}
use Rattle.law_stored_rows.specs.Records.{row_shown, shown, IsCodeOf, LeadTo, IsRecordWith, IsClustered, IsRowAt, kept_of}
use Rattle.law_stored_rows.proofs.{Values.key_there, Values.one_key, RowRecords.nothing_or_there}

-- it holds of the version's row, if there is one
abbrev Shows : (List Value → Type 0) → Version → Type 0
Shows P version = IfSome version.row P

shown_row : (marked : Bool) (row : List Value) (P : List Value → Type 0) → P row → IfSome (row_shown marked row) P
shown_row true row P p = tt
shown_row false row P p = p

module _ (schema : Schema) (key : List ℕ) (kept : ℕ → Option Kept) (P : List Value → Type 0)
    (each : (bytes : List ℕ) (coded : Coded) → IsCodeOf schema key bytes coded → P coded.row) where
  of_shown : (bytes : List ℕ) (coded : Coded) (version : Version) → IsCodeOf schema key bytes coded → shown coded ≡ version → Shows P version
  of_shown bytes coded version code same = subst (Shows P) same (shown_row coded.marked coded.row P (each bytes coded code))

  of_led : (pointer : ℕ) (versions : List Version) → LeadTo schema key kept pointer versions → AllByRecursion (Shows P) versions
  of_led pointer [] is = tt
  of_led pointer (version ∷ versions) is = (of_shown is.0.bytes is.0.version version is.1.code_is is.1.shown_is, of_led is.0.version.pointer versions is.2)

  of_record : (found : Option (List ℕ)) (versions : List Version) → IsRecordWith schema key kept found versions → AllByRecursion (Shows P) versions
  of_record found [] is = tt
  of_record None (version ∷ versions) is = absurd is
  of_record (Some bytes) (version ∷ versions) is = (of_shown bytes is.0 version is.1 is.2, of_led is.0.pointer versions is.3)

pub rows_at_home : (table : ℕ) (schema : Schema) (kept : ℕ → Option Kept) (pairs : List Pair) (rows : Value → List Version)
    → IsClustered table schema kept pairs rows
    → (value : Value) → All (λ version. IfSome version.row (IsRowAt schema value)) (rows value)
rows_at_home table schema kept pairs rows is value = All-from_recursion (Shows (IsRowAt schema value)) (rows value) (elim (nothing_or_there is value) [
  | inl none ↦ rw none tt
  | inr found ↦
      let code = key_code is.primary.kind value in
      let at_home : (bytes : List ℕ) (coded : Coded) → IsCodeOf schema code bytes coded → IsRowAt schema value coded.row =
      λ bytes coded coded_is.
      let both = key_there schema code bytes coded is.primary is.primary_is coded_is in
      let one = one_key is.primary.kind (key_of schema coded.row) value both.0 found.0 (sym both.1) in
      record { fits = coded_is.record_is.fits; bits = coded_is.numbers.row; key_is = one } in
      of_record schema code (kept_of kept table code) (IsRowAt schema value) at_home (value_of code pairs) (rows value) (is.records value found.0)
])
