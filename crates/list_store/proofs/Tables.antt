-- The indexes of a table that is made.
use Rattle.std.proofs.Common.{◌≡◌, ℕ, ◌+◌, ◌*◌, ◌<◌, ◌≤◌, zero, suc, List, [], ◌∷◌, ◌++◌, length, length-append, None, refl, ap, sym, ◌∙◌, arith, inl, inr}
use Rattle.std.specs.Prelude.{slice_get}
use Rattle.std.proofs.lemmas.Bool.{cases_lt}
use Rattle.inno_types.specs.declared.value.Schema.{Schema}
use Rattle.entries.specs.declared.list_index.ListIndex.{ListIndex}
use Rattle.entries.specs.Lists.{shown, empty_index}
use Rattle.index_store.specs.Undoing.{MakesTable}
use Rattle.list_store.specs.Slots.{kept_behind}
use Rattle.list_store.specs.Parts.{ListParts, AreAdded, store_of, index_of_list, index_in}

pushed_before : (lists : List ListIndex) (list : ListIndex) (index : ℕ) → index < length lists → slice_get (lists ++ list ∷ []) index ≡ slice_get lists index
pushed_before [] list index within = absurd (omega arith)
pushed_before (first ∷ lists) list zero within = refl
pushed_before (first ∷ lists) list (suc index) within = pushed_before lists list index (omega arith)

pushed_behind : (lists : List ListIndex) (list : ListIndex) (index : ℕ) → shown list ≡ empty_index → length lists ≤ index
    → index_in (lists ++ list ∷ []) index ≡ empty_index
pushed_behind [] list zero is behind = is
pushed_behind [] list (suc index) is behind = refl
pushed_behind (first ∷ lists) list zero is behind = absurd (omega arith)
pushed_behind (first ∷ lists) list (suc index) is behind = pushed_behind lists list index is (omega arith)

none_past : (lists : List ListIndex) (index : ℕ) → length lists ≤ index → index_in lists index ≡ empty_index
none_past [] index behind = refl
none_past (first ∷ lists) zero behind = absurd (omega arith)
none_past (first ∷ lists) (suc index) behind = none_past lists index (omega arith)

pub added_none : (lists : List ListIndex) → AreAdded 0 lists lists
added_none lists = record { count = omega arith; before = λ index within. refl; empty = λ index behind. none_past lists index behind }

added_empty : (more : ℕ) (old between : List ListIndex) (list : ListIndex) → AreAdded more old between → shown list ≡ empty_index → (index : ℕ)
    → length old ≤ index
    → index_in (between ++ list ∷ []) index ≡ empty_index
added_empty more old between list added is index behind = elim (cases_lt index (length between)) [
  | inl within ↦ ap index_of_list (pushed_before between list index within) ∙ added.empty index behind
  | inr past ↦ pushed_behind between list index is past
]

pub added_one : (more : ℕ) (old between : List ListIndex) (list : ListIndex) → AreAdded more old between → shown list ≡ empty_index
    → AreAdded (more + 1) old (between ++ list ∷ [])
added_one more old between list added is = record {
  count = omega (arith, length-append between (list ∷ []), added.count);
  before = λ index within. pushed_before between list index (omega (arith, added.count, within)) ∙ added.before index within;
  empty = added_empty more old between list added is;
}

none_behind : (indexes : List ListIndex) (index : ℕ) → length indexes ≤ index → slice_get indexes index ≡ None
none_behind [] index le = refl
none_behind (first ∷ indexes) zero le = absurd (omega (arith, le))
none_behind (first ∷ indexes) (suc index) le = none_behind indexes index (omega (arith, le))

-- an index that no table had was empty, and is
same_index : (old new : List ListIndex) (index : ℕ) → AreAdded 8 old new → index_in new index ≡ index_in old index
same_index old new index added = elim (cases_lt index (length old)) [
  | inl within ↦ ap index_of_list (added.before index within)
  | inr behind ↦ added.empty index behind ∙ ap index_of_list (sym (none_behind old index behind))
]

-- the store with a table more
pub makes_table : (parts : ListParts) (schema : Schema) (indexes : List ListIndex)
    → length parts.indexes ≡ 8 * length parts.schemas → AreAdded 8 parts.indexes indexes
    → MakesTable schema (store_of parts) (store_of (record parts { schemas = parts.schemas ++ schema ∷ []; indexes = indexes }))
makes_table parts schema indexes numbered added = record {
  empty = λ which within. added.empty (8 * length parts.schemas + which) (omega (arith, numbered));
  same = λ index. same_index parts.indexes indexes index added;
  rest = refl;
}

pub none_kept : (pointer : ℕ) → kept_behind [] pointer ≡ None
none_kept zero = refl
none_kept (suc place) = refl
