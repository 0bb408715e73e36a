-- What the mark of an entry tells: whether the newest row has its value. An entry that stands marked without a version tells the same.
-- `Marked` and `Shapes` read marks by it, since of marked entries keys need not say anything.
use Rattle.std.proofs.Common.{◌≡◌, ◌∙◌, inl, inr, refl, sym, ap, ℕ, zero, suc, Bool, true, false, cond, List, [], ◌∷◌, Option, None, Some}
use Rattle.std.specs.Prelude.{◌||◌, not}
use Rattle.std.specs.List.{list_any}
use Rattle.inno_types.specs.declared.value.Value.{Value}
use Rattle.row_codec.specs.Rows.{mark_code}
use Rattle.row_versions.specs.{declared.version.Version.Version}
use Rattle.law_stored_rows.specs.Entries.{MayHold, has_value, entry_of}
use Rattle.law_locked_rows.specs.Entries.{newest_has}

abbrev pub is_unmarked : Option (List ℕ) → Bool
is_unmarked None = false
is_unmarked (Some []) = false
is_unmarked (Some (zero ∷ rest)) = true
is_unmarked (Some (suc mark ∷ rest)) = false

by_mark : (some first : Bool) → (some ≡ false → first ≡ false) → is_unmarked (cond some (Some (mark_code (not first) ∷ [])) None) ≡ first
by_mark true true none = refl
by_mark true false none = refl
by_mark false first none = sym (none refl)

-- where no version has the value, the newest one lacks it
lacks_all : (column : ℕ) (value : Value) (versions : List Version) → list_any (λ version. has_value column value version.row) versions ≡ false
    → newest_has column value versions ≡ false
lacks_all column value [] none = refl
lacks_all column value (version ∷ versions) none =
    first_lacks (has_value column value version.row) (list_any (λ version. has_value column value version.row) versions) none
  where
    first_lacks : (a b : Bool) → (a || b) ≡ false → a ≡ false
    first_lacks true b is = absurd (cc)
    first_lacks false b is = refl

told_by_mark : (column : ℕ) (value : Value) (versions : List Version) → is_unmarked (entry_of column value versions) ≡ newest_has column value versions
told_by_mark column value versions =
    by_mark (list_any (λ version. has_value column value version.row) versions) (newest_has column value versions) (lacks_all column value versions)

pub told_newest : {found : Option (List ℕ)} (column : ℕ) (value : Value) (versions : List Version) → MayHold found (entry_of column value versions)
    → newest_has column value versions ≡ is_unmarked found
told_newest column value versions (inl is) = sym (told_by_mark column value versions) ∙ ap is_unmarked (sym is)
told_newest column value versions (inr (none, is)) = sym (told_by_mark column value versions) ∙ ap is_unmarked none ∙ sym (ap is_unmarked is)
