-- What a change of one entry makes of what its key says, and which entries a change of a row asks for.
use Rattle.std.proofs.Common.{◌≡◌, ◌≢◌, ◌∙◌, sym, ap, refl, ℕ, Bool, true, false, cond, List, [], ◌∷◌, Option, None, Some, inl, inr}
use Rattle.std.specs.Prelude.{◌||◌, not, is_some}
use Rattle.std.specs.List.{list_any}
use Rattle.std.proofs.lemmas.Bool.{true≢false}
use Rattle.inno_types.specs.{declared.value.Value.Value, declared.value.Schema.Schema}
use Rattle.key_codec.specs.Keys.{HasKey, HasEntry, key_code, entry_code}
use Rattle.key_codec.proofs.Once.{same_entry}
use Rattle.row_codec.specs.Rows.{mark_code}
use Rattle.entries.specs.Pairs.{Pair}
use Rattle.row_versions.specs.{declared.version.Version.Version, Chains.newest}
use Rattle.law_stored_rows.specs.Edits.{with_value}
use Rattle.law_stored_rows.specs.Entries.{is_same_value, value_in, has_value, entry_of, MayHold, HasEntries, TellAlike, TellAlikeBut}
use Rattle.law_stored_rows.proofs.{Values.same_value, Values.apart_from, Values.one_key, Pairs.same_or_not, Pairs.rising_now, Pairs.value_now}
use Rattle.law_stored_rows.proofs.{Pairs.others_now}

pub still_holds : {found now said tells : Option (List ℕ)} → now ≡ found → said ≡ tells → MayHold found said → MayHold now tells
still_holds same alike (inl is) = inl (same ∙ is ∙ alike)
still_holds same alike (inr (none, is)) = inr (sym alike ∙ none, same ∙ is)

-- what is said to be there is there
pub holds_said : {found said : Option (List ℕ)} → MayHold found said → is_some said ≡ true → found ≡ said
holds_said (inl is) some = is
holds_said (inr (none, is)) some = absurd (let no = sym (ap is_some none) ∙ some in cc)

-- ---- the entries of one key after a change of one of them

module _ (schema : Schema) (column : ℕ) (entries : List Pair) (was now : Value → List Version) (is : HasEntries schema column entries was)
    (here value : Value) (has : HasKey is.primary.kind here) (has_entry : HasEntry is.indexed.kind value)
    (alike : TellAlikeBut value column (was here) (now here)) (elsewhere : (other : Value) → is_same_value here other ≡ false → now other ≡ was other) where
  abbrev entry_at : Value → Value → List ℕ
  entry_at key other = entry_code is.indexed.kind other (key_code is.primary.kind key)

  abbrev edited : List Pair
  edited = with_value (entry_at here value) (entry_of column value (now here)) entries

  -- what another entry says of the place has not changed
  said_after : (key other : Value) → entry_at key other ≢ entry_at here value → (t s : Bool) → is_same_value here key ≡ t
      → is_same_value value other ≡ s → entry_of column other (was key) ≡ entry_of column other (now key)
  said_after key other differ false s place_is value_is = ap (entry_of column other) (sym (elsewhere key place_is))
  said_after key other differ true false place_is value_is = rw (same_value here key place_is) at (alike other value_is)
  said_after key other differ true true place_is value_is =
      absurd (differ (λ i. entry_at (sym (same_value here key place_is) i) (sym (same_value value other value_is) i)))

  pub entries_after : HasEntries schema column edited now
  entries_after = record {
    primary = is.primary;
    primary_is = is.primary_is;
    indexed = is.indexed;
    indexed_is = is.indexed_is;
    rising = rising_now (entry_at here value) (entry_of column value (now here)) entries is.rising;
    each = λ entry there. elim (same_or_not entry (entry_at here value)) [
      | inl same ↦ (here, value, has, has_entry, same)
      | inr differ ↦ is.each entry (rw (others_now (entry_at here value) (entry_of column value (now here)) entry entries differ) at there)
    ];
    marks = λ key other has_too entry_too. elim (same_or_not (entry_at key other) (entry_at here value)) [
      | inl same ↦
          let parts = same_entry is.indexed.kind other value (key_code is.primary.kind key) (key_code is.primary.kind here) entry_too.0 has_entry.0
          entry_too.1 has_entry.1 same in
          rw (one_key is.primary.kind key here has_too has parts.1, parts.0)
          (inl (value_now (entry_at here value) (entry_of column value (now here)) entries is.rising))
      | inr differ ↦
          still_holds (others_now (entry_at here value) (entry_of column value (now here)) (entry_at key other) entries differ)
          (said_after key other differ (is_same_value here key) (is_same_value value other) refl refl) (is.marks key other has_too entry_too)
    ];
  }

-- Entries are those of all rows that tell alike.
pub entries_alike : (schema : Schema) (column : ℕ) (entries : List Pair) (was now : Value → List Version)
    → ((key : Value) → TellAlike column (was key) (now key)) → HasEntries schema column entries was → HasEntries schema column entries now
entries_alike schema column entries was now alike is = record {
  primary = is.primary;
  primary_is = is.primary_is;
  indexed = is.indexed;
  indexed_is = is.indexed_is;
  rising = is.rising;
  each = is.each;
  marks = λ key value has has_entry. still_holds refl (alike key value) (is.marks key value has has_entry);
}

-- ---- which entries a change of a row asks for

-- a row with one value has no other
other_value : (column : ℕ) (value other : Value) (row : Option (List Value)) → has_value column value row ≡ true → is_same_value value other ≡ false
    → has_value column other row ≡ false
other_value column value other None has apart = absurd (true≢false (sym has))
other_value column value other (Some row) has apart = apart_from value other (value_in column row) apart has

-- the entry that says this: whether a version has the value, and whether the newest has
abbrev telling : Bool → Bool → Option (List ℕ)
telling some first = cond some (Some (mark_code (not first) ∷ [])) None

newest_has : (column : ℕ) (value : Value) (versions : List Version) → has_value column value (newest versions) ≡ true
    → list_any (λ version. has_value column value version.row) versions ≡ true
newest_has column value [] has = absurd (true≢false (sym has))
newest_has column value (version ∷ versions) has = rw has refl

behind_alike : (first any : Bool) → telling (first || any) first ≡ telling (first || (first || any)) first
behind_alike true any = refl
behind_alike false any = refl

-- a version in front that has the value exactly where the newest one has it
same_tells : (column : ℕ) (value : Value) (version : Version) (versions : List Version)
    → has_value column value version.row ≡ has_value column value (newest versions)
    → entry_of column value versions ≡ entry_of column value (version ∷ versions)
same_tells column value version [] same = rw same refl
same_tells column value version (first ∷ versions) same =
    rw same (behind_alike (has_value column value first.row) (list_any (λ v. has_value column value v.row) versions))

-- The newest row's entry is marked: as a version without a row in front would have it.
pub marked : (column : ℕ) (value : Value) (gone : Version) (versions : List Version) → has_value column value (newest versions) ≡ true
    → gone.row ≡ None → TellAlikeBut value column versions (gone ∷ versions)
marked column value gone versions has none other apart =
    same_tells column other gone versions (rw none (sym (other_value column value other (newest versions) has apart)))

pub is_marked : (column : ℕ) (value : Value) (gone : Version) (versions : List Version) → has_value column value (newest versions) ≡ true
    → gone.row ≡ None → entry_of column value (gone ∷ versions) ≡ Some (1 ∷ [])
is_marked column value gone versions has none = rw (none, newest_has column value versions has) refl

-- The new row's entry is put where the newest version has no row.
pub put : (column : ℕ) (value : Value) (version : Version) (versions : List Version) → has_value column value version.row ≡ true
    → newest versions ≡ None → TellAlikeBut value column versions (version ∷ versions)
put column value version versions has none other apart =
    same_tells column other version versions (rw none (other_value column value other version.row has apart))

pub is_put : (column : ℕ) (value : Value) (version : Version) (versions : List Version) → has_value column value version.row ≡ true
    → entry_of column value (version ∷ versions) ≡ Some (0 ∷ [])
is_put column value version versions has = rw has refl

-- The newest row's entry is taken back: marked where an older version has the value, and removed where none has.
pub taken : (column : ℕ) (value : Value) (version gone : Version) (versions : List Version) → has_value column value version.row ≡ true
    → gone.row ≡ None → TellAlikeBut value column (version ∷ versions) (gone ∷ versions)
taken column value version gone versions has none other apart = rw (none, other_value column value other version.row has apart) refl

pub is_taken : (column : ℕ) (value : Value) (gone : Version) (versions : List Version) → gone.row ≡ None
    → entry_of column value (gone ∷ versions) ≡ cond (list_any (λ version. has_value column value version.row) versions) (Some (1 ∷ [])) None
is_taken column value gone versions none = rw none refl

-- The entry of the row before is unmarked again.
pub unmarked : (column : ℕ) (value : Value) (gone : Version) (versions : List Version) → has_value column value (newest versions) ≡ true
    → gone.row ≡ None → TellAlikeBut value column (gone ∷ versions) versions
unmarked column value gone versions has none other apart = sym (marked column value gone versions has none other apart)

pub is_unmarked : (column : ℕ) (value : Value) (versions : List Version) → has_value column value (newest versions) ≡ true
    → entry_of column value versions ≡ Some (0 ∷ [])
is_unmarked column value versions has = rw (newest_has column value versions has, has) refl

pub without_row : (column : ℕ) (gone : Version) (versions : List Version) → gone.row ≡ None → newest versions ≡ None
    → TellAlike column versions (gone ∷ versions)
without_row column gone versions none nothing value = same_tells column value gone versions (rw (none, nothing) refl)

-- The new row has the value that the newest row has.
pub value_again : (column : ℕ) (row : List Value) (version : Version) (versions : List Version) (new_row : List Value) → newest versions ≡ Some row
    → version.row ≡ Some new_row → value_in column row ≡ value_in column new_row
    → TellAlike column versions (version ∷ versions)
value_again column row version versions new_row first second same value =
    same_tells column value version versions (rw (second, first) (ap (is_same_value value) (sym same)))
