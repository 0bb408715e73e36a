-- A session's own steps keep it the owner of entries: its record is put, and then each key takes the change over.
-- `Owners` has the same of all other sessions. Which entries are new is counted in `Told`.
use Rattle.std.proofs.Common.{◌≡◌, ◌∙◌, refl, sym, ap, ℕ, Bool, true, false, cond, List, [], ◌∷◌, ◌++◌}
use Rattle.std.proofs.lemmas.Bool.{true≢false}
use Rattle.std.specs.Prelude.{◌||◌}
use Rattle.std.specs.List.{list_any}
use Rattle.inno_types.specs.{declared.lock.Lock.Lock, declared.value.Value.Value}
use Rattle.inno_db.specs.declared.change.Change.{Change}
use Rattle.inno_model.specs.Past.{own}
use Rattle.key_codec.specs.Keys.{HasEntry, key_code, entry_code}
use Rattle.row_versions.specs.{declared.place.Place.Place, declared.version.Version.Version, Chains.Chains, Chains.versions_at}
use Rattle.law_stored_rows.specs.{Edits.key_index, Tables.Said}
use Rattle.law_past_agreement.specs.{Rows.is_at, Rows.row_of, Ids.id_of, Agreement.versions_of}
use Rattle.world.specs.State.{WorldState, Work}
use Rattle.law_locks.specs.Guards.{has_alone}
use Rattle.law_locked_rows.specs.Entries.{IsKeyed, OwnsEntries, newest_has}
use Rattle.law_locked_rows.proofs.Owners.{keyed_before}
use Rattle.law_locked_rows.proofs.Told.{OwnsDifferent, owns_none}

none_of : (id : ℕ) (at : Change → Bool) (changes : List Change) → list_any at changes ≡ false → versions_of id at changes ≡ []
none_of id at [] none = refl
none_of id at (change ∷ changes) none = go (none_of id at changes) (at change) refl
  where
    go : (list_any at changes ≡ false → versions_of id at changes ≡ []) → (b : Bool) → at change ≡ b → versions_of id at (change ∷ changes) ≡ []
    go rest true is = absurd (true≢false (sym (ap (λ b. b || list_any at changes) is) ∙ none))
    go rest false is = ap (λ b. cond b (record { writer = id; row = row_of change } ∷ versions_of id at changes) (versions_of id at changes)) is
        ∙ rest (sym (ap (λ b. b || list_any at changes) is) ∙ none)

-- whether it has the entry of a value at the place alone
abbrev pub has_entry_alone : {place : Place} {at : ℕ} {state : WorldState} → ℕ → List Lock → IsKeyed place at state → Value → Bool
has_entry_alone {place} {at} txn granted keyed value =
    has_alone txn (key_index place.table at) (entry_code keyed.indexed.kind value (key_code keyed.primary.kind place.key)) granted

module _ (t : ℕ) (work : Work) (place : Place) (at : ℕ) (chains after : Chains) (said now : Said) (old new : WorldState) (granted granted_now : List Lock)
    (schemas : new.schemas ≡ old.schemas) (keyed : IsKeyed place at new)
    (keeps : (index : ℕ) (key : List ℕ) → has_alone work.txn index key granted ≡ true → has_alone work.txn index key granted_now ≡ true) where
  -- ---- the record is put: the key tells what it told

  module _ (change : Change) (own_now : own t new.past ≡ change ∷ own t old.past) (at_place : is_at new.schemas place change ≡ true)
      (pushed : versions_at place after ≡ record { writer = id_of new.past t; row = row_of change } ∷ versions_at place chains)
      (says : now place.table at place.key ≡ said place.table at place.key) where
    whole_now : (behind : List Version) → versions_at place chains ≡ versions_of (id_of new.past t) (is_at new.schemas place) (own t old.past) ++ behind
        → versions_at place after ≡ versions_of (id_of new.past t) (is_at new.schemas place) (own t new.past) ++ behind
    whole_now behind parts =
        pushed ∙ ap (λ (vs : List Version). record { writer = id_of new.past t; row = row_of change } ∷ vs) parts
        ∙ sym (ap (λ changes. versions_of (id_of new.past t) (is_at new.schemas place) changes ++ behind) own_now
        ∙ ap (λ b. cond b (record { writer = id_of new.past t; row = row_of change } ∷ versions_of (id_of new.past t) (is_at new.schemas place)
        (own t old.past))
        (versions_of (id_of new.past t) (is_at new.schemas place) (own t old.past)) ++ behind) at_place)

    -- its first change there
    pub record_first : list_any (is_at new.schemas place) (own t old.past) ≡ false → said place.table at place.key ≡ versions_at place chains
        → OwnsEntries after now new granted_now t work place at keyed
    record_first none settled = record {
      fronts = [];
      behind = versions_at place chains;
      versions = whole_now (versions_at place chains) (sym (ap (λ (vs : List Version). vs ++ versions_at place chains)
          (none_of (id_of new.past t) (is_at new.schemas place) (own t old.past) none)));
      tells = λ value has_entry. ap (newest_has keyed.key.column value) (sym (says ∙ settled));
      alone = owns_none keyed.key.column (has_entry_alone work.txn granted_now keyed) (versions_at place chains);
    }

    -- or one more
    pub record_again : id_of new.past t ≡ id_of old.past t → OwnsEntries chains said old granted t work place at (keyed_before schemas keyed)
        → OwnsEntries after now new granted_now t work place at keyed
    record_again id is = record {
      fronts = is.fronts;
      behind = is.behind;
      versions = whole_now is.behind (is.versions ∙ sym (λ i. versions_of (id i) (is_at (schemas i) place) (own t old.past) ++ is.behind));
      tells = λ value has_entry. is.tells value has_entry ∙ ap (newest_has keyed.key.column value) (sym says);
      alone = λ value some all. keeps _ _ (is.alone value some all);
    }

  -- ---- a key's step: it tells other versions in front, and the step has locked what that takes

  pub key_step : id_of new.past t ≡ id_of old.past t → own t new.past ≡ own t old.past → versions_at place after ≡ versions_at place chains
      → (is : OwnsEntries chains said old granted t work place at (keyed_before schemas keyed)) → (fronts : List Version)
      → ((value : Value) → HasEntry keyed.indexed.kind value → newest_has keyed.key.column value (fronts ++ is.behind)
      ≡ newest_has keyed.key.column value (now place.table at place.key))
      → (OwnsDifferent keyed.key.column (has_entry_alone work.txn granted_now keyed) is.fronts is.behind
      → OwnsDifferent keyed.key.column (has_entry_alone work.txn granted_now keyed) fronts is.behind)
      → OwnsEntries after now new granted_now t work place at keyed
  key_step id own_is versions is fronts tells owns = record {
    fronts = fronts;
    behind = is.behind;
    versions = versions ∙ is.versions ∙ sym (λ i. versions_of (id i) (is_at (schemas i) place) (own_is i) ++ is.behind);
    tells = tells;
    alone = owns (λ value some all. keeps _ _ (is.alone value some all));
  }
