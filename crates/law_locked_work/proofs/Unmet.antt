-- What a session commits is met by no search that another one keeps.
-- The laws of `owned_changes` end here. Which places are locked is told in `law_locks`.
use Rattle.std.proofs.Common.{◌≡◌, ◌≢◌, ◌∙◌, ap, sym, subst, refl, ℕ, zero, zero-lt-suc, Bool, true, false, List, [], ◌∷◌, map, Option, Some, None, inl, inr}
use Rattle.std.proofs.Common.{◌⊎◌, length}
use Rattle.std.specs.Prelude.{◌||◌, if◌then◌else◌, option_map, Contains}
use Rattle.std.specs.List.{list_any}
use Rattle.std.specs.FinMap.{get}
use Rattle.std.proofs.lemmas.Bool.{false≢true}
use Rattle.std.proofs.lemmas.Bool.Decides.{eqb_tells}
use Rattle.inno_types.specs.declared.lock.Lock.{Lock}
use Rattle.inno_types.specs.declared.value.Value.{Value}
use Rattle.inno_types.specs.declared.value.Schema.{Schema}
use Rattle.store_api.specs.declared.answers.Undo.{Undo}
use Rattle.inno_db.specs.declared.change.Change.{Change}
use Rattle.inno_db.specs.declared.change.Change.TheVariants.{Create, Put, Remove}
use Rattle.inno_db.specs.Database.{Database, RowMap, key_in, key_of}
use Rattle.inno_db.specs.Indexes.{index_of}
use Rattle.inno_model.specs.declared.event.Event.{Event}
use Rattle.inno_model.specs.Past.{own, txn, commits, committed, opening, changed, current, IsOpen}
use Rattle.lock_table.specs.Queue.{AreApart}
use Rattle.law_stored_rows.specs.Edits.{clustered_index}
use Rattle.sql_plan.specs.declared.choice.Plan.{Plan}
use Rattle.sql_plan.specs.Visits.{index_key, kind_at}
use Rattle.key_codec.specs.Keys.{IsOfKind, key_width}
use Rattle.key_codec.proofs.Lengths.{length-key_code}
use Rattle.inno_types.specs.Ranges.{is_within}
use Rattle.row_versions.specs.{declared.place.Place.Place, declared.version.Version.Version, Chains.Chains, Chains.in_model, Chains.versions_at, Chains.newest}
use Rattle.row_versions.specs.{Laws.same_place_equiv}
use Rattle.law_past_agreement.specs.{Order.created, Order.IsOrdered, Ids.id_of, Rows.is_at, Rows.row_at, Rows.row_opened, Rows.row_seen}
use Rattle.law_past_agreement.specs.Agreement.{AreVersionsBy, AreVersions}
use Rattle.law_past_agreement.proofs.{Ids.AreIds, Ids.ids_of, Gets.seen_is, Rows.row_at-append, Rows.newest_is}
use Rattle.sql_history.proofs.Pasts.{changed_append}
use Rattle.sql_lists.specs.Kept.{AreStanding, IsInOrder}
use Rattle.law_past_agreement.specs.Order.{is_creation}
use Rattle.law_db.specs.Beside.{is_change_at, touches, AreOfRows, passed, IsUnmet}
use Rattle.law_db.proofs.Apart.{schemas_stay, get_untouched}
use Rattle.law_histories.specs.Work.{committed_db}
use Rattle.sql_lists.proofs.MoreTables.{same_map}
use Rattle.law_locks.specs.Guards.{has_record}
use Rattle.law_locks.specs.Barring.{ChangedRow, MayBeKey, KeepsRow}
use Rattle.law_locks.proofs.Outside.{none_before, none_behind}
use Rattle.law_locks.proofs.Clashes.{nobody_beside}
use Rattle.law_locked_work.specs.Owned.{front_of, behind_of, key_bytes, entry_at, changed_row, place_at, OwnsAt, lies_in, KeepsPlan}
use Rattle.law_locked_work.proofs.Fronts.{IsParted, own_in_front, newest_own}

at_so : (schemas : List Schema) (place : Place) (change : Change) → is_change_at schemas (in_model place) change ≡ is_at schemas place change
at_so schemas place (Create schema) = refl
at_so schemas place (Put table row) = same_place_equiv.symm place (record { table = table; key = key_in schemas table row })
at_so schemas place (Remove table key) = same_place_equiv.symm place (record { table = table; key = key })

touched_so : (schemas : List Schema) (place : Place) (changes : List Change) → touches schemas changes (in_model place) ≡ list_any (is_at schemas place) changes
touched_so schemas place [] = refl
touched_so schemas place (change ∷ changes) =
    ap (λ b. b || touches schemas changes (in_model place)) (at_so schemas place change)
    ∙ ap (λ b. is_at schemas place change || b) (touched_so schemas place changes)

no_creation : (changes : List Change) → list_any is_creation changes ≡ false → AreOfRows changes
no_creation [] none = tt
no_creation (Create schema ∷ changes) none = (cc)
no_creation (Put table row ∷ changes) none = no_creation changes none
no_creation (Remove table key ∷ changes) none = no_creation changes none

-- what passes no test
unmet : (test : List Value → Bool) (row : Option (List Value)) → ((r : List Value) → row ≡ Some r → test r ≡ true → ⊥) → passed test row ≡ None
unmet test None never = refl
unmet test (Some r) never =
    elim (test r) as (λ b. test r ≡ b → (if b then Some r else None) ≡ None) [ true ↦ λ is. absurd (never r refl is) | false ↦ λ is. refl ] refl

module _ (h : List Event) (ordered : IsOrdered h) (stands : AreStanding h) (in_order : IsInOrder h) where
  ids : AreIds h
  ids = ids_of h ordered

  now_is : (u : ℕ) → current u h ≡ changed (committed_db h) (own u h)
  now_is u = changed_append (opening h) (own u h) (committed (commits h) h)

  rows_only : (u : ℕ) → AreOfRows (own u h)
  rows_only u = no_creation (own u h) (stands.none u)

  tables_are : (u : ℕ) → (committed_db h).schemas ≡ created h
  tables_are u =
      sym (stands.tables u ∙ (ap (λ (d : Database). d.schemas) (now_is u) ∙ schemas_stay (committed_db h) (own u h) (rows_only u)))

  row_now : (u : ℕ) (place : Place) → get (current u h).rows (in_model place) ≡ row_seen h u (commits h) place
  row_now u place =
      ap (λ (rows : RowMap). get rows (in_model place)) (sym (same_map h u stands in_order)) ∙ seen_is h u (commits h) place ordered

  module _ (t : ℕ) (place : Place) (versions : List Version) (by : AreVersionsBy h t (row_opened h place) (is_at (created h) place) versions) where
    -- behind its changes
    row_behind : get (changed (committed_db h) (own t h)).rows (in_model place) ≡ newest versions
    row_behind =
        ap (λ (d : Database). get d.rows (in_model place)) (sym (now_is t))
        ∙ (row_now t place ∙ sym (newest_is (row_opened h place) (is_at (created h) place) h t by))

    -- before them, as another session sees it
    module _ (s : ℕ) (differ : s ≢ t) where
      untouched_by : touches (committed_db h).schemas (own s h) (in_model place) ≡ false
      untouched_by =
          ap (λ (ss : List Schema). touches ss (own s h) (in_model place)) (tables_are s) ∙ (touched_so (created h) place (own s h) ∙ by.alone s differ)

      seen_so : get (current s h).rows (in_model place) ≡ get (committed_db h).rows (in_model place)
      seen_so =
          ap (λ (d : Database). get d.rows (in_model place)) (now_is s)
          ∙ get_untouched (committed_db h) (own s h) (in_model place) (rows_only s) untouched_by

      row_before : get (committed_db h).rows (in_model place) ≡ row_at (row_opened h place) (is_at (created h) place) (committed (commits h) h)
      row_before =
          sym seen_so ∙ (row_now s place ∙ row_at-append (row_opened h place) (is_at (created h) place) (own s h) (committed (commits h) h) (by.alone s differ))

  -- who touches a place is its writer
  by_toucher : (t : ℕ) (place : Place) (versions : List Version) → list_any (is_at (created h) place) (own t h) ≡ true
      → AreVersions h (row_opened h place) (is_at (created h) place) versions → AreVersionsBy h t (row_opened h place) (is_at (created h) place) versions
  by_toucher t place versions touched v =
      elim (eqb_tells t v.0) [
        | inl same ↦ subst (λ w. AreVersionsBy h w (row_opened h place) (is_at (created h) place) versions) (sym same.1) v.1
        | inr differ ↦ absurd (false≢true (sym (v.1.alone t differ.1) ∙ touched))
      ]

  module _ (s t : ℕ) (differ : s ≢ t) (other_open : IsOpen s h) (is_open : IsOpen t h) (chains : Chains)
      (rows : (place : Place) → AreVersions h (row_opened h place) (is_at (created h) place) (versions_at place chains))
      (schema : Schema) (table : ℕ) (plan : Plan) (records : List (List ℕ)) (granted : List Lock) (made : ℕ) (log : List Undo) (apart : AreApart granted)
      (owned : (key : Value) → touches (committed_db h).schemas (own t h) (table, key) ≡ true → OwnsAt schema table plan.which records granted chains h t key)
      (keyed : (key : Value) (row : List Value) → get (changed (committed_db h) (own t h)).rows (table, key) ≡ Some row
      → IsOfKind (kind_at schema.columns schema.primary) (key_of schema row))
      (keeps : KeepsPlan schema table plan records granted made log h s) where
    apart_numbers : txn s h ≢ txn t h
    apart_numbers same = differ (ids.one_number s t other_open is_open same)

    module _ (key : Value) (touched : touches (committed_db h).schemas (own t h) (table, key) ≡ true) where
      abbrev place : Place
      place = place_at table key

      at_it : list_any (is_at (created h) place) (own t h) ≡ true
      at_it = sym (touched_so (created h) place (own t h)) ∙ (ap (λ (ss : List Schema). touches ss (own t h) (table, key)) (sym (tables_are t)) ∙ touched)

      by : AreVersionsBy h t (row_opened h place) (is_at (created h) place) (versions_at place chains)
      by = by_toucher t place (versions_at place chains) at_it (rows place)

      parted : IsParted h ids (row_opened h place) (is_at (created h) place) t (versions_at place chains)
      parted = own_in_front h ids (row_opened h place) (is_at (created h) place) (versions_at place chains) t is_open at_it by

      abbrev row_told : ChangedRow
      row_told = changed_row schema plan.which key (id_of h t) (versions_at place chains)

      before_is : newest (behind_of (id_of h t) (versions_at place chains)) ≡ get (committed_db h).rows (table, key)
      before_is = parted.behind ∙ sym (row_before t place (versions_at place chains) by s differ)

      some_entry : (a b : List ℕ) → ◌≡◌ {A = Option (List ℕ)} (Some a) (Some b) → a ≡ b
      some_entry a b e = cc

      -- where the row was in the range, the keeper has locked it
      keeps_row : KeepsRow (txn s h) (clustered_index table) granted plan.range row_told
      keeps_row entry is inside = by_row (get (committed_db h).rows (table, key)) refl
        where
          by_row : (row : Option (List Value)) → get (committed_db h).rows (table, key) ≡ row
              → has_record (txn s h) (clustered_index table) (key_bytes schema key) granted ≡ true
          by_row None none = (let e = sym is ∙ ap (option_map (index_key schema plan.which)) (before_is ∙ none) in cc)
          by_row (Some row) there =
              let same : index_key schema plan.which row ≡ entry =
              some_entry (index_key schema plan.which row) entry (sym (ap (option_map (index_key schema plan.which)) (before_is ∙ there)) ∙ is) in
              keeps.rows key row (seen_so t place (versions_at place chains) by s differ ∙ there)
              (ap (λ (bytes : List ℕ). is_within plan.range bytes) same ∙ inside)

      none_was : (row : List Value) → get (committed_db h).rows (table, key) ≡ Some row → lies_in schema plan row ≡ true → ⊥
      none_was row there inside =
          none_before (txn s h) (txn t h) (clustered_index table) (index_of table plan.which) records granted plan.range row_told
          (index_key schema plan.which row)
          apart_numbers apart (owned key touched) keeps_row inside (ap (option_map (index_key schema plan.which)) (before_is ∙ there))

      none_is : (row : List Value) → get (changed (committed_db h) (own t h)).rows (table, key) ≡ Some row → lies_in schema plan row ≡ true → ⊥
      none_is row there inside =
          let first = newest_own (id_of h t) (is_at (created h) place) (own t h) by.behind at_it in
          let front : front_of (id_of h t) (versions_at place chains) ≡ first.0 ∷ first.1 = parted.front ∙ first.2 in
          let head : first.0.row ≡ Some row =
          sym first.3 ∙ (ap newest (sym by.parts) ∙ (sym (row_behind t place (versions_at place chains) by) ∙ there)) in
          none_behind (txn s h) (txn t h) (clustered_index table) (index_of table plan.which) records granted plan.range row_told
          (index_key schema plan.which row)
          apart_numbers apart (owned key touched) keeps_row inside (MayBeKey (key_width (kind_at schema.columns schema.primary)) plan.which) made log
          keeps.range
          (λ zeroth. ap (λ n. length (index_key schema n row)) zeroth
          ∙ length-key_code (kind_at schema.columns schema.primary) (key_of schema row) (keyed key row there))
          (subst (λ (vs : List Version). Contains (map (entry_at schema plan.which) vs) (Some (index_key schema plan.which row))) (sym front)
          (zero, zero-lt-suc _, ap (option_map (index_key schema plan.which)) head))

    -- So what it commits is met by no search that the other keeps.
    pub own_changes_are_owned : IsUnmet table (lies_in schema plan) (committed_db h) (own t h)
    own_changes_are_owned key touched = (
      unmet (lies_in schema plan) (get (committed_db h).rows (table, key)) (none_was key touched),
      unmet (lies_in schema plan) (get (changed (committed_db h) (own t h)).rows (table, key)) (none_is key touched),
    )

  -- nor is a row changed whose record another has locked
  pub kept_row_stays : (s t : ℕ) → s ≢ t → IsOpen s h → IsOpen t h → (chains : Chains) (schema : Schema) (table : ℕ) (granted : List Lock)
      (records : List (List ℕ))
      → AreApart granted → (key : Value)
      → (touches (committed_db h).schemas (own t h) (table, key) ≡ true → OwnsAt schema table 0 records granted chains h t key)
      → has_record (txn s h) (clustered_index table) (key_bytes schema key) granted ≡ true → touches (committed_db h).schemas (own t h) (table, key) ≡ false
  kept_row_stays s t differ other_open is_open chains schema table granted records apart key owned kept =
      elim (touches (committed_db h).schemas (own t h) (table, key)) as (λ b. touches (committed_db h).schemas (own t h) (table, key) ≡ b → b ≡ false) [
        | true ↦ λ is. absurd (nobody_beside (txn s h) (txn t h) (clustered_index table) (key_bytes schema key)
            (λ same. differ (ids.one_number s t other_open is_open same)) granted apart (owned is).alone kept)
        | false ↦ λ is. refl
      ] refl

-- a condition that only rows of the plan's range meet is met no more than the range
pub unmet_narrower : (table : ℕ) (wide narrow : List Value → Bool) (db : Database) (changes : List Change)
    → ((key : Value) (row : List Value) → (get db.rows (table, key) ≡ Some row) ⊎ (get (changed db changes).rows (table, key) ≡ Some row) → narrow row ≡ true
    → wide row ≡ true)
    → IsUnmet table wide db changes → IsUnmet table narrow db changes
unmet_narrower table wide narrow db changes within not_met key touched = (
  unmet narrow (get db.rows (table, key))
      (λ row there is. none_passes wide row (within key row (inl there) is) (ap (passed wide) (sym there) ∙ (not_met key touched).0)),
  unmet narrow (get (changed db changes).rows (table, key))
      (λ row there is. none_passes wide row (within key row (inr there) is) (ap (passed wide) (sym there) ∙ (not_met key touched).1)),
)
  where
    none_passes : (test : List Value → Bool) (row : List Value) → test row ≡ true → passed test (Some row) ≡ None → ⊥
    none_passes test row is none = absurd (let e : ◌≡◌ {A = Option (List Value)} (Some row) None = sym (ap (λ b. if b then Some row else None) is) ∙ none in cc)
