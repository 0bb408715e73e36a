-- No row that another has changed lies in what a session keeps of a range, neither as it was before nor as it is behind the changes.
-- `Committing` and `Unmet` say by it what a commit leaves to the searches of others; what locks guard is told in `law_locks`.
use Rattle.std.proofs.Common.{arith, ◌≡◌, ◌≢◌, ◌∙◌, ⊎_elim, inl, inr, refl, sym, ap, subst, ℕ, suc, ◌+◌, Bool, true, false, List, [], ◌∷◌, ◌++◌, length, Option}
use Rattle.std.proofs.Common.{None, Some, slice_get, is_some}
use Rattle.std.proofs.lemmas.Bool.{cases_Bool, true≢false, and_parts}
use Rattle.std.proofs.lemmas.Bool.Decides.{eqb_tells}
use Rattle.std.proofs.lemmas.List.{append_cancel_left}
use Rattle.std.specs.Prelude.{not, ◌&&◌, ◌||◌}
use Rattle.std.specs.List.{list_any, list_all}
use Rattle.inno_types.specs.{declared.lock.Lock.Lock, declared.value.Schema.Schema, declared.value.Value.Value, declared.value.Column.Column}
use Rattle.inno_types.specs.{declared.value.Key.Key, declared.stmt.Range.Range, Ranges.is_within}
use Rattle.inno_db.specs.{Indexes.index_of}
use Rattle.inno_model.specs.{declared.event.Event.Event, declared.event.Event.TheVariants.Committed, Past.own}
use Rattle.store_api.specs.declared.answers.Undo.{Undo}
use Rattle.key_codec.specs.Keys.{HasKey, HasEntry, key_code, entry_code}
use Rattle.key_codec.proofs.Lengths.{length-key_code}
use Rattle.entries.specs.Pairs.{value_of}
use Rattle.row_versions.specs.{declared.place.Place.Place, declared.version.Version.Version, Chains.versions_at, Chains.newest, Chains.sees, Chains.first_seen}
use Rattle.sql_plan.specs.Visits.{index_key, primary_key, kind_at, kind_if}
use Rattle.law_stored_rows.specs.{Edits.clustered_index, Edits.key_index, Records.IsClustered, Records.IsRecordWith, Records.kept_of, Entries.HasEntries}
use Rattle.law_stored_rows.specs.{Entries.has_value, Entries.value_in, Entries.entry_of, Tables.in_table}
use Rattle.law_stored_rows.proofs.{Entries.holds_said, Values.value_itself, Values.same_value}
use Rattle.law_past_agreement.specs.{Order.created, Ids.id_of, Rows.is_at, Rows.row_opened, Agreement.AreVersionsBy, Agreement.versions_of}
use Rattle.law_past_agreement.proofs.Rows.{newest_all}
use Rattle.law_world_agreement.proofs.Settled.{rows_told}
use Rattle.world.specs.{State.Session, State.Work, State.HasWork, Told.pairs_of}
use Rattle.row_changes.specs.{Edits.IsKeyAt, Told.SaysAt}
use Rattle.law_logged_changes.proofs.Listed.{listed_of}
use Rattle.lock_rules.specs.Coverage.{stands_in}
use Rattle.law_locks.specs.Guards.{Guarded, has_record, has_alone}
use Rattle.law_locks.proofs.Clashes.{nobody_beside}
use Rattle.law_locks.proofs.InsertionSpots.{stands_is}
use Rattle.row_search.proofs.Keys.{IsHome, home, key_is_value, keyed_is, fits_in}
use Rattle.row_search.proofs.Others.{bits_in}
use Rattle.desks.specs.{Desks.Store, Desks.doing_at, Holding.lags_in}
use Rattle.law_locked_rows.specs.Owning.{HasAlone}
use Rattle.law_locked_rows.specs.Many.{IsHeldByAll}
use Rattle.law_locked_rows.proofs.Owning.{one_key}
use Rattle.law_locked_rows.proofs.Making.{may_of_owner}
use Rattle.law_other_places.proofs.Asked.{nobody_lags}
use Rattle.law_locked_rows.specs.Now.{row_now, sight_now}
use Rattle.law_locked_rows.specs.Locking.{records_in, IsKeyIn, lies_to, KeepsTo}
use Rattle.law_locked_rows.specs.Entries.{IsKeyed}
use Rattle.law_locked_rows.specs.Entries.{AreEntriesOwned, some_have, all_have, has, newest_has}
use Rattle.law_locked_rows.specs.Keeping.{Fails}
use Rattle.law_locked_rows.proofs.Now.{now_is}
use Rattle.law_locked_rows.proofs.Marked.{behind_seen}
use Rattle.law_locked_rows.proofs.Commits.{newest_then}

-- who guards a key at which a record stands has the record locked
pub guarded_record : {txn index : ℕ} {records : List (List ℕ)} {granted : List Lock} {key : List ℕ} {made : ℕ} {log : List Undo}
    → Guarded txn index records granted key made log → stands_in records (Some key) ≡ true → has_record txn index key granted ≡ true
guarded_record (inl guards) stands = guards.own stands
guarded_record (inr pinned) stands = pinned.pins.own

-- ---- what an entry without a mark tells

unmarked_of : (column : ℕ) (value : Value) (versions : List Version) → has_value column value (newest versions) ≡ true
    → entry_of column value versions ≡ Some (0 ∷ [])
unmarked_of column value [] is = absurd (cc)
unmarked_of column value (v ∷ versions) is = rw is refl

first_some : (column : ℕ) (value : Value) (fronts behind : List Version) → has_value column value (newest (fronts ++ behind)) ≡ true
    → some_have column value fronts behind ≡ true
first_some column value [] behind is = is
first_some column value (front ∷ fronts) behind is =
    ap (λ b. (b || list_any (has column value) fronts) || has_value column value (newest behind)) is

module _ {store : Store} {granted : List Lock} (held : IsHeldByAll store granted) {s : ℕ} {session : Session} {work : Work}
    (has_work : HasWork s session work store.world) (t : ℕ) (differs : s ≢ t) (quiet : lags_in store.world t (doing_at t store.desks) ≡ None)
    {schema : Schema} (table : ℕ) (there : slice_get store.world.schemas table ≡ Some schema) where
  abbrev past : List Event
  past = store.world.past

  clustered : IsClustered table schema store.world.versions.kept_at (pairs_of store.world (clustered_index table)) (in_table table held.chains)
  clustered = held.rows.coded.clustered.tables table schema there

  homes_for : (seen : ℕ → Bool) (value : Value) (row : List Value) → first_seen seen (in_table table held.chains value) ≡ Some row → IsHome schema value row
  homes_for seen value row is = home table schema store.world.versions.kept_at (pairs_of store.world (clustered_index table)) (in_table table held.chains) seen
      value row (held.rows.coded.clustered.tables table schema there) is

  module _ (value : Value) (changed : list_any (is_at store.world.schemas (record { table = table; key = value })) (own t past) ≡ true) where
    abbrev place : Place
    place = record { table = table; key = value }

    abbrev versions : List Version
    versions = versions_at place held.chains

    theirs : HasAlone t place store.world granted
    theirs = held.owned.changed t place changed

    -- nobody else has locked a record that the other has alone
    not_mine : (index : ℕ) (key : List ℕ) → has_alone theirs.work.txn index key granted ≡ true → has_record work.txn index key granted ≡ true → ⊥
    not_mine index key alone mine = nobody_beside work.txn theirs.work.txn index key
        (λ txns. differs ((listed_of held.chains store.world t theirs.session theirs.work held.agrees theirs.has_work).alone s session work has_work txns))
        granted held.apart alone mine

    says : SaysAt place held.chains held.rows.said
    says = held.rows.settled place (nobody_lags t place (may_of_owner held.agrees held.apart held.owned t place theirs) quiet)

    pub by : AreVersionsBy past t (row_opened past place) (is_at (created past) place) versions
    by =
        let is = rows_told held.agrees place in
        elim (eqb_tells is.0 t) [
          | inl same ↦ subst (λ w. AreVersionsBy past w (row_opened past place) (is_at (created past) place) versions) same.1 is.1
          | inr other ↦ absurd (true≢false (sym changed ∙ ap (λ schemas. list_any (is_at schemas place) (own t past)) held.agrees.lists.tables
              ∙ is.1.alone t (λ me. other.1 (sym me))))
        ]

    before_is : newest by.behind ≡ row_now s table past value
    before_is = behind_seen past t s (row_opened past place) (is_at (created past) place) versions by differs

    after_is : row_now s table (Committed t ∷ past) value ≡ newest versions
    after_is = newest_then past t s differs place versions by

    -- the key of the place's record
    key_of_row : (row : List Value) → IsHome schema value row → theirs.key ≡ primary_key schema row
    key_of_row row h = one_key place store.world.schemas theirs.key (primary_key schema row) theirs.key_is
        (record { schema = schema; there = there; at = spelled })
      where
        kind : kind_at schema.columns schema.primary ≡ clustered.primary.kind
        kind = ap kind_if clustered.primary_is

        spelled : IsKeyAt schema value (primary_key schema row)
        spelled = record {
          column = clustered.primary;
          primary = clustered.primary_is;
          has_key = subst (λ k. HasKey k value) kind h.has_key;
          spelled = key_is_value schema value row h ∙ ap (λ k. key_code k value) kind;
        }

    module _ {which : ℕ} {range : Range} {made : ℕ} {log : List Undo} {passes : List ℕ → Bool}
        (keeps : KeepsTo schema table which range s work.txn made log passes store.world granted) where
      abbrev lies : List Value → Bool
      lies = lies_to schema which range passes

      home_before : (row : List Value) → row_now s table past value ≡ Some row → IsHome schema value row
      home_before row is = homes_for (sees work.id (sight_now past)) value row (now_is held.agrees has_work table value ∙ is)

      home_after : (row : List Value) → newest versions ≡ Some row → IsHome schema value row
      home_after row is = homes_for (λ id. true) value row (sym (newest_all versions) ∙ is)

      not_before : (row : List Value) → row_now s table past value ≡ Some row → lies row ≡ true → ⊥
      not_before row is inside = not_mine (clustered_index table) theirs.key theirs.alone
          (subst (λ (k : List ℕ). has_record work.txn (clustered_index table) k granted ≡ true) (sym (key_of_row row (home_before row is)))
          (keeps.rows value row is inside))

      fails_if : (found : Option (List Value)) → ((row : List Value) → found ≡ Some row → lies row ≡ true → ⊥) → Fails lies found
      fails_if None none = record {}
      fails_if (Some row) none = ⊎_elim (λ is. absurd (none row refl is)) (λ is_not. is_not) (cases_Bool (lies row))

      pub fails_before : Fails lies (row_now s table past value)
      fails_before = fails_if (row_now s table past value) not_before

      -- where a record of the row stands in the index that was searched, and the session hasn't locked it, the row lies outside
      not_after_if : (row : List Value) → IsKeyIn schema which (index_key schema which row)
          → stands_in (records_in store.world (index_of table which)) (Some (index_key schema which row)) ≡ true
          → (has_record work.txn (index_of table which) (index_key schema which row) granted ≡ true → ⊥) → lies row ≡ true → ⊥
      not_after_if row may stands none inside =
          let parts = and_parts (is_within range (index_key schema which row)) (not (passes (index_key schema which row))) inside in
          none (guarded_record (keeps.guarded (index_key schema which row) (may, not_not (passes (index_key schema which row)) parts.1) parts.0) stands)
        where
          not_not : (b : Bool) → not b ≡ true → b ≡ false
          not_not true is = absurd (cc)
          not_not false is = refl

      -- ---- in the clustered index

      record_there : (row : List Value) → newest versions ≡ Some row → is_some
          (value_of (primary_key schema row) (pairs_of store.world (clustered_index table))) ≡ true
      record_there row is =
          let h = home_after row is in
          let kind : kind_at schema.columns schema.primary ≡ clustered.primary.kind = ap kind_if clustered.primary_is in
          subst (λ (k : List ℕ). is_some (value_of k (pairs_of store.world (clustered_index table))) ≡ true)
          (sym (key_is_value schema value row h ∙ ap (λ k. key_code k value) kind))
          (some_record (key_code clustered.primary.kind value) (value_of (key_code clustered.primary.kind value)
          (pairs_of store.world (clustered_index table))) versions is
          (clustered.records value (subst (λ k. HasKey k value) kind h.has_key)))
        where
          some_record : (key : List ℕ) (found : Option (List ℕ)) (vs : List Version) → newest vs ≡ Some row
              → IsRecordWith schema key (kept_of store.world.versions.kept_at table key) found vs → is_some found ≡ true
          some_record key None [] some with_none = absurd (cc)
          some_record key None (v ∷ vs) some with_none = absurd with_none
          some_record key (Some bytes) vs some with_some = refl

      after_clustered : which ≡ 0 → (row : List Value) → newest versions ≡ Some row → lies row ≡ true → ⊥
      after_clustered zeroth row is =
          let h = home_after row is in
          let key : index_key schema which row ≡ primary_key schema row = ap (λ n. index_key schema n row) zeroth in
          let index : index_of table which ≡ clustered_index table = ap (index_of table) zeroth ∙ omega arith in
          not_after_if row
          (λ again. ap length (key ∙ key_is_value schema value row h) ∙ length-key_code (kind_at schema.columns schema.primary) value h.has_key.0)
          (subst (λ (k : List ℕ). stands_in (records_in store.world (index_of table which)) (Some k) ≡ true) (sym key)
          (subst (λ i. stands_in (records_in store.world i) (Some (primary_key schema row)) ≡ true) (sym index)
          (stands_is (primary_key schema row) (pairs_of store.world (clustered_index table)) ∙ record_there row is)))
          (λ mine. not_mine (clustered_index table) theirs.key theirs.alone
          (subst (λ (k : List ℕ). has_record work.txn (clustered_index table) k granted ≡ true) (key ∙ sym (key_of_row row h))
          (subst (λ i. has_record work.txn i (index_key schema which row) granted ≡ true) index mine)))

      pub fails_after_clustered : which ≡ 0 → Fails lies (row_now s table (Committed t ∷ past) value)
      fails_after_clustered zeroth = fails_if (row_now s table (Committed t ∷ past) value) (λ row is. after_clustered zeroth row (sym after_is ∙ is))

      -- ---- in the index of a key

      module _ (owned : AreEntriesOwned held.chains held.rows.said store.world granted) (at : ℕ) (which_is : which ≡ 1 + at) (key : Key)
          (key_is : slice_get schema.keys at ≡ Some key) where
        entries : HasEntries schema key.column (pairs_of store.world (key_index table at)) (held.rows.said table at)
        entries = held.rows.coded.keyed.keys table at schema key there key_is

        code_of : Value → List ℕ
        code_of v = entry_code entries.indexed.kind v (key_code clustered.primary.kind value)

        kind : kind_at schema.columns schema.primary ≡ clustered.primary.kind
        kind = ap kind_if clustered.primary_is

        key_code_of : (row : List Value) → IsHome schema value row → index_key schema which row
            ≡ entry_code entries.indexed.kind (value_in key.column row) (key_code clustered.primary.kind value)
        key_code_of row h =
            let which_at : which ≡ suc at = which_is ∙ omega arith in
            ap (λ n. index_key schema n row) which_at ∙ keyed_is schema at row key entries.indexed key_is entries.indexed_is
            ∙ ap (entry_code entries.indexed.kind (value_in key.column row)) (key_is_value schema value row h ∙ ap (λ k. key_code k value) kind)

        -- the row that was there has the value, too
        not_both : (row : List Value) → lies row ≡ true → IsHome schema value row → (found : Option (List Value)) → row_now s table past value ≡ found
            → has_value key.column (value_in key.column row) found ≡ true → ⊥
        not_both row inside h None is same = absurd (true≢false (sym same))
        not_both row inside h (Some former) is same =
            let codes : index_key schema which row ≡ index_key schema which former = key_code_of row h
            ∙ ap (λ v. entry_code entries.indexed.kind v (key_code clustered.primary.kind value))
            (same_value (value_in key.column row) (value_in key.column former) same) ∙ sym (key_code_of former (home_before former is)) in
            not_before former is (subst (λ (k : List ℕ). (is_within range k && not (passes k)) ≡ true) codes inside)

        after_keyed : (row : List Value) → newest versions ≡ Some row → lies row ≡ true → ⊥
        after_keyed row is inside =
            let h = home_after row is in
            let v = value_in key.column row in
            let has_key : HasKey clustered.primary.kind value = subst (λ k. HasKey k value) kind h.has_key in
            let has_entry : HasEntry entries.indexed.kind v = (
              fits_in schema.columns row key.column entries.indexed h.at.fits entries.indexed_is,
              bits_in row key.column h.at.bits,
            ) in
            let primaries : entries.primary ≡ clustered.primary = cc (entries.primary_is, clustered.primary_is) in
            let index : index_of table which ≡ key_index table at = ap (index_of table) which_is in
            let keyed : IsKeyed place at store.world = record {
              schema = schema;
              there = there;
              primary = clustered.primary;
              primary_is = clustered.primary_is;
              key = key;
              key_is = key_is;
              indexed = entries.indexed;
              indexed_is = entries.indexed_is;
              has_key = has_key;
            } in
            let newest_has_it : has_value key.column v (newest versions) ≡ true = ap (has_value key.column v) is ∙ value_itself v in
            let told : entry_of key.column v (held.rows.said table at value) ≡ Some (0 ∷ [])
            = ap (entry_of key.column v) (says at) ∙ unmarked_of key.column v versions newest_has_it in
            let marks : value_of (entry_code entries.indexed.kind v (key_code clustered.primary.kind value)) (pairs_of store.world (key_index table at))
            ≡ entry_of key.column v (held.rows.said table at value) =
            subst (λ (c : Column). value_of (entry_code entries.indexed.kind v (key_code c.kind value)) (pairs_of store.world (key_index table at))
            ≡ entry_of key.column v (held.rows.said table at value)) primaries
            (holds_said (entries.marks value v (subst (λ (c : Column). HasKey c.kind value) (sym primaries) has_key) has_entry) (ap is_some told)) in
            let owns = owned t theirs.session theirs.work place at keyed theirs.has_work changed in
            let front : has_value key.column v (newest (owns.fronts ++ owns.behind)) ≡ true =
            owns.tells v has_entry ∙ ap (newest_has key.column v) (says at) ∙ newest_has_it in
            let same_behind : owns.behind ≡ by.behind = append_cancel_left (versions_of (id_of past t) (is_at store.world.schemas place) (own t past))
            owns.behind by.behind (sym owns.versions ∙ by.parts
            ∙ ap (λ schemas. versions_of (id_of past t) (is_at schemas place) (own t past) ++ by.behind) (sym held.agrees.lists.tables)) in
            not_after_if row (λ zeroth. absurd (zero_not at (sym zeroth ∙ which_is)))
            (subst (λ (k : List ℕ). stands_in (records_in store.world (index_of table which)) (Some k) ≡ true) (sym (key_code_of row h))
            (subst (λ i. stands_in (records_in store.world i) (Some (entry_code entries.indexed.kind v (key_code clustered.primary.kind value))) ≡ true)
            (sym index)
            (stands_is (entry_code entries.indexed.kind v (key_code clustered.primary.kind value)) (pairs_of store.world (key_index table at))
            ∙ ap is_some (marks ∙ told))))
            (λ mine. ⊎_elim
            (λ all. not_both row inside h (newest owns.behind) (sym before_is ∙ ap newest (sym same_behind))
            (and_parts (list_all (has key.column v) owns.fronts) (has_value key.column v (newest owns.behind)) all).1)
            (λ some. not_mine (key_index table at) (entry_code entries.indexed.kind v (key_code clustered.primary.kind value))
            (owns.alone v (first_some key.column v owns.fronts owns.behind front) some)
            (subst (λ (k : List ℕ). has_record work.txn (key_index table at) k granted ≡ true) (key_code_of row h)
            (subst (λ i. has_record work.txn i (index_key schema which row) granted ≡ true) index mine)))
            (cases_Bool (all_have key.column v owns.fronts owns.behind))) inside
          where
            zero_not : (n : ℕ) → 0 ≡ 1 + n → ⊥
            zero_not n e = absurd (omega (arith, e))

        pub fails_after_keyed : Fails lies (row_now s table (Committed t ∷ past) value)
        fails_after_keyed = fails_if (row_now s table (Committed t ∷ past) value) (λ row is. after_keyed row (sym after_is ∙ is))
