-- A database grows together with the world that holds it.
use Rattle.std.proofs.Common.{◌≡◌, ◌≢◌, ◌∙◌, ⊎_elim, sym, ap, subst, refl, ℕ, ◌+◌, ◌<◌, Bool, true, false, cond, List, [], ◌∷◌, ◌++◌, length, Option, None}
use Rattle.std.proofs.Common.{Some, slice_get, arith}
use Rattle.std.specs.Prelude.{IsSome, IsTrue, IsSomeAnd, is_some}
use Rattle.std.specs.FinMap.{get, insert, get-empty, get-insert}
use Rattle.inno_types.specs.{declared.value.Value.Value, declared.value.Column.Column, declared.value.Schema.Schema}
use Rattle.key_codec.specs.Keys.{HasKey, key_code}
use Rattle.inno_db.specs.Database.{Database, database_of, key_of, key_in, place_cmp}
use Rattle.inno_db.specs.{Changes.apply_one, Order.place_cmp_total, declared.change.Change.TheVariants.Create, declared.change.Change.TheVariants.Put}
use Rattle.inno_db.proofs.Keys.{key_in-at}
use Rattle.row_codec.specs.Rows.{version_code}
use Rattle.entries.specs.{Pairs.value_of, Index.Index, Lists.empty_index}
use Rattle.row_versions.specs.{declared.kept.Kept.Kept, Versions.Versions, declared.place.Place.Place, declared.version.Version.Version}
use Rattle.row_versions.specs.{Laws.same_place_equiv}
use Rattle.row_versions.specs.Chains.{Chains, in_model, is_same_place, versions_at, newest, Pushes}
use Rattle.law_stored_rows.specs.{Storable.IsStorable, Edits.clustered_index, Records.IsRecordWith, Records.kept_of}
use Rattle.law_stored_rows.proofs.{Applying.AreFitting-no_rows, Applying.AreFitting-apply_one, Numbers.empty-Has64Bits, Numbers.apply_one-Has64Bits}
use Rattle.law_stored_rows.proofs.{Values.same_place, Tables.lag_stays, Tables.pushed_here, Tables.pushed_elsewhere, FromTables.absent, Made.no_tables}
use Rattle.law_stored_rows.proofs.{Made.a_table_more}
use Rattle.law_stored_rows.specs.Tables.{HasNoPairs, AreCoded, AreCodedAs, what_is_there, in_table}
use Rattle.world.specs.{State.WorldState, Told.IsTold, Told.pairs_in, Told.pairs_of, EngineCalls.IsNew, EngineCalls.LaysTable}
use Rattle.inno_db.specs.Indexes.{index_of}
use Rattle.row_changes.specs.declared.row_edit.RowEdit.TheVariants as edits
use Rattle.row_changes.specs.{Edits.IsKeyAt, Keys.IsChangingKeys, Awaited.AwaitsNobody}
use Rattle.row_changes.proofs.Pushed.{key_at, first_rows}
use Rattle.row_changes.proofs.Telling.{HasPut, pairs_told, puts_pairs, tells, coded_again}
use Rattle.law_logged_changes.proofs.{Entering.with_version, Leaving.has_rows_left}
use Rattle.law_held_steps.proofs.Items.{its_columns}
use Rattle.shared_lists.specs.Fitting.{FitsWell}
use Rattle.engine.specs.Laid.{version_of, IsLaid, PutsNewRecord, HasRecordThere, TakesKeysOver}
use Rattle.law_crashes.specs.Records.{no_db}
use Rattle.std.proofs.lemmas.Bool.{cases_eq}
use Rattle.world.specs.Told.{LeavesRows}
use Rattle.law_held_steps.specs.Leaving.{MovesPlaces, LeavesTable}

-- ---- a database without tables

pub empty_db : (schemas : List Schema) (tables : List (List (List Value))) → schemas ≡ [] → tables ≡ [] → database_of schemas tables ≡ no_db
empty_db schemas tables no-schemas no-tables =
    subst (λ (s : List Schema). database_of s tables ≡ no_db) (sym no-schemas)
    (subst (λ (t : List (List (List Value))). database_of [] t ≡ no_db) (sym no-tables) refl)

pub laid_new : (state : WorldState) → IsNew state → IsLaid no_db state
laid_new state new =
    record {
      fits = record { fitting = AreFitting-no_rows [] (λ n schema there. absurd (cc)); numbers = empty-Has64Bits [] };
      chains = λ place. [];
      versions = λ place. sym (ap version_of (get-empty place_cmp (in_model place)));
      coded =
          λ told. subst (λ schemas. AreCoded schemas (pairs_of state) state.versions.kept_at (λ place. [])) (sym new.schemas)
          (no_tables (pairs_of state) state.versions.kept_at (λ place. []) (λ place. refl));
      schemas = new.schemas;
      names = new.names;
      past = new.past;
      txns = new.txns;
      sessions = new.sessions;
      nobody = λ index by is. (let none : None ≡ Some by = sym (ap (λ (x : Index). x.awaited) (new.indexes index)) ∙ is in cc);
    }

-- ---- a table more

module _ (db : Database) (schema : Schema) (old new : WorldState) (storable : IsStorable schema) (laid : IsLaid db old) (lays : LaysTable schema old new) where
  versions_stay : new.versions ≡ old.versions
  versions_stay = ap (λ (s : WorldState). s.versions) lays.rest

  told_table : IsTold new → IsTold old
  told_table told =
      record {
        pairs = λ i. subst (λ (x : Index). IsSome x.pairs) (lays.same i) (told.pairs i);
        versions = subst (λ (v : Versions). IsTrue v.told) versions_stay told.versions;
      }

  no_pairs_at : (index : ℕ) → new.indexes index ≡ empty_index → pairs_of old index ≡ []
  no_pairs_at index empty = ap (λ (x : Index). pairs_in x.pairs) (sym (lays.same index) ∙ empty)

  no_pairs : HasNoPairs (pairs_of old) (length old.schemas)
  no_pairs =
      record {
        rows = ap (pairs_of old) (omega arith) ∙ no_pairs_at (index_of (length old.schemas) 0) (lays.empty 0 (omega arith));
        entries = λ which few. no_pairs_at (index_of (length old.schemas) (1 + which)) (lays.empty (1 + which) (omega (arith, few)));
      }

  pub laid_table : IsLaid (apply_one db (Create schema)) new
  laid_table =
      record {
        fits = record { fitting = AreFitting-apply_one db (Create schema) laid.fits.fitting storable; numbers = laid.fits.numbers };
        chains = laid.chains;
        versions = laid.versions;
        coded = λ told.
            coded_again (old.schemas ++ schema ∷ []) new.schemas (pairs_of old) (pairs_of new) old.versions.kept_at new.versions.kept_at laid.chains
            (what_is_there laid.chains)
            (ap (λ (s : WorldState). s.schemas) lays.rest) (λ d i. ap (λ (x : Index). pairs_in x.pairs) (lays.same i) d)
            (ap (λ (v : Versions). v.kept_at) versions_stay)
            (a_table_more old.schemas schema (pairs_of old) old.versions.kept_at laid.chains (laid.coded (told_table told)) (its_columns schema storable)
            no_pairs);
        schemas = ap (λ (s : WorldState). s.schemas) lays.rest ∙ ap (λ (l : List Schema). l ++ schema ∷ []) laid.schemas;
        names = ap (λ (s : WorldState). s.names) lays.rest ∙ laid.names;
        past = ap (λ (s : WorldState). s.past) lays.rest ∙ laid.past;
        txns = ap (λ (s : WorldState). s.txns) lays.rest ∙ laid.txns;
        sessions = ap (λ (s : WorldState). s.sessions) lays.rest ∙ laid.sessions;
        nobody = λ index by is. laid.nobody index by (ap (λ (x : Index). x.awaited) (sym (lays.same index)) ∙ is);
      }

-- ---- a row more

abbrev pub at_row : ℕ → Schema → List Value → Place
at_row table schema row = record { table = table; key = key_of schema row }

module _ (db : Database) (table : ℕ) (row : List Value) (schema : Schema) (old mid : WorldState) (key : List ℕ) (laid : IsLaid db old)
    (there : slice_get old.schemas table ≡ Some schema) (storable : IsStorable schema)
    (puts : PutsNewRecord table schema row old mid key) (told : IsTold mid) where
  abbrev place : Place
  place = at_row table schema row

  abbrev version : Version
  version = record { writer = 0; row = Some row }

  abbrev chains : Chains
  chains = with_version place version laid.chains

  pushes : Pushes laid.chains chains place version
  pushes other = refl

  at : IsKeyAt schema (key_of schema row) key
  at = key_at schema (edits.Put row) key puts.row_is

  abbrev value : List ℕ
  value = version_code schema (record { row = row; writer = 0; pointer = 0; marked = false })

  put : HasPut (clustered_index table) key (Some value) old mid
  put = (puts.inserts.index_is.here.2.pairs, λ other differs. (puts.inserts.index_is.elsewhere other differs).pairs)

  told_old : IsTold old
  told_old = record { pairs = pairs_told (clustered_index table) key (Some value) old mid put told; versions = puts.inserts.beside.versions.told told.versions }

  nothing : value_of key (pairs_of old (clustered_index table)) ≡ None
  nothing =
      tells (λ pairs. value_of key pairs ≡ None) (old.indexes (clustered_index table)).pairs puts.inserts.index_is.here.1
      (told_old.pairs (clustered_index table))

  same_schemas : mid.schemas ≡ old.schemas
  same_schemas = ap (λ (s : WorldState). s.schemas) puts.inserts.beside.rest

  none_before : versions_at place laid.chains ≡ []
  none_before =
      absent old.schemas (pairs_of old) old.versions.kept_at laid.chains table schema at.column (key_of schema row) (laid.coded told_old).clustered there
      at.primary
      (λ has. subst (λ (k : List ℕ). value_of k (pairs_of old (clustered_index table)) ≡ None) at.spelled nothing)

  coded_mid : AreCodedAs mid.schemas (pairs_of mid) mid.versions.kept_at chains (what_is_there laid.chains)
  coded_mid =
      coded_again old.schemas mid.schemas (pairs_of mid) (pairs_of mid) old.versions.kept_at mid.versions.kept_at chains (what_is_there laid.chains)
      same_schemas refl (puts.inserts.beside.versions.kept told.versions)
      (first_rows old.schemas (pairs_of old) (pairs_of mid) laid.chains chains table schema (edits.Put row) key there puts.row_is 0 (omega arith) pushes
      old.versions.kept_at tt nothing
      (puts_pairs (clustered_index table) key (Some value) old mid put told) (laid.coded told_old))

  pub keys_changing : IsChangingKeys chains (what_is_there chains) mid
      (record { table = table; key = key; before = None; after = Some row; which = 0; put = None })
  keys_changing =
      record {
        schema = schema;
        table = record { there = ap (λ (l : List Schema). slice_get l table) same_schemas ∙ there; storable = storable };
        value = key_of schema row;
        at = at;
        before = record {};
        after = puts.row_is;
        within = omega arith;
        put = record {};
        older = versions_at place laid.chains;
        pushed = record { version = version; versions = pushed_here laid.chains chains place version pushes; is = refl; small = omega arith };
        was = λ t. ap newest none_before;
        rows = λ t. (
          what_is_there laid.chains,
          coded_mid,
          record {
            lag =
                lag_stays laid.chains chains place (what_is_there laid.chains) (pushed_elsewhere laid.chains chains place version pushes)
                (λ tab which v apart. refl);
            first = λ which below. absurd (omega (arith, below));
            here = refl;
            later = λ which above. refl;
          },
        );
      }

  there_db : slice_get db.schemas table ≡ Some schema
  there_db = ap (λ (l : List Schema). slice_get l table) (sym laid.schemas) ∙ there

  key_is : key_in db.schemas table row ≡ key_of schema row
  key_is = key_in-at db.schemas table schema row there_db

  -- the rows of the database now
  get_now : (other : Place)
      → get (insert db.rows (table, key_in db.schemas table row) row) (in_model other) ≡ cond (is_same_place place other) (Some row)
      (get db.rows (in_model other))
  get_now other =
      ap (λ (k : Value). get (insert db.rows (table, k) row) (in_model other)) key_is
      ∙ (get-insert place_cmp_total db.rows (table, key_of schema row) row (in_model other)
      ∙ ap (λ b. cond b (Some row) (get db.rows (in_model other))) (same_place_equiv.symm other place))

  versions_now : (other : Place) → versions_at other chains ≡ version_of (get (insert db.rows (table, key_in db.schemas table row) row) (in_model other))
  versions_now other = pushes other ∙ (go (is_same_place place other) refl ∙ sym (ap version_of (get_now other))) where
    go : (b : Bool) → is_same_place place other ≡ b
        → cond b (version ∷ versions_at other laid.chains) (versions_at other laid.chains) ≡ version_of (cond b (Some row) (get db.rows (in_model other)))
    go true is = ap (λ (vs : List Version). version ∷ vs) (ap (λ (p : Place). versions_at p laid.chains) (sym (same_place place other is)) ∙ none_before)
    go false is = laid.versions other

  -- nobody is awaited once the record is put
  pub nobody_mid : AwaitsNobody mid
  nobody_mid index by is =
      ⊎_elim
      (λ here. (let none : None ≡ Some by = sym puts.inserts.index_is.here.2.awaited ∙ subst (λ (i : ℕ). (mid.indexes i).awaited ≡ Some by) here is in cc))
      (λ apart. laid.nobody index by (sym (puts.inserts.index_is.elsewhere index apart).awaited ∙ is))
      (cases_eq index (clustered_index table))

  -- nor once the keys have taken the row over and the indexes are left
  nobody_left : (over left : WorldState) → TakesKeysOver table key row mid over → MovesPlaces 0 over left → AwaitsNobody left
  nobody_left over left takes leaves index by is = nobody_mid index by (takes.awaits.each index by (leaves.fewer index by is))

  pub laid_row : (over new : WorldState) → TakesKeysOver table key row mid over → MovesPlaces 0 over new → LeavesTable 0 table over new
      → FitsWell db.schemas (Put table row) → IsLaid (apply_one db (Put table row)) new
  laid_row between new over leaves gone fits =
      let leaves_rows : LeavesRows between new = record {
        schemas = ap (λ (s : WorldState). s.schemas) leaves.rest;
        pairs = leaves.pairs;
        versions = leaves.versions;
      } in
      record {
        fits =
            record {
              fitting = AreFitting-apply_one db (Put table row) laid.fits.fitting fits.0;
              numbers = apply_one-Has64Bits db (Put table row)
                  laid.fits.numbers fits.1;
            };
        chains = chains;
        versions = versions_now;
        coded = has_rows_left between new leaves_rows chains (over.rows chains keys_changing);
        schemas = ap (λ (s : WorldState). s.schemas) leaves.rest ∙ (ap (λ (s : WorldState). s.schemas) over.rest ∙ (same_schemas ∙ laid.schemas));
        names = ap (λ (s : WorldState). s.names) leaves.rest ∙
            (ap (λ (s : WorldState). s.names) over.rest ∙ (ap (λ (s : WorldState). s.names) puts.inserts.beside.rest ∙ laid.names));
        past = ap (λ (s : WorldState). s.past) leaves.rest ∙
            (ap (λ (s : WorldState). s.past) over.rest ∙ (ap (λ (s : WorldState). s.past) puts.inserts.beside.rest ∙ laid.past));
        txns = ap (λ (s : WorldState). s.txns) leaves.rest ∙
            (ap (λ (s : WorldState). s.txns) over.rest ∙ (ap (λ (s : WorldState). s.txns) puts.inserts.beside.rest ∙ laid.txns));
        sessions = ap (λ (s : WorldState). s.sessions) leaves.rest ∙
            (ap (λ (s : WorldState). s.sessions) over.rest ∙ (ap (λ (s : WorldState). s.sessions) puts.inserts.beside.rest ∙ laid.sessions));
        nobody = nobody_left between new over leaves;
      }

-- the table is there still, and has few keys
pub its_keys : (table : ℕ) (schema : Schema) (row : List Value) (old mid over : WorldState) (key : List ℕ) → slice_get old.schemas table ≡ Some schema
    → IsStorable schema → PutsNewRecord table schema row old mid key → TakesKeysOver table key row mid over
    → (slice_get over.schemas table ≡ Some schema) × (length schema.keys < 5)
its_keys table schema row old mid over key there storable puts takes =
    let few = storable.few in
    let fewer : length schema.keys < 5 = omega (arith, few) in (
      ap (λ (s : WorldState). slice_get s.schemas table) takes.rest ∙ (ap (λ (s : WorldState). slice_get s.schemas table) puts.inserts.beside.rest ∙ there),
      fewer,
    )

-- the schema of the table of a change that fits
pub its_table : (found : Option Schema) (schema : Schema) (P : Schema → Type 0) → found ≡ Some schema → IsSomeAnd found P → P schema
its_table found schema P is all = subst (λ (o : Option Schema). IsSomeAnd o P) is all

-- ---- a row that is there

no_record_there : (schema : Schema) (key : List ℕ) (kept : ℕ → Option Kept) (found : Option (List ℕ)) → is_some found ≡ true
    → IsRecordWith schema key kept found [] → ⊥
no_record_there schema key kept None is there = cc
no_record_there schema key kept (Some bytes) is there = there

pub row_there : (db : Database) (table : ℕ) (row : List Value) (schema : Schema) (state : WorldState) → IsLaid db state → IsTold state
    → slice_get state.schemas table ≡ Some schema → HasRecordThere table schema row state
    → get db.rows (table, key_in db.schemas table row) ≢ None
row_there db table row schema state laid told there has none =
    let rows = (laid.coded told).clustered.tables table schema there in
    let at = key_at schema (edits.Put row) has.key has.row_is in
    let found =
    tells (λ pairs. is_some (value_of has.key pairs) ≡ true) (state.indexes (clustered_index table)).pairs has.there (told.pairs (clustered_index table)) in
    let key_is = key_in-at db.schemas table schema row (ap (λ (l : List Schema). slice_get l table) (sym laid.schemas) ∙ there) in
    let empty : in_table table laid.chains (key_of schema row) ≡ [] =
    laid.versions (at_row table schema row) ∙ ap version_of (ap (λ (k : Value). get db.rows (table, k)) (sym key_is) ∙ none) in
    let one : at.column ≡ rows.primary = cc (at.primary, rows.primary_is) in
    let has_key = subst (λ (c : Column). HasKey c.kind (key_of schema row)) one at.has_key in
    let spelled = ap (λ (c : Column). key_code c.kind (key_of schema row)) (sym one) ∙ sym at.spelled in
    let recorded = rows.records (key_of schema row) has_key in
    let kept : List ℕ → ℕ → Option Kept = kept_of state.versions.kept_at table in
    no_record_there schema has.key (kept has.key) (value_of has.key (pairs_of state (clustered_index table))) found
    (subst (λ vs. IsRecordWith schema has.key (kept has.key) (value_of has.key (pairs_of state (clustered_index table))) vs) empty
    (subst (λ k. IsRecordWith schema k (kept k) (value_of k (pairs_of state (clustered_index table)))
    (in_table table laid.chains (key_of schema row))) spelled recorded))
