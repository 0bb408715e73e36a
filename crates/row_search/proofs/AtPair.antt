-- How the steps end that are at one pair, where the search goes along the versions of a row; and the last ones.
use Rattle.std.proofs.Common.{Vec, Global, zero, suc, ◌≡◌, ◌≢◌, ◌∙◌, sym, ap, subst, refl, ℕ, ◌<◌, ◌≤◌, ◌+◌, Bool, true, false, cond, not, List, [], ◌∷◌}
use Rattle.std.proofs.Common.{◌++◌, length, Option, None, Some, ◌⊎◌, inl, inr, arith, ◌==◌}
use Rattle.std.specs.{Prelude.IfSome, Prelude.IsTrue, Prelude.is_some, Prelude.option_map, Ordering.is_lt, List.Sorted.IsPermutation, List.Sorted.IsSortedBy}
use Rattle.std.proofs.lemmas.Bool.{and_parts, not-true, false≢true, or_left, or_right}
use Rattle.inno_types.specs.{declared.value.Value.Value, declared.value.Schema.Schema, Order.IsBelow}
use Rattle.inno_db.specs.Database.{key_of}
use Rattle.store_api.specs.{declared.answers.Version.Version as Coded, declared.moves.Move.Move, declared.moves.Move.TheVariants.End}
use Rattle.store_api.specs.{declared.moves.Move.TheVariants.Done}
use Rattle.key_codec.specs.Keys.{entry_code, HasKey, key_code}
use Rattle.row_codec.specs.Rows.{IsRecordOf, IsVersion}
use Rattle.entries.specs.{Pairs.Pair, Pairs.key_cmp, Pairs.value_of, Index.Told, Calls.HasKey as IsAtKey, Calls.Fetches}
use Rattle.row_versions.specs.{declared.kept.Kept.Kept, Versions.IsPointer, Versions.Versions, Versions.leads, declared.version.Version.Version}
use Rattle.row_versions.specs.{Chains.first_seen, Chains.older}
use Rattle.law_stored_rows.specs.{Records.IsCodeOf, Records.LeadTo, Records.IsRecordWith, Records.shown, Records.row_shown, Entries.value_in}
use Rattle.law_stored_rows.proofs.RowRecords.{leads_nowhere, record_read, pointer_leads, pointer_followed}
use Rattle.sql_plan.specs.Visits.{primary_key, index_key, kind_at}
use Rattle.world.specs.{State.WorldState, Indexes.Calls, Undoing.IsUnchanged}
use Rattle.inno_db.specs.Indexes.{index_of}
use Rattle.row_search.specs.declared.phase.Phase.TheVariants.{Follow, Fetch, Look, Walk, Keep, Sort, Leave}
use Rattle.row_search.specs.{declared.found.FoundRow.FoundRow, declared.scan.Scan.Scan, declared.phase.Phase.Phase, Sights.sees_by, Sights.rows_seen}
use Rattle.row_search.specs.{FoundRows.AreFound, Ranges.primary_part, Ranges.lies_in, Ranges.lies_up_to, Tables.most_versions, Tables.ShowsTable}
use Rattle.row_search.specs.{Tables.HoldsTable, Tables.ShowsRows, Visits.glance_at, Visits.phase_after, Owners.TellsSame, Owners.IsOwner, Steps.Waits}
use Rattle.row_search.specs.{declared.glance.Glance.Glance, declared.glance.Glance.TheVariants.Older, declared.glance.Glance.TheVariants.Deleted}
use Rattle.row_search.specs.{declared.glance.Glance.TheVariants.Row, Searches.PhaseHolds, Searches.IsSearching, Searches.IsComing, Searches.IsSeenAmong}
use Rattle.row_search.specs.{Searches.IsSeenAt, Searches.HasToGo, Searches.pairs_behind}
use Rattle.row_search.proofs.Goes.{unchanged_itself, call_unchanged, fetch_put_off, at_old, Goes, FindsAt, goes, waits, record_found, record_kept}
use Rattle.row_search.proofs.{Rows.permuted, Rows.rises, Others.in_clustered, Keys.IsHome, Keys.home, Keys.key_is_value, Keys.fits_in, Keys.keyed_is}
use Rattle.row_search.proofs.{Keys.key_there_at, Keys.part_is, Coming.passes_by, Coming.is_passed, Coming.other_entry, Coming.row_kept}

-- ---- the versions of a row along its pointers

-- These bytes are the record of a version behind which these versions are kept.
pub record IsOnWay (schema : Schema) (key bytes : List ℕ) (kept : ℕ → Option Kept) (coded : Coded) (versions : List Version) : Type 0 where
  pub code_is : IsCodeOf schema key bytes coded
  pub first : versions ≡ shown coded ∷ older versions
  pub rest : LeadTo schema key kept coded.pointer (older versions)

-- some version has the record, and those behind it are kept
from_record : (schema : Schema) (key bytes : List ℕ) (kept : ℕ → Option Kept) (versions : List Version) → IsRecordWith schema key kept (Some bytes) versions
    → (coded : Coded) × IsCodeOf schema key bytes coded
    × ((led : List Version) → IsRecordWith schema key kept (Some bytes) led → IsOnWay schema key bytes kept coded led)
from_record schema key bytes kept [] is = absurd is
from_record schema key bytes kept (version ∷ rest) is = (
  is.0,
  is.1,
  λ led also. let read = record_read schema key bytes kept led is.0 also is.1 in record { code_is = is.1; first = read.0; rest = read.1 },
)

kept_for : (bytes : List ℕ) (found : Option Kept) → option_map (λ (k : Kept). k.bytes) found ≡ Some bytes
    → (one : Kept) × (found ≡ Some one) × (one.bytes ≡ bytes)
kept_for bytes None are = cc
kept_for bytes (Some one) are = (one, refl, cc)

-- the bytes that are kept for a pointer which leads somewhere are such a record
from_pointer : (schema : Schema) (key bytes : List ℕ) (kept : ℕ → Option Kept) (pointer : ℕ) → pointer ≢ 0
    → option_map (λ (k : Kept). k.bytes) (kept pointer) ≡ Some bytes → (versions : List Version) → LeadTo schema key kept pointer versions
    → (coded : Coded) × IsCodeOf schema key bytes coded × ((led : List Version) → LeadTo schema key kept pointer led → IsOnWay schema key bytes kept coded led)
from_pointer schema key bytes kept pointer leads are versions lead =
    let one = kept_for bytes (kept pointer) are in
    let way : (led : List Version) → LeadTo schema key kept pointer led → IsOnWay schema key bytes kept one.0.version led = λ led to.
    let next = pointer_followed schema key kept pointer led one.0 to leads one.1 in
    record { code_is = subst (λ (b : List ℕ). IsCodeOf schema key b one.0.version) one.2 next.0; first = next.1; rest = next.2 } in
    (one.0.version, (way versions lead).code_is, way)

-- the pointer may be asked for
may_ask : (schema : Schema) (key : List ℕ) (versions : Versions) (pointer : ℕ) (led : List Version) → LeadTo schema key versions.kept_at pointer led
    → leads pointer versions ≡ true
may_ask schema key versions pointer [] is = or_left (pointer == 0) (is_some (versions.kept_at pointer)) (rw is refl)
may_ask schema key versions pointer (version ∷ rest) is =
    or_right (pointer == 0) (is_some (versions.kept_at pointer)) (pointer_leads schema key versions.kept_at pointer (version ∷ rest) is is.1.leads)

-- ---- what the reader sees of them

module _ {schema : Schema} {scan : Scan} {row_at : Value → Option (List Value)} {key : List ℕ} {versions : List Version}
    (among : IsSeenAmong schema scan row_at key versions) where
  module _ {bytes : List ℕ} {kept : ℕ → Option Kept} {coded : Coded} (way : IsOnWay schema key bytes kept coded versions) where
    -- by whether the reader sees the version, and whether that is marked
    seen_first : row_at among.value
        ≡ cond (sees_by scan.sight coded.writer) (row_shown coded.marked coded.row) (first_seen (sees_by scan.sight) (older versions))
    seen_first = among.seen ∙ ap (first_seen (sees_by scan.sight)) way.first

    -- the version is not seen: those behind it decide
    passed_over : sees_by scan.sight coded.writer ≡ false → IsSeenAmong schema scan row_at key (older versions)
    passed_over unseen = record { value = among.value; has_key = among.has_key; key_is = among.key_is; seen = rw unseen at seen_first }

  row_there : (homes : (value : Value) (row : List Value) → row_at value ≡ Some row → IsHome schema value row) (row : List Value)
      → row_at among.value ≡ Some row → IsSeenAt schema row_at key row
  row_there homes row is =
      let h = homes among.value row is in
      record {
        seen = ap row_at h.at.key_is ∙ is;
        has_key = subst (HasKey (kind_at schema.columns schema.primary)) (sym h.at.key_is) h.has_key;
        key_is = among.key_is ∙ ap (key_code (kind_at schema.columns schema.primary)) (sym h.at.key_is);
      }

-- ---- at a pair

-- whatever holds of each version with this record
abbrev pub OfRecord : Schema → List ℕ → List ℕ → (Coded → Type 0) → Type 0
OfRecord schema key bytes P = (version : Coded) → IsVersion version → IsRecordOf schema version key bytes → P version

at_some : (entry : List ℕ) (o : Option Pair) → IsAtKey entry o → is_some o ≡ true
at_some entry None at = absurd at
at_some entry (Some pair) at = refl

older_few : (versions : List Version) (most : ℕ) → length versions ≤ most → length (older versions) ≤ most
older_few [] most few = few
older_few (version ∷ rest) most few = omega (arith, few)

older_of : (seen marked : Bool) (pointer other : ℕ) (row : List Value) → Older pointer ≡ cond seen (cond marked Deleted (Row row)) (Older other)
    → other ≡ pointer
older_of true true pointer other row e = cc
older_of true false pointer other row e = cc
older_of false marked pointer other row e = cc

module _ {actor : ℕ} {schema : Schema} {old : WorldState} {scan : Scan} {phase : Phase}
    (is : IsSearching actor schema old (record { scan = scan; phase = phase })) where
  abbrev row_at : (Value → List Version) → Value → Option (List Value)
  row_at versions_at = rows_seen scan.sight versions_at

  homes : (versions_at : Value → List Version) → ShowsRows schema scan old versions_at → (value : Value) (row : List Value)
      → row_at versions_at value ≡ Some row → IsHome schema value row
  homes versions_at shows value row seen =
      home scan.table schema old.versions.kept_at shows.table.pairs versions_at (sees_by scan.sight) value row shows.table.clustered seen

  module _ (entry : List ℕ) where
    abbrev part : List ℕ
    part = primary_part schema entry

    abbrev UpTo : (Value → List Version) → Vec FoundRow Global → Type 0
    UpTo versions_at rows = AreFound schema scan.which (row_at versions_at) (lies_up_to schema scan entry) rows.items

    passed : (versions_at : Value → List Version) (shows : ShowsRows schema scan old versions_at) → IsComing schema scan (row_at versions_at) entry
        → ((value : Value) (row : List Value) → row_at versions_at value ≡ Some row → lies_in schema scan row ≡ true
        → index_key schema scan.which row ≢ entry) → UpTo versions_at scan.rows
    passed versions_at shows coming none = passes_by schema scan (row_at versions_at) shows.searched shows.keys entry coming.below none

    -- the reader sees no row at the entry's primary value
    no_row_there : (versions_at : Value → List Version) (shows : ShowsRows schema scan old versions_at) → IsComing schema scan (row_at versions_at) entry
        → {versions : List Version} (among : IsSeenAmong schema scan (row_at versions_at) part versions) → row_at versions_at among.value ≡ None
        → UpTo versions_at scan.rows
    no_row_there versions_at shows coming among none =
        passed versions_at shows coming
        (is_passed schema scan (row_at versions_at) is.key (homes versions_at shows) entry among.value among.has_key among.key_is
        (λ row seen own. cc (none, seen)))

    -- what is left before the version, and behind it less
    pub record HasLeft (Way : List Version → Type 0) (pairs : List Pair) (n : List ℕ) : Type 0 where
      pub versions : List Version
      pub way : Way versions
      pub rank : ℕ
      pub long : ℕ
      pub n_is : n ≡ 1 ∷ pairs_behind (at_old is) pairs ∷ rank ∷ long ∷ []
      pub ranked : 1 < rank
      pub shorter : (2 < rank) ⊎ ((2 ≡ rank) × (length versions ≤ long))

    abbrev KnowsWay : (List Version → Type 0) → List ℕ → Coded → Type 0
    KnowsWay Way bytes version = (versions : List Version) → Way versions → IsOnWay schema part bytes old.versions.kept_at version versions

    abbrev CameBy : (List Version → Type 0) → (Value → List Version) → Type 0
    CameBy Way versions_at =
        IsComing schema scan (row_at versions_at) entry × (versions : List Version) × Way versions × IsSeenAmong schema scan (row_at versions_at) part versions

    abbrev glance_by : Bool → Bool → Coded → Glance
    glance_by seen marked version = cond seen (cond marked Deleted (Row version.row)) (Older version.pointer)

    module _ {new : WorldState} (unchanged : IsUnchanged old new) (at : IsAtKey entry (at_old is)) where
      -- what was found up to the entry was found up to the actor's place
      found_up_to : (versions_at : Value → List Version) (rows : Vec FoundRow Global) → IsComing schema scan (row_at versions_at) entry
          → UpTo versions_at rows → FindsAt is (at_old is) rows Follow versions_at
      found_up_to versions_at rows coming found =
          (not-true scan.range.empty (and_parts (not scan.range.empty) _ coming.within).0, up_to (at_old is) at) where
            up_to : (o : Option Pair) → IsAtKey entry o
                → IfSome o (λ pair. AreFound schema scan.which (row_at versions_at) (lies_up_to schema scan pair.0) rows.items)
            up_to None at = absurd at
            up_to (Some pair) at = subst (λ k. AreFound schema scan.which (row_at versions_at) (lies_up_to schema scan k) rows.items) (sym at) found

      -- the search goes on behind the pair, perhaps with one row more
      pub follows_on : (rows : Vec FoundRow Global)
          → ((versions_at : Value → List Version) → ShowsRows schema scan old versions_at → FindsAt is (at_old is) scan.rows phase versions_at
          → IsComing schema scan (row_at versions_at) entry × UpTo versions_at rows)
          → ((pairs : List Pair) (n : List ℕ) → HasToGo schema old.versions.kept_at (at_old is) pairs phase n
          → (rank : ℕ) × (long : ℕ) × (n ≡ 1 ∷ pairs_behind (at_old is) pairs ∷ rank ∷ long ∷ []) × (0 < rank)) → Goes is new rows Follow
      follows_on rows finds left =
          goes is unchanged rows Follow (at_some entry (at_old is) at)
          (λ versions_at shows was. let f = finds versions_at shows was in found_up_to versions_at rows f.0 f.1)
          (λ versions_at shows n was to_go.
          let l = left shows.searched n to_go in
          (1 ∷ pairs_behind (at_old is) shows.searched ∷ 0 ∷ 0 ∷ [], refl, rw l.2 (inr (refl, inr (refl, inl l.3)))))

      -- ---- a version was looked at, to which the search came on a way

      module _ (Way : List Version → Type 0) (bytes : List ℕ) where
        finds_after : (versions_at : Value → List Version) → ShowsRows schema scan old versions_at → CameBy Way versions_at → (version : Coded)
            → KnowsWay Way bytes version → (seen marked : Bool) → sees_by scan.sight version.writer ≡ seen → version.marked ≡ marked
            → FindsAt is (at_old is) scan.rows (phase_after entry (glance_by seen marked version)) versions_at
        finds_after versions_at shows c version ways true true seen marked =
            found_up_to versions_at scan.rows c.0 (no_row_there versions_at shows c.0 c.3 (rw (seen, marked) at (seen_first c.3 (ways c.1 c.2))))
        finds_after versions_at shows c version ways true false seen marked =
            (c.0, row_there c.3 (homes versions_at shows) version.row (rw (seen, marked) at (seen_first c.3 (ways c.1 c.2))))
        finds_after versions_at shows c version ways false marked seen is_marked =
            let way = ways c.1 c.2 in (c.0, older c.1, way.rest, passed_over c.3 way seen)

        nears_after : (pairs : List Pair) (n : List ℕ) → HasLeft Way pairs n → (version : Coded) → KnowsWay Way bytes version → (seen marked : Bool)
            → (m : List ℕ) × HasToGo schema old.versions.kept_at (at_old is) pairs (phase_after entry (glance_by seen marked version)) m × IsBelow m n
        nears_after pairs n l version ways true true =
            (1 ∷ pairs_behind (at_old is) pairs ∷ 0 ∷ 0 ∷ [], refl, rw l.n_is (inr (refl, inr (refl, inl (omega (arith, l.ranked))))))
        nears_after pairs n l version ways true false =
            (1 ∷ pairs_behind (at_old is) pairs ∷ 1 ∷ 0 ∷ [], refl, rw l.n_is (inr (refl, inr (refl, inl l.ranked))))
        nears_after pairs n l version ways false marked =
            let way = ways l.versions l.way in (
              1 ∷ pairs_behind (at_old is) pairs ∷ 2 ∷ length (older l.versions) ∷ [],
              (older l.versions, way.rest, refl),
              rw l.n_is (inr (refl, inr (refl, below (ap length way.first) l.shorter))),
            )
          where
            below : length l.versions ≡ suc (length (older l.versions)) → (2 < l.rank) ⊎ ((2 ≡ l.rank) × (length l.versions ≤ l.long))
                → IsBelow (2 ∷ length (older l.versions) ∷ []) (l.rank ∷ l.long ∷ [])
            below one_more (inl lt) = inl lt
            below one_more (inr both) = inr (both.0, inl (omega (arith, one_more, both.1)))

        -- Where it is told what is kept, the version is known. Else nothing is said of what the search finds.
        module _ (held : IsTrue old.versions.told → (versions : List Version) × Way versions × (length versions ≤ most_versions))
            (read : IsTrue old.versions.told → (versions : List Version) → Way versions
            → (version : Coded) × IsCodeOf schema part bytes version × KnowsWay Way bytes version) (glance : Glance)
            (tells : OfRecord schema part bytes (λ version. glance ≡ glance_at scan.sight version)) where
          knows : IsTrue old.versions.told → (version : Coded) × (glance ≡ glance_at scan.sight version) × KnowsWay Way bytes version
          knows told =
              let h = held told in
              let r = read told h.0 h.1 in
              (r.0, tells r.0 r.1.numbers r.1.record_is, r.2)

          holds_after : (seen : Glance) → glance ≡ seen → PhaseHolds actor schema scan old (phase_after entry seen)
          holds_after Deleted same = at_some entry (at_old is) at
          holds_after (Row row) same = at
          holds_after (Older pointer) same = (
            at,
            λ told.
                let h = held told in
                let k = knows told in (
                  older h.0,
                  subst (λ p. LeadTo schema part old.versions.kept_at p (older h.0))
                      (older_of (sees_by scan.sight k.0.writer) k.0.marked pointer k.0.pointer k.0.row (sym same ∙ k.1)) (k.2 h.0 h.1).rest,
                  older_few h.0 most_versions h.2,
                ),
          )

          pub glance_goes : ((versions_at : Value → List Version) → FindsAt is (at_old is) scan.rows phase versions_at → CameBy Way versions_at)
              → ((versions_at : Value → List Version) (pairs : List Pair) (n : List ℕ) → FindsAt is (at_old is) scan.rows phase versions_at
              → HasToGo schema old.versions.kept_at (at_old is) pairs phase n → HasLeft Way pairs n) → Goes is new scan.rows (phase_after entry glance)
          glance_goes came left =
              goes is unchanged scan.rows (phase_after entry glance) (holds_after glance refl)
              (λ versions_at shows was.
              let k = knows shows.told in
              subst (λ (g : Glance). FindsAt is (at_old is) scan.rows (phase_after entry g) versions_at) (sym k.1)
              (finds_after versions_at shows (came versions_at was) k.0 k.2 (sees_by scan.sight k.0.writer) k.0.marked refl refl))
              (λ versions_at shows n was to_go.
              let k = knows shows.told in
              subst (λ (g : Glance). (m : List ℕ) × HasToGo schema old.versions.kept_at (at_old is) shows.searched (phase_after entry g) m × IsBelow m n)
              (sym k.1)
              (nears_after shows.searched n (left versions_at shows.searched n was to_go) k.0 k.2 (sees_by scan.sight k.0.writer) k.0.marked))

-- ---- look

module _ {actor : ℕ} {schema : Schema} {state : WorldState} {scan : Scan} {entry bytes : List ℕ}
    (is : IsSearching actor schema state (record { scan = scan; phase = Look entry bytes })) where
  pub look_goes : (glance : Glance) → OfRecord schema (primary_part schema entry) bytes (λ version. glance ≡ glance_at scan.sight version)
      → Goes is state scan.rows (phase_after entry glance)
  look_goes glance tells =
      glance_goes is entry (unchanged_itself state) is.phase.0 (IsRecordWith schema (primary_part schema entry) state.versions.kept_at (Some bytes)) bytes
      is.phase.1 (λ told. from_record schema (primary_part schema entry) bytes state.versions.kept_at) glance tells (λ versions_at was. was)
      (λ versions_at pairs n was to_go.
      record { versions = was.1; way = was.2; rank = 3; long = 0; n_is = to_go; ranked = omega arith; shorter = inl (omega arith) })

-- ---- walk

module _ {actor : ℕ} {schema : Schema} {old : WorldState} {scan : Scan} {entry : List ℕ} {pointer : ℕ}
    (is : IsSearching actor schema old (record { scan = scan; phase = Walk entry pointer })) where
  pub may_walk : IsPointer pointer old.versions
  may_walk told = let h = is.phase.1 told in may_ask schema (primary_part schema entry) old.versions pointer h.0 h.1

  module _ {new : WorldState} (unchanged : IsUnchanged old new) where
    module _ (bytes : List ℕ) (leads : pointer ≢ 0)
        (are : IsTrue old.versions.told → option_map (λ (kept : Kept). kept.bytes) (old.versions.kept_at pointer) ≡ Some bytes) where
      pub walk_reads : OfRecord schema (primary_part schema entry) bytes (λ version. ⊥) → IsTrue old.versions.told → ⊥
      walk_reads none told =
          let h = is.phase.1 told in
          let r = from_pointer schema (primary_part schema entry) bytes old.versions.kept_at pointer leads (are told) h.0 h.1 in
          none r.0 r.1.numbers r.1.record_is

      pub walk_goes : (glance : Glance) → OfRecord schema (primary_part schema entry) bytes (λ version. glance ≡ glance_at scan.sight version)
          → Goes is new scan.rows (phase_after entry glance)
      walk_goes glance tells =
          glance_goes is entry unchanged is.phase.0 (LeadTo schema (primary_part schema entry) old.versions.kept_at pointer) bytes is.phase.1
          (λ told. from_pointer schema (primary_part schema entry) bytes old.versions.kept_at pointer leads (are told)) glance tells (λ versions_at was. was)
          (λ versions_at pairs n was left.
          record { versions = left.0; way = left.1; rank = 2; long = length left.0; n_is = left.2; ranked = omega arith; shorter = inr (refl, omega arith) })

    pub walk_ends : pointer ≡ 0 → Goes is new scan.rows Follow
    walk_ends none =
        follows_on is entry unchanged is.phase.0 scan.rows
        (λ versions_at shows was. (
          was.0,
          no_row_there is entry versions_at shows was.0 was.3 (was.3.seen ∙ ap (first_seen (sees_by scan.sight))
              (leads_nowhere schema (primary_part schema entry) old.versions.kept_at pointer was.1 was.2 none)),
        ))
        (λ pairs n to_go. (2, length to_go.0, to_go.2, omega arith))

-- ---- keep

module _ {actor : ℕ} {schema : Schema} {state : WorldState} {scan : Scan} {entry : List ℕ} {row : List Value}
    (is : IsSearching actor schema state (record { scan = scan; phase = Keep entry row })) where
  -- the answer tells whether the entry is the row's own
  tells : (versions_at : Value → List Version) → ShowsRows schema scan state versions_at → IsComing schema scan (row_at is versions_at) entry
      → IsSeenAt schema (row_at is versions_at) (primary_part schema entry) row → (own : Bool)
      → IsOwner schema scan.which (primary_part schema entry) entry row own → TellsSame (index_key schema scan.which row) entry own
  tells versions_at shows coming seen own owner = go scan.which refl where
    go : (n : ℕ) → scan.which ≡ n → TellsSame (index_key schema scan.which row) entry own
    go zero e =
        subst (TellsSame (index_key schema scan.which row) entry) (sym (owner.clustered e))
        (ap (λ w. index_key schema w row) e ∙ (sym seen.key_is ∙ coming.whole e))
    go (suc at) e =
        let h = homes is versions_at shows (key_of schema row) row seen.seen in
        let key = key_there_at schema at (subst (λ n. n ≤ length schema.keys) e is.key) in
        let column = shows.columns.keys at key.0 key.1 in
        let one : suc at ≡ 1 + at = omega arith in
        let code : index_key schema scan.which row ≡ entry_code column.0.kind (value_in key.0.column row) (primary_part schema entry)
        =
        ap (λ w. index_key schema w row) e ∙ (keyed_is schema at row key.0 column.0 key.1 column.1 ∙ ap
        (entry_code column.0.kind (value_in key.0.column row)) (sym seen.key_is)) in
        subst (λ (bytes : List ℕ). TellsSame bytes entry own) (sym code)
        (owner.keyed at key.0 column.0 (e ∙ one) key.1 column.1 (fits_in schema.columns row key.0.column column.0 h.at.fits column.1))

  pub other_goes : IsOwner schema scan.which (primary_part schema entry) entry row false → Goes is state scan.rows Follow
  other_goes owner =
      follows_on is entry (unchanged_itself state) is.phase scan.rows
      (λ versions_at shows was. (
        was.0,
        passed is entry versions_at shows was.0
            (other_entry schema scan (row_at is versions_at) is.key (homes is versions_at shows) entry row was.1
            (tells versions_at shows was.0 was.1 false owner)),
      )) (λ pairs n to_go. (1, 0, to_go, omega arith))

  pub own_goes : (kept : Vec FoundRow Global) → kept.items ≡ scan.rows.items ++ record { key = primary_part schema entry; row = row } ∷ []
      → IsOwner schema scan.which (primary_part schema entry) entry row true → Goes is state kept Follow
  own_goes kept kept_is owner =
      follows_on is entry (unchanged_itself state) is.phase kept
      (λ versions_at shows was. (
        was.0,
        rw kept_is
            (row_kept schema scan (row_at is versions_at) is.key (homes is versions_at shows) entry row was.1 was.0
            (tells versions_at shows was.0 was.1 true owner)),
      )) (λ pairs n to_go. (1, 0, to_go, omega arith))

-- ---- sort

pub keyed_is_sorted : {actor : ℕ} {schema : Schema} {state : WorldState} {scan : Scan}
    (is : IsSearching actor schema state (record { scan = scan; phase = Sort })) → scan.which ≢ 0 → (sorted : Vec FoundRow Global)
    → IsPermutation scan.rows.items sorted.items → IsSortedBy (λ (a b : FoundRow). is_lt (key_cmp a.key b.key)) sorted.items → Goes is state sorted Leave
keyed_is_sorted {schema = schema} {state = state} {scan = scan} is keyed sorted same up =
    goes is (unchanged_itself state) sorted Leave tt
    (λ versions_at shows was.
    let found = permuted schema (row_at is versions_at) (lies_in schema scan) scan.rows.items sorted.items keyed same was in
    (found, rises schema (row_at is versions_at) (homes is versions_at shows) (lies_in schema scan) sorted.items found up))
    (λ versions_at shows n was to_go. (0 ∷ 0 ∷ 0 ∷ 0 ∷ [], refl, rw to_go (inr (refl, inl (omega arith)))))

-- ---- fetch

module _ {actor : ℕ} {schema : Schema} {old : WorldState} {scan : Scan} {entry : List ℕ}
    (is : IsSearching actor schema old (record { scan = scan; phase = Fetch entry })) where
  told_there : (found : Option (List ℕ)) → Told (λ pairs. value_of (primary_part schema entry) pairs ≡ found) (old.indexes (index_of scan.table 0))
      → (versions_at : Value → List Version) (shows : ShowsTable schema scan.table old versions_at)
      → value_of (primary_part schema entry) shows.pairs ≡ found
  told_there found told versions_at shows =
      subst (λ (o : Option (List Pair)). IfSome o (λ pairs. value_of (primary_part schema entry) pairs ≡ found)) shows.pairs_are told

  pub fetch_done : {new : WorldState} → HoldsTable schema scan.table old → (read : List ℕ)
      → Calls (index_of scan.table 0) (λ before after. Fetches actor (primary_part schema entry) read before after Done) old new
      → Goes is new scan.rows (Look entry read)
  fetch_done holds read c =
      goes is (call_unchanged c c.index_is.here.1) scan.rows (Look entry read)
      (is.phase, record_kept is (primary_part schema entry) read (told_there (Some read) c.index_is.here.0) holds)
      (λ versions_at shows was.
      let r = record_found is (primary_part schema entry) read (told_there (Some read) c.index_is.here.0) versions_at shows.table in
      (was, r.0, r.1, r.2))
      (λ versions_at shows n was to_go.
      (1 ∷ pairs_behind (at_old is) shows.searched ∷ 3 ∷ 0 ∷ [], refl, rw to_go (inr (refl, inr (refl, inl (omega arith))))))

  pub fetch_end : {new : WorldState} (read : List ℕ)
      → Calls (index_of scan.table 0) (λ before after. Fetches actor (primary_part schema entry) read before after End) old new
      → Goes is new scan.rows Follow
  fetch_end read c =
      follows_on is entry (call_unchanged c c.index_is.here.1) is.phase scan.rows
      (λ versions_at shows was. (was, passed is entry versions_at shows was (λ value row seen lies same. nobody versions_at shows value row seen same)))
      (λ pairs n to_go. (4, 0, to_go, omega arith))
    where
      -- a row has its key in the clustered index
      nobody : (versions_at : Value → List Version) → ShowsRows schema scan old versions_at → (value : Value) (row : List Value)
          → row_at is versions_at value ≡ Some row → index_key schema scan.which row ≡ entry → ⊥
      nobody versions_at shows value row seen same =
          let h = homes is versions_at shows value row seen in
          let part : primary_part schema entry ≡ primary_key schema row =
          ap (primary_part schema) (sym same) ∙ (part_is schema scan.which value row is.key h ∙ sym (key_is_value schema value row h)) in
          false≢true (sym (ap is_some (told_there None c.index_is.here.0 versions_at shows.table)) ∙ (ap (λ k. is_some (value_of k shows.table.pairs)) part
          ∙ in_clustered scan.table schema old.versions.kept_at shows.table.pairs versions_at scan.sight shows.table.clustered value row seen))

  pub fetch_waits : {new : WorldState} (read : List ℕ) (why : Move)
      → Calls (index_of scan.table 0) (λ before after. Fetches actor (primary_part schema entry) read before after why) old new → why ≢ Done → why ≢ End
      → Waits actor schema old new (record { scan = scan; phase = Fetch entry }) (record { scan = scan; phase = Fetch entry }) why
  fetch_waits {new} read why c not_done not_end =
      let off =
      fetch_put_off actor (primary_part schema entry) read (old.indexes (index_of scan.table 0)) (new.indexes (index_of scan.table 0)) why c.index_is.here
      not_done not_end in
      waits is (call_unchanged c off.0) why off.1
