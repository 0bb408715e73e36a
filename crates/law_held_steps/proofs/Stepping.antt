-- Searches in a held store. It shows its rows to each that is under way: where keys lag behind the newest change of a session, other
-- readers by a view don't see that change. A search begins, goes on, ends or is given up.
use Rattle.std.proofs.Common.{◌≡◌, ◌≢◌, inl, inr, ℕ, ◌<◌, Bool, true, false, List, [], ◌∷◌, Option, Some, refl, sym, ap, subst, ◌∙◌, arith, length}
use Rattle.std.proofs.Common.{slice_get, ◌⊎◌, None, eq-eqb, ◌≤◌, map, ⊎_elim, ◌+◌, ◌*◌, ◌^◌}
use Rattle.std.specs.Prelude.{is_some, option_map, ◌≤◌, ◌==◌, ◌-◌, filter, ◌<◌, IsTrue}
use Rattle.inno_model.specs.{Past.own, Past.IsOpen, Past.view_of, Past.commits, Past.changed, declared.event.Event.Event}
use Rattle.desks.specs.Holding.{IsLast, IsOwnView, SightHolds, IsHeld, FindsSince, IsSearchHeld, SearchHeld}
use Rattle.desks.specs.declared.desk.Doing.TheVariants.{Nothing, Searching}
use Rattle.desks.specs.Desks.{Store, doing_at, is_quiet_doing, is_quiet, with_doing}
use Rattle.desks.specs.Searching.{keys_left, places_in, visit_left}
use Rattle.desks.specs.{declared.desk.Desk.Desk, declared.desk.Doing.Doing, declared.desk.TableSearch.TableSearch, Shown.reading_of}
use Rattle.law_stored_rows.specs.{Tables.Said, Tables.HasItsColumns, Tables.in_table, Tables.what_is_there, Tables.AreCoded, Records.LeadTo}
use Rattle.law_held_steps.proofs.Places.{none_moves, held_stays, moves_then, moves_in_one, moves_nothing, leaving_moves, moves_leave, moves_told}
use Rattle.law_other_places.proofs.{Sessions.each, Quiet.quiet_coded, Readers.columns_told, Readers.shows_beside, Readers.unseen_by}
use Rattle.law_held_steps.proofs.{AnyStep.some_same, Keeping.open_work, Apart.others_clean, Apart.others_quiet}
use Rattle.law_found_rows.proofs.Showing.{shows_coded, holds_table, shows_clustered}
use Rattle.law_found_rows.proofs.{Finding.begins, Finding.may_come_anew, Finding.goes_on, Finding.waits_on, Databases.found_by_view, Databases.found_newest}
use Rattle.row_versions.specs.Chains.{Chains, versions_at}
use Rattle.row_versions.specs.{declared.place.Place.Place, declared.version.Version.Version, declared.kept.Kept.Kept}
use Rattle.law_past_agreement.specs.Rows.{seen}
use Rattle.law_past_agreement.specs.{Agreement.ViewAgrees, Ids.id_of, DatabaseTables.with_all_tables}
use Rattle.world.specs.State.{WorldState, Logged, Session, Work, Seen, HasWork, id_of as work_id, standing_of}
use Rattle.inno_db.specs.Indexes.{index_of}
use Rattle.world.specs.{Told.IsTold, Told.pairs_of, Told.pairs_in, Sessions.IsShown, Indexes.Calls}
use Rattle.row_search.specs.Searches.{BeginsWithNothing, MayBegin, IsSearching, place_in, pairs_behind, PhaseHolds, Finds, HasToGo}
use Rattle.row_search.specs.declared.phase.Phase.TheVariants.{Seek, Follow, Fetch, Look, Walk, Keep, Sort, Leave}
use Rattle.row_search.specs.{Steps.IsSameScan, Steps.GoesOn, Steps.Waits, Steps.Ends, declared.scan.Scan.Scan, Sights.sees_by, Sights.rows_seen}
use Rattle.row_search.specs.{Tables.ShowsRows, Tables.most_versions, declared.sight.Sight.Sight, declared.sight.Sight.TheVariants.View}
use Rattle.row_search.specs.{declared.sight.Sight.TheVariants.Newest, declared.search.RowSearch.RowSearch, declared.found.FoundRow.FoundRow, FoundRows.AreFound}
use Rattle.row_search.specs.{FoundRows.RiseByKey, Ranges.lies_in, Ranges.primary_part, declared.phase.Phase.Phase, Visits.phase_anew}
use Rattle.law_held_steps.specs.{Begun.IsNewSearch, Begun.IsBegun, Begun.HasView, Begun.IsScanOf, Begun.IsTakenUp, Begun.MayStep, Begun.plan_of}
use Rattle.law_held_steps.specs.{Begun.plan_read, Begun.TellsTable, Begun.IsReadingNewest, Begun.AreRead, Begun.left_in, Leaving.MovesPlaces}
use Rattle.shared_lists.specs.{Steps.AreRowsSeen, Steps.AreFoundBy, Steps.rows_in_range, Steps.AreNewestRows, State.counted}
use Rattle.desks.proofs.{Counting.versions_most, Counting.versions_are, Counting.as_many, Showing.same_pairs}
use Rattle.inno_db.specs.{Database.rows_of}
use Rattle.read_view.specs.Sight.{Sight as ReadSight}
use Rattle.law_world_agreement.specs.Agreement.{sight_of, Agrees}
use Rattle.law_world_agreement.proofs.Ending.{work_of}
use Rattle.store_api.specs.declared.moves.Move.{Move}
use Rattle.inno_types.specs.{declared.value.Value.Value, declared.value.Schema.Schema, Order.IsBelow, Ranges.is_within}
use Rattle.row_changes.specs.Told.{AreRowsAs}
use Rattle.law_logged_changes.proofs.Leaving.{rows_left}
use Rattle.sql_plan.specs.{declared.choice.Plan.Plan, Plans.whole_index, Visits.index_key}
use Rattle.law_found_rows.specs.Finding.{IsFinding, IsFindingAnew}
use Rattle.entries.specs.{Calls.Leaves, Pairs.Pair}

-- at a key
record IsAtKey (n : List ℕ) (keys visit : ℕ) : Type 0 where
  pub behind : ℕ
  pub stage : ℕ
  pub versions : ℕ
  pub n_is : n ≡ 1 ∷ behind ∷ stage ∷ versions ∷ []
  pub keys_is : keys ≡ 1 + behind
  pub visit_is : visit ≡ stage * 2 ^ 64 + versions
  pub few : versions < 2 ^ 64

-- behind all keys
record IsAtEnd (n : List ℕ) (keys visit : ℕ) : Type 0 where
  pub stage : ℕ
  pub n_is : n ≡ 0 ∷ stage ∷ 0 ∷ 0 ∷ []
  pub keys_is : keys ≡ 0
  pub visit_is : visit ≡ stage * 2 ^ 64

abbrev Says : List ℕ → ℕ → ℕ → Type 0
Says n keys visit = IsAtKey n keys visit ⊎ IsAtEnd n keys visit

-- fewer keys, or as many and less of the visit
abbrev pub IsLess : ℕ → ℕ → ℕ → ℕ → Type 0
IsLess later left keys visit = (later < keys) ⊎ ((later ≡ keys) × (left < visit))

module _ {m n : List ℕ} {later left keys visit : ℕ} where
  key_to_key : (a : IsAtKey m later left) (b : IsAtKey n keys visit)
      → IsBelow (1 ∷ a.behind ∷ a.stage ∷ a.versions ∷ []) (1 ∷ b.behind ∷ b.stage ∷ b.versions ∷ []) → IsLess later left keys visit
  key_to_key a b (inl one) = absurd (omega (arith, one))
  key_to_key a b (inr (one, inl fewer)) = inl (omega (arith, a.keys_is, b.keys_is, fewer))
  key_to_key a b (inr (one, inr (same, inl lower))) = inr (omega (arith, a.keys_is, b.keys_is, same), omega (arith, a.visit_is, b.visit_is, lower, a.few))
  key_to_key a b (inr (one, inr (same, inr (so, inl shorter)))) =
      inr (omega (arith, a.keys_is, b.keys_is, same), omega (arith, a.visit_is, b.visit_is, so, shorter))
  key_to_key a b (inr (one, inr (same, inr (so, inr (long, nothing))))) = absurd nothing

  end_to_end : (a : IsAtEnd m later left) (b : IsAtEnd n keys visit) → IsBelow (0 ∷ a.stage ∷ 0 ∷ 0 ∷ []) (0 ∷ b.stage ∷ 0 ∷ 0 ∷ [])
      → IsLess later left keys visit
  end_to_end a b (inl none) = absurd (omega (arith, none))
  end_to_end a b (inr (none, inl lower)) = inr (omega (arith, a.keys_is, b.keys_is), omega (arith, a.visit_is, b.visit_is, lower))
  end_to_end a b (inr (none, inr (same, inl zero))) = absurd (omega (arith, zero))
  end_to_end a b (inr (none, inr (same, inr (so, inl zero)))) = absurd (omega (arith, zero))
  end_to_end a b (inr (none, inr (same, inr (so, inr (zeros, nothing))))) = absurd nothing

  less : Says m later left → Says n keys visit → IsBelow m n → IsLess later left keys visit
  less (inl a) (inl b) below =
      key_to_key a b (subst (IsBelow (1 ∷ a.behind ∷ a.stage ∷ a.versions ∷ [])) b.n_is (subst (λ (l : List ℕ). IsBelow l n) a.n_is below))
  less (inr a) (inl b) below = inl (omega (arith, a.keys_is, b.keys_is))
  less (inl a) (inr b) below =
      ⊎_elim (λ fewer. absurd (omega (arith, fewer))) (λ same. absurd (let one = same.0 in omega (arith, one)))
      (subst (IsBelow (1 ∷ a.behind ∷ a.stage ∷ a.versions ∷ [])) b.n_is (subst (λ (l : List ℕ). IsBelow l n) a.n_is below))
  less (inr a) (inr b) below = end_to_end a b (subst (IsBelow (0 ∷ a.stage ∷ 0 ∷ 0 ∷ [])) b.n_is (subst (λ (l : List ℕ). IsBelow l n) a.n_is below))

-- the same numbers in other words
less_as : {later left keys visit a b c d : ℕ} → later ≡ a → left ≡ b → keys ≡ c → visit ≡ d → IsLess a b c d → IsLess later left keys visit
less_as p q r s (inl fewer) = inl (omega (arith, p, r, fewer))
less_as p q r s (inr both) = let one = both.0 in let two = both.1 in inr (omega (arith, p, r, one), omega (arith, q, s, two))

-- within a walk few versions are left
abbrev IsFew : Schema → (ℕ → Option Kept) → Phase → Type 0
IsFew schema kept (Walk entry pointer) =
    (versions : List Version) × LeadTo schema (primary_part schema entry) kept pointer versions × (length versions ≤ most_versions)
IsFew schema kept other = Unit {0}

few_of : (actor : ℕ) (schema : Schema) (scan : Scan) (state : WorldState) (phase : Phase) → PhaseHolds actor schema scan state phase
    → IsTrue state.versions.told → IsFew schema state.versions.kept_at phase
few_of actor schema scan state (Walk entry pointer) holds told = holds.1 told
few_of actor schema scan state phase holds told = tt

no_more : {a b : ℕ} → a ≡ b → b ≤ most_versions → a ≤ most_versions
no_more same few = omega (arith, same, few)

below_most : {a b : ℕ} → a ≡ b → b ≤ most_versions → a < 2 ^ 64
below_most same few = omega (arith, same, few)

module _ (schema : Schema) (kept : ℕ → Option Kept) (place : Option Pair) (pairs : List Pair) where
  has_some : (phase : Phase) → IsFew schema kept phase → (n : List ℕ) × HasToGo schema kept place pairs phase n
  has_some Seek few = (1 ∷ length pairs ∷ 0 ∷ 0 ∷ [], refl)
  has_some Follow few = (1 ∷ pairs_behind place pairs ∷ 0 ∷ 0 ∷ [], refl)
  has_some (Fetch entry) few = (1 ∷ pairs_behind place pairs ∷ 4 ∷ 0 ∷ [], refl)
  has_some (Look entry bytes) few = (1 ∷ pairs_behind place pairs ∷ 3 ∷ 0 ∷ [], refl)
  has_some (Walk entry pointer) few = (1 ∷ pairs_behind place pairs ∷ 2 ∷ length few.0 ∷ [], (few.0, few.1, refl))
  has_some (Keep entry row) few = (1 ∷ pairs_behind place pairs ∷ 1 ∷ 0 ∷ [], refl)
  has_some Sort few = (0 ∷ 1 ∷ 0 ∷ 0 ∷ [], refl)
  has_some Leave few = (0 ∷ 0 ∷ 0 ∷ 0 ∷ [], refl)

  at_stage : (n : List ℕ) (stage keys visit : ℕ) → n ≡ 1 ∷ pairs_behind place pairs ∷ stage ∷ 0 ∷ [] → keys ≡ 1 + pairs_behind place pairs
      → visit ≡ stage * 2 ^ 64 → Says n keys visit
  at_stage n stage keys visit is keys_is visit_is =
      inl (record {
        behind = pairs_behind place pairs;
        stage = stage;
        versions = 0;
        n_is = is;
        keys_is = keys_is;
        visit_is = omega (arith, visit_is);
        few = omega arith;
      })

  says : (phase : Phase) (n : List ℕ) → IsFew schema kept phase → HasToGo schema kept place pairs phase n
      → Says n (keys_left place pairs phase) (visit_left kept phase)
  says Seek n few is = inl (record { behind = length pairs; stage = 0; versions = 0; n_is = is; keys_is = refl; visit_is = omega arith; few = omega arith })
  says Follow n few is = at_stage n 0 _ _ is refl (omega arith)
  says (Fetch entry) n few is = at_stage n 4 _ _ is refl (omega arith)
  says (Look entry bytes) n few is = at_stage n 3 _ _ is refl (omega arith)
  says (Walk entry pointer) n few (versions, leads, is) =
      let key = primary_part schema entry in
      let many : length versions ≡ length few.0 = as_many schema key kept pointer versions few.0 leads few.1 in
      let counted = versions_are schema key kept most_versions pointer versions leads (no_more many few.2) in
      inl (record {
        behind = pairs_behind place pairs;
        stage = 2;
        versions = length versions;
        n_is = is;
        keys_is = refl;
        visit_is = ap (λ (n : ℕ). 2 * 2 ^ 64 + n) counted;
        few = below_most many few.2;
      })
  says (Keep entry row) n few is = at_stage n 1 _ _ is refl (omega arith)
  says Sort n few is = inr (record { stage = 1; n_is = is; keys_is = refl; visit_is = omega arith })
  says Leave n few is = inr (record { stage = 0; n_is = is; keys_is = refl; visit_is = omega arith })

-- coming to its pair anew it has as many keys before it
pub keys_anew : (place : Option Pair) (pairs : List Pair) (phase : Phase) → keys_left place pairs (phase_anew phase) ≡ keys_left place pairs phase
keys_anew place pairs Seek = refl
keys_anew place pairs phase = refl

abbrev pub keys_before : ℕ → WorldState → RowSearch → ℕ
keys_before s state search = keys_left (place_in s search.scan state) (pairs_of state (index_of search.scan.table search.scan.which)) search.phase

abbrev pub visit_before : WorldState → RowSearch → ℕ
visit_before state search = visit_left state.versions.kept_at search.phase

pub steps_nearer : {s : ℕ} {schema : Schema} {old new : WorldState} {search next : RowSearch} {versions_at : Value → List Version} → ShowsRows schema
    search.scan old versions_at → IsSearching s schema old search → Finds schema old.versions.kept_at (place_in s search.scan old) versions_at search → GoesOn s
    schema old new search next → IsTold old → IsTold new → IsLess (keys_before s new next) (visit_before new next) (keys_before s old search) (visit_before old
    search)
steps_nearer {s} {schema} {old} {new} {search} {next} {versions_at} shows searching finds goes was told =
    let kept = old.versions.kept_at in
    let few : IsFew schema kept search.phase = few_of s schema search.scan old search.phase searching.phase was.versions in
    let some = has_some schema kept (place_in s search.scan old) shows.searched search.phase few in
    let step = goes.nears versions_at shows some.0 finds some.1 in
    let kept_is : new.versions.kept_at ≡ kept = goes.moves.versions.kept told.versions in
    let few_now : IsFew schema kept next.phase
    = subst (λ (k : ℕ → Option Kept). IsFew schema k next.phase) kept_is (few_of s schema next.scan new next.phase goes.holds.phase told.versions) in
    let index = index_of search.scan.table search.scan.which in
    let was_searched : pairs_of old index ≡ shows.searched = ap pairs_in shows.searched_are in
    let same_table = goes.same.table in
    let same_which = goes.same.which in
    let same_index : index_of next.scan.table next.scan.which ≡ index = λ i. index_of (same_table i) (same_which i) in
    let searched : pairs_of new (index_of next.scan.table next.scan.which) ≡ shows.searched = ap (pairs_of new) same_index
    ∙ (same_pairs (old.indexes index).pairs (new.indexes index).pairs (goes.moves.pairs index) (told.pairs index) ∙ was_searched) in
    less_as (ap (λ (pairs : List Pair). keys_left (place_in s next.scan new) pairs next.phase) searched) (ap (λ (k : ℕ → Option Kept). visit_left k next.phase)
    kept_is) (ap (λ (pairs : List Pair). keys_left (place_in s search.scan old) pairs search.phase) was_searched) refl
    (less (says schema kept (place_in s next.scan new) shows.searched next.phase step.0 few_now step.1) (says schema kept (place_in s search.scan old)
    shows.searched search.phase some.0 few some.1) step.2)

pub still_nearer : (later left keys visit anew behind : ℕ) → IsLess later left keys visit → anew ≡ behind
    → IsBelow (later ∷ anew ∷ left ∷ []) (keys ∷ behind ∷ visit ∷ [])
still_nearer later left keys visit anew behind (inl fewer) same = inl fewer
still_nearer later left keys visit anew behind (inr both) same = inr (both.0, inr (same, inl both.1))

pub anew_nearer : (later left keys visit other anew behind : ℕ) → IsLess later left keys visit → anew < behind
    → IsBelow (later ∷ anew ∷ left ∷ []) (keys ∷ behind ∷ other ∷ [])
anew_nearer later left keys visit other anew behind (inl fewer) lower = inl fewer
anew_nearer later left keys visit other anew behind (inr both) lower = inr (both.0, inl lower)

walk_few : {versions : ℕ} → versions ≤ most_versions → 2 * 2 ^ 64 + versions < 2 ^ 67
walk_few few = omega (arith, few)

-- a visit is less than a key
visit_few : (kept : ℕ → Option Kept) (phase : Phase) → visit_left kept phase < 2 ^ 67
visit_few kept (Walk entry pointer) = walk_few (versions_most most_versions kept pointer)
visit_few kept phase = omega arith

smaller : (later left keys visit : ℕ) → IsLess later left keys visit → left < 2 ^ 67 → later * 2 ^ 67 + left < keys * 2 ^ 67 + visit
smaller later left keys visit (inl fewer) few = omega (arith, fewer, few)
smaller later left keys visit (inr both) few = let same = both.0 in let less = both.1 in omega (arith, same, less)

pub nearer_in : (s : ℕ) (old new : WorldState) (search next : RowSearch)
    → IsLess (keys_before s new next) (visit_before new next) (keys_before s old search) (visit_before old search) → left_in s new next < left_in s old search
nearer_in s old new search next less =
    smaller (keys_before s new next) (visit_before new next) (keys_before s old search) (visit_before old search) less
    (visit_few new.versions.kept_at next.phase)

-- ---- what is shown while keys lag

abbrev pub HasSome : Chains → WorldState → Type 0
HasSome chains state = (said : Said) × AreRowsAs chains said state

-- nobody changes a row, if who may write doesn't
coded_while_quiet : {store : Store} (held : IsHeld store) → IsTold store.world → is_quiet store.writer store.desks ≡ true
    → AreCoded store.world.schemas (pairs_of store.world) store.world.versions.kept_at held.chains
coded_while_quiet {store} held told is = quiet_coded held.chains store.world store.desks (all store.writer refl is) held.rows told
  where
    all : (writer : Option ℕ) → store.writer ≡ writer → is_quiet writer store.desks ≡ true → (u : ℕ) → is_quiet_doing (doing_at u store.desks) ≡ true
    all None none quiet u = held.owned.quiet u (λ may. let no : None ≡ Some u = sym none ∙ may in cc)
    all (Some w) may quiet u = each w (λ u. is_quiet_doing (doing_at u store.desks) ≡ true) quiet (others_quiet held may) u

-- ---- a search while others change rows

module _ {store : Store} (held : IsHeld store) (told : IsTold store.world) (s : ℕ) (searching : is_quiet_doing (doing_at s store.desks) ≡ true)
    {schema : Schema} (scan : Scan) (there : slice_get store.world.schemas scan.table ≡ Some schema) (le : scan.which ≤ length schema.keys)
    (holds : SightHolds store s scan.sight) where
  -- who reads the newest rows may write, and nobody else has changes then
  unseen : (sight : Sight) → SightHolds store s sight → (w : ℕ) (logged : Logged) (place : Place) → s ≢ w → IsLast store.world w logged place
      → sees_by sight (id_of store.world.past w) ≡ false
  unseen (View view reader) holds w logged place differs last = unseen_by held.agrees last differs holds
  unseen Newest holds w logged place differs last =
      absurd (let none : [] ≡ last.change ∷ last.before = sym (others_clean held holds w (λ same. differs (sym same))) ∙ last.own_is in cc)

  pub shows_held : ShowsRows schema scan store.world (in_table scan.table held.chains)
  shows_held = shows_beside held.rows held.agrees told s searching scan there le (unseen scan.sight holds)

-- ---- A search that begins, with the view by which it reads; one that is under way goes on, ends or is given up.

pub new_search : (table : ℕ) (plan : Plan) (sight : Sight) (search : RowSearch) → search.scan ≡ record {
  table = table;
  which = plan.which;
  range = plan.range;
  sight = sight;
  rows = search.scan.rows;
  pair = search.scan.pair;
  primary = search.scan.primary;
}
    → BeginsWithNothing search
    → MayBegin search
    → IsNewSearch table plan sight search
new_search table plan sight search is nothing may = record {
  scan = record {
    table_is = ap (λ (scan : Scan). scan.table) is;
    which_is = ap (λ (scan : Scan). scan.which) is;
    range_is = ap (λ (scan : Scan). scan.range) is;
    sight_is = ap (λ (scan : Scan). scan.sight) is;
  };
  nothing = nothing;
  may = may;
}

-- the index is one of its table's, wherever the search begins
pub new_finding : {s table : ℕ} {plan : Plan} {sight : Sight} {schema : Schema} {state : WorldState} {chains : Chains} {search : RowSearch}
    → IsNewSearch table plan sight search
    → slice_get state.schemas table ≡ Some schema → HasItsColumns schema → plan.which ≤ length schema.keys → IsFinding s schema state chains search
new_finding {s} {schema} {state} {chains} {search} new there columns le =
    begins s schema state chains search new.nothing new.may (ap (slice_get state.schemas) new.scan.table_is ∙ there)
    (omega (arith, le, new.scan.which_is)) (omega (arith, le, new.scan.which_is, columns.few))

-- the reader's transaction is another session's no more than it was
sight_on : {s : ℕ} (store : Store) {new : WorldState} (now : List Desk) (sight : Sight) → MovesPlaces s store.world new → SightHolds store s sight
    → SightHolds (record store { world = new; desks = now }) s sight
sight_on {s} store now (View view reader) moves is = record {
  session = is.session;
  work = is.work;
  has_work = record { session_is = ap (λ (state : WorldState). slice_get state.sessions s) moves.rest ∙ is.has_work.session_is; work_is = is.has_work.work_is };
  seen = is.seen;
  view_is = is.view_is;
  same = is.same;
  reader_is = is.reader_is;
}
sight_on store now Newest moves is = is

pub begun : (s : ℕ) {table : ℕ} {store : Store} {plan : Plan} {sight : Sight} {schema : Schema} {on : TableSearch} → IsHeld store → IsTold store.world
    → doing_at s store.desks ≡ Nothing → slice_get store.world.schemas table ≡ Some schema → plan.which ≤ length schema.keys → SightHolds store s sight
    → IsBegun table plan sight schema store.cuts on → IsHeld (record store { desks = with_doing s (Searching on) store.desks })
begun s {table} {store} {sight = sight} {on = on} held told idle there le sees is =
    held_stays (none_moves) held (Searching on) (ap is_quiet_doing idle) refl told mine
  where
    finding : IsFinding s on.schema store.world held.chains on.search
    finding =
        subst (λ (t : Schema). IsFinding s t store.world held.chains on.search) (sym is.schema_is) (new_finding is.search there
        (columns_told held.chains held.rows.said store.world table held.rows.coded there) le)

    mine : IsSearchHeld held.chains (record store { desks = with_doing s (Searching on) store.desks }) s on
    mine = record {
      there = finding.searching.there;
      which = finding.searching.key;
      since = omega (arith, is.cuts_is);
      finds = subst (λ (b : Bool). FindsSince b s store.world held.chains on) (sym (eq-eqb on.cuts store.cuts is.cuts_is)) finding;
      sight = subst (SightHolds (record store { desks = with_doing s (Searching on) store.desks }) s) (sym is.search.scan.sight_is)
          (sight_on store (with_doing s (Searching on) store.desks) sight none_moves sees);
    }

-- ---- the view of a transaction

module _ (s : ℕ) {chains : Chains} {state : WorldState} (agrees : Agrees chains state) (open_s : IsOpen s state.past)
    (viewed : is_some (view_of s state.past) ≡ true) where
  of_seen : (session : Session) (work : Work) (seen : Option Seen) → HasWork s session work state → work.view ≡ seen
      → ViewAgrees state.past s (option_map sight_of seen) → HasView s state
  of_seen session work None has is agreed = absurd (let none : view_of s state.past ≡ None = agreed in cc)
  of_seen session work (Some seen) has is agreed = record { session = session; work = work; has_work = has; seen = seen; view_is = is }

  pub has_view : HasView s state
  has_view =
      let is = open_work agrees s open_s in
      of_seen is.0 is.1 is.1.view is.2 refl (work_of chains state s is.0 is.1 agrees is.2).view_is

module _ {s : ℕ} {state : WorldState} (active : List ℕ) (next : Option ℕ) (has : HasView s state) (shown : IsShown has.work.view active next) where
  shown_seen : (active ≡ has.seen.active) × (next ≡ Some has.seen.next)
  shown_seen = subst (λ view. IsShown view active next) has.view_is shown

  next_is : (n : ℕ) → next ≡ Some n → n ≡ has.seen.next
  next_is n is = let some = shown_seen.1 in cc

  pub own_view : (n reader : ℕ) → next ≡ Some n → reader ≡ (standing_of has.session).id
      → IsOwnView state s (record { active = active; own = 0; next = n }) reader
  own_view n reader is reader_is =
      let a = shown_seen.0 in
      let m = next_is n is in
      record {
        session = has.session;
        work = has.work;
        has_work = has.has_work;
        seen = has.seen;
        view_is = has.view_is;
        same = λ i. record { active = a i; own = 0; next = m i };
        reader_is = reader_is ∙ ap work_id has.has_work.work_is;
      }

comes_anew : (b : Bool) (s : ℕ) (state : WorldState) (chains : Chains) (on : TableSearch) → FindsSince b s state chains on
    → IsFindingAnew s on.schema state chains on.search
comes_anew true s state chains on finds = may_come_anew s on.schema state chains on.search finds
comes_anew false s state chains on finds = finds

-- as far as it came, with its scan
abbrev IsTaken : ℕ → WorldState → Chains → TableSearch → RowSearch → Type 0
IsTaken s state chains on search = IsFinding s on.schema state chains search × (search.scan ≡ on.search.scan)

takes_up : {chains : Chains} {store : Store} {s : ℕ} {on : TableSearch} (search : RowSearch) → IsSearchHeld chains store s on
    → IsTakenUp store.cuts on search → IsTaken s store.world chains on search
takes_up {chains} {store} {s} {on} search held (inl same) =
    let finds : IsFinding s on.schema store.world chains on.search =
    subst (λ (b : Bool). FindsSince b s store.world chains on) (eq-eqb on.cuts store.cuts same.0) held.finds in
    (subst (IsFinding s on.schema store.world chains) (sym same.1) finds, ap (λ (r : RowSearch). r.scan) same.1)
takes_up {chains} {store} {s} {on} search held (inr (later, anew)) =
    (comes_anew (on.cuts == store.cuts) s store.world chains on held.finds search anew.scan anew.finds anew.way anew.holds, anew.scan)

-- each place has few versions
pub few_held : {store : Store} (held : IsHeld store) (place : Place) → length (versions_at place held.chains) ≤ most_versions
few_held held place = omega (arith, held.short place, held.agrees.lists.small)

pub may_step : {s : ℕ} {schema : Schema} {state : WorldState} (chains : Chains) {search : RowSearch} → IsTold state → HasSome chains state
    → ((place : Place) → length (versions_at place chains) ≤ most_versions) → IsSearching s schema state search → MayStep s schema state search
may_step {schema} {state} chains {search} told rows few is = record {
  searching = is;
  table = holds_table state chains rows.0 told rows.1 few search.scan.table schema is.there;
  index = record { table = search.scan.table; which = search.scan.which; number = refl; schema = schema; there = is.there; key = is.key; few = is.few };
}

pub rows_on : {s : ℕ} {old new : WorldState} (chains : Chains) → MovesPlaces s old new → IsTold new → HasSome chains old → HasSome chains new
rows_on {old} {new} chains moves told rows = (rows.0, rows_left old new (moves_leave moves) chains rows.0 told rows.1)

-- rows of a table in a plan's range, as the past has its tables
module _ {store : Store} (held : IsHeld store) (table : ℕ) (by : Plan) {schema : Schema}
    (there : slice_get store.world.schemas table ≡ Some schema) (s : ℕ) where
  abbrev past : List Event
  past = store.world.past

  abbrev Within : List Value → Bool
  Within row = is_within by.range (index_key schema by.which row)

  in_range : (n : ℕ) (found : List FoundRow)
      → map (λ (f : FoundRow). f.row) found ≡ filter Within (rows_of table (changed (with_all_tables past) (seen past s n)))
      → AreRowsSeen table by past s n (map (λ (f : FoundRow). f.row) found)
  in_range n found are other is =
      are ∙ ap (λ (t : Schema). rows_in_range by t (rows_of table (changed (with_all_tables past) (seen past s n))))
      (some_same schema other (sym there ∙ (ap (λ (tables : List Schema). slice_get tables table) held.agrees.lists.tables ∙ is)))

  newest_seen : ((u : ℕ) → u ≢ s → own u past ≡ []) → (found : List FoundRow)
      → AreFound schema by.which (rows_seen Newest (in_table table held.chains)) Within found → RiseByKey found
      → AreRowsSeen table by past s (commits past) (map (λ (f : FoundRow). f.row) found)
  newest_seen alone found are rise =
      in_range (commits past) found (found_newest held.chains store.world table schema store.world.versions.kept_at (pairs_of store.world _) held.agrees
      (held.rows.coded.clustered.tables table schema there) s alone by.which Within found are rise)

module _ {store : Store} (held : IsHeld store) (s : ℕ) (on : TableSearch)
    (found : List FoundRow) (there : slice_get store.world.schemas on.search.scan.table ≡ Some on.schema) where
  abbrev now : WorldState
  now = store.world

  abbrev scan : Scan
  scan = on.search.scan

  abbrev FoundBy : Sight → Type 0
  FoundBy sight = AreFound on.schema scan.which (rows_seen sight (in_table scan.table held.chains)) (lies_in on.schema scan) found

  pub found_in : (sight : Sight) → SightHolds store s sight → FoundBy sight → RiseByKey found
      → AreFoundBy (reading_of sight) scan.table (plan_of on) now.past s (map (λ (f : FoundRow). f.row) found)
  found_in (View view reader) is are rise = λ n at. in_range held scan.table (plan_of on) there s n found (found_by_view held.chains now scan.table
      on.schema now.versions.kept_at (pairs_of now _) held.agrees (held.rows.coded.clustered.tables scan.table on.schema there) s n is.session is.work
      is.seen is.has_work is.view_is at scan.which (lies_in on.schema
      scan) found (subst (λ (v : ReadSight). FoundBy (View v is.work.id)) is.same (subst (λ (r : ℕ). FoundBy (View view r)) is.reader_is are)) rise)
  found_in Newest is are rise = newest_seen held scan.table (plan_of on) there s (others_clean held is) found are rise

fewer : (long was since cuts : ℕ) → long ≡ was → since ≤ cuts → cuts ≤ was → since ≢ cuts → long - cuts < was - since
fewer long was since cuts same le cut later = omega (arith, same, le, cut, later)

module _ (s : ℕ) {store : Store} {on : TableSearch} (held : IsHeld store) (is : doing_at s store.desks ≡ Searching on) where
  abbrev old : WorldState
  old = store.world

  -- in another world, with something else to do
  abbrev then_does : WorldState → Doing → Store
  then_does new doing = record store { world = new; desks = with_doing s doing store.desks }

  -- the same search, some steps further
  abbrev further : RowSearch → TableSearch
  further next = record on { search = next; cuts = store.cuts }

  is_searching : is_quiet_doing (doing_at s store.desks) ≡ true
  is_searching = ap is_quiet_doing is

  search_held : IsSearchHeld held.chains store s on
  search_held = subst (SearchHeld held.chains store s) is (held.searches s)

  some_rows : HasSome held.chains old
  some_rows = (held.rows.said, held.rows.coded)

  -- it is given up, or over
  pub over : (new : WorldState) → MovesPlaces s old new → IsTold new → IsHeld (then_does new Nothing)
  over new moves told = held_stays moves held Nothing is_searching refl told (record {})

  module _ (search : RowSearch) (taken : IsTakenUp store.cuts on search) where
    taken_up : IsTaken s old held.chains on search
    taken_up = takes_up search search_held taken

    pub steps : IsTold old → MayStep s on.schema old search
    steps told = may_step held.chains told some_rows (few_held held) taken_up.0.searching

    sight_taken : SightHolds store s search.scan.sight
    sight_taken = subst (λ (scan : Scan). SightHolds store s scan.sight) (sym taken_up.1) search_held.sight

    shows : IsTold old → ShowsRows on.schema search.scan old (in_table search.scan.table held.chains)
    shows told = shows_held held told s is_searching search.scan taken_up.0.searching.there taken_up.0.searching.key sight_taken

    module _ {new : WorldState} (told : IsTold new) where
      pub went : {next : RowSearch} → GoesOn s on.schema old new search next
          → IsHeld (then_does new (Searching (further next))) × MovesPlaces s old new × IsSameScan on.search.scan next.scan
      went {next} goes =
          let moves : MovesPlaces s old new = moves_in_one goes.moves in
          let on_now : IsFinding s on.schema new held.chains next × IsSameScan search.scan next.scan
          = goes_on s on.schema old new held.chains search next taken_up.0 (shows (moves_told moves told)) goes told in (
            held_stays moves held (Searching (further next)) is_searching refl told (record {
              there = on_now.0.searching.there;
              which = on_now.0.searching.key;
              since = omega arith;
              finds =
                  subst (λ (b : Bool). FindsSince b s new held.chains (further next)) (sym (eq-eqb store.cuts store.cuts refl)) on_now.0;
              sight = subst (SightHolds (then_does new (Searching (further next))) s) (sym on_now.1.sight)
                  (sight_on store (with_doing s (Searching (further next)) store.desks) search.scan.sight moves sight_taken);
            }),
            moves,
            subst (λ (scan : Scan). IsSameScan scan next.scan) taken_up.1 on_now.1,
          )

      -- less is left
      pub nears : {next : RowSearch} → GoesOn s on.schema old new search next → IsBelow
          (counted (places_in s new (further next))) (counted (places_in s old on))
      nears {next} goes =
          let moves : MovesPlaces s old new = moves_in_one goes.moves in
          let was : IsTold old = moves_told moves told in
          let past : new.past ≡ old.past = ap (λ (state : WorldState). state.past) moves.rest in
          let finds = taken_up.0 in
          below next past taken (steps_nearer (shows was) finds.searching finds.finds goes was told)
        where
          below : (next : RowSearch) → new.past ≡ old.past → IsTakenUp store.cuts on search
              → IsLess (keys_before s new next) (visit_before new next) (keys_before s old search) (visit_before old search)
              → IsBelow (counted (places_in s new (further next))) (counted (places_in s old on))
          below next past (inl same) less =
              still_nearer (keys_before s new next) (visit_before new next) (keys_before s old on.search) (visit_before old on.search) _ _
              (subst (λ (r : RowSearch). IsLess (keys_before s new next) (visit_before new next) (keys_before s old r) (visit_before old r)) same.1 less)
              (let long = ap length past in let cut = same.0 in omega (arith, long, cut))
          below next past (inr (later, anew)) less =
              let keys : keys_before s old search ≡ keys_before s old on.search
              = ap (λ (scan : Scan). keys_left (place_in s scan old) (pairs_of old (index_of scan.table scan.which)) search.phase) anew.scan
              ∙ (ap (keys_left (place_in s on.search.scan old) (pairs_of old (index_of on.search.scan.table on.search.scan.which))) anew.phase
              ∙ keys_anew (place_in s on.search.scan old) (pairs_of old (index_of on.search.scan.table on.search.scan.which)) on.search.phase) in
              anew_nearer (keys_before s new next) (visit_before new next) (keys_before s old on.search) (visit_before old search) (visit_before old on.search)
              _ _ (subst (λ (k : ℕ). IsLess (keys_before s new next) (visit_before new next) k (visit_before old search)) keys less) (fewer (length new.past)
              (length old.past) on.cuts store.cuts (ap length past) search_held.since held.cut later)

      pub ended : {found : List FoundRow} → Ends s on.schema old new search found → IsHeld (then_does new Nothing) × MovesPlaces
          s old new × AreFoundBy (reading_of on.search.scan.sight) on.search.scan.table (plan_of on) old.past s (map (λ (f : FoundRow). f.row) found)
      ended {found} ends =
          let moves : MovesPlaces s old new = leaving_moves s _ old new ends.leaves in
          let are
          = subst (λ (scan : Scan). AreFound on.schema scan.which (rows_seen scan.sight (in_table scan.table held.chains)) (lies_in on.schema scan) found
          × RiseByKey found) taken_up.1 (ends.found (in_table search.scan.table held.chains) taken_up.0.finds) in (
            over new moves told,
            moves,
            found_in held s on found search_held.there on.search.scan.sight search_held.sight are.0 are.1,
          )

      pub waited : {same : RowSearch} {why : Move} → Waits s on.schema old new search same why → MayStep s on.schema new same × MovesPlaces s old new
      waited waits =
          let moves : MovesPlaces s old new = moves_nothing waits.unchanged in (
            may_step held.chains told (rows_on held.chains moves told some_rows) (few_held held) waits.holds,
            moves,
          )

  pub given_up : {index : ℕ} {new later : WorldState} → MovesPlaces s old new → Calls index (Leaves s) new later → IsTold later
      → IsHeld (then_does later Nothing) × MovesPlaces s old later
  given_up {index} {new} {later} first leaves told =
      let moves : MovesPlaces s old later = moves_then first (leaving_moves s index new later leaves) in
      (over later moves told, moves)

-- ---- A whole search of the newest rows.

module _ {store : Store} (table : ℕ) (plan : Plan) (schema : Schema) (held : IsHeld store) where
  module _ (told : IsTold store.world) (there : slice_get store.world.schemas table ≡ Some schema) (le : plan.which ≤ length schema.keys) where
    tells_with : (by : Plan) (said : Said) → by.which ≤ length schema.keys → AreRowsAs held.chains said store.world
        → (said ≡ what_is_there held.chains) ⊎ (by.which ≡ 0) → TellsTable held.chains table by schema store.world
    tells_with by said within coded reason = record {
      there = there;
      columns = columns_told held.chains held.rows.said store.world table held.rows.coded there;
      which = within;
      said = said;
      coded = coded;
      tells = reason;
      short = few_held held;
    }

    tells_by : (quiet : Bool) → is_quiet store.writer store.desks ≡ quiet → TellsTable held.chains table (plan_read quiet plan) schema store.world
    tells_by true is = tells_with plan (what_is_there held.chains) le (coded_while_quiet held told is) (inl refl)
    tells_by false is = tells_with whole_index held.rows.said (omega arith) held.rows.coded (inr refl)

    pub tells_held : TellsTable held.chains table (plan_read (is_quiet store.writer store.desks) plan) schema store.world
    tells_held = tells_by (is_quiet store.writer store.desks) refl

  module _ (rows : List FoundRow) where
    abbrev only_rows : List (List Value)
    only_rows = map (λ (found : FoundRow). found.row) rows

    newest_by : (quiet : Bool) → AreRead held.chains table (plan_read quiet plan) schema store.world rows → (w : ℕ)
        → ((u : ℕ) → u ≢ w → own u store.world.past ≡ [])
        → AreNewestRows table plan store.world.past w only_rows
    newest_by true are w alone = inl (newest_seen held table plan are.readable.there w alone rows are.found are.rise)
    newest_by false are w alone = inr (newest_seen held table whole_index are.readable.there w alone rows are.found are.rise)

    pub are_newest : AreRead held.chains table (plan_read (is_quiet store.writer store.desks) plan) schema store.world rows → (w : ℕ)
        → ((u : ℕ) → u ≢ w → own u store.world.past ≡ []) → AreNewestRows table plan store.world.past w only_rows
    are_newest = newest_by (is_quiet store.writer store.desks)

module _ (chains : Chains) (s table : ℕ) (plan : Plan) (schema : Schema) where
  pub reading_begins : {state : WorldState} {search : RowSearch} → TellsTable chains table plan schema state → IsNewSearch table plan Newest search
      → IsReadingNewest chains s table plan schema state state search
  reading_begins {state} {search} tells new = record {
    readable = tells;
    moves = none_moves;
    scan = new.scan;
    finds = new_finding new tells.there tells.columns tells.which;
  }

  scan_on : {scan next : Scan} → IsSameScan scan next → IsScanOf table plan Newest scan → IsScanOf table plan Newest next
  scan_on same is = record {
    table_is = same.table ∙ is.table_is;
    which_is = same.which ∙ is.which_is;
    range_is = same.range ∙ is.range_is;
    sight_is = same.sight ∙ is.sight_is;
  }

  -- what was found, in the words of the plan
  in_plan : (scan : Scan) (rows : List FoundRow) → IsScanOf table plan Newest scan
      → AreFound schema scan.which (rows_seen scan.sight (in_table scan.table chains)) (lies_in schema scan) rows
      → AreFound schema plan.which (rows_seen Newest (in_table table chains)) (λ row. is_within plan.range (index_key schema plan.which row)) rows
  in_plan scan rows is are =
      subst (λ (s : Scan). AreFound schema s.which (rows_seen s.sight (in_table s.table chains)) (lies_in schema s) rows) (λ i. record scan
      { table = is.table_is i; which = is.which_is i; range = is.range_is i; sight = is.sight_is i }) are

  module _ (first : WorldState) where
    pub reading_steps : {state : WorldState} {search : RowSearch} → IsReadingNewest chains s table plan schema first state search → IsTold state
        → MayStep s schema state search
    reading_steps is told = may_step chains told (rows_on chains is.moves told (is.readable.said, is.readable.coded)) is.readable.short is.finds.searching

    shows_newest : {state : WorldState} {search : RowSearch} → IsReadingNewest chains s table plan schema first state search → IsTold state
        → ShowsRows schema search.scan state (in_table search.scan.table chains)
    shows_newest {state} {search} is told = by is.readable.tells where
      coded : AreRowsAs chains is.readable.said state
      coded = rows_left first state (moves_leave is.moves) chains is.readable.said told is.readable.coded

      by : (is.readable.said ≡ what_is_there chains) ⊎ (plan.which ≡ 0) → ShowsRows schema search.scan state (in_table search.scan.table chains)
      by (inl there) =
          shows_coded schema search.scan state chains told is.finds.searching.there is.readable.columns is.finds.searching.key
          (subst (λ (said : Said). AreRowsAs chains said state) there coded)
      by (inr clustered) =
          shows_clustered state chains is.readable.said told coded schema search.scan is.finds.searching.there is.readable.columns
          (is.scan.which_is ∙ clustered)

    pub reading_goes_on : {old new : WorldState} {search next : RowSearch} → IsReadingNewest chains s table plan schema first old search
        → GoesOn s schema old new search next → IsTold new → IsReadingNewest chains s table plan schema first new next
    reading_goes_on {old} {new} {search} {next} is goes told =
        let moves : MovesPlaces s old new = moves_in_one goes.moves in
        let on = goes_on s schema old new chains search next is.finds (shows_newest is (moves_told moves told)) goes told in
        record { readable = is.readable; moves = moves_then is.moves moves; scan = scan_on on.1 is.scan; finds = on.0 }

    pub reading_nears : {old new : WorldState} {search next : RowSearch} → IsReadingNewest chains s table plan schema first old search
        → GoesOn s schema old new search next → IsTold new → left_in s new next < left_in s old search
    reading_nears {old} {new} {search} {next} is goes told =
        let was : IsTold old = moves_told (moves_in_one goes.moves) told in
        nearer_in s old new search next (steps_nearer (shows_newest is was) is.finds.searching is.finds.finds goes was told)

    pub reading_waits : {old new : WorldState} {search same : RowSearch} {why : Move} → IsReadingNewest chains s table plan schema first old search
        → Waits s schema old new search same why → IsTold new → IsReadingNewest chains s table plan schema first new same
    reading_waits {old} {new} {search} {same} {why} is waits told =
        let moves : MovesPlaces s old new = moves_nothing waits.unchanged in
        let on = waits_on s schema old new chains search same why is.finds waits told in
        record { readable = is.readable; moves = moves_then is.moves moves; scan = scan_on on.1 is.scan; finds = on.0 }

    pub reading_ends : {old new : WorldState} {search : RowSearch} {rows : List FoundRow} → IsReadingNewest chains s table plan schema first old search → Ends s
        schema old new search rows → AreRead chains table plan schema first rows × MovesPlaces s first new
    reading_ends {old} {new} {search} {rows} is ends =
        let found = ends.found (in_table search.scan.table chains) is.finds.finds in (
          record { readable = is.readable; found = in_plan search.scan rows is.scan found.0; rise = found.1 },
          moves_then is.moves (leaving_moves s _ old new ends.leaves),
        )

-- ---- A step of a search that goes on leaves less before it.
