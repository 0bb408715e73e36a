-- Searches in held lists: what one needs that begins, what is held after each step, what callers see of it, and the newest rows
-- of a table, which are read at once.
use Rattle.row_search.specs.declared.sight.Sight.TheVariants as sights
use Rattle.shared_lists.specs.declared.answers.Reading.TheVariants as readings
use Rattle.store_api.specs.declared.stepped.Stepped.TheVariants as stepped
use Rattle.shared_lists.specs.Tasks as tasks
use Rattle.shared_lists.specs.declared.answers.Hindrance.{Hindrance as Wants}
use Rattle.shared_lists.specs.declared.answers.Hindrance.TheVariants as hindrances
use Rattle.std.proofs.Common.{◌≡◌, ◌≢◌, inl, inr, ℕ, ◌<◌, ◌==◌, true, false, not, List, map, length, get_or, Option, Some, None, slice_get, [], Result, Ok, Err}
use Rattle.std.proofs.Common.{refl, sym, ap, subst, ◌∙◌, arith, Bool, ⊎_elim}
use Rattle.std.proofs.{lemmas.Bool.Decides.eqb_tells, lemmas.Option.slice_get_within, lemmas.Option.get_or_from_slice_get}
use Rattle.std.specs.Prelude.{◌≤◌, is_some, IfSome, IfOk, if◌then◌else◌}
use Rattle.store_api.specs.declared.moves.Move.{Move}
use Rattle.store_api.specs.declared.moves.Move.TheVariants.{NoMemory}
use Rattle.law_held_steps.proofs.Hindering.{search_lacks}
use Rattle.entries.specs.Calls.{Leaves}
use Rattle.row_versions.specs.Chains.{Chains}
use Rattle.sql_plan.specs.declared.choice.Plan.{Plan}
use Rattle.shared_lists.specs.State.{State, Lists, Places, task_of, places_before, counted, Turns, Stays}
use Rattle.law_past_agreement.specs.Slots.{writer_without}
use Rattle.shared_lists.specs.{declared.answers.Reading.Reading, Answers.Searched, Steps.AreFoundBy, Steps.Searches, Steps.AreNewestRows}
use Rattle.desks.proofs.Showing.{task_is, places_are}
use Rattle.law_held_steps.specs.Begun.{ComesAnew, IsTakenUp, MayStep, IsSearchOf, plan_of}
use Rattle.law_held_steps.specs.{Begun.HasView, Begun.IsBegun, Begun.IsNewSearch, Leaving.MovesPlaces, Begun.plan_read, Begun.TellsTable, Begun.AreRead}
use Rattle.law_held_steps.proofs.Stepping.{has_view, begun, steps, went, nears, ended, waited, given_up, tells_held, are_newest}
use Rattle.law_held_steps.proofs.Showing.{turns_now, turns_to_search, search_shown, has_desk, searches_on, seen_stay}
use Rattle.law_held_steps.proofs.Places.{moves_in_one, leaving_moves, moves_then, held_idle}
use Rattle.law_held_steps.proofs.{Keeping.open_joined, AnyStep.doing_twice, AnyStep.doing_here}
use Rattle.world_lists.specs.Between.{IsKept}
use Rattle.read_view.specs.Sight.{Sight as ReadSight}
use Rattle.inno_types.specs.{Order.IsBelow, declared.value.Value.Value, declared.value.Schema.Schema}
use Rattle.inno_model.specs.{declared.event.Event.Event, Past.own, Past.view_of, Past.IsOpen}
use Rattle.law_past_agreement.specs.Order.{created}
use Rattle.world.specs.{State.WorldState, Told.IsTold, AtHand.IsAtHand, Indexes.Calls}
use Rattle.row_search.specs.Steps.{GoesOn, Waits, Ends, Searches as Steps}
use Rattle.row_search.specs.declared.search.{Hindrance.Hindrance, Hindrance.TheVariants.Call}
use Rattle.row_search.specs.{declared.found.FoundRow.FoundRow, declared.search.RowSearch.RowSearch, declared.sight.Sight.Sight}
use Rattle.desks.specs.{declared.desk.Desk.Desk, declared.desk.Doing.Doing, declared.desk.Doing.TheVariants.Nothing, declared.desk.Doing.TheVariants.Searching}
use Rattle.desks.specs.{declared.desk.TableSearch.TableSearch, Desks.desk_at, Desks.doing_at, Desks.with_doing, Desks.is_quiet, Desks.Store, Holding.IsHeld}
use Rattle.desks.specs.{Holding.IsOwnView, Holding.SightHolds, Shown.reading_of, Shown.lists_of, Undoing.left_in, Searching.places_in, Searching.places_of}
use Rattle.world_lists.proofs.Calls.{kept_on, kept_beside, moves_no_more, same_no_more, at_rest, at_desk, writer_now}

-- ---- who reads

-- The reader's sight is one that may be, and it is what was asked for.
abbrev ReadsBy : ℕ → Store → Reading → Sight → Type 0
ReadsBy s store reading sight = SightHolds store s sight × (reading_of sight ≡ reading)

reads_by : (s : ℕ) (store : Store) (reading : Reading) {sight : Sight}
    → (reading ≡ readings.View → (view : ReadSight) × (reader : ℕ) × (sight ≡ sights.View view reader) × IsOwnView store.world s view reader)
    → (reading ≡ readings.Newest → sight ≡ sights.Newest) → (reading ≡ readings.Newest → store.writer ≡ Some s) → ReadsBy s store reading sight
reads_by s store readings.View own newest mine = let is = own refl in subst (ReadsBy s store readings.View) (sym is.2) (is.3, refl)
reads_by s store readings.Newest own newest mine = subst (ReadsBy s store readings.Newest) (sym (newest refl)) (mine refl, refl)

-- ---- answers

nothing_changes : (s : ℕ) (state : State) → Stays s state state
nothing_changes s state = record { names_are = refl; past_is = refl; writer_is = refl; task_is = refl; others = λ t differs. refl }

without_it : (s : ℕ) (writer : Option ℕ) {other : ℕ} → writer_without writer s ≡ Some other → (writer ≡ Some other) × (other ≢ s)
without_it s None is = absurd (cc)
without_it s (Some w) {other} is =
    let who : Bool → Option ℕ = λ mine. if mine then None else Some w in
    ⊎_elim (λ mine. absurd (let none : None ≡ Some other = sym (ap who mine.0) ∙ is in cc))
    (λ differs. let one : Some w ≡ Some other = sym (ap who differs.0) ∙ is in
    (one, λ same. differs.1 (let writer_is : w ≡ other = cc in writer_is ∙ same))) (eqb_tells w s)

-- a call that was hindered
pub waits_by : {s : ℕ} {schema : Schema} {old new : WorldState} {search next : RowSearch} {hindrance : Hindrance} {why : Move} → hindrance ≡ Call why
    → Steps s schema old new search next (stepped.Hindered hindrance) → Waits s schema old new search next why
waits_by {s} {schema} {old} {new} {search} {next} is made =
    subst (λ (h : Hindrance). Steps s schema old new search next (stepped.Hindered h)) is made

-- over a store at hand it waits for memory alone
pub waits_for_memory : {s : ℕ} {schema : Schema} {old new : WorldState} {search same : RowSearch} {why : Move} → IsAtHand old → IsAtHand new
    → Waits s schema old new search same why → why ≡ NoMemory
waits_for_memory {s} {schema} {old} {new} {search} {same} {why} was now waits =
    search_lacks s old new was now search.scan search.phase why waits.cause

no_search : (on : TableSearch) → Nothing ≡ Searching on → ⊥
no_search on same = cc

one_search : (on by : TableSearch) → Searching on ≡ Searching by → by ≡ on
one_search on by same = cc

-- what stands at desks after the session's task was taken and another given
pub desks_given : (s : ℕ) (doing : Doing) (desks between after : List Desk) → between ≡ with_doing s Nothing desks → after ≡ with_doing s doing between
    → after ≡ with_doing s doing desks
desks_given s doing desks between after taken given = given ∙ (ap (with_doing s doing) taken ∙ doing_twice s Nothing doing desks)

-- what holds of the rows that were found holds of those that are answered
answered : {E : Type 0} (found : List (List Value)) (answer : Result (List (List Value)) E) (IsRight : List (List Value) → Type 0)
    → IfOk answer (λ rows. rows ≡ found) → IsRight found → IfOk answer IsRight
answered found (Ok rows) IsRight is right = subst IsRight (sym is) right
answered found (Err why) IsRight is right = record {}

-- what a search that is over answers, and what callers see of it
over_by : (table : ℕ) (plan : Plan) (reading : Reading) (s : ℕ) (old new : State) (rows : List (List Value)) (answer : Searched)
    → ((given : List (List Value)) → answer ≡ stepped.Done given → given ≡ rows) → answer ≢ stepped.Went
    → ((why : Wants) → answer ≡ stepped.Hindered why → why ≡ hindrances.NoMemory) → Turns s tasks.Idle old new
    → AreFoundBy reading table plan old.past s rows → Searches table plan reading s old new answer
over_by table plan reading s old new rows stepped.Went is over wants turns found = absurd (over refl)
over_by table plan reading s old new rows (stepped.Done given) is over wants turns found =
    (turns, subst (AreFoundBy reading table plan old.past s) (sym (is given refl)) found)
over_by table plan reading s old new rows (stepped.Hindered why) is over wants turns found = (wants why refl, turns)

found_as : (table : ℕ) (plan : Plan) (reading : Reading) (s : ℕ) (past : List Event) (rows : List (List Value)) (on : TableSearch) → IsSearchOf (Searching on)
    table plan reading → AreFoundBy (reading_of on.search.scan.sight) on.search.scan.table (plan_of on) past s rows → AreFoundBy reading table plan past s rows
found_as table plan reading s past rows on is found =
    let one : is.0 ≡ on = one_search on is.0 is.1 in
    let by : AreFoundBy (reading_of is.0.search.scan.sight) is.0.search.scan.table (plan_of is.0) past s rows
    = subst (λ (t : TableSearch). AreFoundBy (reading_of t.search.scan.sight) t.search.scan.table (plan_of t) past s rows) (sym one) found in
    subst (λ (r : Reading). AreFoundBy r table plan past s rows) (sym is.4) (subst (λ (p : Plan). AreFoundBy (reading_of is.0.search.scan.sight) table p past s
    rows) (sym is.3) (subst (λ (n : ℕ). AreFoundBy (reading_of is.0.search.scan.sight) n (plan_of is.0) past s rows) (sym is.2) by))

module _ (s : ℕ) {store : Store} {lists : Lists} (kept : IsKept store) (view : lists_of store ≡ lists) where
  abbrev old : WorldState
  old = store.world

  -- another session may write
  pub held_by : {other : ℕ} → writer_without store.writer s ≡ Some other → (lists.state.writer ≡ Some other) × (other ≢ s) × IsOpen other lists.state.past
      × (other < length lists.state.names) × Stays s lists.state lists.state
  held_by {other} is =
      let found = without_it s store.writer is in
      let opened = kept.held.owned.opened other found.0 in
      subst (λ (l : Lists). (l.state.writer ≡ Some other) × (other ≢ s) × IsOpen other l.state.past × (other < length l.state.names) × Stays s l.state l.state)
      view (found.0, found.1, opened, open_joined kept.held.agrees other opened, nothing_changes s (lists_of store).state)

  pub writer_within : IfSome store.writer (λ w. w < length store.desks)
  writer_within = by store.writer refl where
    by : (who : Option ℕ) → store.writer ≡ who → IfSome who (λ w. w < length store.desks)
    by None is = record {}
    by (Some w) is = omega (arith, open_joined kept.held.agrees w (kept.held.owned.opened w is), kept.held.count)

  pub view_there : IsOpen s lists.state.past → is_some (view_of s lists.state.past) ≡ true → HasView s old
  view_there is_open viewed =
      has_view s kept.held.agrees (subst (λ (l : Lists). IsOpen s l.state.past) (sym view) is_open)
      (subst (λ (l : Lists). is_some (view_of s l.state.past) ≡ true) (sym view) viewed)

  -- ---- a table that is there, and the copy of its schema

  module _ (table : ℕ) (plan : Plan)
      (there : (schema : Schema) × (slice_get (created lists.state.past) table ≡ Some schema) × (plan.which ≤ length schema.keys))
      {slice tables : List Schema} (slice_is : slice ≡ tables) (tables_are : tables ≡ old.schemas) where
    is_there : slice_get slice table ≡ Some there.0
    is_there =
        ap (λ (list : List Schema). slice_get list table)
        (slice_is ∙ tables_are ∙ kept.held.agrees.lists.tables ∙ ap (λ (l : Lists). created l.state.past) view) ∙ there.1

    pub table_within : table < length slice
    table_within = slice_get_within slice table there.0 is_there

    module _ {copy found : Schema} (copy_is : copy ≡ found) (found_is : found ≡ get_or slice table found) where
      same : copy ≡ there.0
      same = copy_is ∙ found_is ∙ get_or_from_slice_get slice table there.0 found is_there

      copied : slice_get old.schemas table ≡ Some copy
      copied = ap (λ (list : List Schema). slice_get list table) (sym (slice_is ∙ tables_are)) ∙ is_there ∙ ap (λ (schema : Schema). Some schema) (sym same)

      fits : plan.which ≤ length copy.keys
      fits = subst (λ (schema : Schema). plan.which ≤ length schema.keys) (sym same) there.2

      -- ---- a search that begins

      module _ (reading : Reading) {sight : Sight}
          (own_view : reading ≡ readings.View → (seen : ReadSight) × (reader : ℕ) × (sight ≡ sights.View seen reader) × IsOwnView old s seen reader)
          (newest : reading ≡ readings.Newest → sight ≡ sights.Newest) (locked : reading ≡ readings.Newest → lists.state.writer ≡ Some s)
          {search : RowSearch} (is_new : IsNewSearch table plan sight search) {after : List Desk}
          (at : after ≡ with_doing s (Searching (record { search = search; schema = copy; unique = plan.unique; cuts = store.cuts })) store.desks) where
        abbrev first : TableSearch
        first = record { search = search; schema = copy; unique = plan.unique; cuts = store.cuts }

        has_begun : IsBegun table plan sight copy store.cuts first
        has_begun = record { search = is_new; schema_is = refl; unique_is = refl; cuts_is = refl }

        reads : ReadsBy s store reading sight
        reads = reads_by s store reading own_view newest (λ as_newest. writer_now s kept view (locked as_newest))

        pub begun_kept : task_of s lists.state ≡ tasks.Idle → IsTold old → IsKept (record store { desks = after })
        begun_kept idle told =
            let idles = at_rest s kept view idle in
            kept_beside kept (same_no_more old) s (Searching first) at
            (begun s kept.held told idles copied fits reads.0 has_begun)

        pub begun_seen : s < length lists.state.names
            → Turns s (tasks.Searching table plan reading) lists.state (lists_of (record store { desks = after })).state
        begun_seen joined =
            let now : List Desk → State = λ desks. (lists_of (record store { desks = desks })).state in
            subst (λ (l : Lists). Turns s (tasks.Searching table plan reading) l.state (now after)) view
            (subst (λ (r : Reading). Turns s (tasks.Searching table plan r) (now store.desks) (now after)) reads.1
            (subst (λ (d : List Desk). Turns s (tasks.Searching table plan (reading_of sight)) (now store.desks) (now d)) (sym at)
            (turns_to_search s store (at_desk s kept view joined) has_begun)))

      -- ---- the newest rows, read at once

      module _ (told : IsTold old) {by : Plan} (by_is : by ≡ plan_read (is_quiet store.writer store.desks) plan) where
        tells : TellsTable kept.held.chains table by copy old
        tells = subst (λ (p : Plan). TellsTable kept.held.chains table p copy old) (sym by_is) (tells_held table plan copy kept.held told copied fits)

        pub tells_now : (chains : Chains) × TellsTable chains table by copy old
        tells_now = (kept.held.chains, tells)

        read_now : {rows : List FoundRow} → ((chains : Chains) → TellsTable chains table by copy old → AreRead chains table by copy old rows) → (w : ℕ)
            → ((u : ℕ) → u ≢ w → own u lists.state.past ≡ []) → AreNewestRows table plan lists.state.past w (map (λ (found : FoundRow). found.row) rows)
        read_now {rows} read =
            subst (λ (l : Lists). (w : ℕ) → ((u : ℕ) → u ≢ w → own u l.state.past ≡ []) → AreNewestRows table plan l.state.past w
            (map (λ (found : FoundRow). found.row) rows)) view (are_newest table plan copy kept.held rows (subst (λ (p : Plan). AreRead kept.held.chains table p
            copy old rows) by_is (read kept.held.chains tells)))

        pub read_answered : {E : Type 0} (answer : Result (List (List Value)) E) {rows : List FoundRow} → ((chains : Chains) → TellsTable chains table by copy
            old → AreRead chains table by copy old rows) → IfOk answer (λ given. given ≡ map (λ (found : FoundRow). found.row) rows) → IfOk answer
            (λ given. (w : ℕ) → ((u : ℕ) → u ≢ w → own u lists.state.past ≡ []) → AreNewestRows table plan lists.state.past w given)
        read_answered answer {rows} read is =
            answered (map (λ (found : FoundRow). found.row) rows) answer
            (λ given. (w : ℕ) → ((u : ℕ) → u ≢ w → own u lists.state.past ≡ []) → AreNewestRows table plan lists.state.past w given) is (read_now read)

  module _ (idle : task_of s lists.state ≡ tasks.Idle) {new : WorldState} (moves : MovesPlaces s old new) (told : IsTold new) where
    pub nothing_kept : IsKept (record store { world = new })
    nothing_kept = kept_on kept (moves_no_more s old new moves) (held_idle kept.held (at_rest s kept view idle) moves told)

    pub nothing_seen : Stays s lists.state (lists_of (record store { world = new })).state
    nothing_seen =
        subst (λ (l : Lists). Stays s lists.state l.state) (sym (seen_stay store moves told (λ on is. no_search on
        (sym (at_rest s kept view idle) ∙ is)) ∙ view)) (nothing_changes s lists.state)

  -- ---- a search under way

  abbrev now_in : WorldState → List Desk → State
  now_in state at = (lists_of (record store { world = state; desks = at })).state

  module _ {on : TableSearch} (was : Searching on ≡ doing_at s store.desks) where
    is : doing_at s store.desks ≡ Searching on
    is = sym was

    kept_now : {new : WorldState} {after : List Desk} (doing : Doing) → after ≡ with_doing s doing store.desks → MovesPlaces s old new
        → IsHeld (record store { world = new; desks = with_doing s doing store.desks }) → IsKept (record store { world = new; desks = after })
    kept_now {new} doing at moves =
        kept_beside kept (moves_no_more s old new moves) s doing at

    -- it is over, or given up
    turns_idle : {new : WorldState} {after : List Desk} → after ≡ with_doing s Nothing store.desks → MovesPlaces s old new → IsTold new
        → Turns s tasks.Idle lists.state (now_in new after)
    turns_idle {new} {after} at moves told =
        subst (λ (l : Lists). Turns s tasks.Idle l.state (now_in new after)) view (subst (λ (d : List Desk). Turns s tasks.Idle (lists_of store).state
        (now_in new d)) (sym at) (turns_now store moves told Nothing refl (has_desk s store.desks is)))

    search_of : (table : ℕ) (plan : Plan) (reading : Reading) → task_of s lists.state ≡ tasks.Searching table plan reading
        → IsSearchOf (Searching on) table plan reading
    search_of table plan reading task =
        subst (λ (d : Doing). IsSearchOf d table plan reading) is (search_shown (left_in old (desk_at s store.desks)) old.schemas (doing_at s store.desks)
        (sym (task_is s store) ∙ (ap (λ (l : Lists). task_of s l.state) view ∙ task)))

    -- it may come to its pair anew
    module _ {search : RowSearch} (as_it_was : not (on.cuts == store.cuts) ≡ false → search ≡ on.search)
        (comes : not (on.cuts == store.cuts) ≡ true → ComesAnew on.search search) where
      taken_up : IsTakenUp store.cuts on search
      taken_up = elim (eqb_tells on.cuts store.cuts) [
        | inl same ↦ inl (same.1, as_it_was (ap not same.0))
        | inr differs ↦ inr (differs.1, comes (ap not differs.0))
      ]

      pub may_step_now : IsTold old → MayStep s on.schema old search
      may_step_now told = steps s kept.held is search taken_up told

      module _ {new : WorldState} (told : IsTold new) where
        module _ {next : RowSearch} (goes : GoesOn s on.schema old new search next) {between after : List Desk}
            (takes : between ≡ with_doing s Nothing store.desks)
            (gives : after ≡ with_doing s (Searching (record on { search = next; cuts = store.cuts })) between) where
          abbrev on_now : TableSearch
          on_now = record on { search = next; cuts = store.cuts }

          at : after ≡ with_doing s (Searching on_now) store.desks
          at = desks_given s (Searching on_now) store.desks between after takes gives

          pub went_kept : IsKept (record store { world = new; desks = after })
          went_kept = kept_now (Searching on_now) at (moves_in_one goes.moves) (went s kept.held is search taken_up told goes).0

          pub went_seen : Turns s (task_of s lists.state) lists.state (now_in new after)
          went_seen =
              let goes_on = went s kept.held is search taken_up told goes in
              subst (λ (l : Lists). Turns s (task_of s l.state) l.state (now_in new after)) view
              (subst (λ (d : List Desk). Turns s (task_of s (lists_of store).state) (lists_of store).state (now_in new d)) (sym at)
              (searches_on s store store.cuts next is goes_on.1 goes_on.2 told))

          pub went_nears : IsBelow (counted (places_before s (now_in new after))) (counted (places_before s lists.state))
          went_nears =
              let made : Store = record store { world = new; desks = with_doing s (Searching on_now) store.desks } in
              let before : places_before s lists.state ≡ places_in s old on = ap (λ (l : Lists). places_before s l.state) (sym view)
              ∙ (places_are s store ∙ ap (places_of s old) is) in
              let now : places_before s (now_in new after) ≡ places_in s new on_now
              = ap (λ (d : List Desk). places_before s (now_in new d)) at ∙ (places_are s made ∙ ap (places_of s new)
              (doing_here s (Searching on_now) store.desks (has_desk s store.desks is))) in
              subst (λ (p : Places). IsBelow (counted (places_before s (now_in new after))) (counted p)) (sym before) (subst (λ (p : Places). IsBelow
              (counted p) (counted (places_in s old on))) (sym now) (nears s kept.held is search taken_up told goes))

        module _ {after : List Desk} (at : after ≡ with_doing s Nothing store.desks) where
          module _ {found : List FoundRow} (ends : Ends s on.schema old new search found) where
            pub ended_kept : IsKept (record store { world = new; desks = after })
            ended_kept = kept_now Nothing at (leaving_moves s _ old new ends.leaves) (ended s kept.held is search taken_up told ends).0

            pub ended_seen : {answer : Searched} → ((rows : List (List Value)) → answer ≡ stepped.Done rows → rows ≡ map (λ (f : FoundRow). f.row) found)
                → answer ≢ stepped.Went → ((why : Wants) → answer ≡ stepped.Hindered why → why ≡ hindrances.NoMemory)
                → (table : ℕ) (plan : Plan) (reading : Reading) → task_of s lists.state ≡ tasks.Searching table plan reading → Searches
                table plan reading s lists.state (now_in new after) answer
            ended_seen {answer} rows over wants table plan reading task =
                let on_end = ended s kept.held is search taken_up told ends in
                over_by table plan reading s lists.state (now_in new after) (map (λ (f : FoundRow). f.row) found) answer rows over wants
                (turns_idle at on_end.1 told)
                (found_as table plan reading s lists.state.past (map (λ (f : FoundRow). f.row) found) on (search_of table plan reading task)
                (subst (λ (l : Lists). AreFoundBy (reading_of on.search.scan.sight) on.search.scan.table (plan_of on) l.state.past s
                (map (λ (f : FoundRow). f.row) found)) view on_end.2))

          -- it was hindered, and is given up
          module _ {stuck : RowSearch} {why : Move} (waits : Waits s on.schema old new search stuck why) {index : ℕ} {later : WorldState}
              (leaves : Calls index (Leaves s) new later) (told_later : IsTold later) where
            moves : MovesPlaces s old new
            moves = (waited s kept.held is search taken_up told waits).1

            pub hindered_kept : IsKept (record store { world = later; desks = after })
            hindered_kept = kept_now Nothing at (moves_then moves (leaving_moves s index new later leaves)) (given_up s kept.held is moves leaves told_later).0

            pub hindered_seen : Turns s tasks.Idle lists.state (now_in later after)
            hindered_seen = turns_idle at (given_up s kept.held is moves leaves told_later).1 told_later
