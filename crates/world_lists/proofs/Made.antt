-- What a call has made of the lists that it found: what holds of them still, and what callers see.
use Rattle.std.proofs.Common.{◌≡◌, ℕ, ◌+◌, ◌<◌, ◌^◌, true, false, Option, Some, None, List, ◌∷◌, ◌++◌, length, refl, sym, ap, subst, ◌∙◌, arith, [], ◌-◌, inl}
use Rattle.std.proofs.Common.{◌≢◌, inr}
use Rattle.std.proofs.{lemmas.List.length-map, lemmas.List.length-set, lemmas.List.set-get_or, lemmas.Bool.Decides.eqb_tells}
use Rattle.std.specs.Prelude.{Result, Ok, Err, OnOk, OnErr, is_ok, if◌then◌else◌, slice_set, slice_index_or, slice_get}
use Rattle.inno_model.specs.declared.event.Event.TheVariants.{Started, Ended, View, Committed, Acked, RolledBack, Signal, Begin, Changed}
use Rattle.inno_model.specs.{Past.own, Past.txn, Past.started, Past.under_way, Past.IsOpen, Past.begins, Past.IsClosed, declared.event.Event.Event}
use Rattle.sql_history.specs.{Settings.Setting, Settings.at_first, Settings.at_end, Settings.set_by, Settings.saved, Settings.at_begin, Counts.rows_of_reply}
use Rattle.txn_table.specs.Txns.{ids_of, Txns, is_there, id_at}
use Rattle.world.specs.State.{WorldState, Session, Work, IsSession, HasWork, standing_of, id_of}
use Rattle.inno_db.specs.Indexes.{index_of}
use Rattle.world.specs.Sessions.{change_txn, with_save, view_added, begun, with_room, fresh_work, begin_added, identified}
use Rattle.world.specs.EngineCalls.{joined as with_joined, item_started, item_ended, acknowledged, signalled, with_setting, MakesTable}
use Rattle.world.specs.{Told.IsTold, Endings.IsCommitted, Endings.IsRolledBack}
use Rattle.law_world_agreement.specs.Steps.{viewed, opened, session_begun, IsChangedBy}
use Rattle.shared_lists.specs.{State.Lists, State.task_of, State.IsNow, State.Stays, State.Adds, Tasks.Idle}
use Rattle.law_past_agreement.specs.Slots.{writer_without}
use Rattle.law_held_steps.proofs.Items.{joined_held, started_held, ended_held, acked_held, signal_held, unentered_held, txn_here, txn_elsewhere, viewed_held}
use Rattle.law_held_steps.proofs.Items.{saved_held, committed_held, rolled_back_held, opened_held, created_held}
use Rattle.law_held_steps.proofs.{Showing.tasks_same, Showing.now_of, Showing.settings_by, Showing.settings_same, Showing.settings_now, AnyStep.some_same}
use Rattle.world_lists.proofs.Calls.{kept_on, kept_closed, no_more_in, past_here, joined_here, its_session, its_work, its_listed, its_txn}
use Rattle.world_lists.proofs.Calls.{its_own, at_rest, start_leaves, new_leaves, closed_none, writer_now}
use Rattle.desks.specs.Desks.{desk_at, with_start, IsNewDesk, Store, doing_at, is_quiet_doing}
use Rattle.desks.specs.declared.desk.Doing.TheVariants.{Nothing, Searching, Changing, Lagging, Undoing}
use Rattle.desks.specs.{Shown.lists_of, Shown.shown, Shown.task_at, declared.desk.Desk.Desk, Holding.IsHeld, Undoing.left_in, declared.desk.Doing.Doing}
use Rattle.row_changes.specs.{Records.IsListed, Records.id_for, Records.txns_with_id, Entering.GivesId}
use Rattle.law_past_agreement.specs.Order.{MayCome}
use Rattle.store_api.specs.declared.answers.Standing.{Standing}
use Rattle.law_held_steps.specs.Making.{settings_of}
use Rattle.world_lists.specs.Between.{IsKept}
use Rattle.inno_types.specs.{declared.lock.Level.Level, declared.reply.Item.Item, declared.reply.Reply.Reply, declared.stmt.Stmt.Stmt}
use Rattle.inno_types.specs.{declared.value.Schema.Schema}
use Rattle.inno_model.proofs.Commits.{begins_few}
use Rattle.law_world_agreement.proofs.Opening.{set_here, set_other}
use Rattle.inno_db.specs.declared.change.Change.TheVariants.{Create}
use Rattle.law_stored_rows.specs.Storable.{IsStorable}
use Rattle.row_changes.proofs.Ids.{gives_new_id, keeps_id}
use Rattle.entries.specs.Index.{Index}
use Rattle.desks.proofs.Showing.{task_is}

-- what follows from the answer either way
pub by_result : {T E : Type 0} {P Q R : Type 0} (result : Result T E) → OnOk result P → OnErr result Q → (P → R) → (Q → R) → R
by_result (Ok x) ok err done failed = done ok
by_result (Err e) ok err done failed = failed err

pub when_ok : {T E : Type 0} {P R : Type 0} (result : Result T E) → OnOk result P → (P → R) → OnOk result R
when_ok (Ok x) ok done = done ok
when_ok (Err e) ok done = tt

pub on_err : {T E : Type 0} {P : Type 0} (result : Result T E) → P → OnErr result P
on_err (Ok x) holds = tt
on_err (Err e) holds = holds

pub of_ok : {T E : Type 0} {P : Type 0} (result : Result T E) (value : T) → result ≡ Ok value → OnOk result P → P
of_ok (Ok x) value is holds = holds
of_ok (Err e) value is holds = absurd (cc)

pub pushed : {T E : Type 0} (result : Result T E) (desk : Desk) {value : T} {items before desks : List Desk} → result ≡ Ok value
    → items ≡ (if is_ok result then before ++ desk ∷ [] else before) → before ≡ desks → items ≡ desks ++ desk ∷ []
pushed (Ok x) desk is items_are same = items_are ∙ ap (λ (xs : List Desk). xs ++ desk ∷ []) same
pushed (Err e) desk is items_are same = absurd (cc)

-- What callers see of a call of the session: of the past, of who may write, of what sessions have set and of rows it has made these.
pub record Shows (s : ℕ) (past : List Event → List Event) (later : Option ℕ → Option ℕ) (set : List Setting → List Setting) (count : ℕ → ℕ)
    (old new : Lists) : Type 0 where
  pub state : IsNow (past old.state.past) s (task_of s old.state) (later old.state.writer) old.state new.state
  pub settings : new.settings ≡ set old.settings
  pub rows : new.rows ≡ count old.rows

-- one entry more, and nothing else
abbrev pub Enters : Event → ℕ → Lists → Lists → Type 0
Enters e s old new = Shows s (λ h. e ∷ h) (λ w. w) (λ x. x) (λ n. n) old new

-- the session has set something
abbrev sets : ℕ → (Setting → Setting) → List Setting → List Setting
sets s f settings = slice_set settings s (f (slice_index_or settings s at_first))

module _ (s : ℕ) {store : Store} {lists : Lists} (kept : IsKept store) (view : lists_of store ≡ lists) where
  abbrev old : WorldState
  old = store.world

  -- the store with another world
  abbrev in_world : WorldState → Store
  in_world new = record store { world = new }

  -- ---- what holds still

  pub kept_as : {new target : WorldState} → new ≡ target → target.indexes ≡ old.indexes → target.schemas ≡ old.schemas → IsHeld (in_world target)
      → IsKept (in_world new)
  kept_as {new} {target} is indexes schemas held =
      kept_on kept (no_more_in old new target is indexes) (subst (λ (w : WorldState). IsHeld (in_world w)) (sym is) held)

  pub few_by : (e : Event) {new target : WorldState} → new ≡ target → target.past ≡ e ∷ old.past → length new.past < 2 ^ 63 → length old.past + 1 < 2 ^ 63
  few_by e is past few = omega (arith, few, ap length (ap (λ (w : WorldState). w.past) is ∙ past))

  -- ---- what callers see

  shows_as : (past : List Event → List Event) (later : Option ℕ → Option ℕ) (set : List Setting → List Setting) (count : ℕ → ℕ) (now : Store)
      {target : WorldState} → now.world ≡ target → target.names ≡ old.names → target.past ≡ past old.past → target.schemas ≡ old.schemas
      → target.versions ≡ old.versions → ((u : ℕ) → task_at old (desk_at u now.desks) ≡ task_at old (desk_at u store.desks))
      → now.writer ≡ later store.writer → settings_of target.sessions ≡ set (settings_of old.sessions) → target.rows ≡ count old.rows
      → Shows s past later set count lists (lists_of now)
  shows_as past later set count now is names past_is schemas versions tasks writes set_is rows =
      subst (λ (l : Lists). Shows s past later set count l (lists_of now)) view (record {
        state = subst (λ (w : Option ℕ). IsNow (past old.past) s (task_of s (lists_of store).state) w (lists_of store).state (lists_of now).state) writes
            (now_of s store now (past old.past) (ap (λ (w : WorldState). w.names) is ∙ names) (ap (λ (w : WorldState). w.past) is ∙ past_is)
            (ap (λ (w : WorldState). w.schemas) is ∙ schemas) (ap (λ (w : WorldState). w.versions) is ∙ versions) tasks);
        settings = ap (λ (w : WorldState). settings_of w.sessions) is ∙ set_is;
        rows = ap (λ (w : WorldState). w.rows) is ∙ rows;
      })

  pub enters : (e : Event) {new target : WorldState} → new ≡ target → target.names ≡ old.names → target.past ≡ e ∷ old.past → target.schemas ≡ old.schemas
      → target.versions ≡ old.versions → settings_of target.sessions ≡ settings_of old.sessions → target.rows ≡ old.rows
      → Enters e s lists (lists_of (in_world new))
  enters e {new} is names past schemas versions =
      shows_as (λ h. e ∷ h) (λ w. w) (λ x. x) (λ n. n) (in_world new) is names past schemas versions (λ u. refl) refl

  -- a setting alone
  shows_set : (set : List Setting → List Setting) {new target : WorldState} → new ≡ target → target.names ≡ old.names → target.past ≡ old.past
      → target.schemas ≡ old.schemas → target.versions ≡ old.versions → settings_of target.sessions ≡ set (settings_of old.sessions) → target.rows ≡ old.rows
      → Shows s (λ h. h) (λ w. w) set (λ n. n) lists (lists_of (in_world new))
  shows_set set {new} is names past schemas versions =
      shows_as (λ h. h) (λ w. w) set (λ n. n) (in_world new) is names past schemas versions (λ u. refl) refl

  pub stays_same : {new : WorldState} → new ≡ old → Stays s lists.state (lists_of (in_world new)).state
  stays_same is = (shows_set (λ x. x) is refl refl refl refl refl refl).state

  -- its transaction has ended
  pub closes : (e : Event) {later : Option ℕ} → later ≡ writer_without store.writer s → {new target : WorldState} → new ≡ target → target.names ≡ old.names
      → target.past ≡ e ∷ old.past → target.schemas ≡ old.schemas → target.versions ≡ old.versions
      → settings_of target.sessions ≡ sets s at_end (settings_of old.sessions) → target.rows ≡ old.rows
      → Shows s (λ h. e ∷ h) (λ w. writer_without w s) (sets s at_end) (λ n. n) lists (lists_of (record store { world = new; writer = later }))
  closes e {later} later_is {new} is names past schemas versions =
      shows_as (λ h. e ∷ h) (λ w. writer_without w s) (sets s at_end) (λ n. n) (record store { world = new; writer = later }) is names past schemas versions
      (λ u. refl) later_is

  -- ---- another session

  module _ {desk : Desk} (fresh : IsNewDesk desk) {now : List Desk} (now_is : now ≡ store.desks ++ desk ∷ []) (name : List ℕ) {new : WorldState}
      (made : new ≡ with_joined name old) where
    pub joined_kept : IsTold old → length old.names < 68 → IsKept (record store { world = new; desks = now })
    joined_kept told few =
        kept_on kept (no_more_in old new (with_joined name old) made refl)
        (subst (λ (w : WorldState). IsHeld (record store { world = w; desks = now })) (sym made) (subst (λ (ds : List Desk). IsHeld (record store
        { world = with_joined name old; desks = ds })) (sym now_is) (joined_held kept.held told name few fresh)))

    pub joined_tasks : (u : ℕ) → task_of u (lists_of (record store { world = new; desks = now })).state ≡ task_of u lists.state
    joined_tasks u =
        tasks_same store (record store { world = new; desks = now }) (ap (λ (w : WorldState). w.schemas) made) (ap (λ (w : WorldState). w.versions) made)
        (λ t. ap (λ (ds : List Desk). task_at old (desk_at t ds)) now_is
        ∙ new_leaves (task_at old) desk (ap (shown old.schemas (left_in old (Some desk))) fresh.doing_is) t store.desks) u
        ∙ ap (λ (l : Lists). task_of u l.state) view

  module _ (joined : s < length lists.state.names) where
    abbrev mine : Session
    mine = (its_session s kept view joined).0

    its : IsSession s mine old
    its = (its_session s kept view joined).1

    -- ---- an acknowledgement

    module _ (moment : ℕ) {new : WorldState} (made : (session : Session) → IsSession s session old → new ≡ acknowledged s moment session old) where
      pub acked_kept : task_of s lists.state ≡ Idle → IsTold old → MayCome lists.state.past (Acked s moment) → length new.past < 2 ^ 63
          → IsKept (in_world new)
      acked_kept idle told may few =
          kept_as (made mine its) refl refl (acked_held kept.held s (at_rest s kept view idle) told mine its moment (joined_here s kept view joined)
          (past_here s kept view (λ h. MayCome h (Acked s moment)) may) (few_by (Acked s moment) (made mine its) refl few))

      pub acked_shown : Enters (Acked s moment) s lists (lists_of (in_world new))
      acked_shown =
          enters (Acked s moment) (made mine its) refl refl refl refl (settings_same old.sessions s (record mine { can_ack = false }) its refl) refl

    -- ---- a signal

    module _ (name : List ℕ) {new : WorldState} (made : new ≡ signalled name old) where
      pub signal_kept : task_of s lists.state ≡ Idle → IsTold old → length new.past < 2 ^ 63 → IsKept (in_world new)
      signal_kept idle told few =
          kept_as made refl refl (signal_held kept.held s (at_rest s kept view idle) told mine its name (joined_here s kept view joined) (few_by (Signal name)
          made refl few))

    -- ---- the end of an item

    module _ (count : ℕ) (count_is : count ≡ started s lists.state.past) (reply : Reply) {new : WorldState}
        (made : (session : Session) → IsSession s session old → new ≡ item_ended s count reply session old) where
      ended_is : new ≡ item_ended s (started s lists.state.past) reply mine old
      ended_is = made mine its ∙ ap (λ n. item_ended s n reply mine old) count_is

      pub ended_kept : task_of s lists.state ≡ Idle → IsTold old → MayCome lists.state.past (Ended s (started s lists.state.past) reply)
          → length new.past < 2 ^ 63 → IsKept (in_world new)
      ended_kept idle told may few =
          let count = started s lists.state.past in
          kept_as ended_is refl refl (ended_held kept.held s (at_rest s kept view idle) told mine its count reply (old.rows + rows_of_reply reply)
          (joined_here s kept view joined) (past_here s kept view (λ h. MayCome h (Ended s count reply)) may) (few_by (Ended s count reply) ended_is refl few))

      pub ended_shown : Shows s (λ h. Ended s (started s lists.state.past) reply ∷ h) (λ w. w) (λ x. x) (λ n. n + rows_of_reply reply) lists
          (lists_of (in_world new))
      ended_shown =
          shows_as (λ h. Ended s (started s lists.state.past) reply ∷ h) (λ w. w) (λ x. x) (λ n. n + rows_of_reply reply) (in_world new) ended_is refl refl
          refl refl (λ u. refl) refl (settings_same old.sessions s (record mine { can_reply = false }) its refl) refl

    -- ---- the start of one

    module _ (count : ℕ) (count_is : count ≡ started s lists.state.past + 1) (item : Item) {new : WorldState}
        (made : (session : Session) → IsSession s session old → new ≡ item_started s count item session old) where
      started_is : new ≡ item_started s (started s lists.state.past + 1) item mine old
      started_is = made mine its ∙ ap (λ n. item_started s n item mine old) count_is

      module _ {now : List Desk} (now_is : now ≡ with_start s store.desks) where
        pub started_kept : task_of s lists.state ≡ Idle → IsTold old → under_way s lists.state.past ≡ None → length new.past < 2 ^ 63
            → IsKept (record store { world = new; desks = now })
        started_kept idle told none few =
            let j = started s lists.state.past + 1 in
            kept_on kept (no_more_in old new (item_started s j item mine old) started_is refl)
            (subst (λ (ds : List Desk). IsHeld (record store { world = new; desks = ds })) (sym now_is) (subst (λ (w : WorldState). IsHeld (record store
            { world = w; desks = with_start s store.desks })) (sym started_is) (started_held kept.held s (at_rest s kept view idle) told mine its j item
            (joined_here s kept view joined) (past_here s kept view (λ h. under_way s h ≡ None) none)
            (past_here s kept view (λ h. j ≡ started s h + 1) refl) (few_by (Started s j item) started_is refl few))))

        pub started_shown : Shows s (λ h. Started s (started s lists.state.past + 1) item ∷ h) (λ w. w) (λ x. x) (λ n. n) lists
            (lists_of (record store { world = new; desks = now }))
        started_shown =
            shows_as (λ h. Started s (started s lists.state.past + 1) item ∷ h) (λ w. w) (λ x. x) (λ n. n) (record store { world = new; desks = now })
            started_is refl refl refl refl
            (λ u. ap (λ (ds : List Desk). task_at old (desk_at u ds)) now_is ∙ start_leaves (task_at old) (λ desk. refl) s u store.desks) refl
            (settings_same old.sessions s (record mine { can_reply = true }) its refl) refl

    -- ---- what a session sets

    module _ (stmt : Stmt) {new : WorldState} (made : (session : Session) → IsSession s session old → new ≡ with_setting s stmt session old) where
      abbrev after : Session
      after = record mine { setting = set_by stmt 0 false mine.setting }

      pub set_kept : task_of s lists.state ≡ Idle → IsTold old → IsKept (in_world new)
      set_kept idle told = kept_as (made mine its) refl refl (unentered_held kept.held s (at_rest s kept view idle) told mine its after refl refl refl)

      pub set_shown : Shows s (λ h. h) (λ w. w) (sets s (set_by stmt 0 false)) (λ n. n) lists (lists_of (in_world new))
      set_shown =
          shows_set (sets s (set_by stmt 0 false)) (made mine its) refl refl refl refl (settings_now old.sessions s after (set_by stmt 0 false) its refl) refl

    module _ (is_open : IsOpen s lists.state.past) where
      abbrev holder : Session
      holder = (its_work s kept view joined is_open).0

      abbrev work : Work
      work = (its_work s kept view joined is_open).1

      has : HasWork s holder work old
      has = (its_work s kept view joined is_open).2

      -- ---- a view

      module _ {active : List ℕ} (active_is : active ≡ ids_of old.txns.open_txns) {next : ℕ} (next_is : next ≡ old.txns.next) {new : WorldState}
          (made : (session : Session) (work : Work) → HasWork s session work old → new ≡ view_added s active next session work old) where
        viewed_is : new ≡ viewed s holder work old
        viewed_is =
            made holder work has ∙ ap (λ (a : List ℕ). view_added s a next holder work old) active_is
            ∙ ap (λ n. view_added s (ids_of old.txns.open_txns) n holder work old) next_is

        pub viewed_kept : task_of s lists.state ≡ Idle → IsTold old → length new.past < 2 ^ 63 → IsKept (in_world new)
        viewed_kept idle told few =
            kept_as viewed_is refl refl (viewed_held kept.held s (at_rest s kept view idle) told holder has.session_is work has.work_is (few_by (View s)
            viewed_is refl few))

        pub viewed_shown : Enters (View s) s lists (lists_of (in_world new))
        viewed_shown =
            let after : Session = record holder
            { work = Some (record work { view = Some (record { active = ids_of old.txns.open_txns; next = old.txns.next }) }) } in
            enters (View s) viewed_is refl refl refl refl (settings_same old.sessions s after has.session_is refl) refl

      -- ---- a savepoint, unless there was no memory for it

      module _ (name : List ℕ) where
        abbrev saves : Setting → Setting
        saves setting = record setting { saves = saved name (length (own s lists.state.past)) true setting.saves }

        abbrev target : WorldState
        target = with_save work.txn name (length (own s lists.state.past)) old

        module _ {number : ℕ} (number_is : number ≡ txn s lists.state.past) {read : Standing}
            (read_is : (session : Session) → IsSession s session old → read ≡ standing_of session) (new : WorldState) where
          saved_is : new ≡ with_save number name read.own old → new ≡ target
          saved_is done =
              done ∙ ap (λ n. with_save n name read.own old) (number_is ∙ its_txn s kept view has)
              ∙ ap (λ n. with_save work.txn name n old) (ap (λ (t : Standing). t.own) (read_is holder has.session_is) ∙ its_own s kept view has.session_is)

          saved_shown : new ≡ with_save number name read.own old → Shows s (λ h. h) (λ w. w) (sets s saves) (λ n. n) lists (lists_of (in_world new))
          saved_shown done =
              let change : Session → Session = λ x. record x { setting = saves x.setting } in
              shows_set (sets s saves) (saved_is done) refl refl refl refl (settings_by old.sessions (change_txn work.txn change old.sessions) s saves
              (length-map old.sessions _) has.session_is (txn_here s work.txn holder work change old.sessions has.session_is has.work_is refl) refl (λ u differ.
              txn_elsewhere work.txn u change old.sessions (λ x other there theirs is. differ ((its_listed s kept view has).alone u x other
              (record { session_is = there; work_is = theirs }) is)))) refl

          pub saved_reset : new ≡ with_save number name read.own old → settings_of new.sessions ≡ sets s saves lists.settings
          saved_reset done = (saved_shown done).settings

          module _ {T E : Type 0} (result : Result T E) (ok : OnOk result (new ≡ with_save number name read.own old)) (err : OnErr result (new ≡ old)) where
            pub saved_kept : task_of s lists.state ≡ Idle → IsTold old → IsKept (in_world new)
            saved_kept idle told =
                by_result result ok err (λ done. kept_as (saved_is done) refl refl (saved_held kept.held s (at_rest s kept view idle) told holder has.session_is
                work has.work_is name (length (own s lists.state.past)))) (λ failed. kept_as failed refl refl kept.held)

            pub saved_stays : Stays s lists.state (lists_of (in_world new)).state
            saved_stays = by_result result ok err (λ done. (saved_shown done).state) stays_same

  -- ---- the end of a transaction

  module _ {later : Option ℕ} (later_is : later ≡ writer_without store.writer s) {new : WorldState} where
    module _ (idle : task_of s lists.state ≡ Idle) (told : IsTold old) (few : length new.past < 2 ^ 63) where
      closed : {target : WorldState} → new ≡ target → target.indexes ≡ old.indexes → target.schemas ≡ old.schemas
          → IsHeld (record store { world = new; writer = writer_without store.writer s }) → IsKept (record store { world = new; writer = later })
      closed {target} is indexes schemas =
          kept_closed kept (no_more_in old new target is indexes) s later_is

      pub committed_kept : IsCommitted s old new → IsKept (record store { world = new; writer = later })
      committed_kept ends =
          closed ends.rest refl refl (committed_held kept.held s (at_rest s kept view idle) told (few_by (Committed s) ends.rest refl few) ends)

      pub rolled_back_kept : own s lists.state.past ≡ [] → IsRolledBack s old new → IsKept (record store { world = new; writer = later })
      rolled_back_kept none ends =
          closed ends.rest refl refl (rolled_back_held kept.held s (at_rest s kept view idle) told (few_by (RolledBack s) ends.rest refl few)
          (past_here s kept view (λ h. own s h ≡ []) none) ends)

    -- its session has the settings that come back at the end
    pub committed_shown : IsCommitted s old new
        → Shows s (λ h. Committed s ∷ h) (λ w. writer_without w s) (sets s at_end) (λ n. n) lists (lists_of (record store { world = new; writer = later }))
    committed_shown ends =
        let after : Session = record ends.session { setting = at_end ends.session.setting; work = None; can_ack = true } in
        closes (Committed s) later_is ends.rest refl refl refl refl (settings_now old.sessions s after at_end ends.has_work.session_is refl) refl

    pub rolled_back_shown : IsRolledBack s old new
        → Shows s (λ h. RolledBack s ∷ h) (λ w. writer_without w s) (sets s at_end) (λ n. n) lists (lists_of (record store { world = new; writer = later }))
    rolled_back_shown ends =
        let after : Session = record ends.session { setting = at_end ends.session.setting; work = None } in
        closes (RolledBack s) later_is ends.rest refl refl refl refl (settings_now old.sessions s after at_end ends.has_work.session_is refl) refl

-- ---- a transaction opens: room is taken for its entries, it begins, and the history tells it

module _ (s : ℕ) {store : Store} {lists : Lists} (kept : IsKept store) (view : lists_of store ≡ lists) (joined : s < length lists.state.names)
    {mid : WorldState} (made : (session : Session) → IsSession s session store.world → mid ≡ with_room s session store.world) where
  abbrev before : WorldState
  before = store.world

  abbrev now_in : WorldState → Store
  now_in new = record store { world = new }

  abbrev was : Session
  was = (its_session s kept view joined).0

  there_was : IsSession s was before
  there_was = (its_session s kept view joined).1

  abbrev roomed : Session
  roomed = record was { can_begin = true; can_change = true }

  mid_is : mid ≡ with_room s was before
  mid_is = made was there_was

  here : IsSession s roomed mid
  here = ap (λ (w : WorldState). slice_get w.sessions s) mid_is ∙ set_here before.sessions s was roomed there_was

  is_none : IsClosed s lists.state.past → roomed.work ≡ None
  is_none closed = closed_none kept.held s there_was (past_here s kept view (IsClosed s) closed)

  pub is_closed : IsClosed s lists.state.past → (session : Session) × IsSession s session mid × (session.work ≡ None)
  is_closed closed = (roomed, here, is_none closed)

  pub few_begun : mid.txns.begun < 2 ^ 64 - 1
  few_begun =
      let begun = ap (λ (w : WorldState). w.txns.begun) mid_is in
      omega (arith, begun, ap (λ (t : Txns). t.begun) kept.held.agrees.lists.txns_are, begins_few before.past, kept.held.agrees.lists.small)

  mid_held : task_of s lists.state ≡ Idle → IsTold before → IsHeld (now_in (with_room s was before))
  mid_held idle told = unentered_held kept.held s (at_rest s kept view idle) told was there_was roomed refl refl refl

  -- ---- it finds no memory to begin

  module _ {new : WorldState} (same : new ≡ mid) where
    pub roomed_kept : task_of s lists.state ≡ Idle → IsTold before → IsKept (now_in new)
    roomed_kept idle told = kept_as s kept view (same ∙ mid_is) refl refl (mid_held idle told)

    pub roomed_shown : Shows s (λ h. h) (λ w. w) (λ x. x) (λ n. n) lists (lists_of (now_in new))
    roomed_shown =
        shows_set s kept view (λ x. x) (same ∙ mid_is) refl refl refl refl (settings_same before.sessions s roomed there_was refl) refl

  -- ---- it begins

  module _ (level : Level) {number : ℕ} (number_is : number ≡ mid.txns.begun + 1) {next : WorldState}
      (began : (session : Session) → IsSession s session mid → next ≡ begun s level session mid) where
    abbrev first : Session
    first = session_begun level roomed mid

    abbrev fresh : Work
    fresh = fresh_work (mid.txns.begun + 1) level

    has_begun : HasWork s first fresh next
    has_begun = record {
      session_is = ap (λ (w : WorldState). slice_get w.sessions s) (began roomed here) ∙ set_here mid.sessions s roomed first here;
      work_is = refl;
    }

    pub may_tell : (session : Session) × (work : Work) × HasWork s session work next × (work.txn ≡ number) × (work.level ≡ level)
    may_tell = (first, fresh, has_begun, sym number_is, refl)

    pub surely : {P : Type 0} → ((session : Session) → IsSession s session next → session.can_begin ≡ true → P) → P
    surely sure = sure first has_begun.session_is refl

    module _ {new : WorldState}
        (told_of : (session : Session) (work : Work) → HasWork s session work next → new ≡ begin_added s number level session work next) where
      new_is : new ≡ opened s level roomed mid
      new_is =
          told_of first fresh has_begun ∙ ap (λ n. begin_added s n level first fresh next) number_is
          ∙ ap (λ (w : WorldState). begin_added s (mid.txns.begun + 1) level first fresh w) (began roomed here)

      pub opened_kept : task_of s lists.state ≡ Idle → IsTold before → IsTold mid → IsClosed s lists.state.past → length new.past < 2 ^ 63
          → IsKept (now_in new)
      opened_kept idle told told_mid closed few =
          kept_as s kept view new_is (ap (λ (w : WorldState). w.indexes) mid_is) (ap (λ (w : WorldState). w.schemas) mid_is)
          (opened_held (subst (λ (w : WorldState). IsHeld (now_in w)) (sym mid_is) (mid_held idle told)) s (at_rest s kept view idle)
          told_mid roomed here level (is_none closed) (subst (λ h. IsClosed s h) (sym (ap (λ (w : WorldState). w.past) mid_is)) (past_here s kept view
          (IsClosed s) closed)) (omega (arith, few, ap length (ap (λ (w : WorldState). w.past) new_is))))

      count_is : mid.txns.begun + 1 ≡ begins lists.state.past + 1
      count_is =
          ap (λ (w : WorldState). w.txns.begun + 1) mid_is ∙ ap (λ (t : Txns). t.begun + 1) kept.held.agrees.lists.txns_are
          ∙ ap (λ (l : Lists). begins l.state.past + 1) view

      pub opened_shown : Shows s (λ h. Begin s (begins lists.state.past + 1) level ∷ h) (λ w. w) (sets s at_begin) (λ n. n) lists
          (lists_of (now_in new))
      opened_shown =
          let target : WorldState = opened s level roomed mid in
          let base : List Session = slice_set mid.sessions s first in
          let last : Session = record first { can_begin = false; work = Some (record fresh { can_end = true }) } in
          shows_as s kept view (λ h. Begin s (begins lists.state.past + 1) level ∷ h) (λ w. w) (sets s at_begin) (λ n. n) (now_in new) new_is
          (ap (λ (w : WorldState). w.names) mid_is)
          (ap (λ n. Begin s n level ∷ mid.past) count_is ∙ ap (λ (w : WorldState). Begin s (begins lists.state.past + 1) level ∷ w.past) mid_is)
          (ap (λ (w : WorldState). w.schemas) mid_is) (ap (λ (w : WorldState). w.versions) mid_is) (λ u. refl) refl
          (settings_by before.sessions target.sessions s at_begin (length-set base s last ∙ length-set mid.sessions s first
          ∙ ap (λ (w : WorldState). length w.sessions) mid_is ∙ length-set before.sessions s roomed) there_was (set_here base s first last
          (set_here mid.sessions s roomed first here)) refl (λ u differ. set_other base s u last differ ∙ set_other mid.sessions s u first differ
          ∙ ap (λ (w : WorldState). slice_get w.sessions u) mid_is ∙ set_other before.sessions s u roomed differ)) (ap (λ (w : WorldState). w.rows) mid_is)

-- ---- What making a table leaves of the lists.

-- ---- the session's transaction in the new world

module _ {s : ℕ} {schema : Schema} {old mid : WorldState} (makes : MakesTable s schema old mid) (listed : IsListed s makes.work old) where
  abbrev pub work1 : Work
  work1 = record makes.work { own = makes.work.own + 1 }

  abbrev pub session1 : Session
  session1 = record makes.session { work = Some (record makes.work { own = makes.work.own + 1 }) }

  was_made : IsSession s session1 mid
  was_made = ap (λ (w : WorldState). slice_get w.sessions s) makes.rest ∙ set_here old.sessions s makes.session session1 makes.has_work.session_is

  pub has1 : HasWork s session1 work1 mid
  has1 = record { session_is = was_made; work_is = refl }

  elsewhere : (u : ℕ) → u ≢ s → slice_get mid.sessions u ≡ slice_get old.sessions u
  elsewhere u differ = ap (λ (w : WorldState). slice_get w.sessions u) makes.rest ∙ set_other old.sessions s u session1 differ

  pub txns_same : mid.txns ≡ old.txns
  txns_same = ap (λ (w : WorldState). w.txns) makes.rest

  pub listed1 : IsListed s work1 mid
  listed1 = record {
    there = subst (λ (t : Txns). is_there makes.work.txn t.open_txns) (sym txns_same) listed.there;
    id = subst (λ (t : Txns). id_at makes.work.txn t.open_txns ≡ makes.work.id) (sym txns_same) listed.id;
    few = subst (λ (t : Txns). t.next < 2 ^ 64 - 1) (sym txns_same) listed.few;
    alone = λ t x other has same. elim (eqb_tells t s) [
      | inl is ↦ is.1
      | inr differ ↦ listed.alone t x other (record { session_is = sym (elsewhere t differ.1) ∙ has.session_is; work_is = has.work_is }) same
    ];
  }

  -- its id is given then, where it had none
  pub given : {new : WorldState} {id number : ℕ} → id ≡ makes.work.id → number ≡ makes.work.txn → (id ≡ 0 → new ≡ identified number mid)
      → (id ≢ 0 → new ≡ mid) → GivesId s session1 work1 mid new
  given {new} {id} {number} id_is number_is first later = elim (eqb_tells id 0) [
    | inl none ↦ gives_new_id s session1 work1 mid new has1 listed1 (sym id_is ∙ none.1) (first none.1 ∙ ap (λ n. identified n mid) number_is)
    | inr has ↦ subst (λ (w : WorldState). GivesId s session1 work1 mid w) (sym (later has.1))
        (keeps_id s session1 work1 mid has1 (λ none. has.1 (id_is ∙ none)))
  ]

  module _ {new : WorldState} (gives : GivesId s session1 work1 mid new) where
    abbrev work_now : Work
    work_now = record work1 { id = id_for work1.id mid.txns.next }

    abbrev session_now : Session
    session_now = record session1 { work = Some (record work1 { id = id_for work1.id mid.txns.next }) }

    pub past_is : new.past ≡ Changed s (Create schema) ∷ old.past
    past_is = ap (λ (w : WorldState). w.past) gives.rest ∙ ap (λ (w : WorldState). w.past) makes.rest

    pub names_are : new.names ≡ old.names
    names_are = ap (λ (w : WorldState). w.names) gives.rest ∙ ap (λ (w : WorldState). w.names) makes.rest

    pub rows_are : new.rows ≡ old.rows
    rows_are = ap (λ (w : WorldState). w.rows) gives.rest ∙ ap (λ (w : WorldState). w.rows) makes.rest

    pub same_else : (u : ℕ) → u ≢ s → slice_get new.sessions u ≡ slice_get old.sessions u
    same_else u differ = gives.others u differ ∙ elsewhere u differ

    pub same_count : length new.sessions ≡ length old.sessions
    same_count = gives.count ∙ ap (λ (w : WorldState). length w.sessions) makes.rest ∙ length-set old.sessions s session1

    abbrev pub changed_by : IsChangedBy s (Create schema) (old.schemas ++ schema ∷ []) old new
    changed_by = record {
      session = makes.session;
      work = makes.work;
      had = makes.has_work;
      session_now = session_now;
      work_now = work_now;
      has = record { session_is = gives.now; work_is = refl };
      more = record { txn = refl; level = refl; view = refl; own = refl; id_is = ap (λ (t : Txns). id_for makes.work.id t.next) txns_same };
      past = past_is;
      names = names_are;
      schemas = ap (λ (w : WorldState). w.schemas) gives.rest ∙ ap (λ (w : WorldState). w.schemas) makes.rest;
      txns = ap (λ (w : WorldState). w.txns) gives.rest ∙ ap (λ (t : Txns). txns_with_id work1 t) txns_same;
      others = same_else;
      count = same_count;
    }

    -- what sessions have set is as it was
    pub settings_are : settings_of new.sessions ≡ settings_of old.sessions
    settings_are =
        settings_by old.sessions new.sessions s (λ x. x) same_count makes.has_work.session_is gives.now refl same_else
        ∙ set-get_or (settings_of old.sessions) s at_first

-- ---- what callers see

quiet_shown : (schemas others : List Schema) (left other : ℕ) (doing : Doing) → is_quiet_doing doing ≡ true
    → shown schemas left doing ≡ shown others other doing
quiet_shown schemas others left other Nothing quiet = refl
quiet_shown schemas others left other (Searching on) quiet = refl
quiet_shown schemas others left other (Changing change) quiet = absurd (cc)
quiet_shown schemas others left other Lagging quiet = absurd (cc)
quiet_shown schemas others left other Undoing quiet = absurd (cc)

-- ---- a call that makes a table

module _ (s : ℕ) {store : Store} {lists : Lists} (kept : IsKept store) (view : lists_of store ≡ lists) {schema : Schema} {mid : WorldState}
    (makes : MakesTable s schema store.world mid) {number : ℕ} (number_is : number ≡ txn s lists.state.past) where
  abbrev before_it : WorldState
  before_it = store.world

  listed : IsListed s makes.work before_it
  listed = its_listed s kept view makes.has_work

  number_now : number ≡ makes.work.txn
  number_now = number_is ∙ its_txn s kept view makes.has_work

  pub has_txn : is_there number mid.txns.open_txns
  has_txn = subst (λ n. is_there n mid.txns.open_txns) (sym number_now) (listed1 makes listed).there

  pub few_ids : mid.txns.next < 2 ^ 64 - 1
  few_ids = (listed1 makes listed).few

  module _ {read : Standing} (read_is : (session : Session) → IsSession s session before_it → read ≡ standing_of session) where
    -- what was read of the transaction's id, before the table was made
    id_is : read.id ≡ makes.work.id
    id_is = ap (λ (t : Standing). t.id) (read_is makes.session makes.has_work.session_is) ∙ ap id_of makes.has_work.work_is

    pub has_id : id_at number mid.txns.open_txns ≡ read.id
    has_id = ap (λ n. id_at n mid.txns.open_txns) number_now ∙ (listed1 makes listed).id ∙ sym id_is

    module _ {new : WorldState} (first : read.id ≡ 0 → new ≡ identified number mid) (later : read.id ≢ 0 → new ≡ mid) where
      gives : GivesId s (session1 makes listed) (work1 makes listed) mid new
      gives = given makes listed id_is number_now first later

      pub table_unset : settings_of new.sessions ≡ lists.settings
      table_unset = settings_are makes listed gives ∙ ap (λ (l : Lists). l.settings) view

      pub table_rows : new.rows ≡ lists.rows
      table_rows = rows_are makes listed gives ∙ ap (λ (l : Lists). l.rows) view

      module _ (locked : lists.state.writer ≡ Some s) (idle : task_of s lists.state ≡ Idle) where
        may_write : store.writer ≡ Some s
        may_write = writer_now s kept view locked

        at_its_rest : doing_at s store.desks ≡ Nothing
        at_its_rest = at_rest s kept view idle

        abbrev made : Store
        made = record store { world = new }

        same_index : (index : ℕ) → new.indexes index ≡ before_it.indexes index
        same_index index = ap (λ (w : WorldState). w.indexes index) gives.rest ∙ makes.same index

        pub table_kept : IsTold before_it → IsTold new → IsStorable schema → length new.past < 2 ^ 63 → own s lists.state.past ≡ [] → IsKept made
        table_kept told told_now storable few none = record {
          held = created_held kept.held may_write at_its_rest told told_now (changed_by makes listed gives) refl refl refl same_index
              (ap (λ (w : WorldState). w.versions) gives.rest ∙ ap (λ (w : WorldState). w.versions) makes.rest) (λ which within. ap (λ (w : WorldState).
              w.indexes (index_of (length before_it.schemas) which)) gives.rest ∙ makes.empty which within) storable
              (omega (arith, few, ap length (past_is makes listed gives))) (past_here s kept view (λ h. own s h ≡ []) none);
          awaits = λ index by is. kept.awaits index by (sym (ap (λ (at : Index). at.awaited) (same_index index)) ∙ is);
        }

        all_quiet : (u : ℕ) → is_quiet_doing (doing_at u store.desks) ≡ true
        all_quiet u = elim (eqb_tells u s) [
          | inl same ↦ ap (λ v. is_quiet_doing (doing_at v store.desks)) same.1 ∙ ap is_quiet_doing at_its_rest
          | inr differ ↦ kept.held.owned.quiet u (λ same. differ.1 (sym (some_same s u (sym may_write ∙ same))))
        ]

        pub table_adds : Adds (Changed s (Create schema)) s lists.state (lists_of made).state
        table_adds =
            let left : Store → ℕ → ℕ = λ now u. left_in now.world (desk_at u store.desks) in
            let same : (u : ℕ) → task_of u (lists_of made).state ≡ task_of u (lists_of store).state
            = λ u. task_is u made ∙ quiet_shown new.schemas before_it.schemas (left made u) (left store u) (doing_at u store.desks) (all_quiet u)
            ∙ sym (task_is u store) in
            subst (λ (l : Lists). Adds (Changed s (Create schema)) s l.state (lists_of made).state) view (record {
              names_are = names_are makes listed gives;
              past_is = past_is makes listed gives;
              writer_is = refl;
              task_is = same s;
              others = λ u differ. same u;
            })
