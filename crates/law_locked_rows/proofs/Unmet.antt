-- Another's commit lies outside each plan that a session keeps: as `IsUnmet` of `law_db` has it.
-- `law_isolation` asks it of each standing piece of work; `law_locked_work` has it of whole stores.
use Rattle.std.proofs.Common.{◌≡◌, ◌≢◌, ◌∙◌, refl, sym, ap, subst, ℕ, Bool, true, false, cond, List, [], ◌∷◌, ◌++◌, Option, None, Some}
use Rattle.std.specs.Prelude.{◌&&◌, ◌||◌}
use Rattle.std.specs.List.{list_any}
use Rattle.std.specs.FinMap.{get}
use Rattle.inno_db.specs.Changes.{apply_one}
use Rattle.inno_types.specs.{declared.lock.Lock.Lock, declared.value.Schema.Schema, declared.value.Value.Value, Ranges.is_within}
use Rattle.inno_db.specs.{Database.Database, Database.key_in, declared.change.Change.Change}
use Rattle.inno_db.specs.declared.change.Change.TheVariants.{Create, Put, Remove}
use Rattle.inno_model.specs.{declared.event.Event.Event, declared.event.Event.TheVariants.Committed, Past.own, Past.commits, Past.committed, Past.changed}
use Rattle.store_api.specs.declared.answers.Undo.{Undo}
use Rattle.row_versions.specs.{declared.place.Place.Place, Chains.versions_at, Laws.same_place_equiv}
use Rattle.law_past_agreement.specs.{Order.created, Rows.is_at, Rows.row_opened, DatabaseTables.with_all_tables}
use Rattle.law_past_agreement.proofs.{Gets.get_is, Gets.seen_is, Tables.committed_tabled, Rows.newest_is}
use Rattle.sql_plan.specs.{declared.choice.Plan.Plan, Visits.index_key}
use Rattle.law_db.specs.Beside.{is_change_at, touches, passed}
use Rattle.world.specs.State.{Session, Work, HasWork}
use Rattle.desks.specs.{Desks.Store, Desks.doing_at, Holding.lags_in}
use Rattle.law_locked_rows.specs.Many.{IsHeldByAll}
use Rattle.law_locked_rows.specs.Now.{row_now}
use Rattle.law_locked_rows.specs.Locking.{lies_to}
use Rattle.law_locked_rows.specs.Entries.{AreEntriesOwned}
use Rattle.law_locked_rows.specs.Keeping.{Fails}
use Rattle.law_locked_rows.specs.Plans.{KeepsPlan}
use Rattle.law_locked_rows.proofs.Marked.{behind_is, behind_seen}
use Rattle.law_locked_rows.proofs.Barred.{by}
use Rattle.law_locked_rows.proofs.Commits.{newest_then}
use Rattle.law_locked_rows.proofs.Committing.{changed_fail}

-- the two ways to say that a change is made at a place
change_at : (schemas : List Schema) (table : ℕ) (key : Value) (change : Change)
    → is_change_at schemas (table, key) change ≡ is_at schemas (record { table = table; key = key }) change
change_at schemas table key (Create schema) = refl
change_at schemas table key (Put other row) =
    same_place_equiv.symm (record { table = table; key = key }) (record { table = other; key = key_in schemas other row })
change_at schemas table key (Remove other k) = same_place_equiv.symm (record { table = table; key = key }) (record { table = other; key = k })

touches_at : (schemas : List Schema) (table : ℕ) (key : Value) (changes : List Change)
    → touches schemas changes (table, key) ≡ list_any (is_at schemas (record { table = table; key = key })) changes
touches_at schemas table key [] = refl
touches_at schemas table key (change ∷ changes) = λ i. change_at schemas table key change i || touches_at schemas table key changes i

changed_behind : (db : Database) (later earlier : List Change) → changed db (later ++ earlier) ≡ changed (changed db earlier) later
changed_behind db [] earlier = refl
changed_behind db (change ∷ later) earlier = ap (λ d. apply_one d change) (changed_behind db later earlier)

passed_none : (test : List Value → Bool) (found : Option (List Value)) → Fails test found → passed test found ≡ None
passed_none test None fails = refl
passed_none test (Some row) fails = ap (λ b. cond b (Some row) None) fails

and_yes : (a : Bool) → (a && true) ≡ a
and_yes true = refl
and_yes false = refl

fails_as : (p q : List Value → Bool) → ((row : List Value) → p row ≡ q row) → (found : Option (List Value)) → Fails p found → Fails q found
fails_as p q same None fails = record {}
fails_as p q same (Some row) fails = sym (same row) ∙ fails

module _ {store : Store} {granted : List Lock} (held : IsHeldByAll store granted) (owned : AreEntriesOwned held.chains held.rows.said store.world granted)
    {s : ℕ} {session : Session} {work : Work} (has_work : HasWork s session work store.world) (t : ℕ) (differs : s ≢ t)
    (quiet : lags_in store.world t (doing_at t store.desks) ≡ None) (table : ℕ) (plan : Plan) {made : ℕ} {log : List Undo}
    (keeps : KeepsPlan s work.txn table plan made log store.world granted) where
  abbrev past : List Event
  past = store.world.past

  -- the latest commits, with all tables
  abbrev latest_db : Database
  latest_db = changed (with_all_tables past) (committed (commits past) past)

  abbrev lies_in_plan : List Value → Bool
  lies_in_plan row = is_within plan.range (index_key keeps.schema plan.which row)

  pub commit_unmet : (key : Value) → touches (created past) (own t past) (table, key) ≡ true
      → (passed lies_in_plan (get latest_db.rows (table, key)) ≡ None) × (passed lies_in_plan (get (changed latest_db (own t past)).rows (table, key)) ≡ None)
  commit_unmet key touched =
      let place : Place = record { table = table; key = key } in
      let changed_there : list_any (is_at store.world.schemas place) (own t past) ≡ true
      = ap (λ schemas. list_any (is_at schemas place) (own t past)) held.agrees.lists.tables ∙ sym (touches_at (created past) table key (own t past))
      ∙ touched in
      let by_t = by held has_work t differs quiet table keeps.there key changed_there in
      let fail = changed_fail held owned has_work t differs quiet table keeps.there keeps.which keeps.keeps key changed_there in
      let before : get latest_db.rows (table, key) ≡ row_now s table past key
      = get_is (with_all_tables past) (committed (commits past) past) (committed_tabled past held.agrees.lists.ordered (commits past)) place
      ∙ sym (behind_is past t (row_opened past place) (is_at (created past) place) (versions_at place held.chains) by_t)
      ∙ behind_seen past t s (row_opened past place) (is_at (created past) place) (versions_at place held.chains) by_t differs in
      let after : get (changed latest_db (own t past)).rows (table, key) ≡ row_now s table (Committed t ∷ past) key
      = ap (λ (d : Database). get d.rows (table, key)) (sym (changed_behind (with_all_tables past) (own t past) (committed (commits past) past)))
      ∙ seen_is past t (commits past) place held.agrees.lists.ordered
      ∙ sym (newest_is (row_opened past place) (is_at (created past) place) past t by_t)
      ∙ sym (newest_then past t s differs place (versions_at place held.chains) by_t) in (
        passed_none lies_in_plan _ (subst (Fails lies_in_plan) (sym before)
            (fails_as (lies_to keeps.schema plan.which plan.range (λ k. false)) lies_in_plan (λ row. and_yes (lies_in_plan row)) _ fail.0)),
        passed_none lies_in_plan _ (subst (Fails lies_in_plan) (sym after)
            (fails_as (lies_to keeps.schema plan.which plan.range (λ k. false)) lies_in_plan (λ row. and_yes (lies_in_plan row)) _ fail.1)),
      )
