-- A search that locks is over: it has found the rows of its plan's range that the session sees now, and keeps the plan.
-- Whoever answers a statement that locks is to cite it. That the plan stays kept is shown in `Plans`.
use Rattle.std.proofs.Common.{◌≡◌, ◌∙◌, inl, inr, refl, sym, ap, subst, ℕ, ◌≤◌, Bool, true, false, ◌&&◌, List, length, map, filter, Option, Some}
use Rattle.std.proofs.Common.{slice_get}
use Rattle.inno_types.specs.{declared.lock.Lock.Lock, declared.value.Schema.Schema, declared.value.Value.Value, Ranges.is_within}
use Rattle.inno_db.specs.Database.{rows_of}
use Rattle.inno_model.specs.Past.{commits, changed}
use Rattle.store_api.specs.declared.answers.Undo.{Undo}
use Rattle.law_past_agreement.specs.{Rows.seen, DatabaseTables.with_all_tables}
use Rattle.law_past_agreement.proofs.Gets.{seen_is}
use Rattle.sql_plan.specs.{declared.choice.Plan.Plan, Visits.index_key}
use Rattle.world.specs.{State.Session, State.Work, State.HasWork, Told.IsTold}
use Rattle.shared_lists.specs.Steps.{AreRowsSeen}
use Rattle.row_search.specs.{declared.scan.Scan.Scan, declared.found.FoundRow.FoundRow, FoundRows.AreFound, FoundRows.RiseByKey, Ranges.lies_in}
use Rattle.row_search.proofs.{Keys.IsHome, Rows.found_same, Rows.permuted, Rows.rises}
use Rattle.law_found_rows.proofs.Databases.{found_are}
use Rattle.desks.specs.{Desks.Store, Desks.doing_at, Desks.is_quiet_doing}
use Rattle.law_locked_rows.specs.Many.{IsHeldByAll}
use Rattle.law_locked_rows.specs.Now.{row_now}
use Rattle.law_locked_rows.specs.Locking.{lies_past, IsLocking, KeepsTo}
use Rattle.law_locked_rows.specs.Plans.{KeepsPlan, AreInOrder}
use Rattle.law_locked_rows.proofs.Showing.{homes_now}
use Rattle.law_locked_rows.proofs.Committing.{keeps_of}

true_and : (a : Bool) → (a && true) ≡ a
true_and true = refl
true_and false = refl

module _ {store : Store} {granted : List Lock} (held : IsHeldByAll store granted) (told : IsTold store.world) {s : ℕ} {session : Session} {work : Work}
    (has : HasWork s session work store.world) (searching : is_quiet_doing (doing_at s store.desks) ≡ true) {schema : Schema} (scan : Scan)
    (there : slice_get store.world.schemas scan.table ≡ Some schema) (le : scan.which ≤ length schema.keys) {made : ℕ} {log : List Undo}
    (plan : Plan) (which_is : plan.which ≡ scan.which) (range_is : plan.range ≡ scan.range)
    (is : IsLocking schema scan s work.txn made log (λ key. false) store.world granted) where
  pub plan_kept : KeepsPlan s work.txn scan.table plan made log store.world granted
  plan_kept = record {
    schema = schema;
    there = there;
    which = subst (λ n. n ≤ length schema.keys) (sym which_is) le;
    keeps = subst (λ (p : Plan). KeepsTo schema scan.table p.which p.range s work.txn made log (λ key. false) store.world granted) (sym same) (keeps_of is);
  }
    where
      same : plan ≡ record plan { which = scan.which; range = scan.range }
      same = λ i. record plan { which = which_is i; range = range_is i }

  abbrev row_at : Value → Option (List Value)
  row_at = row_now s scan.table store.world.past

  homes : (value : Value) (row : List Value) → row_at value ≡ Some row → IsHome schema value row
  homes = homes_now held told has searching scan there le

  found : AreFound schema scan.which row_at (lies_in schema scan) scan.rows.items
  found = found_same schema row_at (lies_past schema scan (λ key. false)) (lies_in schema scan) (λ value row seen. true_and (lies_in schema scan row)) is.found

  ordered : (rows : List FoundRow) → AreInOrder scan.which scan.rows.items rows → AreFound schema scan.which row_at (lies_in schema scan) rows × RiseByKey rows
  ordered rows (inl whole) =
      let same = subst (λ (rs : List FoundRow). AreFound schema scan.which row_at (lies_in schema scan) rs) (sym whole.1) found in (same, same.order whole.0)
  ordered rows (inr sorted) =
      let same = permuted schema row_at (lies_in schema scan) scan.rows.items rows sorted.0 sorted.1 found in
      (same, rises schema row_at homes (lies_in schema scan) rows same sorted.2)

  pub rows_seen_now : (rows : List FoundRow) → AreInOrder scan.which scan.rows.items rows
      → AreRowsSeen scan.table plan store.world.past s (commits store.world.past) (map (λ (f : FoundRow). f.row) rows)
  rows_seen_now rows order other other_is =
      let all = ordered rows order in
      let same : schema ≡ other = some_same schema other (sym there ∙ ap (λ tables. slice_get tables scan.table) held.agrees.lists.tables ∙ other_is) in
      found_are schema scan.table row_at (changed (with_all_tables store.world.past) (seen store.world.past s (commits store.world.past)))
      (λ key. seen_is store.world.past s (commits store.world.past) (record { table = scan.table; key = key }) held.agrees.lists.ordered) homes scan.which
      (lies_in schema scan) rows all.0 all.1
      ∙ (λ i. filter (λ row. is_within (sym range_is i) (index_key (same i) (sym which_is i) row))
      (rows_of scan.table (changed (with_all_tables store.world.past) (seen store.world.past s (commits store.world.past)))))
    where
      some_same : (a b : Schema) → Some a ≡ Some b → a ≡ b
      some_same a b e = cc
