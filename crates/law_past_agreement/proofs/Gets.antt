-- The row of a place after changes is the one that they leave there.
use Rattle.std.proofs.Common.{◌≡◌, ℕ, ◌<◌, List, [], ◌∷◌, ◌++◌, length, arith, refl, sym, ap, ◌∙◌}
use Rattle.std.proofs.lemmas.List.{append-nil, append_assoc}
use Rattle.std.specs.List.{AllByRecursion}
use Rattle.std.specs.FinMap.{get, get-insert, get-remove}
use Rattle.inno_types.specs.{declared.value.Value.Value, declared.value.Schema.Schema}
use Rattle.inno_db.specs.{declared.change.Change.Change, declared.change.Change.TheVariants.Create, declared.change.Change.TheVariants.Put}
use Rattle.inno_db.specs.{declared.change.Change.TheVariants.Remove, Database.Database, Database.key_in, Order.place_cmp_total}
use Rattle.inno_model.specs.{declared.event.Event.Event, Past.changed, Past.own, Past.committed}
use Rattle.row_versions.specs.{declared.place.Place.Place, Chains.in_model, Laws.same_place_equiv}
use Rattle.law_past_agreement.specs.{Order.created, Order.IsTabled, Order.IsOrdered, Rows.is_at, Rows.row_at, Rows.seen, Rows.row_seen}
use Rattle.law_past_agreement.specs.{DatabaseTables.with_all_tables}
use Rattle.law_past_agreement.proofs.Tables.{key_stays, all_joined, own_tabled, committed_tabled}

module _ (db : Database) where
  -- changes leave the tables, and add some
  tables_after : (changes : List Change) → (made : List Schema) × ((changed db changes).schemas ≡ db.schemas ++ made)
  tables_after [] = ([], sym (append-nil db.schemas))
  tables_after (Create schema ∷ changes) =
      let before = tables_after changes in
      (before.0 ++ schema ∷ [], ap (λ (l : List Schema). l ++ schema ∷ []) before.1 ∙ append_assoc db.schemas before.0 (schema ∷ []))
  tables_after (change ∷ changes) = tables_after changes

  key_after : (changes : List Change) (table : ℕ) (row : List Value) → table < length db.schemas
      → key_in (changed db changes).schemas table row ≡ key_in db.schemas table row
  key_after changes table row lt =
      let made = tables_after changes in ap (λ (l : List Schema). key_in l table row) made.1 ∙ key_stays db.schemas made.0 table row lt

  pub get_is : (changes : List Change) → AllByRecursion (IsTabled (length db.schemas)) changes → (p : Place)
      → get (changed db changes).rows (in_model p) ≡ row_at (get db.rows (in_model p)) (is_at db.schemas p) changes
  get_is [] all p = refl
  get_is (Create schema ∷ changes) all p = get_is changes all.1 p
  get_is (Put table row ∷ changes) all p =
      let at : Place = record { table = table; key = key_in db.schemas table row } in
      grind (
        arith,
        get-insert place_cmp_total (changed db changes).rows (table, key_in (changed db changes).schemas table row) row (in_model p),
        key_after changes table row all.0,
        same_place_equiv.symm p at,
        get_is changes all.1 p,
      )
  get_is (Remove table key ∷ changes) all p =
      let at : Place = record { table = table; key = key } in
      grind (arith, get-remove place_cmp_total (changed db changes).rows (table, key) (in_model p), same_place_equiv.symm p at, get_is changes all.1 p)

pub seen_is : (h : List Event) (s n : ℕ) (place : Place) → IsOrdered h
    → get (changed (with_all_tables h) (seen h s n)).rows (in_model place) ≡ row_seen h s n place
seen_is h s n place ordered =
    get_is (with_all_tables h) (seen h s n)
    (all_joined (IsTabled (length (created h))) (own s h) (committed n h) (own_tabled h ordered s) (committed_tabled h ordered n)) place
