-- The same changes over more tables leave the same rows.
-- The machines of statements cite these, where a table may have come since their transaction began.
use Rattle.std.proofs.Common.{◌≡◌, ℕ, ◌<◌, List, [], ◌∷◌, ◌++◌, length, refl, sym, ap, ◌∙◌}
use Rattle.std.proofs.lemmas.List.{append-nil, append_assoc}
use Rattle.std.specs.FinMap.{insert, remove}
use Rattle.inno_types.specs.declared.value.Value.{Value}
use Rattle.inno_types.specs.declared.value.Schema.{Schema}
use Rattle.inno_db.specs.declared.change.Change.{Change}
use Rattle.inno_db.specs.declared.change.Change.TheVariants.{Create, Put, Remove}
use Rattle.inno_db.specs.Database.{Database, RowMap, key_in, rows_of}
use Rattle.inno_model.specs.declared.event.Event.{Event}
use Rattle.inno_model.specs.Past.{commits, opening, changed, current}
use Rattle.law_past_agreement.specs.Order.{created}
use Rattle.law_past_agreement.specs.Rows.{seen}
use Rattle.law_past_agreement.proofs.Tables.{key_stays}
use Rattle.law_past_agreement.specs.DatabaseTables.{with_all_tables}
use Rattle.sql_lists.specs.Kept.{made, AreInOrder, AreStanding, IsInOrder}
use Rattle.sql_lists.proofs.Standing.{schemas_after}

-- ---- the same changes

pub rows_of_map : (table : ℕ) (a b : Database) → a.rows ≡ b.rows → rows_of table a ≡ rows_of table b
rows_of_map table a b same = ap (λ (m : RowMap). rows_of table (record { schemas = []; rows = m })) same

module _ (db : Database) where
  abbrev pub over : List Schema → Database
  over tables = record db { schemas = tables }

  -- the key of a row in a table that is there before these changes
  pub key_over : (tables schemas more : List Schema) (earlier : List Change) (table : ℕ) (row : List Value) → tables ≡ schemas ++ more → table < length schemas
      → key_in (changed (over tables) earlier).schemas table row ≡ key_in schemas table row
  key_over tables schemas more earlier table row is lt =
      ap (λ (l : List Schema). key_in l table row)
      (schemas_after (over tables) earlier ∙ (ap (λ (l : List Schema). l ++ made earlier) is ∙ append_assoc schemas more (made earlier)))
      ∙ key_stays schemas (more ++ made earlier) table row lt

  pub put_alike : (tables : List Schema) (earlier : List Change) (table : ℕ) (row : List Value)
      → (changed (over tables) earlier).rows ≡ (changed db earlier).rows
      → key_in (changed (over tables) earlier).schemas table row ≡ key_in (changed db earlier).schemas table row
      → (changed (over tables) (Put table row ∷ earlier)).rows ≡ (changed db (Put table row ∷ earlier)).rows
  put_alike tables earlier table row same keys =
      ap (λ (m : RowMap). insert m (table, key_in (changed (over tables) earlier).schemas table row) row) same
      ∙ ap (λ (key : Value). insert (changed db earlier).rows (table, key) row) keys

  -- changes each of which is of a table that is there before it, over all tables that there are at last
  pub rows_before : (tables more : List Schema) (changes : List Change) → tables ≡ (db.schemas ++ made changes) ++ more → AreInOrder db.schemas changes
      → (changed (over tables) changes).rows ≡ (changed db changes).rows
  rows_before tables more [] is in-order = refl
  rows_before tables more (Create schema ∷ earlier) is in-order =
      let later : tables ≡ (db.schemas ++ made earlier) ++ (schema ∷ more) =
      is ∙ (ap (λ (l : List Schema). l ++ more) (sym (append_assoc db.schemas (made earlier) (schema ∷ []))) ∙ append_assoc (db.schemas ++ made earlier)
      (schema ∷ []) more) in
      rows_before tables (schema ∷ more) earlier later in-order.1
  rows_before tables more (Put table row ∷ earlier) is in-order =
      put_alike tables earlier table row (rows_before tables more earlier is in-order.1)
      (key_over tables (db.schemas ++ made earlier) more earlier table row is in-order.0 ∙ sym
      (ap (λ (l : List Schema). key_in l table row) (schemas_after db earlier)))
  rows_before tables more (Remove table key ∷ earlier) is in-order = ap (λ (m : RowMap). remove m (table, key)) (rows_before tables more earlier is in-order.1)

-- ---- what a session sees now, over all tables that there are

module _ (past : List Event) (s : ℕ) (stands : AreStanding past) where
  pub same_map : IsInOrder past → (changed (with_all_tables past) (seen past s (commits past))).rows ≡ (current s past).rows
  same_map in-order =
      let is : created past ≡ ((opening past).schemas ++ made (seen past s (commits past))) ++ [] =
      stands.tables s ∙ (schemas_after (opening past) (seen past s (commits past)) ∙ sym
      (append-nil ((opening past).schemas ++ made (seen past s (commits past))))) in
      rows_before (opening past) (created past) [] (seen past s (commits past)) is (in-order s)
