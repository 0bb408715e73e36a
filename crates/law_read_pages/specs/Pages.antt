-- The database that pages stand for: its tables are those of the catalog, and each table's records stand in a tree.
use Rattle.std.specs.Prelude.{◌≡◌, ℕ, ◌+◌, Bool, List, Option, Some, slice_get, map}
use Rattle.inno_db.specs.Database.{Database}
use Rattle.inno_model.specs.declared.event.Event.{Event}
use Rattle.inno_model.specs.Past.{changed, commits, committed}
use Rattle.entries.specs.Pairs.{Pair}
use Rattle.row_versions.specs.declared.kept.Kept.{Kept}
use Rattle.catalog.specs.declared.held.Held.{Held}
use Rattle.catalog.specs.Tables.{IsCatalog}
use Rattle.catalog.specs.Creating.{key_bytes_at, clustered_len}
use Rattle.btree.specs.declared.tree.Tree.{Tree}
use Rattle.btree.specs.Sound.{tree_pairs}
use Rattle.btree_split.specs.Placed.{IsPlacedTree}
use Rattle.law_past_agreement.specs.Order.{created}
use Rattle.law_past_agreement.specs.DatabaseTables.{with_all_tables}
use Rattle.law_stored_rows.specs.Edits.{clustered_index}
use Rattle.law_read_pages.specs.Rows.{ReadAs}

-- what is committed, with all tables that have been made
abbrev pub latest : List Event → Database
latest past = record { schemas = created past; rows = (changed (with_all_tables past) (committed (commits past) past)).rows }

-- A tree at the table's first root has these pairs, with keys and values as long as the table's.
pub record IsTreeOf (table : ℕ) (held : Held) (pages : ℕ → List ℕ) (pairs : List Pair) : Type 0 where
  pub tree : Tree
  pub index_is : tree.index ≡ clustered_index table
  pub root_is : slice_get held.roots 0 ≡ Some tree.root
  pub key_len : tree.key_len ≡ key_bytes_at held.schema.columns held.schema.primary
  pub width : tree.key_len + tree.value_len ≡ clustered_len held.schema
  pub placed : IsPlacedTree tree pages
  pub pairs_are : tree_pairs tree pages ≡ pairs

-- The pages show these tables, and these pairs of their clustered indexes.
pub record Show (pages : ℕ → List ℕ) (tables : List Held) (indexes : ℕ → List Pair) : Type 0 where
  pub catalog : IsCatalog tables pages
  pub trees : (table : ℕ) (held : Held) → slice_get tables table ≡ Some held → IsTreeOf table held pages (indexes (clustered_index table))

-- The pages stand for the database, with older versions and open transactions as they were kept beside them.
pub record StandForDb (pages : ℕ → List ℕ) (kept : ℕ → Option Kept) (open_id : ℕ → Bool) (db : Database) : Type 0 where
  pub tables : List Held
  pub indexes : ℕ → List Pair
  pub show : Show pages tables indexes
  pub schemas : db.schemas ≡ map (λ held. held.schema) tables
  pub rows : ReadAs db.schemas indexes kept open_id db.rows
