-- The rows of a table as a world shows them, and the keys of those that a reader sees.
use Rattle.std.proofs.Common.{◌≡◌, ◌⊎◌, inl, inr, ◌∙◌, refl, ℕ, zero, suc, ◌+◌, ◌≤◌, true, false, List, ◌∷◌, length, Option, None, Some, slice_get, arith}
use Rattle.std.specs.{Prelude.IsSome, List.list_any}
use Rattle.entries.specs.Pairs.{Pair}
use Rattle.row_versions.specs.{Chains.Chains, Chains.versions_at, Chains.first_seen, declared.place.Place.Place, declared.version.Version.Version}
use Rattle.law_stored_rows.specs.Tables.{Said, HasItsColumns, AreCodedAs, AreCoded, in_table, what_is_there, TellsOfOlder}
use Rattle.law_stored_rows.specs.{Edits.clustered_index, Edits.key_index, Entries.value_in, Entries.has_value}
use Rattle.row_search.specs.Tables.{most_versions, ShowsTable, HoldsTable, ShowsRows}
use Rattle.row_search.specs.{declared.scan.Scan.Scan, declared.sight.Sight.Sight, Sights.sees_by, Sights.rows_seen}
use Rattle.inno_types.specs.{declared.value.Value.Value, declared.value.Key.Key, declared.value.Schema.Schema}
use Rattle.world.specs.{State.WorldState, Told.IsTold, Told.pairs_in, Told.pairs_of}
use Rattle.inno_db.specs.Indexes.{index_of}
use Rattle.row_search.proofs.{Keys.key_there_at, Others.in_clustered, Others.in_keyed, Others.seen_among}

told_pairs : (found : Option (List Pair)) → IsSome found → found ≡ Some (pairs_in found)
told_pairs None is = cc
told_pairs (Some pairs) is = refl

-- ---- what keys say of a place while a change of it is under way

-- Each key tells of all versions of the place but the newest, which the reader doesn't see.
pub record IsUnseen (chains : Chains) (said : Said) (sight : Sight) (place : Place) : Type 0 where
  pub version : Version
  pub others : List Version
  pub newest_is : versions_at place chains ≡ version ∷ others
  pub tells : TellsOfOlder place chains said
  pub unseen : sees_by sight version.writer ≡ false

-- The keys say what is there, or the reader doesn't see what they lack.
abbrev pub SaysOrUnseen : Chains → Said → Sight → Place → Type 0
SaysOrUnseen chains said sight place = ((which : ℕ) → said place.table which place.key ≡ versions_at place chains) ⊎ IsUnseen chains said sight place

module _ (state : WorldState) (chains : Chains) (said : Said) (told : IsTold state)
    (coded : AreCodedAs state.schemas (pairs_of state) state.versions.kept_at chains said) where
  pairs_there : (index : ℕ) → (state.indexes index).pairs ≡ Some (pairs_of state index)
  pairs_there index = told_pairs (state.indexes index).pairs (told.pairs index)

  first_pairs : (table : ℕ) → (state.indexes (index_of table 0)).pairs ≡ Some (pairs_of state (clustered_index table))
  first_pairs table = let first : index_of table 0 ≡ clustered_index table = omega arith in rw first (pairs_there (clustered_index table))

  pub shows_table : (table : ℕ) (schema : Schema) → slice_get state.schemas table ≡ Some schema → ShowsTable schema table state (in_table table chains)
  shows_table table schema there =
      record { pairs = pairs_of state (clustered_index table); pairs_are = first_pairs table; clustered = coded.clustered.tables table schema there }

  pub holds_table : ((place : Place) → length (versions_at place chains) ≤ most_versions) → (table : ℕ) (schema : Schema)
      → slice_get state.schemas table ≡ Some schema → HoldsTable schema table state
  holds_table few table schema there =
      λ is. (in_table table chains, shows_table table schema there, λ value. few (record { table = table; key = value }))

  module _ (schema : Schema) (scan : Scan) (there : slice_get state.schemas scan.table ≡ Some schema) (columns : HasItsColumns schema) where
    pub shows_clustered : scan.which ≡ 0 → ShowsRows schema scan state (in_table scan.table chains)
    shows_clustered is =
        let clustered = coded.clustered.tables scan.table schema there in
        record {
          told = told.versions;
          columns = columns;
          table = shows_table scan.table schema there;
          searched = pairs_of state (clustered_index scan.table);
          searched_are = rw is (first_pairs scan.table);
          rising = clustered.rising;
          keys = rw is (in_clustered scan.table schema state.versions.kept_at (pairs_of state (clustered_index scan.table)) (in_table scan.table chains)
              scan.sight clustered);
        }

    -- a key tells of what the reader sees
    abbrev TellsOfSeen : ℕ → ℕ → Type 0
    TellsOfSeen at column =
        (value : Value) (row : List Value) → rows_seen scan.sight (in_table scan.table chains) value ≡ Some row
        → list_any (λ (version : Version). has_value column (value_in column row) version.row) (said scan.table at value) ≡ true

    shows_keyed : (at : ℕ) (key : Key) → scan.which ≡ 1 + at → slice_get schema.keys at ≡ Some key → TellsOfSeen at key.column
        → ShowsRows schema scan state (in_table scan.table chains)
    shows_keyed at key is key_is tells =
        let clustered = coded.clustered.tables scan.table schema there in
        let entries = coded.keyed.keys scan.table at schema key there key_is in
        record {
          told = told.versions;
          columns = columns;
          table = shows_table scan.table schema there;
          searched = pairs_of state (key_index scan.table at);
          searched_are = rw is (pairs_there (key_index scan.table at));
          rising = entries.rising;
          keys = rw is (in_keyed scan.table schema state.versions.kept_at (pairs_of state (clustered_index scan.table))
              (pairs_of state (key_index scan.table at)) (in_table scan.table chains) (said scan.table at) scan.sight at key clustered key_is entries tells);
        }

    shows_all : (which : ℕ) → scan.which ≡ which → which ≤ length schema.keys → ((at column : ℕ) → TellsOfSeen at column)
        → ShowsRows schema scan state (in_table scan.table chains)
    shows_all zero is le tells = shows_clustered is
    shows_all (suc at) is le tells =
        let key = key_there_at schema at le in
        shows_keyed at key.0 (is ∙ omega arith) key.1 (tells at key.0.column)

    -- Of each place the keys say what is there, or what the reader sees.
    tells_of_seen : ((place : Place) → SaysOrUnseen chains said scan.sight place) → (at column : ℕ) → TellsOfSeen at column
    tells_of_seen each at column value row seen = elim (each (record { table = scan.table; key = value })) [
      | inl says ↦ rw (says at) (seen_among column scan.sight (in_table scan.table chains value) row seen)
      | inr lag ↦
          let seen_older : first_seen (sees_by scan.sight) lag.others ≡ Some row = rw (lag.newest_is, lag.unseen) at seen in
          lag.tells at column (value_in column row) (rw lag.newest_is (seen_among column scan.sight lag.others row seen_older))
    ]

    pub shows_lagging : scan.which ≤ length schema.keys → ((place : Place) → SaysOrUnseen chains said scan.sight place)
        → ShowsRows schema scan state (in_table scan.table chains)
    shows_lagging le each = shows_all scan.which refl le (tells_of_seen each)

pub shows_coded : (schema : Schema) (scan : Scan) (state : WorldState) (chains : Chains) → IsTold state → slice_get state.schemas scan.table ≡ Some schema
    → HasItsColumns schema → scan.which ≤ length schema.keys → AreCoded state.schemas (pairs_of state) state.versions.kept_at chains
    → ShowsRows schema scan state (in_table scan.table chains)
shows_coded schema scan state chains told there columns le coded =
    shows_all state chains (what_is_there chains) told coded schema scan there columns scan.which refl le
    (λ at column value row seen. seen_among column scan.sight (in_table scan.table chains value) row seen)
