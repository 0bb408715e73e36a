-- Each record reads as the row that the commits leave at its place.
use Rattle.std.proofs.Common.{◌≡◌, ◌≢◌, ℕ, ◌<◌, Bool, true, Option, None, List, [], ◌∷◌, refl, sym, ap, subst, ◌∙◌, inl, inr, arith}
use Rattle.std.proofs.lemmas.Bool.{false≢true}
use Rattle.std.proofs.lemmas.Bool.Decides.{nat_tests, eqb_tells}
use Rattle.std.specs.List.{AllByRecursion, list_any}
use Rattle.std.specs.Prelude.{◌==◌}
use Rattle.std.specs.FinMap.{get}
use Rattle.inno_types.specs.declared.value.Value.{Value}
use Rattle.inno_types.specs.declared.value.Column.{Column}
use Rattle.inno_types.specs.declared.value.Schema.{Schema}
use Rattle.inno_model.specs.declared.event.Event.{Event}
use Rattle.inno_model.specs.Past.{changed, committed, commits, IsOpen}
use Rattle.inno_db.specs.Database.{RowMap}
use Rattle.key_codec.specs.Keys.{HasKey, key_code}
use Rattle.entries.specs.Pairs.{Pair, value_of}
use Rattle.row_versions.specs.declared.kept.Kept.{Kept}
use Rattle.txn_table.specs.Txns.{Entry, ids_of as active_of}
use Rattle.row_versions.specs.declared.place.Place.{Place}
use Rattle.row_versions.specs.declared.version.Version.{Version}
use Rattle.row_versions.specs.Chains.{Chains, versions_at, first_seen}
use Rattle.law_past_agreement.specs.Order.{created, IsOrdered}
use Rattle.law_past_agreement.specs.Ids.{id_of, opens}
use Rattle.law_past_agreement.specs.Rows.{is_at, row_opened}
use Rattle.law_past_agreement.specs.Agreement.{AreVersions}
use Rattle.law_past_agreement.specs.DatabaseTables.{with_all_tables}
use Rattle.law_past_agreement.proofs.Ids.{ids_of}
use Rattle.law_past_agreement.proofs.Opens.{IsEntry, active_open, opens_of}
use Rattle.law_stored_rows.specs.Edits.{clustered_index}
use Rattle.law_stored_rows.specs.Records.{IsRecordWith, kept_of}
use Rattle.law_stored_rows.specs.Tables.{AreClustered, in_table}
use Rattle.law_stored_rows.proofs.RowRecords.{one_record, record_of}
use Rattle.law_logged_pages.specs.HeldRows.{AreSlots}
use Rattle.law_logged_pages.proofs.FirstCommitted.{row_read}
use Rattle.law_read_pages.specs.Rows.{has_id, is_settled_id, ReadsAs, ReadAs}

pub reads_one_way : (schema : Schema) (key : List ℕ) (kept : ℕ → Option Kept) (open_id : ℕ → Bool) (bytes : Option (List ℕ))
    (row other : Option (List Value)) → ReadsAs schema key kept open_id bytes row → ReadsAs schema key kept open_id bytes other → row ≡ other
reads_one_way schema key kept open_id bytes row other one two =
    sym one.first
    ∙ ap (first_seen (is_settled_id open_id)) (one_record schema key kept bytes one.versions two.versions one.leads two.leads)
    ∙ two.first

-- a version whose writer is open is passed over
passed : (open_id : ℕ → Bool) (newest : Version) (older : List Version) → open_id newest.writer ≡ true
    → first_seen (is_settled_id open_id) (newest ∷ older) ≡ first_seen (is_settled_id open_id) older
passed open_id newest older is = rw is refl

pub reads_on : (schema : Schema) (key : List ℕ) (kept : ℕ → Option Kept) (open_id : ℕ → Bool) (was now : Option (List ℕ))
    (newest : Version) (older : List Version) (row : Option (List Value)) → open_id newest.writer ≡ true
    → IsRecordWith schema key kept was (newest ∷ older) → IsRecordWith schema key kept now older
    → ReadsAs schema key kept open_id was row → ReadsAs schema key kept open_id now row
reads_on schema key kept open_id was now newest older row is leads after reads = record {
  versions = older;
  leads = after;
  first = sym (passed open_id newest older is)
      ∙ ap (first_seen (is_settled_id open_id)) (one_record schema key kept was (newest ∷ older) reads.versions leads reads.leads)
      ∙ reads.first;
}

empty_of : (vs : List Version) → (vs ≢ [] → ⊥) → vs ≡ []
empty_of [] none = refl
empty_of (v ∷ vs) none = absurd (none (λ is. cc))

-- one of the entries has the id
find_id : (past : List Event) (id : ℕ) (xs : List Entry) → AllByRecursion (IsEntry past) xs → list_any (λ a. a == id) (active_of xs) ≡ true
    → (s : ℕ) × IsOpen s past × (id_of past s ≡ id) × (0 < id)
find_id past id [] all is = absurd (false≢true is)
find_id past id (e ∷ xs) all is =
    elim (eqb_tells e.1.id 0) [
      | inl zero ↦ find_id past id xs all.1 (grind (arith, nat_tests, is, zero.0))
      | inr some ↦ elim (eqb_tells e.1.id id) [
        | inl same ↦ (e.1.session, all.0.is-open, all.0.id-is ∙ same.1, omega (arith, some.1, same.1))
        | inr other ↦ find_id past id xs all.1 (grind (arith, nat_tests, is, some.0, other.0))
      ]
    ]

module _ (past : List Event) (ordered : IsOrdered past) where
  -- the ids of open transactions are those of its sessions
  pub slots : AreSlots past (has_id (opens past))
  slots = record { there = active_open past ordered; back = λ id is. find_id past id (opens past) (opens_of past ordered).back is }

  module _ (indexes : ℕ → List Pair) (kept : ℕ → Option Kept) (chains : Chains)
      (versions : (place : Place) → AreVersions past (row_opened past place) (is_at (created past) place) (versions_at place chains))
      (coded : AreClustered (created past) indexes kept chains) where
    abbrev rows : RowMap
    rows = (changed (with_all_tables past) (committed (commits past) past)).rows

    at_place : (table : ℕ) (value : Value)
        → first_seen (is_settled_id (has_id (opens past))) (in_table table chains value) ≡ get rows (table, value)
    at_place table value =
        let place : Place = record { table = table; key = value } in
        row_read past (has_id (opens past)) (ids_of past ordered) slots (in_table table chains value) place ordered (versions place)

    none_there : (table : ℕ) (value : Value) → in_table table chains value ≡ [] → get rows (table, value) ≡ None
    none_there table value none = sym (at_place table value) ∙ ap (first_seen (is_settled_id (has_id (opens past)))) none

    pub read : ReadAs (created past) indexes kept (has_id (opens past)) rows
    read = record {
      records = λ table schema primary value there is has.
          let of_table = coded.tables table schema there in
          let same : primary ≡ of_table.primary = (let one = sym is ∙ of_table.primary_is in cc) in
          record {
            versions = in_table table chains value;
            leads =
                record_of schema (key_code primary.kind value) kept table
                (value_of (key_code primary.kind value) (indexes (clustered_index table))) (in_table table chains value)
                (subst (λ (c : Column). IsRecordWith schema (key_code c.kind value) (kept_of kept table (key_code c.kind value))
                (value_of (key_code c.kind value) (indexes (clustered_index table))) (in_table table chains value)) (sym same)
                (of_table.records value (subst (λ (c : Column). HasKey c.kind value) same has)));
            first = at_place table value;
          };
      no_others = λ table schema primary value there is none.
          let of_table = coded.tables table schema there in
          let same : primary ≡ of_table.primary = (let one = sym is ∙ of_table.primary_is in cc) in
          none_there table value
          (empty_of (in_table table chains value)
          (λ some. none (subst (λ (c : Column). HasKey c.kind value) (sym same) (of_table.nowhere_else value some))));
      no_tables = λ table value none. none_there table value (coded.nowhere_else table value none);
    }
