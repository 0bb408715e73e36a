-- A change of a row while no other is under way: of all other places the keys say what is there. And the same change where
-- something else is said beside its place.
use Rattle.std.proofs.Common.{◌≡◌, ◌∙◌, sym, ap, ⊎_elim, ℕ, List, Option, Some, slice_get}
use Rattle.inno_types.specs.{declared.value.Value.Value}
use Rattle.row_versions.specs.Chains.{Chains}
use Rattle.law_stored_rows.specs.Tables.{Said, SayTheSameBut, what_is_there}
use Rattle.law_stored_rows.proofs.Tables.{pushed_elsewhere}
use Rattle.world.specs.State.{WorldState}
use Rattle.row_changes.specs.{declared.keys_change.KeysChange.KeysChange, declared.record_change.RecordChange.RecordChange, Edits.IsKeyAt, Keys.IsChangingKeys}
use Rattle.row_changes.specs.{Told.HasRows, Records.ChangesRecord}
use Rattle.row_changes.specs.declared.row_change.RowChange.TheVariants.{Record, Keys}
use Rattle.row_changes.specs.Reached.{Went, Done}
use Rattle.row_changes.specs.Rows.{IsChangingRowAlone, ChangesRowAlone, PushesEdit, place_of, primary_of}
use Rattle.row_changes.proofs.{Sessions.one_found, Pushed.key_at, Telling.one_value, Telling.rows_whole}
use Rattle.row_changes.specs.RecordReached as records

-- the same change, where the same is said beside its place
pub keys_beside : (chains : Chains) (beside now : Said) (state : WorldState) (change : KeysChange) (p : IsChangingKeys chains beside state change)
    → SayTheSameBut (record { table = change.table; key = p.value }) beside now → IsChangingKeys chains now state change
keys_beside chains beside now state change p same =
    record {
      schema = p.schema;
      table = p.table;
      value = p.value;
      at = p.at;
      before = p.before;
      after = p.after;
      within = p.within;
      put = p.put;
      older = p.older;
      pushed = p.pushed;
      was = p.was;
      rows = λ told. let says = p.rows told in (
        says.0,
        says.1,
        record {
          lag = λ table which value apart. says.2.lag table which value apart ∙ sym (same table which value apart);
          first = says.2.first;
          here = says.2.here;
          later = says.2.later;
        },
      );
    }

-- before the record, the indexes are the rows
pub alone_rows : (s : ℕ) (chains : Chains) (state : WorldState) (change : RecordChange) (key : List ℕ) (after : Option (List Value))
    → IsChangingRowAlone s chains state (Record change key after) → HasRows chains state
alone_rows s chains state change key after is =
    let p = is.0 in
    rows_whole chains (place_of p.schema change) state
    (is.1 p.schema (primary_of p.schema change.edit) p.table.there (key_at p.schema change.edit change.key p.fits))

-- and so they are when it is over
pub alone_over : (s : ℕ) (chains : Chains) (old new : WorldState) (change : KeysChange) → IsChangingRowAlone s chains old (Keys change)
    → ChangesRowAlone s chains old new (Keys change) Done → HasRows chains new
alone_over s chains old new change p over =
    rows_whole chains (record { table = change.table; key = p.value }) new
    (over.1 p.schema p.value (ap (λ (state : WorldState). slice_get state.schemas change.table) over.0.rest ∙ p.table.there) p.at)

-- Once the version is pushed, the keys say of all other places what is there then, as they did before.
pub keys_alone : (s : ℕ) (chains pushed : Chains) (old new : WorldState) (change : RecordChange) (key : List ℕ) (after : Option (List Value))
    (next : KeysChange) → IsChangingRowAlone s chains old (Record change key after)
    → ChangesRowAlone s chains old new (Record change key after) (Went (Keys next)) → PushesEdit s change old chains pushed
    → IsChangingRowAlone s pushed new (Keys next)
keys_alone s chains pushed old new change key after next is made push =
    let p = is.0 in
    let k = made.0.1 pushed push in
    let there : slice_get old.schemas change.table ≡ Some k.schema = rw (made.0.2, schemas_stay made.0.0) at k.table.there in
    let at : IsKeyAt push.schema k.value change.key = rw (one_found k.schema push.schema there push.there, made.0.3) at k.at in
    let fits : IsKeyAt push.schema (primary_of push.schema change.edit) change.key =
    rw (one_found p.schema push.schema p.table.there push.there) at (key_at p.schema change.edit change.key p.fits) in
    let value_is = one_value push.schema k.value (primary_of push.schema change.edit) change.key at fits in
    keys_beside pushed (what_is_there chains) (what_is_there pushed) new next k
    (λ table which value apart. pushed_elsewhere chains pushed (place_of push.schema change) _ push.pushes (record { table = table; key = value })
    (rw (made.0.2, value_is) at apart))
  where
    schemas_stay : {found : Option (List Value)} → ChangesRecord s old new change (records.Recorded found) → new.schemas ≡ old.schemas
    schemas_stay h =
        ⊎_elim (λ f. ap (λ (state : WorldState). state.schemas) f.0.records.rest) (λ o. ap (λ (state : WorldState). state.schemas) o.1.records.rest) h.2
