-- What a step of a taking back puts is as long as its index asks.
use Rattle.std.proofs.Common.{◌≡◌, ◌≢◌, inl, inr, ℕ, ◌+◌, ◌<◌, List, [], ◌∷◌, length, sym, arith}
use Rattle.store_api.specs.declared.answers.Undo.{Undo}
use Rattle.row_versions.specs.{declared.place.Place.Place, Chains.Chains}
use Rattle.law_stored_rows.specs.{Edits.clustered_index, Edits.key_index, Tables.Said}
use Rattle.world.specs.{State.WorldState, Indexes.KeepsAsSaid, Widths.value_len, Widths.HasValueLen}
use Rattle.world.proofs.Widths.{record_value_len, entry_value_len, has_value_len}
use Rattle.undo_apply.specs.{declared.work_room.WorkRoom.WorkRoom, Stages.IsPuttingBack}
use Rattle.undo_apply.specs.declared.work_room.Stage.TheVariants.{Mark, Unmark}

module _ {chains : Chains} {beside : Said} {place : Place} {undo : Undo} {room : WorkRoom} {old : WorldState}
    (is : IsPuttingBack chains beside place undo room old) where
  -- a mark, in a key
  mark_len : (which : ℕ) → which < length is.schema.keys → (value : List ℕ) (mark : ℕ) → value ≡ mark ∷ [] → (number : ℕ)
      → number ≡ key_index undo.table which → HasValueLen old.schemas number value
  mark_len which within value mark value_is number number_is =
      let few : 1 + which < 8 = (let most = is.tells.storable.few in omega (arith, most, within)) in
      rw value_is
      (has_value_len undo.table (1 + which) is.schema number_is few is.tells.there (mark ∷ []) (sym (entry_value_len is.schema which)))

  pub marked_len : (which : ℕ) → room.stage ≡ Mark which → (number : ℕ) → number ≡ key_index undo.table which
      → HasValueLen old.schemas number room.marked
  marked_len which is_at = mark_len which (rw is_at at is.fits) room.marked 1 is.whole.marked

  pub unmarked_len : (which : ℕ) → room.stage ≡ Unmark which → (number : ℕ) → number ≡ key_index undo.table which
      → HasValueLen old.schemas number room.unmarked
  unmarked_len which is_at = mark_len which (rw is_at at is.fits).0 room.unmarked 0 is.whole.unmarked

  -- the version before
  pub before_len : undo.kind ≢ 1 → (number : ℕ) → number ≡ clustered_index undo.table → HasValueLen old.schemas number undo.value
  before_len other number number_is =
      has_value_len undo.table 0 is.schema (omega (arith, number_is)) (omega arith) is.tells.there undo.value (long is.tells.undo_is.kept)
    where
      long : KeepsAsSaid old.schemas undo → length undo.value ≡ value_len is.schema 0
      long (inl new) = absurd (other new.0)
      long (inr kept) =
          let v = kept.2 in
          let same : v.schema ≡ is.schema = (let one = v.there in let again = is.tells.there in cc) in
          rw same at (record_value_len v.schema kept.1 undo.value v.record_is.fits v.record_is.value_is)
