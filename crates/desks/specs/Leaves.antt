-- What a step of one session leaves to the others.
use Rattle.std.specs.Prelude.{◌≡◌, ◌≢◌, ◌⊎◌, ℕ, ◌+◌, Some, slice_get}
use Rattle.inno_types.specs.declared.value.Schema.{Schema}
use Rattle.row_versions.specs.Chains.{Chains}
use Rattle.law_stored_rows.specs.Records.{KeepsMore}
use Rattle.law_world_agreement.specs.Agreement.{Agrees}
use Rattle.law_found_rows.specs.Pasts.{AddsAtMostOne}
use Rattle.world.specs.{State.WorldState, Told.IsTold}
use Rattle.desks.specs.{Desks.Store, Desks.desk_at}

-- whatever was kept is kept still, or one older version more was dropped
abbrev pub KeepsOrCuts : ℕ → ℕ → WorldState → WorldState → Type 0
KeepsOrCuts cuts now old new = ((now ≡ cuts) × KeepsMore old.versions.kept_at new.versions.kept_at) ⊎ (now ≡ cuts + 1)

-- A step of this session: what the others have, their places in indexes, their right to write and all tables are as they were, and
-- only who may write changes rows.
pub record Does (t : ℕ) (before after : Chains) (old new : Store) : Type 0 where
  pub agreed : Agrees before old.world
  pub agrees : Agrees after new.world
  pub adds : AddsAtMostOne t old.world.past new.world.past
  pub told : IsTold old.world
  pub tables : (n : ℕ) (schema : Schema) → slice_get old.world.schemas n ≡ Some schema → slice_get new.world.schemas n ≡ Some schema
  pub sessions : (s : ℕ) → s ≢ t → slice_get new.world.sessions s ≡ slice_get old.world.sessions s
  pub desks : (s : ℕ) → s ≢ t → desk_at s new.desks ≡ desk_at s old.desks
  pub places : (s index : ℕ) → s ≢ t → (new.world.indexes index).place s ≡ (old.world.indexes index).place s
  pub rights : (s : ℕ) → s ≢ t → old.writer ≡ Some s → new.writer ≡ Some s
  pub back : (s : ℕ) → s ≢ t → new.writer ≡ Some s → old.writer ≡ Some s
  pub changes : (after ≡ before) ⊎ (old.writer ≡ Some t)
  pub kept : KeepsOrCuts old.cuts new.cuts old.world new.world
