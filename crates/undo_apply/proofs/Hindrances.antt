-- Nothing hinders a step of a taking back over a store at hand where nobody else is awaited.
use Rattle.std.proofs.Common.{◌≡◌, ◌⊎◌, inl, inr, ⊎_elim, ℕ, Some, refl}
use Rattle.store_api.specs.{declared.answers.Undo.Undo, declared.moves.Move.Move}
use Rattle.store_api.specs.declared.moves.Move.TheVariants.{Done, Step, Latch, Again, Failed, Bad}
use Rattle.store_api.specs.declared.visits.Visit.TheVariants as visit
use Rattle.entries.specs.{Calls.Delays, Calls.IsKeptOff}
use Rattle.row_versions.specs.{declared.place.Place.Place, Chains.Chains}
use Rattle.law_stored_rows.specs.{Edits.clustered_index, Edits.key_index, Tables.Said}
use Rattle.world.specs.{State.WorldState, AtHand.IsAtHand}
use Rattle.world.proofs.AtHand.{index_not_delayed, never_unseen}
use Rattle.undo_apply.specs.Removal.{IsAwaitedAlone}
use Rattle.undo_apply.specs.{declared.work_room.WorkRoom.WorkRoom, declared.work_room.Stage.Stage}
use Rattle.undo_apply.specs.declared.work_room.Stage.TheVariants.{Walk, Remove, Record}
use Rattle.undo_apply.specs.Stages.{PutsBack, Stops, StopsWalk, StopsRemoval, StopsAt, index_at}

-- one call of an index, where nobody else is awaited there
module _ (actor index : ℕ) (old new : WorldState) (was : IsAtHand old) (is : IsAtHand new)
    (alone : (by : ℕ) → (old.indexes index).awaited ≡ Some by → by ≡ actor) where
  never_delays : (answer : Move) → Delays actor (old.indexes index) (new.indexes index) answer → ⊥
  never_delays answer off = index_not_delayed actor (old.indexes index) (new.indexes index) (was.indexes index) (is.indexes index) answer off

  pub never_stops : (why : Move) → Stops actor index old new why → ⊥
  never_stops (Latch by) h =
      ⊎_elim (λ (off : IsKeptOff actor by (old.indexes index) (new.indexes index)). off.held.another (alone by off.held.awaited)) (never_delays (Latch by)) h
  never_stops Step h = never_delays Step h
  never_stops Again h = never_delays Again h
  never_stops Failed h = never_delays Failed h
  never_stops (Bad page rule) h = never_delays (Bad page rule) h
  never_stops other h = h was.told

module _ (actor : ℕ) (old new : WorldState) (was : IsAtHand old) (is : IsAtHand new) (alone : IsAwaitedAlone actor old) where
  never_stops_call : (index : ℕ) (why : Move) → Stops actor index old new why → ⊥
  never_stops_call index = never_stops actor index old new was is (alone index)

  -- who is awaited amid a removal is its actor
  never_stops_removal : (index : ℕ) (why : Move) → StopsRemoval actor index old new why → ⊥
  never_stops_removal index why (inl first) = never_stops_call index why first
  never_stops_removal index why (inr second) =
      never_stops actor index second.mid second.after second.at_hand.0 second.at_hand.1
      (λ by awaited. ⊎_elim (λ at. alone index by at) (λ mine. mine) (second.reached.awaited by awaited)) why second.cause

  never_stops_walk : (why : Move) → StopsWalk old new why → ⊥
  never_stops_walk Failed h = never_unseen old.versions new.versions was.versions is.versions visit.Failed h
  never_stops_walk Again h = never_unseen old.versions new.versions was.versions is.versions visit.Again h
  never_stops_walk (Bad page rule) h = never_unseen old.versions new.versions was.versions is.versions (visit.Bad page rule) h
  never_stops_walk other h = h was.told

  pub never_stops_at : (undo : Undo) (stage : Stage) (why : Move) → StopsAt actor undo stage old new why → ⊥
  never_stops_at undo (Walk which pointer) why h = never_stops_walk why h
  never_stops_at undo (Remove which) why h = never_stops_removal (key_index undo.table which) why h
  never_stops_at undo Record why h = never_stops_removal (clustered_index undo.table) why h
  never_stops_at undo other why h = never_stops_call (index_at undo other) why h

  -- a step is made, or it was the last one
  pub never_hindered : (chains : Chains) (beside : Said) (place : Place) (undo : Undo) (room next : WorkRoom) (answer : Move)
      → PutsBack chains beside place actor undo room next old new answer → (answer ≡ Done) ⊎ (answer ≡ Step)
  never_hindered chains beside place undo room next Done puts = inl refl
  never_hindered chains beside place undo room next Step puts = inr refl
  never_hindered chains beside place undo room next other puts = absurd (never_stops_at undo room.stage other puts.cause)
