-- A store that nobody has joined, and a change of a row that begins while others are at work.
-- A store under record locks is to start from them: from the one where nothing is done yet, and from the other where a change has its place alone.
use Rattle.std.proofs.Common.{◌≡◌, ◌∙◌, refl, sym, ap, ℕ, ◌<◌, List, [], length, None, Some, arith}
use Rattle.std.proofs.lemmas.{Bool.true≢false, Option.slice_get_within}
use Rattle.std.specs.List.{list_any}
use Rattle.inno_types.specs.{declared.lock.Lock.Lock, declared.value.Schema.Schema}
use Rattle.inno_model.specs.Past.{own}
use Rattle.law_past_agreement.specs.Rows.{is_at}
use Rattle.world.specs.State.{WorldState, Session, Work, HasWork}
use Rattle.world.specs.Told.{IsTold}
use Rattle.row_changes.specs.{Records.IsTable, Edits.FitsEdit, declared.row_edit.RowEdit.RowEdit}
use Rattle.row_changes.proofs.Sessions.{same_versions}
use Rattle.desks.specs.declared.desk.Doing.TheVariants.{Nothing, Changing}
use Rattle.desks.specs.{declared.desk.Desk.Desk, declared.desk.Doing.Doing, Desks.Store, Desks.desk_at, Desks.doing_at, Desks.with_doing, Desks.is_undoing}
use Rattle.desks.specs.Holding.{IsFresh}
use Rattle.law_held_steps.specs.Making.{begun}
use Rattle.law_held_steps.proofs.{AnyStep.IsGiven, AnyStep.given, AnyStep.there, AnyStep.rooms_then, Items.first_held, Made.begun_rows}
use Rattle.law_locked_rows.specs.Many.{IsHeldByAll}
use Rattle.law_locked_rows.proofs.{TakingBack.held_pairs, TakingBack.owned_pairs, Quiet.held_by_all}

-- ---- nobody has joined

pub first_all : (state : WorldState) → IsTold state → IsFresh state → IsHeldByAll (record { world = state; writer = None; desks = []; cuts = 0 }) []
first_all state told fresh =
    held_by_all (first_held state told fresh) (record {
      changed = λ s place has. absurd (true≢false (sym has ∙ ap (list_any (is_at state.schemas place)) (ap (own s) fresh.past)));
      working = λ s place works. absurd (let e : None ≡ Some place = works in cc);
    }) tt (λ s. record {})

-- ---- a change begins

module _ (t : ℕ) {store : Store} {granted : List Lock} (held : IsHeldByAll store granted) (told : IsTold store.world)
    (idle : doing_at t store.desks ≡ Nothing) {session : Session} {work : Work} (has : HasWork t session work store.world) (table : ℕ) (schema : Schema)
    (table_is : IsTable table schema store.world) (edit : RowEdit) (key : List ℕ) (fits : FitsEdit schema edit key) where
  abbrev later : Doing
  later = Changing (begun table edit key)

  within : t < length store.desks
  within = omega (arith, slice_get_within store.world.sessions t session has.session_is, held.agrees.count, held.count)

  was : (desk : Desk) × (desk_at t store.desks ≡ Some desk)
  was = there t store.desks within

  gives : IsGiven t was.0 (record was.0 { doing = later }) store.desks (with_doing t later store.desks)
  gives = given t later store.desks was.1

  pub begun_all : IsHeldByAll (record store { desks = with_doing t later store.desks }) granted
  begun_all = held_pairs held refl (same_versions store.world.versions) told told (λ index. refl) gives (record {})
      (rooms_then t later store.desks (held.rooms t) (ap is_undoing idle) (record was.0 { doing = later }) gives.here)
      (begun_rows t held.rows held.logs told held.agrees idle within table edit key has table_is fits) held.logs
      (owned_pairs held refl (same_versions store.world.versions) told told (λ index. refl) gives (λ s session work index key is alone. alone)
      (λ place works. absurd (let e : None ≡ Some place = works in cc))) held.apart
