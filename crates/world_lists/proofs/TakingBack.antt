-- A change is taken back in held lists: its undo record is read, and step by step its rows and keys are what was before. Then
-- the record goes, and the history tells it.
use Rattle.shared_lists.specs.Tasks as tasks
use Rattle.store_api.specs.declared.stepped.Stepped.TheVariants as stepped
use Rattle.std.proofs.Common.{◌≡◌, ◌≢◌, ⊎_elim, ℕ, ◌-◌, ◌+◌, ◌<◌, ◌^◌, Bool, List, length, Option, Some, refl, sym, ap, subst, ◌∙◌, []}
use Rattle.std.proofs.Common.{get_or}
use Rattle.std.proofs.lemmas.Option.{slice_get_within}
use Rattle.std.specs.Prelude.{slice_set}
use Rattle.inno_types.specs.declared.value.Schema.{Schema}
use Rattle.entries.specs.Index.{Index}
use Rattle.law_stored_rows.specs.Tables.{Said}
use Rattle.law_past_agreement.specs.Order.{MayCome}
use Rattle.world.specs.{State.WorldState, State.Session, State.Work, State.IsSession, State.HasWork, State.standing_of, Told.TellsTogether}
use Rattle.world.specs.{declared.undo_room.UndoRoom.UndoRoom, Undoing.read_into, Undoing.ReadsLast, Undoing.IsCutBack, Undoing.HoldsRecord, AtHand.IsAtHand}
use Rattle.row_changes.specs.Awaited.{AwaitsNoMore}
use Rattle.desks.specs.declared.desk.Doing.TheVariants.{Nothing, Searching, Changing, Lagging, Undoing}
use Rattle.desks.specs.Desks.{Store, desk_at, doing_in, doing_at, with_doing, with_read, with_room}
use Rattle.desks.specs.{declared.desk.Desk.Desk, declared.desk.Doing.Doing, Holding.IsHeld, Shown.lists_of, Shown.shown, Undoing.left_in}
use Rattle.desks.proofs.Showing.{task_is, desk_read, set_at}
use Rattle.law_held_steps.proofs.Putting.{asks_for, goes_back, held_on, goes_or_is_done, held_begun, desk as own_desk}
use Rattle.law_held_steps.proofs.Putting.{undo as own_undo, room as own_room, own_number, has_logged, may_add, held_then, ready_if, shows_begun, shows_went}
use Rattle.law_held_steps.proofs.Putting.{shows_undone}
use Rattle.law_held_steps.proofs.AnyStep.{some_same}
use Rattle.world_lists.specs.{Between.IsKept, Parts.DropsNewest}
use Rattle.world_lists.proofs.Calls.{nobody_then, past_here, at_desk, with_both}
use Rattle.inno_model.specs.{declared.event.Event.TheVariants.Undone, Past.own}
use Rattle.store_api.specs.{declared.moves.Move.Move, declared.moves.Move.TheVariants.Done, declared.moves.Move.TheVariants.Step}
use Rattle.row_versions.specs.{Chains.Chains, declared.place.Place.Place}
use Rattle.undo_apply.specs.{declared.work_room.WorkRoom.WorkRoom, Stages.IsPuttingBack}
use Rattle.shared_lists.specs.{Tasks.MayTakeBack, State.Lists, State.task_of}
use Rattle.law_other_places.specs.Steps.{IsReady}
use Rattle.law_held_steps.specs.Making.{HasPutBack, TakesBackIn}

undoing_shown : (schemas : List Schema) (left n : ℕ) (doing : Doing) → shown schemas left doing ≡ tasks.Undoing n → doing ≡ Undoing
undoing_shown schemas left n Undoing is = refl
undoing_shown schemas left n Nothing is = absurd (cc)
undoing_shown schemas left n (Searching on) is = absurd (cc)
undoing_shown schemas left n (Changing change) is = absurd (cc)
undoing_shown schemas left n Lagging is = absurd (cc)

module _ (s : ℕ) {store : Store} {lists : Lists} (kept : IsKept store) (view : lists_of store ≡ lists) where
  abbrev world : WorldState
  world = store.world

  -- a session that takes a change back
  pub is_busy : (n : ℕ) × (task_of s lists.state ≡ tasks.Undoing n) → doing_at s store.desks ≡ Undoing
  is_busy task =
      undoing_shown world.schemas (left_in world (desk_at s store.desks)) task.0 (doing_at s store.desks)
      (sym (task_is s store) ∙ (ap (λ (l : Lists). task_of s l.state) view ∙ task.1))

  -- ---- the record is read

  module _ (joined : s < length lists.state.names) {desk : Desk} (is : desk ≡ get_or store.desks s desk) where
    its_desk : desk_at s store.desks ≡ Some desk
    its_desk = desk_read store.desks s (at_desk s kept view joined) is

    pub may_read : HoldsRecord desk.undo
    may_read = (kept.held.rooms s desk its_desk).record_room

    module _ (may : MayCome lists.state.past (Undone s (length (own s lists.state.past) - 1))) (task : MayTakeBack (task_of s lists.state))
        (waits : (n : ℕ) → task_of s lists.state ≡ tasks.Undoing n → ⊥) (new : WorldState) (read : UndoRoom) (there : Bool) (hand : IsAtHand new)
        (reads : ReadsLast s s (read_into read) there world new Done) {later : List Desk}
        (gives : later ≡ with_doing s Undoing (slice_set store.desks s (record desk { undo = read }))) where
      may_here : MayCome world.past (Undone s (length (own s world.past) - 1))
      may_here = past_here s kept view (λ h. MayCome h (Undone s (length (own s h) - 1))) may

      is_ready : IsReady (doing_at s store.desks)
      is_ready =
          let left = left_in world (desk_at s store.desks) in
          ⊎_elim (λ ready. ready) (λ busy. absurd (waits left (ap (λ (l : Lists). task_of s l.state) (sym view) ∙ (task_is s store
          ∙ ap (shown world.schemas left) busy)))) (ready_if store s (subst (λ (l : Lists). MayTakeBack (task_of s l.state)) (sym view) task))

      desk_ready : IsReady desk.doing
      desk_ready = subst (λ (found : Option Desk). IsReady (doing_in found)) its_desk is_ready

      reads_given : later ≡ with_read s read store.desks
      reads_given =
          gives ∙ ap (with_doing s Undoing) (set_at s (λ d. record d { undo = read }) store.desks its_desk)
          ∙ with_both s (λ d. record d { undo = read }) (λ d. record d { doing = Undoing }) store.desks

      pub read_kept : HoldsRecord read → IsKept (record store { world = new; desks = later })
      read_kept holds = record {
        held = subst (λ (ds : List Desk). IsHeld (record store { world = new; desks = ds })) (sym reads_given)
            (held_begun s kept.held (length (own s world.past) - 1) may_here new read there reads its_desk desk_ready hand holds);
        awaits = λ index by is. kept.awaits index by (sym (reads.1.indexes index).awaited ∙ is);
      }

      pub read_shown : TakesBackIn s (length (own s lists.state.past) - 1) lists (lists_of (record store { world = new; desks = later })) stepped.Went
      read_shown =
          subst (λ (l : Lists). TakesBackIn s (length (own s l.state.past) - 1) l (lists_of (record store { world = new; desks = later })) stepped.Went) view
          (subst (λ (ds : List Desk). TakesBackIn s (length (own s world.past) - 1) (lists_of store) (lists_of (record store { world = new; desks = ds }))
          stepped.Went) (sym reads_given)
          (shows_begun s (length (own s world.past) - 1) kept.held new read there its_desk desk_ready may_here hand reads))

-- ---- a step

module _ (s : ℕ) {store : Store} (kept : IsKept store) (joined : s < length store.desks) (busy : doing_at s store.desks ≡ Undoing)
    (hand : IsAtHand store.world) {desk : Desk} (is : desk ≡ get_or store.desks s desk) where
  abbrev old : WorldState
  old = store.world

  at : desk_at s store.desks ≡ Some desk
  at = desk_read store.desks s joined is

  same : own_desk s kept.held busy ≡ desk
  same = some_same (own_desk s kept.held busy) desk (sym (goes_back s kept.held busy).at ∙ at)

  pub asks : ((chains : Chains) × (beside : Said) × (place : Place) × IsPuttingBack chains beside place (read_into desk.undo) desk.room old)
      × TellsTogether old
  asks =
      subst (λ (d : Desk). ((chains : Chains) × (beside : Said) × (place : Place) × IsPuttingBack chains beside place (read_into d.undo) d.room old)
      × TellsTogether old) same (asks_for s kept.held busy hand)

  module _ (mid : WorldState) (next : WorkRoom) where
    abbrev PutsTo : Move → Type 0
    PutsTo answer = HasPutBack s (read_into desk.undo) desk.room next old mid answer

    its_put : (answer : Move) → PutsTo answer → HasPutBack s (read_into (own_undo s kept.held busy)) (own_room s kept.held busy) next old mid answer
    its_put answer put = subst (λ (d : Desk). HasPutBack s (read_into d.undo) d.room next old mid answer) (sym same) put

    -- its room has come so far
    put_room : slice_set store.desks s (record desk { room = next }) ≡ with_room s next store.desks
    put_room = set_at s (λ d. record d { room = next }) store.desks at

    -- nothing hinders it
    pub is_made : IsAtHand mid → (answer : Move) → PutsTo answer → answer ≢ Done → answer ≢ Step → ⊥
    is_made later answer put not_done not_step =
        ⊎_elim (λ done. not_done done) (λ step. not_step step)
        (goes_or_is_done s kept.held busy mid next answer (its_put answer put) hand later kept.awaits)

    -- it goes on
    module _ (put : PutsTo Step) (later : IsAtHand mid) where
      abbrev gone_on : List Desk → Store
      gone_on desks = record store { world = mid; desks = desks }

      pub step_kept : AwaitsNoMore old mid → IsKept (gone_on (slice_set store.desks s (record desk { room = next })))
      step_kept awaits =
          subst (λ (ds : List Desk). IsKept (gone_on ds)) (sym put_room) (record {
            held = held_on s kept.held busy mid next (its_put Step put) hand later;
            awaits = nobody_then kept.awaits awaits;
          })

      pub step_shown : TakesBackIn s (length (own s old.past) - 1) (lists_of store)
          (lists_of (gone_on (slice_set store.desks s (record desk { room = next })))) stepped.Went
      step_shown =
          subst (λ (ds : List Desk). TakesBackIn s (length (own s old.past) - 1) (lists_of store) (lists_of (gone_on ds)) stepped.Went) (sym put_room)
          (shows_went s (length (own s old.past) - 1) kept.held busy mid next hand later (its_put Step put))

    -- It is the last one, and the undo record may go.
    module _ (put : PutsTo Done) where
      its : HasPutBack s (read_into (own_undo s kept.held busy)) (own_room s kept.held busy) next old mid Done
      its = its_put Done put

      pub is_logged : (session : Session) × (work : Work) × HasWork s session work mid × (work.log ≢ [])
      is_logged = has_logged s kept.held busy mid next its

      pub is_session : s < length mid.sessions
      is_session = slice_get_within mid.sessions s is_logged.0 is_logged.2.session_is

      pub has_changes : (now : Session) → IsSession s now mid → 0 < (standing_of now).own
      has_changes now is = (own_number s kept.held busy mid next its now is).0

      pub has_still : (cut : WorldState) → IsCutBack s mid cut → (now : Session) × (work : Work) × HasWork s now work cut × (0 < work.own)
      has_still cut back = may_add s kept.held busy mid next its cut back

      module _ (new : WorldState) (drops : DropsNewest s mid new) where
        abbrev keep : ℕ
        keep = (standing_of drops.session).own - 1

        keep_is : keep ≡ length (own s old.past) - 1
        keep_is = (own_number s kept.held busy mid next its drops.session drops.there).1

        -- what comes with the last step calls no index
        drops_same : new.indexes ≡ mid.indexes
        drops_same =
            let (now, work, has, some) = has_still drops.cut drops.cuts in
            ap (λ (state : WorldState). state.indexes) (drops.added now work has) ∙ ap (λ (state : WorldState). state.indexes) drops.cuts.rest

        module _ (later : IsAtHand new) {now : List Desk}
            (gives : now ≡ with_doing s Nothing (slice_set store.desks s (record desk { room = next }))) where
          abbrev made : List Desk → Store
          made desks = record store { world = new; desks = desks; cuts = store.cuts + 1 }

          left_given : now ≡ with_doing s Nothing (with_room s next store.desks)
          left_given = gives ∙ ap (with_doing s Nothing) put_room

          pub done_kept : length new.past < 2 ^ 63 → AwaitsNoMore old mid → IsKept (made now)
          done_kept few awaits = record {
            held = subst (λ (ds : List Desk). IsHeld (made ds)) (sym left_given)
                (held_then s kept.held busy mid next its drops.cut drops.cuts keep new drops.added keep_is hand later.told few);
            awaits = λ index by is. nobody_then kept.awaits awaits index by (ap (λ (at : ℕ → Index). (at index).awaited) (sym drops_same) ∙ is);
          }

          pub done_shown : TakesBackIn s (length (own s old.past) - 1) (lists_of store) (lists_of (made now)) (stepped.Done tt)
          done_shown =
              subst (λ (ds : List Desk). TakesBackIn s (length (own s old.past) - 1) (lists_of store) (lists_of (made ds)) (stepped.Done tt)) (sym left_given)
              (subst (λ (n : ℕ). TakesBackIn s n (lists_of store) (lists_of (made (with_doing s Nothing (with_room s next store.desks)))) (stepped.Done tt))
              keep_is (shows_undone s kept.held busy mid next its drops.cut drops.cuts keep new drops.added keep_is))
