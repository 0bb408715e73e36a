-- What the board of an engine says of a session, by its seat and its past.
use Rattle.std.proofs.Common.{◌≡◌, ◌≢◌, ℕ, zero, suc, ◌+◌, true, false, Option, Some, None, List, [], ◌∷◌, refl, sym, ap, ◌∙◌, subst, arith}
use Rattle.std.specs.Prelude.{slice_index_or}
use Rattle.inno_types.specs.declared.reply.Item.{Item}
use Rattle.inno_model.specs.declared.event.Event.{Event}
use Rattle.inno_model.specs.Past.{under_way}
use Rattle.inno_model.specs.declared.board.Phase.{Phase}
use Rattle.inno_model.specs.declared.board.Phase.TheVariants.{Idle, Busy, Leaving, Left}
use Rattle.inno_model.specs.Boards.{phase_of}
use Rattle.durable_engine.specs.declared.stopped_seats.Seat.{Seat}
use Rattle.durable_engine.specs.Seats.{phase_at}
use Rattle.durable_engine.specs.StoppedCalls.{is_at_work, has_left}
use Rattle.turn_engine.specs.Calls.{IsUnderWay, has_left as board_left}
use Rattle.durable_engine.specs.State.{State}
use Rattle.shared_engine.specs.Shown.{working_on, shown, all_shown, board_of}

shown_at : (past : List Event) (k : ℕ) (seats : List Seat) (s : ℕ) → slice_index_or (all_shown past k seats) s Idle ≡ shown past (k + s) (phase_at seats s)
shown_at past k [] s = refl
shown_at past k (seat ∷ seats) zero = let here : k ≡ k + 0 = omega arith in ap (λ (n : ℕ). shown past n seat.phase) here
shown_at past k (seat ∷ seats) (suc s) =
    let next : (k + 1) + s ≡ k + suc s = omega arith in
    shown_at past (k + 1) seats s ∙ ap (λ (n : ℕ). shown past n (phase_at seats s)) next

-- the phase on the board
pub phase_shown : {D : Type 0} (state : State D) (s : ℕ) → phase_of (board_of state) s ≡ shown state.past s (phase_at state.seats s)
phase_shown state s =
    let here : 0 + s ≡ s = omega arith in
    shown_at state.past 0 state.seats s ∙ ap (λ (n : ℕ). shown state.past n (phase_at state.seats s)) here

working_no_idle : (item : Option Item) → working_on item ≢ Idle
working_no_idle None is = absurd (cc)
working_no_idle (Some item) is = absurd (cc)

idle_seat : (past : List Event) (s : ℕ) (p : Phase) → shown past s p ≡ Idle → p ≡ Idle
idle_seat past s Idle is = refl
idle_seat past s Busy is = absurd (working_no_idle (under_way s past) is)
idle_seat past s Leaving is = absurd (working_no_idle (under_way s past) is)
idle_seat past s Left is = absurd (cc)

-- who is idle on the board has an idle seat
pub idle_inside : {D : Type 0} (state : State D) (s : ℕ) → phase_of (board_of state) s ≡ Idle → phase_at state.seats s ≡ Idle
idle_inside state s is = idle_seat state.past s (phase_at state.seats s) (sym (phase_shown state s) ∙ is)

working_seat : (past : List Event) (s : ℕ) (p : Phase) → IsUnderWay (shown past s p) → is_at_work p ≡ true
working_seat past s Idle way = absurd way
working_seat past s Busy way = refl
working_seat past s Leaving way = refl
working_seat past s Left way = absurd way

-- who has something under way on the board is at work
pub working_inside : {D : Type 0} (state : State D) (s : ℕ) → IsUnderWay (phase_of (board_of state) s) → is_at_work (phase_at state.seats s) ≡ true
working_inside state s way = working_seat state.past s (phase_at state.seats s) (subst IsUnderWay (phase_shown state s) way)

pub shown_working : (past : List Event) (s : ℕ) (p : Phase) → is_at_work p ≡ true → shown past s p ≡ working_on (under_way s past)
shown_working past s Idle is = absurd (cc)
shown_working past s Busy is = refl
shown_working past s Leaving is = refl
shown_working past s Left is = absurd (cc)

left_working : (item : Option Item) → board_left (working_on item) ≡ false
left_working None = refl
left_working (Some item) = refl

left_seat : (past : List Event) (s : ℕ) (p : Phase) → board_left (shown past s p) ≡ has_left p
left_seat past s Idle = refl
left_seat past s Busy = left_working (under_way s past)
left_seat past s Leaving = left_working (under_way s past)
left_seat past s Left = refl

-- the board and the seat say the same of whether a session has left
pub left_inside : {D : Type 0} (state : State D) (s : ℕ) → board_left (phase_of (board_of state) s) ≡ has_left (phase_at state.seats s)
left_inside state s = ap board_left (phase_shown state s) ∙ left_seat state.past s (phase_at state.seats s)
