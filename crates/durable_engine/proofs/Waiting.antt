-- Who awaits a signal has a seat that says so, and since when.
use Rattle.std.proofs.Common.{◌≡◌, ◌∙◌, ℕ, List, Option, None, Some, refl, sym, ap}
use Rattle.inno_types.specs.declared.reply.Item.{Item}
use Rattle.inno_types.specs.declared.reply.Item.TheVariants as items
use Rattle.inno_model.specs.Past.{under_way}
use Rattle.store_api.specs.declared.answers.Progress.{Progress}
use Rattle.shared_lists.specs.State.{State as Lists}
use Rattle.session_engine.specs.declared.seats.Seat.{Seat}
use Rattle.session_engine.specs.declared.seats.Seat.TheVariants as seats
use Rattle.session_engine.specs.declared.seats.SignalItem.{SignalItem}
use Rattle.session_engine.specs.declared.seats.SignalItem.TheVariants.{Gives, Awaits}
use Rattle.session_engine.specs.Seats.{State as Sessions, seat_at, seat_since, since_at, SeatAgrees, AreSeats}
use Rattle.session_engine.specs.Calls.{WaitsInVain, GivesUpInVain}
use Rattle.durable_engine.specs.Calls.{HasWaited, WaitsLong}

no_await : (way : Option Item) (name : List ℕ) → way ≡ None → way ≡ Some (items.Await name) → ⊥
no_await way name none is = absurd (let never : None ≡ Some (items.Await name) = sym none ∙ is in cc)

no_text : (way : Option Item) (text name : List ℕ) → way ≡ Some (items.Sql text) → way ≡ Some (items.Await name) → ⊥
no_text way text name text_is is = absurd (let never = sym text_is ∙ is in cc)

await_seat : (lists : Lists) (s : ℕ) (name : List ℕ) (seat : Seat) → SeatAgrees lists s seat → under_way s lists.past ≡ Some (items.Await name)
    → (item : SignalItem) × (seat ≡ seats.Signalling item)
await_seat lists s name seats.Idle agrees is = absurd (no_await _ name agrees.0.rests is)
await_seat lists s name (seats.Busy statement) agrees is = absurd (no_text _ agrees.1.1.0 name agrees.1.1.1 is)
await_seat lists s name (seats.Refused at) agrees is = absurd (no_text _ agrees.text name agrees.started.item is)
await_seat lists s name (seats.Signalling item) agrees is = (item, refl)
await_seat lists s name seats.Leaving agrees is = absurd (no_await _ name agrees.may.rests is)
await_seat lists s name seats.Left agrees is = absurd (no_await _ name agrees.0 is)

vain_long : (now waited : ℕ) (item : SignalItem) (lists : Lists) (seat : Seat) → seat ≡ seats.Signalling item → WaitsInVain now waited item lists.past
    → HasWaited now waited (seat_since seat)
vain_long now waited (Gives name) lists seat at vain = absurd vain
vain_long now waited (Awaits wait) lists seat at vain = (vain.1, ap seat_since at ∙ vain.2, vain.3, vain.4)

pub waited_long : (s now : ℕ) (answer : Progress) (state : Sessions) → AreSeats state.lists state.seats → GivesUpInVain s now answer state
    → WaitsLong s now answer state.lists.past (since_at s state)
waited_long s now answer state agree vain = λ name waited item is.
    let found = await_seat state.lists s name (seat_at state.seats s) (agree.each s) item in
    vain_long now waited found.0 state.lists (seat_at state.seats s) found.1 (vain found.0 waited found.1 is)
