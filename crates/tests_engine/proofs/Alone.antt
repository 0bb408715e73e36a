-- The only session, between the calls.
use Rattle.std.proofs.Common.{◌≡◌, ℕ, ◌<◌, ◌++◌, false, List, [], ◌∷◌, length, refl, sym, ap, subst, ◌∙◌, inl, inr, arith}
use Rattle.std.proofs.lemmas.Bool.{false≢true}
use Rattle.std.specs.List.{AllByRecursion}
use Rattle.inno_types.specs.declared.reply.Item.{Item}
use Rattle.inno_types.specs.declared.reply.Reply.{Reply}
use Rattle.inno_db.specs.Database.{Database}
use Rattle.inno_model.specs.declared.event.Event.{Event}
use Rattle.inno_model.specs.declared.event.Event.TheVariants as events
use Rattle.store_api.specs.declared.answers.Progress.{Progress}
use Rattle.store_api.specs.declared.answers.Progress.TheVariants.{Went, Waiting, NoMemory, NotYet, Done}
use Rattle.sql_history.specs.Counts.{last_moment}
use Rattle.shared_lists.specs.State.{State as Lists}
use Rattle.sql_lists.specs.Steps.{is_apart}
use Rattle.session_engine.specs.declared.seats.Seat.{Seat}
use Rattle.session_engine.specs.declared.seats.Seat.TheVariants.{Idle, Busy, Refused, Signalling, Leaving, Left}
use Rattle.session_engine.specs.Seats.{State, seat_at, is_working, has_left, IsJoined, IsIdle}
use Rattle.session_engine.specs.Calls.{AreFirst, Joins, Starts, SameState, Acknowledges, EndsBy, GoesOn, HasGiven, StepsBy}
use Rattle.tests_engine.specs.Alone.{IsAlone}

idle_seat : (seat : Seat) → is_working seat ≡ false → has_left seat ≡ false → seat ≡ Idle
idle_seat Idle rests stays = refl
idle_seat (Busy statement) rests stays = absurd (cc)
idle_seat (Refused at) rests stays = absurd (cc)
idle_seat (Signalling item) rests stays = absurd (cc)
idle_seat Leaving rests stays = absurd (cc)
idle_seat Left rests stays = absurd (cc)

pub is_idle : (state : State) → is_working (seat_at state.seats 0) ≡ false → has_left (seat_at state.seats 0) ≡ false → IsIdle 0 state
is_idle state rests stays = idle_seat (seat_at state.seats 0) rests stays

alone_on : (old new : State) → new.lists.names ≡ old.lists.names → last_moment new.lists.past ≡ last_moment old.lists.past → IsAlone old → IsAlone new
alone_on old new same moments alone =
    record { joined = subst (λ names. 0 < length names) (sym same) alone.joined; moment = moments ∙ alone.moment }

-- only an acknowledgement has a moment
spares_moment : (e : Event) (past : List Event) → is_apart e ≡ false → last_moment (e ∷ past) ≡ last_moment past
spares_moment (events.Acked s moment) past unacked = absurd (false≢true (sym unacked))
spares_moment e past unacked = refl

spare_moment : (entries past : List Event) → AllByRecursion (λ e. is_apart e ≡ false) entries → last_moment (entries ++ past) ≡ last_moment past
spare_moment [] past each = refl
spare_moment (e ∷ entries) past each = spares_moment e (entries ++ past) each.0 ∙ spare_moment entries past each.1

going_on : (old new : List Event) → GoesOn 0 old new → last_moment new ≡ last_moment old
going_on old new goes = ap last_moment goes.past_is ∙ spare_moment goes.entries old goes.unacked

given_moment : (old past : List Event) → HasGiven 0 old past → last_moment past ≡ last_moment old
given_moment old past (inl same) = ap last_moment same
given_moment old past (inr given) = ap last_moment given.2

ending : (reply : Reply) (old new : State) → EndsBy 0 reply old new → last_moment new.lists.past ≡ last_moment old.lists.past
ending reply old new (inl ended) = ap last_moment ended.0.2 ∙ given_moment old.lists.past ended.0.0 ended.0.1
ending reply old new (inr gone) = ap (λ (lists : Lists). last_moment lists.past) gone.2

pub alone_step : (old new : State) (progress : Progress) → StepsBy 0 progress old new → IsAlone old → IsAlone new
alone_step old new Went steps alone = alone_on old new steps.0.names_stay (going_on old.lists.past new.lists.past steps.1) alone
alone_step old new (Waiting blockers) steps alone = alone_on old new steps.0.names_stay (ap last_moment steps.1.past_stays) alone
alone_step old new NoMemory steps alone = alone_on old new steps.0.names_stay (ap last_moment steps.1) alone
alone_step old new NotYet steps alone = alone_on old new steps.0.names_stay (ap last_moment steps.1.past_stays) alone
alone_step old new (Done reply) steps alone = alone_on old new steps.0.names_stay (ending reply old new steps.1) alone
alone_step old new other steps alone = absurd steps

pub alone_acknowledged : (old new : State) → Acknowledges 0 0 old new → IsAlone old → IsAlone new
alone_acknowledged old new acked alone =
    record { joined = subst (λ names. 0 < length names) (sym acked.steps.names_stay) alone.joined; moment = ap last_moment acked.past_is }

pub alone_started : (item : Item) (old new : State) → Starts 0 item old new → IsAlone old → IsAlone new
alone_started item old new starts alone = alone_on old new starts.lists_are.names_are (ap last_moment starts.lists_are.past_is) alone

pub alone_same : (old new : State) → SameState old new → IsAlone old → IsAlone new
alone_same old new same alone = alone_on old new same.lists_stay.names_stay (ap last_moment same.lists_stay.past_stays) alone

-- the first session of sessions that were just opened
pub alone_joined : (name : List ℕ) (old new : State) (db : Database) → AreFirst db old.lists → Joins name old new → IsAlone new
alone_joined name old new db first joins =
    record {
      joined = subst (λ names. 0 < length names) (sym (joins.names_are ∙ ap (λ names. names ++ name ∷ []) first.names)) (omega (arith));
      moment = ap last_moment (joins.past_stays ∙ first.past);
    }
