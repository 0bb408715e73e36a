-- What each call of an engine does to its board.
use Rattle.std.proofs.Common.{◌≡◌, ◌≢◌, ℕ, ◌+◌, ◌==◌, Bool, true, false, cond, Option, Some, None, List}
use Rattle.std.proofs.Common.{[], ◌∷◌, ◌++◌, length, refl, sym, ap, ◌∙◌, subst, arith, eq-eqb, ne_eqb, inl, inr}
use Rattle.std.specs.Prelude.{Result, Ok, Err, OnOk, OnErr}
use Rattle.std.specs.List.{AllByRecursion}
use Rattle.std.proofs.lemmas.List.{append-nil}
use Rattle.inno_types.specs.declared.reply.Item.{Item}
use Rattle.inno_types.specs.declared.reply.Reply.{Reply}
use Rattle.inno_types.specs.declared.reply.Reply.TheVariants as replies
use Rattle.inno_types.specs.declared.reply.Cause.TheVariants.{Disk}
use Rattle.inno_model.specs.declared.event.Event.{Event}
use Rattle.inno_model.specs.declared.event.Event.TheVariants.{Started, Ended, Stopped, Signal}
use Rattle.inno_model.specs.Past.{is_of, started, under_way}
use Rattle.sql_grammar.specs.Grammar.{Spells}
use Rattle.sql_history.specs.Counts.{has_stopped}
use Rattle.sql_history.specs.Legal.{IsLegal}
use Rattle.store_api.specs.declared.answers.Progress.{Progress}
use Rattle.store_api.specs.declared.answers.Progress.TheVariants as progress
use Rattle.inno_model.specs.declared.board.Phase.{Phase}
use Rattle.inno_model.specs.declared.board.Phase.TheVariants.{Idle, Busy, Leaving, Left}
use Rattle.inno_model.specs.Boards.{calls_of, phase_of}
use Rattle.inno_model.proofs.Places.{calls_of-append}
use Rattle.turn_engine.specs.Calls.{Makes, Joins, EndsBy, StepsBy, IsUnderWay, item_number, reply_of}
use Rattle.session_engine.specs.Calls.{KeepsItems, HasGiven}
use Rattle.durable_engine.specs.Seats.{phase_at, halted, ended, phase_after}
use Rattle.durable_engine.specs.StoppedCalls.{is_at_work, has_left}
use Rattle.durable_engine.specs.State.{State}
use Rattle.durable_engine.specs.Calls.{OthersStay, SameState, Joins as EngineJoins, Starts, Leaves, EndsBy as EngineEndsBy, StepsOn, StepsBy as EngineStepsBy}
use Rattle.shared_engine.specs.Shown.{working_on, shown, board_of, AreAtRest}
use Rattle.shared_engine.proofs.Shown.{phase_shown, working_inside, shown_working}

-- ---- entries

-- an entry of another session
others_call : (s y : ℕ) → s ≢ y → (s == y) ≡ false
others_call s y apart = ne_eqb s y apart

-- entries that start and end no item are calls of nobody
pub no_calls : (s y : ℕ) (entries : List Event) → AllByRecursion (λ e. (is_of s e ≡ true) × KeepsItems e) entries → calls_of y entries ≡ []
no_calls s y [] each = refl
no_calls s y (Started t j item ∷ entries) each = absurd each.0.1
no_calls s y (Ended t j reply ∷ entries) each = absurd each.0.1
no_calls s y (other ∷ entries) each = no_calls s y entries each.1

pub same_item : (s y : ℕ) (entries past : List Event) → AllByRecursion (λ e. (is_of s e ≡ true) × KeepsItems e) entries
    → under_way y (entries ++ past) ≡ under_way y past
same_item s y [] past each = refl
same_item s y (Started t j item ∷ entries) past each = absurd each.0.1
same_item s y (Ended t j reply ∷ entries) past each = absurd each.0.1
same_item s y (other ∷ entries) past each = same_item s y entries past each.1

-- the entry of a stop, where it is added
pub record IsHalt (past halt : List Event) : Type 0 where
  pub past_is : halted Disk past ≡ halt ++ past
  pub quiet : (y : ℕ) → calls_of y halt ≡ []
  pub same : (y : ℕ) → under_way y (halt ++ past) ≡ under_way y past

halt_of : (past : List Event) (b : Bool) → (halt : List Event) × (cond b past (Stopped Disk ∷ past) ≡ halt ++ past) × ((y : ℕ) → calls_of y halt ≡ [])
    × ((y : ℕ) → under_way y (halt ++ past) ≡ under_way y past)
halt_of past true = ([], refl, λ y. refl, λ y. refl)
halt_of past false = (Stopped Disk ∷ [], refl, λ y. refl, λ y. refl)

pub halt : (past : List Event) → (halt : List Event) × IsHalt past halt
halt past = let h = halt_of past (has_stopped past) in (h.0, record { past_is = h.1; quiet = h.2; same = h.3 })

-- a signal starts and ends no item
pub given_same : (s : ℕ) (old past : List Event) → HasGiven s old past → (y : ℕ) → under_way y past ≡ under_way y old
given_same s old past (inl same) y = ap (under_way y) same
given_same s old past (inr given) y = ap (under_way y) given.2

-- an item that ends was under way
was_asked : (s j : ℕ) (reply : Reply) (past : List Event) → IsLegal Spells (Ended s j reply ∷ past) → under_way s past ≡ None → ⊥
was_asked s j reply past legal none = let m = legal.0.1 in let asked = m.asked in absurd (cc)

-- one of which nothing is under way has left
had_none : (s : ℕ) (item : Item) (past : List Event) → under_way s past ≡ None → under_way s past ≡ Some item → ⊥
had_none s item past none some = absurd (cc)

module _ {D : Type 0} where
  -- ---- a call on the board

  -- the past has grown by entries of the session, and all others are as far as they were
  pub makes : (s : ℕ) (a b : State D) (newer calls : List Event) (phase : Phase) → b.names ≡ a.names → b.past ≡ newer ++ a.past
      → ((y : ℕ) → y ≢ s → calls_of y newer ≡ []) → ((y : ℕ) → y ≢ s → under_way y b.past ≡ under_way y a.past) → OthersStay s a.seats b.seats
      → calls_of s newer ≡ calls → shown b.past s (phase_at b.seats s) ≡ phase → Makes s (board_of a) (board_of b) calls phase
  makes s a b newer calls phase names past quiet same others own is = record {
    grows = λ y apart. record {
      newer = newer;
      past = past;
      quiet = quiet y apart;
      phase = phase_shown b y ∙ (other_phase y apart ∙ sym (phase_shown a y));
      joined = [];
      names = names ∙ sym (append-nil a.names);
      alone = λ first. refl;
    };
    names = names;
    own = ap (calls_of s) past ∙ (calls_of-append s newer a.past ∙ ap (λ l. l ++ calls_of s a.past) own);
    phase_is = phase_shown b s ∙ is;
  }
    where
      shown_on : (y : ℕ) (p : Phase) → under_way y b.past ≡ under_way y a.past → shown b.past y p ≡ shown a.past y p
      shown_on y Idle one = refl
      shown_on y Busy one = ap working_on one
      shown_on y Leaving one = ap working_on one
      shown_on y Left one = refl

      other_phase : (y : ℕ) → y ≢ s → shown b.past y (phase_at b.seats y) ≡ shown a.past y (phase_at a.seats y)
      other_phase y apart = ap (shown b.past y) (others y apart) ∙ shown_on y (phase_at a.seats y) (same y apart)

  -- the board is the same
  pub stays : (a b : State D) (y : ℕ) → b.past ≡ a.past → phase_at b.seats y ≡ phase_at a.seats y → phase_of (board_of b) y ≡ phase_of (board_of a) y
  stays a b y past phase =
      phase_shown b y ∙ (ap (λ l. shown l y (phase_at b.seats y)) past ∙ (ap (shown a.past y) phase ∙ sym (phase_shown a y)))

  pub same_makes : (s : ℕ) (a b : State D) → SameState a b → Makes s (board_of a) (board_of b) [] (phase_of (board_of a) s)
  same_makes s a b same =
      makes s a b [] [] (phase_of (board_of a) s) same.names_stay same.past_stays (λ y apart. refl) (λ y apart. ap (under_way y) same.past_stays)
      (λ u apart. same.phases_stay u) refl (sym (phase_shown b s) ∙ stays a b s same.past_stays (same.phases_stay s))

  pub joins : (name : List ℕ) (a b : State D) → AreAtRest a → EngineJoins name a b → Joins name (board_of a) (board_of b)
  joins name a b rest j = record {
    grows = λ y apart. record {
      newer = [];
      past = j.past_stays;
      quiet = refl;
      phase = stays a b y j.past_stays (j.phases_stay y);
      joined = name ∷ [];
      names = j.names_are;
      alone = λ first. absurd (apart first);
    };
    names = j.names_are;
    own = ap (calls_of 0) j.past_stays;
    phase_stays = stays a b 0 j.past_stays (j.phases_stay 0);
    idle =
        stays a b (length a.names) j.past_stays (j.phases_stay (length a.names)) ∙
        (phase_shown a (length a.names) ∙ ap (shown a.past (length a.names)) (rest.unjoined (length a.names) (omega arith)));
  }

  has_asked : (s : ℕ) (item : Item) (a b : State D) → Starts s item a b → under_way s b.past ≡ Some item
  has_asked s item a b st =
      let here : under_way s (Started s (started s a.past + 1) item ∷ a.past) ≡ Some item = rw (eq-eqb s s refl) refl in
      ap (under_way s) st.past_is ∙ here

  pub starts : (s : ℕ) (item : Item) (a b : State D) → Starts s item a b
      → Makes s (board_of a) (board_of b) (Started s (item_number s (board_of a)) item ∷ []) Busy
  starts s item a b st =
      makes s a b (Started s (started s a.past + 1) item ∷ []) (Started s (started s a.past + 1) item ∷ []) Busy st.names_stay st.past_is
      (λ y apart. rw (others_call s y (λ same. apart (sym same))) refl)
      (λ y apart. ap (under_way y) st.past_is ∙ rw (others_call s y (λ same. apart (sym same))) refl) st.others_stay (rw (eq-eqb s s refl) refl)
      (shown_working b.past s (phase_at b.seats s) st.works ∙ ap working_on (has_asked s item a b st))

  pub leaves : (s : ℕ) (a b : State D) → AreAtRest a → phase_at a.seats s ≡ Idle → Leaves s a b → Makes s (board_of a) (board_of b) [] Leaving
  leaves s a b rest idle l =
      makes s a b [] [] Leaving l.names_stay l.past_stays (λ y apart. refl) (λ y apart. ap (under_way y) l.past_stays) l.others_stay refl
      (ap (shown b.past s) l.leaving ∙ ap working_on (ap (under_way s) l.past_stays ∙ rest.rests s idle))

  -- ---- a step

  goes : (s : ℕ) (a b : State D) (entries : List Event) → StepsOn s a b → b.past ≡ entries ++ a.past
      → AllByRecursion (λ e. (is_of s e ≡ true) × KeepsItems e) entries → is_at_work (phase_at b.seats s) ≡ true
      → Makes s (board_of a) (board_of b) [] (working_on (under_way s a.past))
  goes s a b entries on past each works =
      makes s a b entries [] (working_on (under_way s a.past)) on.names_stay past (λ y apart. no_calls s y entries each)
      (λ y apart. ap (under_way y) past ∙ same_item s y entries a.past each) on.others_stay (no_calls s s entries each)
      (shown_working b.past s (phase_at b.seats s) works ∙ ap working_on (ap (under_way s) past ∙ same_item s s entries a.past each))

  -- the item ends, behind the entry of a stop or none
  ends : (s : ℕ) (reply : Reply) (a b : State D) (newer : List Event) → StepsOn s a b → b.past ≡ Ended s (started s a.past) reply ∷ newer ++ a.past
      → ((y : ℕ) → calls_of y newer ≡ []) → ((y : ℕ) → under_way y (newer ++ a.past) ≡ under_way y a.past) → phase_at b.seats s ≡ Idle
      → Makes s (board_of a) (board_of b) (Ended s (started s a.past) reply ∷ []) Idle
  ends s reply a b newer on past quiet same idle =
      makes s a b (Ended s (started s a.past) reply ∷ newer) (Ended s (started s a.past) reply ∷ []) Idle on.names_stay past
      (λ y apart. rw (others_call s y (λ one. apart (sym one))) (quiet y))
      (λ y apart. ap (under_way y) past ∙ rw (others_call s y (λ one. apart (sym one))) (same y)) on.others_stay
      (rw (eq-eqb s s refl) (ap (λ l. Ended s (started s a.past) reply ∷ l) (quiet s))) (ap (shown b.past s) idle)

  -- the session has left
  is_gone : (s : ℕ) (a b : State D) (newer : List Event) → StepsOn s a b → b.past ≡ newer ++ a.past → ((y : ℕ) → calls_of y newer ≡ [])
      → ((y : ℕ) → under_way y (newer ++ a.past) ≡ under_way y a.past) → phase_at b.seats s ≡ Left → Makes s (board_of a) (board_of b) [] Left
  is_gone s a b newer on past quiet same left =
      makes s a b newer [] Left on.names_stay past (λ y apart. quiet y) (λ y apart. ap (under_way y) past ∙ same y) on.others_stay (quiet s)
      (ap (shown b.past s) left)

  ends_given : (s : ℕ) (reply : Reply) (a b : State D) → StepsOn s a b → (past : List Event) → HasGiven s a.past past
      → b.past ≡ Ended s (started s a.past) reply ∷ past → phase_at b.seats s ≡ Idle
      → Makes s (board_of a) (board_of b) (Ended s (started s a.past) reply ∷ []) Idle
  ends_given s reply a b on past (inl same) is idle =
      ends s reply a b [] on (is ∙ ap (λ h. Ended s (started s a.past) reply ∷ h) same) (λ y. refl) (λ y. refl) idle
  ends_given s reply a b on past (inr given) is idle =
      ends s reply a b (Signal given.0 ∷ []) on (is ∙ ap (λ h. Ended s (started s a.past) reply ∷ h) given.2) (λ y. refl) (λ y. refl) idle

  done : (s : ℕ) (reply : Reply) (a b : State D) → StepsOn s a b → EngineEndsBy s reply a b
      → (has_left (phase_at b.seats s) ≡ true → under_way s b.past ≡ None) → IsLegal Spells b.past → (o : Option Item) → under_way s a.past ≡ o
      → EndsBy s (board_of a) (working_on o) reply (board_of b)
  done s reply a b on (inl e) gone legal (Some item) is = ends_given s reply a b on e.0.0 e.0.1 e.0.2 e.1
  done s reply a b on (inl e) gone legal None is =
      absurd (was_asked s (started s a.past) reply e.0.0 (subst (IsLegal Spells) e.0.2 legal) (given_same s a.past e.0.0 e.0.1 s ∙ is))
  done s reply a b on (inr e) gone legal (Some item) is =
      absurd (had_none s item b.past (gone (ap has_left e.3)) (ap (under_way s) e.2 ∙ is))
  done s reply a b on (inr e) gone legal None is = is_gone s a b [] on e.2 (λ y. refl) (λ y. refl) e.3

  halts : (s : ℕ) (a b : State D) → StepsOn s a b → (p : Phase) → is_at_work p ≡ true
      → b.past ≡ ended s (started s a.past) p (halted Disk a.past) → phase_at b.seats s ≡ phase_after p
      → (has_left (phase_at b.seats s) ≡ true → under_way s b.past ≡ None) → IsLegal Spells b.past → (o : Option Item) → under_way s a.past ≡ o
      → EndsBy s (board_of a) (working_on o) replies.Stopped (board_of b)
  halts s a b on Idle works past phase gone legal o is = absurd (cc)
  halts s a b on Left works past phase gone legal o is = absurd (cc)
  halts s a b on Busy works past phase gone legal (Some item) is =
      let h = halt a.past in
      ends s replies.Stopped a b h.0 on (past ∙ ap (λ l. Ended s (started s a.past) replies.Stopped ∷ l) h.1.past_is) h.1.quiet h.1.same phase
  halts s a b on Busy works past phase gone legal None is =
      let h = halt a.past in
      absurd (was_asked s (started s a.past) replies.Stopped (halted Disk a.past) (subst (IsLegal Spells) past legal)
      (ap (under_way s) h.1.past_is ∙ (h.1.same s ∙ is)))
  halts s a b on Leaving works past phase gone legal (Some item) is =
      let h = halt a.past in
      absurd (had_none s item b.past (gone (ap has_left phase)) (ap (under_way s) (past ∙ h.1.past_is) ∙ (h.1.same s ∙ is)))
  halts s a b on Leaving works past phase gone legal None is =
      let h = halt a.past in is_gone s a b h.0 on (past ∙ h.1.past_is) h.1.quiet h.1.same phase

  steps_on : (s : ℕ) (answer : Progress) (a b : State D) → is_at_work (phase_at a.seats s) ≡ true → EngineStepsBy s answer a b
      → (has_left (phase_at b.seats s) ≡ true → under_way s b.past ≡ None) → IsLegal Spells b.past
      → StepsBy s (board_of a) (working_on (under_way s a.past)) (reply_of answer) (board_of b)
  steps_on s progress.Went a b works h gone legal = goes s a b h.1.entries h.0 h.1.past_is h.1.each h.2
  steps_on s (progress.Waiting blockers) a b works h gone legal = goes s a b [] h.0 h.1 tt h.2
  steps_on s progress.NoMemory a b works h gone legal = goes s a b [] h.0 h.1 tt h.2
  steps_on s progress.NotYet a b works h gone legal = goes s a b [] h.0 h.1 tt h.2
  steps_on s (progress.Done reply) a b works h gone legal = done s reply a b h.0 h.1 gone legal (under_way s a.past) refl
  steps_on s (progress.Stopped cause) a b works h gone legal =
      halts s a b h.0 (phase_at a.seats s) works h.2.past_is h.2.phase_is gone legal (under_way s a.past) refl
  steps_on s other a b works h gone legal = elim h [ ]

  pub steps : (s : ℕ) (answer : Progress) (a b : State D) → IsUnderWay (phase_of (board_of a) s) → EngineStepsBy s answer a b
      → (has_left (phase_at b.seats s) ≡ true → under_way s b.past ≡ None) → IsLegal Spells b.past
      → StepsBy s (board_of a) (phase_of (board_of a) s) (reply_of answer) (board_of b)
  steps s answer a b way h gone legal =
      let works = working_inside a s way in
      subst (λ (p : Phase). StepsBy s (board_of a) p (reply_of answer) (board_of b)) (sym (phase_shown a s ∙ shown_working a.past s (phase_at a.seats s) works))
      (steps_on s answer a b works h gone legal)

  -- ---- by a call's answer

  pub join_ok : {A B : Type 0} (r : Result A B) (name : List ℕ) (a b : State D) → AreAtRest a → OnOk r (EngineJoins name a b)
      → OnOk r (Joins name (board_of a) (board_of b))
  join_ok (Ok x) name a b rest ok = joins name a b rest ok
  join_ok (Err x) name a b rest ok = tt

  pub join_err : {A B : Type 0} (r : Result A B) (a b : State D) → OnErr r (SameState a b)
      → OnErr r (Makes 0 (board_of a) (board_of b) [] (phase_of (board_of a) 0))
  join_err (Ok x) a b err = tt
  join_err (Err x) a b err = same_makes 0 a b err

  pub start_ok : {A B : Type 0} (r : Result A B) (s : ℕ) (item : Item) (a b : State D) → OnOk r (Starts s item a b)
      → OnOk r (Makes s (board_of a) (board_of b) (Started s (item_number s (board_of a)) item ∷ []) Busy)
  start_ok (Ok x) s item a b ok = starts s item a b ok
  start_ok (Err x) s item a b ok = tt

  pub start_err : {A B : Type 0} (r : Result A B) (s : ℕ) (a b : State D) → phase_of (board_of a) s ≡ Idle → OnErr r (SameState a b)
      → OnErr r (Makes s (board_of a) (board_of b) [] Idle)
  start_err (Ok x) s a b idle err = tt
  start_err (Err x) s a b idle err = subst (λ (p : Phase). Makes s (board_of a) (board_of b) [] p) idle (same_makes s a b err)
