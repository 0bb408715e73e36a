-- What the calls of the lists do to what all sessions share, as steps of statements say it.
use Rattle.std.proofs.Common.{◌≡◌, ◌≢◌, ◌⊎◌, ℕ, ◌+◌, ◌<◌, ◌-◌, true, false, Option, Some, None, List, [], ◌∷◌, ◌++◌, length, refl, sym, ap, subst, ◌∙◌, inl}
use Rattle.std.proofs.Common.{inr, arith}
use Rattle.std.proofs.lemmas.Bool.Decides.{nat_tests, eqb_tells}
use Rattle.std.specs.List.{AllByRecursion}
use Rattle.std.proofs.lemmas.Bool.{false≢true}
use Rattle.std.proofs.lemmas.List.{length-drop}
use Rattle.inno_model.specs.declared.event.Event.{Event}
use Rattle.inno_model.specs.declared.event.Event.TheVariants as events
use Rattle.inno_model.specs.Past.{is_of, own, begins}
use Rattle.inno_db.specs.declared.change.Change.TheVariants.{Create}
use Rattle.shared_lists.specs.Answers.{Undone}
use Rattle.store_api.specs.declared.stepped.Stepped.TheVariants as stepped
use Rattle.shared_lists.specs.Tasks.{Task, Idle, asked}
use Rattle.shared_lists.specs.State.{State, IsNow, Adds, Closes, Turns, Stays, task_of, places_before, counted}
use Rattle.law_past_agreement.specs.Slots.{writer_without}
use Rattle.shared_lists.specs.Steps.{GoesOn, Enters, TakesBack}
use Rattle.law_past_agreement.specs.Order.{IsNoOthers}
use Rattle.sql_grammar.specs.Grammar.{Spells}
use Rattle.sql_lists.specs.Steps.{Adding, IsEntryOf, MayWriteAlone, AsksToWrite, Moves, StaysRunning, Intends, is_apart, changes_rows, TellsOne}
use Rattle.inno_types.specs.Order.{IsBelow}
use Rattle.inno_types.specs.{declared.lock.Level.Level, declared.stmt.Stmt.Stmt, declared.value.Schema.Schema}
use Rattle.sql_history.specs.{Legal.Takes, Legal.IsCreation, Counts.last_moment}
use Rattle.shared_lists.specs.Tables.{table_made, none_made}
use Rattle.sql_lists.specs.{Going.left, Going.to_close, Going.to_roll_back, Going.to_search}

-- ---- how the past goes on

pub adding_none : (t : ℕ) (old new : State) → new.past ≡ old.past → Adding t old new
adding_none t old new past_is = record { entries = []; past_is = past_is; each = tt }

-- who may write does so alone
pub writes_alone : (t : ℕ) (writer : Option ℕ) → writer ≡ Some t → MayWriteAlone t writer
writes_alone t writer mine s differ theirs = (let same : Some t ≡ Some s = sym mine ∙ theirs in let x : t ≡ s = cc in differ (sym x))

pub adding_one : (t : ℕ) (e : Event) (old new : State) → IsNoOthers t e → new.past ≡ e ∷ old.past → (changes_rows e ≡ true → MayWriteAlone t new.writer)
    → Adding t old new
adding_one t e old new mine past_is alone = record { entries = e ∷ []; past_is = past_is; each = ((mine, alone), tt) }

-- the session's own entry is no other's
pub of_own : (t : ℕ) (e : Event) → is_of t e ≡ true → IsNoOthers t e
of_own t (events.Signal name) mine = tt
of_own t e mine = mine

-- one entry at most
abbrev pub AddingOne : ℕ → State → State → Type 0
AddingOne t old new =
    (new.past ≡ old.past) ⊎ ((e : Event) × IsNoOthers t e × (new.past ≡ e ∷ old.past) × (changes_rows e ≡ true → MayWriteAlone t new.writer))

pub adding_at_most_one : (t : ℕ) (old new : State) → AddingOne t old new → Adding t old new
adding_at_most_one t old new adding = elim adding [ inl stays ↦ adding_none t old new stays | inr adds ↦ adding_one t adds.0 old new adds.1 adds.2 adds.3 ]

-- ---- steps that add nothing

-- a step that adds these entries
moves_now : (t : ℕ) (entries : List Event) {task : Task} {writer : Option ℕ} (old new : State) → IsNow (entries ++ old.past) t task writer old new
    → AllByRecursion (IsEntryOf t new.writer) entries → TellsOne t old entries → AllByRecursion (λ e. is_apart e ≡ false) entries
    → last_moment (entries ++ old.past) ≡ last_moment old.past → ((s : ℕ) → s ≢ t → old.writer ≡ Some s → new.writer ≡ Some s)
    → (new.writer ≡ Some t → (old.writer ≡ Some t) ⊎ AsksToWrite t old.past) → Moves t old new
moves_now t entries old new now each tells unacked moments stays may = record {
  names_stay = now.names_are;
  adding = record { entries = entries; past_is = now.past_is; each = each };
  tells = tells;
  unacked = unacked;
  acks_none = ap last_moment now.past_is ∙ moments;
  writer_stays = stays;
  may_write = may;
  tasks_stay = now.others;
}

pub moves_turns : (t : ℕ) (task : Task) (old new : State) → Turns t task old new → Moves t old new
moves_turns t task old new turns =
    moves_now t [] old new turns tt tt tt refl (λ s differ held. turns.writer_is ∙ held) (λ mine. inl (sym turns.writer_is ∙ mine))

pub moves_stays : (t : ℕ) (old new : State) → Stays t old new → Moves t old new
moves_stays t old new stays = moves_turns t (task_of t old) old new stays

pub stays_none : (t : ℕ) (state : State) → Stays t state state
stays_none t state = record { names_are = refl; past_is = refl; writer_is = refl; task_is = refl; others = λ s differ. refl }

pub moves_none : (t : ℕ) (state : State) → Moves t state state
moves_none t state = moves_stays t state state (stays_none t state)

-- what holds of the past, who may write and the session's task, still holds where nothing has changed
pub carried : (P : List Event → Option ℕ → Task → Type 0) (t : ℕ) (old new : State) → Stays t old new → P old.past old.writer (task_of t old)
    → P new.past new.writer (task_of t new)
carried P t old new stays before =
    subst (λ h. P h new.writer (task_of t new)) (sym stays.past_is)
    (subst (λ w. P old.past w (task_of t new)) (sym stays.writer_is)
    (subst (λ task. P old.past old.writer task) (sym stays.task_is) before))

-- the session takes the right to write
pub moves_locked : (t : ℕ) (old new : State) → AsksToWrite t old.past → writer_without old.writer t ≡ None
    → IsNow old.past t (task_of t old) (Some t) old new → Moves t old new
moves_locked t old new asks free now =
    moves_now t [] old new now tt tt tt refl
    (λ s differ held. absurd (still_held s differ (ap (λ w. writer_without w t) (sym held) ∙ free))) (λ mine. inr asks) where
      still_held : (s : ℕ) → s ≢ t → writer_without (Some s) t ≡ None → ⊥
      still_held s differ none = elim (eqb_tells s t) [ inl same ↦ differ same.1 | inr other ↦ (let e : Some s ≡ None = sym (rw other.0 refl) ∙ none in cc) ]

tells_same : (t : ℕ) (old mid : State) (entries : List Event) → Stays t old mid → TellsOne t mid entries → TellsOne t old entries
tells_same t old mid [] stays tells = tt
tells_same t old mid (events.Changed s change ∷ earlier) stays tells = (
  elim tells.0 [
    | inl asks ↦ inl (ap asked (sym stays.task_is) ∙ asks)
    | inr makes ↦ inr (subst (λ h. (statement : Stmt) × Takes Spells t statement h × IsCreation statement) stays.past_is makes)
  ],
  tells.1,
)
tells_same t old mid (e ∷ earlier) stays tells = tells_same t old mid earlier stays tells

-- what the session sees stays, and then a step is made
pub moves_then : (t : ℕ) (old mid new : State) → Stays t old mid → Moves t mid new → Moves t old new
moves_then t old mid new stays second =
    let same = stays.past_is in
    let first : Moves t old mid = moves_stays t old mid stays in
    record {
      names_stay = second.names_stay ∙ first.names_stay;
      adding =
          record { entries = second.adding.entries; past_is = second.adding.past_is ∙ ap (λ h. second.adding.entries ++ h) same; each = second.adding.each };
      tells = tells_same t old mid second.adding.entries stays second.tells;
      unacked = second.unacked;
      acks_none = second.acks_none ∙ ap last_moment same;
      writer_stays = λ s differ held. second.writer_stays s differ (first.writer_stays s differ held);
      may_write = λ mine. elim (second.may_write mine) [
        | inl was ↦ first.may_write was
        | inr asks ↦ inr (subst (AsksToWrite t) same asks)
      ];
      tasks_stay = λ s differ. second.tasks_stay s differ ∙ first.tasks_stay s differ;
    }

-- ---- steps that add an entry

-- where the entry tells a change, the session may write, and was about to make it
abbrev pub Foretold : ℕ → State → Event → Type 0
Foretold t old (events.Changed s change) = (old.writer ≡ Some t) × Intends t old change
Foretold t old other = Unit {0}

one_told : (t : ℕ) (old : State) (e : Event) → (changes_rows e ≡ true → Foretold t old e) → TellsOne t old (e ∷ [])
one_told t old (events.Changed s change) foretold = ((foretold refl).1, tt)
one_told t old e foretold = tt

may_tell : (t : ℕ) (old : State) (e : Event) → (changes_rows e ≡ true → Foretold t old e) → changes_rows e ≡ true → old.writer ≡ Some t
may_tell t old (events.Changed s change) foretold changes = (foretold refl).0
may_tell t old e foretold changes = absurd (false≢true changes)

-- only an acknowledgement has a moment
spares_moment : (e : Event) (past : List Event) → is_apart e ≡ false → last_moment (e ∷ past) ≡ last_moment past
spares_moment (events.Acked s moment) past unacked = absurd (false≢true (sym unacked))
spares_moment e past unacked = refl

-- whatever becomes of the session's task
pub moves_entry : (t : ℕ) (e : Event) (task : Task) (old new : State) → is_of t e ≡ true → is_apart e ≡ false
    → (changes_rows e ≡ true → Foretold t old e) → IsNow (e ∷ old.past) t task old.writer old new → Moves t old new
moves_entry t e task old new mine unacked foretold now =
    moves_now t (e ∷ []) old new now
    ((of_own t e mine, λ changes. writes_alone t new.writer (now.writer_is ∙ may_tell t old e foretold changes)), tt) (one_told t old e foretold) (unacked, tt)
    (spares_moment e old.past unacked) (λ s differ held. now.writer_is ∙ held) (λ mine. inl (sym now.writer_is ∙ mine))

pub moves_adds : (t : ℕ) (e : Event) (old new : State) → is_of t e ≡ true → is_apart e ≡ false
    → (changes_rows e ≡ true → Foretold t old e) → Adds e t old new → Moves t old new
moves_adds t e old new mine unacked foretold adds = moves_entry t e (task_of t old) old new mine unacked foretold adds

still_another : (w : Option ℕ) (t s : ℕ) → s ≢ t → w ≡ Some s → writer_without w t ≡ Some s
still_another w t s differ held = ap (λ x. writer_without x t) held ∙ elim (eqb_tells s t) [ inl same ↦ absurd (differ same.1) | inr other ↦ rw other.0 refl ]

-- who was without the right has none behind
none_left : (w : Option ℕ) (t : ℕ) → writer_without w t ≡ Some t → ⊥
none_left None t is = (let x : None ≡ Some t = is in cc)
none_left (Some w) t is = elim (eqb_tells w t) [
  | inl same ↦ (let x : None ≡ Some t = sym (rw same.0 refl) ∙ is in cc)
  | inr differ ↦ (let x : Some w ≡ Some t = sym (rw differ.0 refl) ∙ is in let y : w ≡ t = cc in differ.1 y)
]

pub moves_closes : (t : ℕ) (e : Event) (old new : State) → is_of t e ≡ true → is_apart e ≡ false → changes_rows e ≡ false
    → Closes e t old new → Moves t old new
moves_closes t e old new mine unacked spares closes =
    moves_now t (e ∷ []) old new closes ((of_own t e mine, λ changes. absurd (false≢true (sym spares ∙ changes))), tt)
    (one_told t old e (λ changes. absurd (false≢true (sym spares ∙ changes)))) (unacked, tt) (spares_moment e old.past unacked)
    (λ s differ held. closes.writer_is ∙ still_another old.writer t s differ held)
    (λ mine. absurd (none_left old.writer t (sym closes.writer_is ∙ mine)))

nobody_else : (t : ℕ) (writer : Option ℕ) → writer ≡ None → MayWriteAlone t writer
nobody_else t writer none s differ theirs = (let x : None ≡ Some s = sym none ∙ theirs in cc)

no_writer : (s : ℕ) (writer : Option ℕ) → writer ≡ None → writer ≡ Some s → ⊥
no_writer s writer none theirs = (let x : None ≡ Some s = sym none ∙ theirs in cc)

module _ (t : ℕ) (l : Level) (old new : State) (free : old.writer ≡ None) where
  -- a table is made
  pub moves_made : ((statement : Stmt) × Takes Spells t statement old.past × IsCreation statement) → (schema : Schema)
      → IsNow (table_made t l schema old.past) t Idle None old new → Moves t old new
  moves_made asks schema now =
      let mine : (is_of t (events.Committed t) ≡ true) × (is_of t (events.Changed t (Create schema)) ≡ true)
      × (is_of t (events.Begin t (begins old.past + 1) l) ≡ true) = (grind (arith, nat_tests), grind (arith, nat_tests), grind (arith, nat_tests)) in
      moves_now t (events.Committed t ∷ (events.Changed t (Create schema) ∷ (events.Begin t (begins old.past + 1) l ∷ []))) old new now (
        (mine.0, λ changes. absurd (false≢true changes)),
        ((mine.1, λ changes. nobody_else t new.writer now.writer_is), ((mine.2, λ changes. absurd (false≢true changes)), tt)),
      ) (inr asks, (refl, tt)) (refl, (refl, (refl, tt))) refl (λ s differ held. absurd (no_writer s old.writer free held))
      (λ mine. absurd (no_writer t new.writer now.writer_is mine))

  -- or none is
  pub moves_none_made : IsNow (none_made t l old.past) t Idle None old new → Moves t old new
  moves_none_made now =
      let mine : (is_of t (events.RolledBack t) ≡ true) × (is_of t (events.Begin t (begins old.past + 1) l) ≡ true) =
      (grind (arith, nat_tests), grind (arith, nat_tests)) in
      moves_now t (events.RolledBack t ∷ (events.Begin t (begins old.past + 1) l ∷ [])) old new now
      ((mine.0, λ changes. absurd (false≢true changes)), ((mine.1, λ changes. absurd (false≢true changes)), tt)) tt (refl, (refl, tt)) refl
      (λ s differ held. absurd (no_writer s old.writer free held)) (λ mine. absurd (no_writer t new.writer now.writer_is mine))

-- ---- the steps of a session's task

pub moves_goes_on : (t : ℕ) (old new : State) → GoesOn t old new → Moves t old new
moves_goes_on t old new goes = moves_turns t (task_of t new) old new goes.turns

pub moves_enters : (t : ℕ) (old new : State) → old.writer ≡ Some t → Enters t old new → Moves t old new
moves_enters t old new locked enters =
    moves_entry t (events.Changed t enters.change) (task_of t new) old new (grind (arith, nat_tests)) refl (λ changes. (locked, inl enters.asked_was))
    enters.now

pub moves_takes_back : (t keep : ℕ) (old new : State) (answer : Undone) → TakesBack t keep old new answer → Moves t old new
moves_takes_back t keep old new stepped.Went takes = moves_turns t (task_of t new) old new takes.0
moves_takes_back t keep old new (stepped.Hindered never) takes = absurd takes
moves_takes_back t keep old new (stepped.Done over) takes =
    moves_entry t (events.Undone t keep) Idle old new (grind (arith, nat_tests)) refl (λ changes. absurd (false≢true changes)) takes

-- ---- the statements of others

-- what StaysRunning says, of one entry at most
abbrev pub StaysByOne : {M : Type 0} → (State → ℕ → M → Type 0) → Type 0
StaysByOne {M} IsRunning =
    (old new : State) (t s : ℕ) (statement : M) → t ≢ s → AddingOne t old new → (old.writer ≡ Some s → new.writer ≡ Some s) → task_of s new ≡ task_of s old
    → IsRunning old s statement → IsRunning new s statement

stays_along : {M : Type 0} (IsRunning : State → ℕ → M → Type 0) → StaysByOne IsRunning → (es : List Event) (old new : State) (t s : ℕ) (statement : M) → t ≢ s
    → new.past ≡ es ++ old.past → AllByRecursion (IsEntryOf t new.writer) es → (old.writer ≡ Some s → new.writer ≡ Some s) → task_of s new ≡ task_of s old
    → IsRunning old s statement → IsRunning new s statement
stays_along IsRunning one [] old new t s statement differ past each keeps task running = one old new t s statement differ (inl past) keeps task running
stays_along IsRunning one (e ∷ es) old new t s statement differ past each keeps task running =
    let mid : State = record new { past = es ++ old.past } in
    one mid new t s statement differ (inr (e, each.0.0, past, each.0.1)) (λ held. held) refl
    (stays_along IsRunning one es old mid t s statement differ refl each.1 keeps task running)

-- what one entry leaves, several leave
pub stays_running : {M : Type 0} (IsRunning : State → ℕ → M → Type 0) → StaysByOne IsRunning → StaysRunning IsRunning
stays_running IsRunning one old new t s statement differ adding keeps task running =
    stays_along IsRunning one adding.entries old new t s statement differ adding.past_is adding.each keeps task running

-- what a session's step leaves of another one's statement
pub others_stay : {M : Type 0} (IsRunning : State → ℕ → M → Type 0) → StaysRunning IsRunning → (old new : State) (t s : ℕ) (statement : M) → t ≢ s
    → Moves t old new → IsRunning old s statement → IsRunning new s statement
others_stay IsRunning stays old new t s statement differ moves running =
    stays old new t s statement differ moves.adding (moves.writer_stays s (λ is. differ (sym is))) (moves.tasks_stay s (λ is. differ (sym is))) running

-- ---- what is left of a rollback

module _ (p a b c a' b' c' : ℕ) where
  pub below_first : a' < a → IsBelow (left p a' b' c') (left p a b c)
  below_first lt = inr (refl, inl lt)

  pub below_second : a' ≡ a → b' < b → IsBelow (left p a' b' c') (left p a b c)
  below_second first lt = inr (refl, inr (first, inl lt))

  pub below_third : a' ≡ a → b' ≡ b → c' < c → IsBelow (left p a' b' c') (left p a b c)
  below_third first second lt = inr (refl, inr (first, inr (second, inl lt)))

pub below_phase : (p q a b c a' b' c' : ℕ) → q < p → IsBelow (left q a' b' c') (left p a b c)
below_phase p q a b c a' b' c' lt = inl lt

-- a change is taken back
pub fewer_stand : (s : ℕ) (h : List Event) → 0 < length (own s h) → length (own s (events.Undone s (length (own s h) - 1) ∷ h)) < length (own s h)
fewer_stand s h some = elim (eqb_tells s s) [
  | inl same ↦ rw same.0 (omega (arith, some, length-drop (length (own s h) - (length (own s h) - 1)) (own s h)))
  | inr differ ↦ absurd (differ.1 refl)
]

-- each step of taking back brings the rollback nearer to its end
pub takes_back_nears : (s : ℕ) (old new : State) (answer : Undone) → 0 < length (own s old.past)
    → TakesBack s (length (own s old.past) - 1) old new answer → IsBelow (to_roll_back s new) (to_roll_back s old)
takes_back_nears s old new stepped.Went some takes =
    below_third 1 _ _ _ _ _ _ (ap (to_close s) takes.0.past_is) (ap (λ h. length (own s h)) takes.0.past_is) takes.2
takes_back_nears s old new (stepped.Hindered never) some takes = absurd takes
takes_back_nears s old new (stepped.Done over) some takes =
    below_second 1 _ _ _ _ _ _ (ap (to_close s) takes.past_is)
    (subst (λ (h : List Event). length (own s h) < length (own s old.past)) (sym takes.past_is) (fewer_stand s old.past some))

-- ---- what is left of a search

-- a step that brings it nearer brings its statement nearer
pub search_nears : (phases s : ℕ) (old new : State) → IsBelow (counted (places_before s new)) (counted (places_before s old))
    → IsBelow (to_search phases s new) (to_search phases s old)
search_nears phases s old new (inl fewer) = inr (refl, inl fewer)
search_nears phases s old new (inr (same, inl fewer)) = inr (refl, inr (same, inl fewer))
search_nears phases s old new (inr (same, inr (so, inl fewer))) = inr (refl, inr (same, inr (so, inl fewer)))
search_nears phases s old new (inr (same, inr (so, inr (as_much, nothing)))) = absurd nothing
