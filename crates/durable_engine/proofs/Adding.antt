-- What a step of a session adds to the history, as the log takes it over.
use Rattle.std.proofs.Common.{◌≡◌, ◌⊎◌, ℕ, ◌+◌, ◌-◌, ◌≤◌, Bool, true, false, cond, List, [], ◌∷◌, ◌++◌, length, take, drop, reverse, refl, sym, ap, subst, ◌∙◌}
use Rattle.std.proofs.Common.{inl, inr, arith}
use Rattle.std.specs.Prelude.{count_by}
use Rattle.std.proofs.lemmas.Bool.{false≢true}
use Rattle.std.proofs.lemmas.Bool.Decides.{nat_tests}
use Rattle.std.proofs.lemmas.List.{reverse-append, length-append, length-reverse, length-take, length-drop, take-append-drop, take_all}
use Rattle.std.proofs.lemmas.List.Sums.{sum_by-append}
use Rattle.std.specs.List.{AllByRecursion}
use Rattle.store_api.specs.declared.answers.Progress.{Progress}
use Rattle.store_api.specs.declared.answers.Progress.TheVariants as progress
use Rattle.inno_types.specs.declared.reply.Reply.{Reply}
use Rattle.inno_model.specs.declared.event.Event.{Event}
use Rattle.inno_model.specs.declared.event.Event.TheVariants as events
use Rattle.inno_model.specs.Past.{is_of, begins_txn, started, opening}
use Rattle.sql_lists.specs.Steps.{is_apart, changes_rows}
use Rattle.commit_log.specs.View.{is_acknowledgement, IsEntryOf}
use Rattle.law_logged_histories.specs.Records.{HasItsRecord}
use Rattle.session_engine.specs.Seats.{State as Sessions}
use Rattle.session_engine.specs.Calls.{KeepsItems, TellsOne as StepTellsOne, TellsNone, HasGiven, StepsBy}
use Rattle.durable_engine.specs.Entering.{MayEnter, TellsOne, TellNone, tells_change}

-- ---- entries, the newest first

-- entries of a session's step that acknowledge nothing, one of which tells a change at most
pub record AreAdded (s : ℕ) (old new : List Event) : Type 0 where
  pub entries : List Event
  pub past_is : new ≡ entries ++ old
  pub each : AllByRecursion (λ e. IsEntryOf s e × (is_acknowledgement e ≡ false)) entries
  pub tells : StepTellsOne entries
  -- none of them starts an item
  pub counts : (u : ℕ) → started u new ≡ started u old

entry_of : (s : ℕ) (e : Event) → is_of s e ≡ true → IsEntryOf s e
entry_of s (events.Signal name) mine = tt
entry_of s e mine = mine

same_words : (e : Event) → is_apart e ≡ false → is_acknowledgement e ≡ false
same_words (events.Acked s moment) unacked = absurd (false≢true (sym unacked))
same_words e unacked = refl

both : (s : ℕ) (es : List Event) → AllByRecursion (λ e. (is_of s e ≡ true) × KeepsItems e) es → AllByRecursion (λ e. is_apart e ≡ false) es
    → AllByRecursion (λ e. IsEntryOf s e × (is_acknowledgement e ≡ false)) es
both s [] each unacked = tt
both s (e ∷ es) each unacked = ((entry_of s e each.0.0, same_words e unacked.0), both s es each.1 unacked.1)

counted_one : (u : ℕ) (e : Event) (h : List Event) → KeepsItems e → started u (e ∷ h) ≡ started u h
counted_one u (events.Started t j item) h keeps = absurd keeps
counted_one u e h keeps = refl

counted_all : (u s : ℕ) (es h : List Event) → AllByRecursion (λ e. (is_of s e ≡ true) × KeepsItems e) es → started u (es ++ h) ≡ started u h
counted_all u s [] h each = refl
counted_all u s (e ∷ es) h each = counted_one u e (es ++ h) each.0.1 ∙ counted_all u s es h each.1

added_none : (s : ℕ) (old new : List Event) → new ≡ old → AreAdded s old new
added_none s old new is = record { entries = []; past_is = is; each = tt; tells = tt; counts = λ u. ap (started u) is }

ended_mine : (s j : ℕ) (reply : Reply) → is_of s (events.Ended s j reply) ≡ true
ended_mine s j reply = grind (arith, nat_tests)

-- the item ends, and may have given its signal
added_end : (s : ℕ) (reply : Reply) (old new past : List Event) → HasGiven s old past → new ≡ events.Ended s (started s old) reply ∷ past → AreAdded s old new
added_end s reply old new past (inl same) is =
    let past_is = is ∙ ap (λ h. events.Ended s (started s old) reply ∷ h) same in
    record {
      entries = events.Ended s (started s old) reply ∷ [];
      past_is = past_is;
      each = ((ended_mine s (started s old) reply, refl), tt);
      tells = tt;
      counts = λ u. ap (started u) past_is;
    }
added_end s reply old new past (inr given) is =
    let past_is = is ∙ ap (λ h. events.Ended s (started s old) reply ∷ h) given.2 in
    record {
      entries = events.Ended s (started s old) reply ∷ events.Signal given.0 ∷ [];
      past_is = past_is;
      each = ((ended_mine s (started s old) reply, refl), ((tt, refl), tt));
      tells = tt;
      counts = λ u. ap (started u) past_is;
    }

pub steps_added : (s : ℕ) (answer : Progress) (old new : Sessions) → StepsBy s answer old new → AreAdded s old.lists.past new.lists.past
steps_added s progress.Went old new steps =
    let goes = steps.1 in
    record {
      entries = goes.entries;
      past_is = goes.past_is;
      each = both s goes.entries goes.each goes.unacked;
      tells = goes.tells;
      counts = λ u. ap (started u) goes.past_is ∙ counted_all u s goes.entries old.lists.past goes.each;
    }
steps_added s (progress.Waiting blockers) old new steps = added_none s old.lists.past new.lists.past steps.1.past_stays
steps_added s progress.NoMemory old new steps = added_none s old.lists.past new.lists.past steps.1
steps_added s progress.NotYet old new steps = added_none s old.lists.past new.lists.past steps.1.past_stays
steps_added s (progress.Done reply) old new steps = elim steps.1 [
  | inl ends ↦ added_end s reply old.lists.past new.lists.past ends.0.0 ends.0.1 ends.0.2
  | inr goes ↦ added_none s old.lists.past new.lists.past (ap (λ l. l.past) goes.2)
]
steps_added s other old new steps = elim steps [ ]

-- ---- as the log takes them over, the oldest first

reversed : (e : Event) (es : List Event) → reverse (e ∷ es) ≡ reverse es ++ e ∷ []
reversed e es = reverse-append (e ∷ []) es

all_behind : (P : Event → Type 0) (es : List Event) (e : Event) → AllByRecursion P es → P e → AllByRecursion P (es ++ e ∷ [])
all_behind P [] e all p = (p, tt)
all_behind P (x ∷ es) e all p = (all.0, all_behind P es e all.1 p)

pub all_reversed : (P : Event → Type 0) (es : List Event) → AllByRecursion P es → AllByRecursion P (reverse es)
all_reversed P [] all = tt
all_reversed P (e ∷ es) all = subst (AllByRecursion P) (sym (reversed e es)) (all_behind P (reverse es) e (all_reversed P es all.1) all.0)

begin_front : (e : Event) (tail : List Event) → begins_txn e ≡ true → TellsOne tail → TellsOne (e ∷ tail)
begin_front (events.Begin s n level) tail begins tells = tells
begin_front e tail begins tells = absurd (false≢true begins)

begun_then : (begun tail : List Event) → AllByRecursion (λ e. begins_txn e ≡ true) begun → TellsOne tail → TellsOne (begun ++ tail)
begun_then [] tail begins tells = tells
begun_then (e ∷ begun) tail begins tells = begin_front e (begun ++ tail) begins.0 (begun_then begun tail begins.1 tells)

tells_behind : (es : List Event) (e : Event) → tells_change e ≡ false → TellsOne es → TellsOne (es ++ e ∷ [])
tells_behind [] (events.Begin s n level) plain tells = tt
tells_behind [] (events.Changed s change) plain tells = absurd (false≢true (sym plain))
tells_behind [] e plain tells = tt
tells_behind (events.Begin s n level ∷ es) e plain tells = tells_behind es e plain tells
tells_behind (events.Changed s change ∷ es) e plain tells = (tells.0, all_behind (λ x. tells_change x ≡ false) es e tells.1 plain)
tells_behind (x ∷ es) e plain tells = all_behind (λ y. tells_change y ≡ false) es e tells plain

tells_one : (e : Event) (es : List Event) → StepTellsOne (e ∷ es) → HasItsRecord e → (StepTellsOne es → TellsOne (reverse es))
    → TellsOne (reverse es ++ e ∷ [])
tells_one (events.Changed s change) es tells has before =
    begun_then (reverse es) (events.Changed s change ∷ []) (all_reversed (λ e. begins_txn e ≡ true) es tells) (has, tt)
tells_one e es tells has before = tells_behind (reverse es) e refl (before tells)

pub tells_reversed : (es : List Event) → StepTellsOne es → AllByRecursion HasItsRecord es → TellsOne (reverse es)
tells_reversed [] tells records = tt
tells_reversed (e ∷ es) tells records =
    subst TellsOne (sym (reversed e es)) (tells_one e es tells records.0 (λ earlier. tells_reversed es earlier records.1))

-- ---- what the log takes over

pub count_behind : (es past : List Event) → count_by changes_rows (es ++ past) ≡ count_by changes_rows es + count_by changes_rows past
count_behind es past = sum_by-append (λ e. cond (changes_rows e) 1 0) es past

none_of : (e : Event) (es : List Event) → count_by changes_rows (e ∷ es) ≡ 0 → (tells_change e ≡ false) × (count_by changes_rows es ≡ 0)
none_of (events.Changed s change) es none =
    absurd
    (let first : count_by changes_rows (events.Changed s change ∷ []) ≡ 1 = refl in
    let all = count_behind (events.Changed s change ∷ []) es in omega (arith, first, all, none))
none_of e es none = (refl, (let all = count_behind (e ∷ []) es in omega (arith, all, none)))

pub tell_none : (es : List Event) → count_by changes_rows es ≡ 0 → TellNone es
tell_none [] none = tt
tell_none (e ∷ es) none = let is = none_of e es none in (is.0, tell_none es is.1)

records_before : (es past : List Event) → AllByRecursion HasItsRecord (es ++ past) → AllByRecursion HasItsRecord es
records_before [] past records = tt
records_before (e ∷ es) past records = (records.0, records_before es past records.1)

-- The entries of a step may be taken over where there is room for a change, or none is told.
pub may_enter : (s : ℕ) (ready : Bool) (old new : List Event) (added : AreAdded s old new) → AllByRecursion HasItsRecord new
    → (ready ≡ true) ⊎ TellsNone old new → MayEnter s ready (reverse added.entries)
may_enter s ready old new added records room =
    record {
      mine = all_reversed (λ e. IsEntryOf s e × (is_acknowledgement e ≡ false)) added.entries added.each;
      tells = elim room [
        | inl is ↦ inl (
          is,
          tells_reversed added.entries added.tells
              (records_before added.entries old (subst (AllByRecursion HasItsRecord) added.past_is records)),
        )
        | inr none ↦ inr (all_reversed (λ e. tells_change e ≡ false) added.entries (tell_none added.entries
            (let all = ap (count_by changes_rows) added.past_is ∙ count_behind added.entries old in omega (arith, all, none))))
      ];
    }

-- an opening stays what it is
opening_kept : (s : ℕ) (es past : List Event) → AllByRecursion (λ e. IsEntryOf s e × (is_acknowledgement e ≡ false)) es → opening (es ++ past) ≡ opening past
opening_kept s [] past each = refl
opening_kept s (events.Opened db ∷ es) past each = absurd (false≢true each.0.0)
opening_kept s (e ∷ es) past each = opening_kept s es past each.1

pub opening_stays : (s : ℕ) (old new : List Event) → AreAdded s old new → opening new ≡ opening old
opening_stays s old new added = ap opening added.past_is ∙ opening_kept s added.entries old added.each

-- ---- cut at where the history was before

same_length : (xs ys us vs : List Event) → xs ++ us ≡ ys ++ vs → length us ≡ length vs → (xs ≡ ys) × (us ≡ vs)
same_length [] [] us vs is long = (refl, is)
same_length [] (y ∷ ys) us vs is long = absurd (omega (arith, ap length is, long, length-append (y ∷ ys) vs))
same_length (x ∷ xs) [] us vs is long = absurd (omega (arith, ap length is, long, length-append (x ∷ xs) us))
same_length (x ∷ xs) (y ∷ ys) us vs is long =
    let rest = same_length xs ys us vs (let tails : xs ++ us ≡ ys ++ vs = cc in tails) long in
    (let heads : x ≡ y = cc in ap (λ h. h ∷ xs) heads ∙ ap (λ t. y ∷ t) rest.0, rest.1)

-- what was added since the history had so many entries
pub added_is : (s : ℕ) (old new : List Event) (added : AreAdded s old new) (more past : List Event) → new ≡ more ++ past → length past ≡ length old
    → (more ≡ added.entries) × (past ≡ old)
added_is s old new added more past is long = same_length more added.entries past old (sym is ∙ added.past_is) long

-- the entries from a place on, and those before it
pub record IsCut (told : ℕ) (events all : List Event) : Type 0 where
  pub whole : all ≡ reverse (drop told events) ++ reverse (take told events)
  pub long : length (reverse (take told events)) ≡ told

pub cut_at : (told : ℕ) (events all : List Event) → reverse events ≡ all → told ≤ length all → IsCut told events all
cut_at told events all is within =
    record {
      whole = sym is ∙ (ap reverse (sym (take-append-drop told events)) ∙ reverse-append (take told events) (drop told events));
      long =
          let counted = length-reverse (take told events) in
          let front = length-take told events in
          let total = ap length is in
          let turned = length-reverse events in
          omega (arith, counted, front, total, turned, within);
    }

-- what a slice from a place on has
pub rest_is : (told : ℕ) (events : List Event) → take (length events - told) (drop told events) ≡ drop told events
rest_is told events = take_all (length events - told) (drop told events) (let long = length-drop told events in omega (arith, long))

pub rest_before : (told : ℕ) (events all : List Event) → IsCut told events all → (added past : List Event) → all ≡ added ++ past → length past ≡ told
    → reverse (take (length events - told) (drop told events)) ++ past ≡ all
rest_before told events all cut added past is long =
    let same = same_length (reverse (drop told events)) added (reverse (take told events)) past (sym cut.whole ∙ is) (cut.long ∙ sym long) in
    ap (λ xs. reverse xs ++ past) (rest_is told events) ∙ (ap (λ xs. xs ++ past) same.0 ∙ sym is)

-- ---- one entry

-- of a session, which tells no change and acknowledges nothing
pub enters_one : (s : ℕ) (ready : Bool) (e : Event) (old new added past : List Event) → is_of s e ≡ true → is_apart e ≡ false → tells_change e ≡ false
    → new ≡ e ∷ old → new ≡ added ++ past → length past ≡ length old → MayEnter s ready (reverse added)
enters_one s ready e old new added past mine unacked quiet is also long =
    let cut = same_length added (e ∷ []) past old (sym also ∙ is) long in
    subst (λ es. MayEnter s ready (reverse es)) (sym cut.0)
    (record { mine = ((entry_of s e mine, same_words e unacked), tt); tells = inr (quiet, tt) })

-- entries that a step has added, as the log sees them
pub enters_added : (s : ℕ) (ready : Bool) (old new more past : List Event) (added : AreAdded s old new) → new ≡ more ++ past → length past ≡ length old
    → AllByRecursion HasItsRecord new → (ready ≡ true) ⊎ TellsNone old new → MayEnter s ready (reverse more)
enters_added s ready old new more past added is long records room =
    subst (λ es. MayEnter s ready (reverse es)) (sym (added_is s old new added more past is long).0) (may_enter s ready old new added records room)
