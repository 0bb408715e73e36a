-- The setup part is over before another session makes a call.
use Rattle.std.proofs.Common.{◌≡◌, ◌≢◌, ℕ, zero, suc, ◌+◌, ◌<◌, ◌≤◌, ◌==◌, Bool, true, false, cond, List, [], ◌∷◌, ◌++◌, length}
use Rattle.std.proofs.Common.{refl, sym, ap, subst, ◌∙◌, ◌⊎◌, inl, inr, eq-eqb, append_assoc, arith}
use Rattle.std.specs.Prelude.{None}
use Rattle.std.proofs.lemmas.List.{length-append}
use Rattle.inno_types.specs.declared.reply.Item.{Item}
use Rattle.inno_model.specs.declared.event.Event.{Event}
use Rattle.inno_model.specs.declared.event.Event.TheVariants.{Started}
use Rattle.inno_model.specs.Past.{under_way}
use Rattle.inno_model.specs.Recorded.{Extends}
use Rattle.sql_history.specs.Serial.{IsUnstarted, IsSetUp}
use Rattle.inno_model.specs.Boards.{is_call, calls_of}
use Rattle.inno_model.proofs.Places.{calls_of-append}
use Rattle.turn_engine.specs.Sessions.{Sitting, own}
use Rattle.script_play.specs.Playing.{HasSetUp}
use Rattle.script_play.proofs.Calls.{under_way_by_calls}

-- ---- calls of one session in a part of a past

older_by : (b : Bool) (e : Event) (rest : List Event) → cond b (e ∷ rest) rest ≡ [] → rest ≡ []
older_by true e rest none = absurd (cc)
older_by false e rest none = none

older : (x : ℕ) (e : Event) (past : List Event) → calls_of x (e ∷ past) ≡ [] → calls_of x past ≡ []
older x e past none = older_by (is_call x e) e (calls_of x past) none

called_here : (s j : ℕ) (item : Item) (past : List Event) → calls_of s (Started s j item ∷ past) ≡ [] → ⊥
called_here s j item past none =
    let here : calls_of s (Started s j item ∷ past) ≡ Started s j item ∷ calls_of s past = rw (eq-eqb s s refl) refl in
    let e = sym here ∙ none in
    absurd (cc)

second_none : (a b : List Event) → a ++ b ≡ [] → b ≡ []
second_none [] b none = none
second_none (e ∷ a) b none = absurd (cc)

pub none_before : (x : ℕ) (old new : List Event) → Extends old new → calls_of x new ≡ [] → calls_of x old ≡ []
none_before x old new goes_on none =
    second_none (calls_of x goes_on.0) (calls_of x old) (sym (calls_of-append x goes_on.0 old) ∙ (ap (calls_of x) (sym goes_on.1) ∙ none))

nothing_added : (a b : List Event) → a ++ b ≡ b → a ≡ []
nothing_added [] b same = refl
nothing_added (e ∷ a) b same = absurd (let long = length-append a b in let equal = ap length same in omega (arith, long, equal))

pub extends_on : (a b c : List Event) → Extends a b → Extends b c → Extends a c
extends_on a b c p q = (q.0 ++ p.0, q.1 ∙ (ap (λ l. q.0 ++ l) p.1 ∙ sym (append_assoc q.0 p.0 a)))

-- ---- the setup part alone

abbrev Alone : List Event → Type 0
Alone past = (x : ℕ) → 0 < x → calls_of x past ≡ []

alone_before : (e : Event) (past : List Event) → Alone (e ∷ past) → Alone past
alone_before e past alone = λ x above. older x e past (alone x above)

unstarted : (past : List Event) → Alone past → IsUnstarted past
unstarted [] alone = tt
unstarted (Started zero j item ∷ past) alone = (refl, unstarted past (alone_before (Started zero j item) past alone))
unstarted (Started (suc s) j item ∷ past) alone = absurd (called_here (suc s) j item past (alone (suc s) (omega arith)))
unstarted (e ∷ past) alone = unstarted past (alone_before e past alone)

pub alone_set_up : (past : List Event) → ((x : ℕ) → 0 < x → calls_of x past ≡ []) → IsSetUp past
alone_set_up [] alone = tt
alone_set_up (Started zero j item ∷ past) alone =
    let before = alone_before (Started zero j item) past alone in
    ((λ _. unstarted past before), (λ other. absurd (other refl)), alone_set_up past before)
alone_set_up (Started (suc s) j item ∷ past) alone = absurd (called_here (suc s) j item past (alone (suc s) (omega arith)))
alone_set_up (e ∷ past) alone = alone_set_up past (alone_before e past alone)

-- ---- the others behind it

rests_on : (newer before : List Event) → calls_of 0 newer ≡ [] → under_way 0 before ≡ None → under_way 0 (newer ++ before) ≡ None
rests_on newer before quiet rests =
    under_way_by_calls 0 (newer ++ before) ∙ (ap (under_way 0) (calls_of-append 0 newer before ∙ ap (λ list. list ++ calls_of 0 before) quiet)
    ∙ (sym (under_way_by_calls 0 before) ∙ rests))

later : (newer before : List Event) → calls_of 0 newer ≡ [] → under_way 0 before ≡ None → IsSetUp before → IsSetUp (newer ++ before)
later [] before quiet rests is = is
later (Started zero j item ∷ newer) before quiet rests is = absurd (called_here zero j item newer quiet)
later (Started (suc s) j item ∷ newer) before quiet rests is =
    let then = older 0 (Started (suc s) j item) newer quiet in
    ((λ first. absurd (cc)), (λ _. rests_on newer before then rests), later newer before then rests is)
later (e ∷ newer) before quiet rests is = later newer before (older 0 e newer quiet) rests is

pub set_up : (before past : List Event) → Extends before past → ((x : ℕ) → 0 < x → calls_of x before ≡ []) → calls_of 0 past ≡ calls_of 0 before
    → under_way 0 (calls_of 0 before) ≡ None → IsSetUp past
set_up before past goes_on alone same rests =
    subst IsSetUp (sym goes_on.1)
    (later goes_on.0 before
    (nothing_added (calls_of 0 goes_on.0) (calls_of 0 before) (sym (calls_of-append 0 goes_on.0 before) ∙ (ap (calls_of 0) (sym goes_on.1) ∙ same)))
    (under_way_by_calls 0 before ∙ rests)
    (alone_set_up before alone))

-- One session more has joined, which has made no call.
pub one_more : (old new : List Event) (from n m : ℕ) → ((x : ℕ) → from ≤ x → x < n → calls_of x old ≡ []) → Extends old new → m ≡ n + 1
    → calls_of n new ≡ [] → (x : ℕ) → from ≤ x → x < m → calls_of x old ≡ []
one_more old new from n m before goes_on more none x above below = elim (let h : (x < n) ⊎ (n ≤ x) = search (arith) in h) [
  | inl less ↦ before x above less
  | inr least ↦
      let is : n ≡ x = omega (arith, least, below, more) in
      subst (λ (y : ℕ). calls_of y old ≡ []) is (none_before n old new goes_on none)
]

-- The engine comes out of the hall, where the first session has been seen to be set up, and the setup part has left.
pub set_up_left : (first : Sitting) (gathered left : List Event) → first.number ≡ 0 → HasSetUp first → under_way first.number (own first) ≡ None
    → Extends first.seen.past gathered → calls_of first.number gathered ≡ own first
    → ((x : ℕ) → length first.seen.names ≤ x → calls_of x gathered ≡ [])
    → Extends gathered left → ((x : ℕ) → calls_of x left ≡ calls_of x gathered) → IsSetUp left
set_up_left first gathered left zeroth up rests seen calls others goes_on still =
    let since = extends_on up.before first.seen.past gathered up.seen seen in
    let all : (x : ℕ) → 0 < x → calls_of x up.before ≡ [] =
    λ x above. elim (let h : (x < length first.seen.names) ⊎ (length first.seen.names ≤ x) = search (arith) in h) [
      | inl here ↦ up.alone x above here
      | inr beyond ↦ none_before x up.before gathered since (others x beyond)
    ] in
    set_up up.before left (extends_on up.before gathered left since goes_on) all
    (subst (λ (x : ℕ). calls_of x left ≡ calls_of x up.before) zeroth (still first.number ∙ (calls ∙ up.over)))
    (subst (λ (x : ℕ). under_way x (calls_of x up.before) ≡ None) zeroth (ap (under_way first.number) (sym up.over) ∙ rests))
