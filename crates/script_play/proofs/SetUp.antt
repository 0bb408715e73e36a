-- The setup part is over before another session starts an item: what each kind of move does to that.
use Rattle.std.proofs.Common.{◌≡◌, ◌≢◌, ◌∙◌, sym, ap, subst, refl, ℕ, zero, suc, ◌+◌, ◌<◌, ◌≤◌, List, [], ◌∷◌, ◌++◌, length, cond, inl, inr, arith, append_assoc}
use Rattle.std.specs.Prelude.{None}
use Rattle.std.proofs.lemmas.Bool.{eq-eqb, ne_eqb}
use Rattle.std.proofs.lemmas.Bool.Decides.{eqb_tells}
use Rattle.std.proofs.lemmas.List.{length-append}
use Rattle.inno_types.specs.declared.reply.Item.{Item}
use Rattle.inno_model.specs.declared.event.Event.{Event}
use Rattle.inno_model.specs.declared.event.Event.TheVariants.{Started, Ended}
use Rattle.inno_model.specs.Past.{under_way}
use Rattle.inno_model.specs.Recorded.{Extends}
use Rattle.inno_model.specs.Text.{items}
use Rattle.sql_history.specs.Serial.{IsUnstarted, IsSetUp}
use Rattle.script_play.specs.Sessions.{Shown, StartsNothing, IsOver}

-- ---- entries that start nothing

started_here : (s j : ℕ) (item : Item) (past : List Event) → items s (Started s j item ∷ past) ≡ items s past ++ item ∷ []
started_here s j item past = rw (eq-eqb s s refl) refl

more_items : (t : ℕ) (newer old : List Event) → length (items t old) ≤ length (items t (newer ++ old))
more_items t [] old = omega arith
more_items t (Started s j item ∷ newer) old =
    let before = more_items t newer old in
    elim (eqb_tells s t) [
      | inl same ↦ rw same.0 (let long = length-append (items t (newer ++ old)) (item ∷ []) in omega (arith, before, long))
      | inr other ↦ rw other.0 before
    ]
more_items t (e ∷ newer) old = more_items t newer old

starts_one : (s j : ℕ) (item : Item) (newer old : List Event) → ((t : ℕ) → items t (Started s j item ∷ (newer ++ old)) ≡ items t old) → ⊥
starts_one s j item newer old same =
    let one = ap length (sym (started_here s j item (newer ++ old)) ∙ same s) in
    let long = length-append (items s (newer ++ old)) (item ∷ []) in
    let more = more_items s newer old in
    omega (arith, one, long, more)

rests_on : (newer old : List Event) → ((t : ℕ) → items t (newer ++ old) ≡ items t old) → under_way 0 old ≡ None → under_way 0 (newer ++ old) ≡ None
rests_on [] old same rests = rests
rests_on (Started s j item ∷ newer) old same rests = absurd (starts_one s j item newer old same)
rests_on (Ended s j reply ∷ newer) old same rests = elim (eqb_tells s 0) [
  | inl is ↦ rw is.0 refl
  | inr other ↦ rw other.0 (rests_on newer old same rests)
]
rests_on (e ∷ newer) old same rests = rests_on newer old same rests

first_on : (newer old : List Event) → ((t : ℕ) → items t (newer ++ old) ≡ items t old) → IsSetUp old → IsSetUp (newer ++ old)
first_on [] old same is = is
first_on (Started s j item ∷ newer) old same is = absurd (starts_one s j item newer old same)
first_on (e ∷ newer) old same is = first_on newer old same is

pub over_on : (old new : List Event) → Extends old new → ((t : ℕ) → items t new ≡ items t old) → IsOver old → IsOver new
over_on old new goes_on same over =
    let still : (t : ℕ) → items t (goes_on.0 ++ old) ≡ items t old = λ t. ap (items t) (sym goes_on.1) ∙ same t in
    subst IsOver (sym goes_on.1) (record { rests = rests_on goes_on.0 old still over.rests; first = first_on goes_on.0 old still over.first })

pub extends_on : (a b c : List Event) → Extends a b → Extends b c → Extends a c
extends_on a b c p q = (q.0 ++ p.0, q.1 ∙ (ap (λ l. q.0 ++ l) p.1 ∙ sym (append_assoc q.0 p.0 a)))

pub starts_none_on : (a b c : Shown) → StartsNothing a b → StartsNothing b c → StartsNothing a c
starts_none_on a b c p q = record {
  names = q.names ∙ p.names;
  moment = q.moment ∙ p.moment;
  entries = extends_on a.past b.past c.past p.entries q.entries;
  items = λ s. q.items s ∙ p.items s;
}

pub over_still : (a b : Shown) → StartsNothing a b → IsOver a.past → IsOver b.past
over_still a b p over = over_on a.past b.past p.entries p.items over

-- ---- the setup part alone

none≢push : {X : Type 0} (xs : List X) (x : X) → xs ++ x ∷ [] ≡ [] → ⊥
none≢push [] x is = cc
none≢push (y ∷ xs) x is = cc

abbrev Alone : List Event → Type 0
Alone past = (s : ℕ) → 0 < s → items s past ≡ []

alone_before : (j : ℕ) (item : Item) (past : List Event) → Alone (Started 0 j item ∷ past) → Alone past
alone_before j item past alone = λ s above.
    let apart : 0 ≢ s = λ same. absurd (omega (arith, above, same)) in
    ap (λ b. cond b (items s past ++ item ∷ []) (items s past)) (sym (ne_eqb 0 s apart)) ∙ alone s above

unstarted : (past : List Event) → Alone past → IsUnstarted past
unstarted [] alone = tt
unstarted (Started zero j item ∷ past) alone = (refl, unstarted past (alone_before j item past alone))
unstarted (Started (suc s) j item ∷ past) alone =
    absurd (none≢push (items (suc s) past) item (sym (started_here (suc s) j item past) ∙ alone (suc s) (omega arith)))
unstarted (e ∷ past) alone = unstarted past alone

pub alone_first : (past : List Event) → ((s : ℕ) → 0 < s → items s past ≡ []) → IsSetUp past
alone_first [] alone = tt
alone_first (Started zero j item ∷ past) alone =
    let before = alone_before j item past alone in
    ((λ _. unstarted past before), (λ other. absurd (other refl)), alone_first past before)
alone_first (Started (suc s) j item ∷ past) alone =
    absurd (none≢push (items (suc s) past) item (sym (started_here (suc s) j item past) ∙ alone (suc s) (omega arith)))
alone_first (e ∷ past) alone = alone_first past alone

pub nothing_first : (past : List Event) → ((s : ℕ) → items s past ≡ []) → IsSetUp past
nothing_first past nothing = alone_first past (λ s _. nothing s)

pub alone_after : (old new : List Event) → ((s : ℕ) → items s old ≡ []) → ((t : ℕ) → t ≢ 0 → items t new ≡ items t old) → IsSetUp new
alone_after old new nothing others = alone_first new (λ s above. others s (λ zeroth. absurd (omega (arith, above, zeroth))) ∙ nothing s)
