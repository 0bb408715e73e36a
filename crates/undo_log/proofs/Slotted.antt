-- Who is open once a log is opened: its transaction, and those that were.
use Rattle.std.proofs.Common.{◌≡◌, ◌≢◌, ℕ, zero, suc, ◌^◌, ◌<◌, ◌≤◌, ◌⊎◌, inl, inr, Bool, true, false, ◌==◌, ◌&&◌, ◌||◌, List, length, refl, sym, ap, ◌∙◌, subst, arith}
use Rattle.std.specs.Prelude.{not, slice_index, IsTrue}
use Rattle.std.proofs.lemmas.Bool.{eqb-true, eq-eqb}
use Rattle.std.proofs.lemmas.Bool.Decides.{eqb_tells}
use Rattle.mtr.specs.Seen.{MtrState}
use Rattle.undo_log.specs.Slots.{id_in, first_in, is_open_slot, open_below, open_on, SeesOpened, Opens, IsNewLog, SeesClosed, Closes, IsOnlySlot}
use Rattle.undo_log.proofs.Opened.{other_id, other_first, own_id, own_first, own_state, kept_id, kept_first, no_id}

and_same : (a b c d : Bool) → (a ≡ true → b ≡ true → c ≡ d) → (a && b && c) ≡ (a && b && d)
and_same true true c d same = same refl refl
and_same true false c d same = refl
and_same false b c d same = refl

and_false : (a c : Bool) → (a && false && c) ≡ false
and_false true c = refl
and_false false c = refl

swap : (a b c : Bool) → (a || (b || c)) ≡ (b || (a || c))
swap true true c = refl
swap true false c = refl
swap false true c = refl
swap false false c = refl

differ : (a b : ℕ) → a ≢ b → (a == b) ≡ false
differ a b apart = elim (eqb_tells a b) [
  | inl same ↦ absurd (apart same.1)
  | inr other ↦ other.0
]

not_zero : (n : ℕ) → not (n == 0) ≡ true → n ≢ 0
not_zero n some is = let none : false ≡ true = subst (λ (m : ℕ). not (m == 0) ≡ true) is some in absurd (cc)

own : (other id : ℕ) → id ≢ 0 → (not (other == 0) && id == other && true) ≡ (other == id)
own other id some = elim (eqb_tells other id) [
  | inl same ↦
      let none : (other == 0) ≡ false = differ other 0 (λ is. some (sym same.1 ∙ is)) in
      let this : (id == other) ≡ true = eq-eqb id other (sym same.1) in
      ap (λ (b : Bool). not b && id == other && true) none ∙ ap (λ (b : Bool). true && b && true) this ∙ sym same.0
  | inr apart ↦
      ap (λ (b : Bool). not (other == 0) && b && true) (differ id other (λ is. apart.1 (sym is))) ∙ and_false (not (other == 0)) true ∙ sym apart.0
]

shut : (other : ℕ) (c : Bool) → (not (other == 0) && 0 == other && c) ≡ false
shut other c = elim (eqb_tells other 0) [
  | inl same ↦ ap (λ (b : Bool). not b && 0 == other && c) same.0
  | inr apart ↦ ap (λ (b : Bool). not (other == 0) && b && c) (differ 0 other (λ is. apart.1 (sym is))) ∙ and_false (not (other == 0)) c
]

-- a slot beside the one of the log
beside : (slot id page : ℕ) (old new : MtrState) → SeesOpened slot id page old new → IsNewLog page old.seen → slot < 68 → (other s : ℕ) → s < 68 → s ≢ slot
    → is_open_slot new.seen other s ≡ is_open_slot old.seen other s
beside slot id page old new seen fresh below other s within apart =
    let first = other_first slot id page old new seen below s apart in
    ap (λ (n : ℕ). not (other == 0) && n == other && slice_index (new.seen (first_in new.seen s)) 50 == 1) (other_id slot id page old new seen below s apart)
    ∙ and_same (not (other == 0)) (id_in old.seen s == other) (slice_index (new.seen (first_in new.seen s)) 50 == 1)
    (slice_index (old.seen (first_in old.seen s)) 50 == 1)
    (λ some is.
    let log = fresh.apart s within (λ none. not_zero other some (sym (eqb-true (id_in old.seen s) other is) ∙ none)) in
    ap (λ (f : ℕ). slice_index (new.seen f) 50 == 1) first
    ∙ ap (λ (l : List ℕ). slice_index l 50 == 1) (seen.elsewhere (first_in old.seen s) log.1 log.0))

-- the slot of the log
opened_slot : (slot id page : ℕ) (old new : MtrState) → SeesOpened slot id page old new → IsNewLog page old.seen → slot < 68 → id ≢ 0 → id < 2 ^ 64 → page < 2 ^ 32
    → (other : ℕ) → is_open_slot new.seen other slot ≡ (other == id)
opened_slot slot id page old new seen fresh below some id_fits page_fits other =
    ap (λ (n : ℕ). not (other == 0) && n == other && slice_index (new.seen (first_in new.seen slot)) 50 == 1) (own_id slot id page old new seen below id_fits)
    ∙ ap (λ (f : ℕ). not (other == 0) && id == other && slice_index (new.seen f) 50 == 1) (own_first slot id page old new seen below page_fits)
    ∙ ap (λ (n : ℕ). not (other == 0) && id == other && n == 1) (own_state slot id page old new seen fresh.size)
    ∙ own other id some

below_slot : (new old : ℕ → List ℕ) (other n : ℕ) → ((s : ℕ) → s < n → is_open_slot new other s ≡ is_open_slot old other s)
    → open_below new n other ≡ open_below old n other
below_slot new old other zero same = refl
below_slot new old other (suc n) same = λ i. same n (omega arith) i || below_slot new old other n (λ s less. same s (omega (arith, less))) i

from_slot : (new old : ℕ → List ℕ) (other slot : ℕ) (x : Bool) (n : ℕ) → ((s : ℕ) → s < n → s ≢ slot → is_open_slot new other s ≡ is_open_slot old other s)
    → is_open_slot new other slot ≡ x → is_open_slot old other slot ≡ false → slot < n → open_below new n other ≡ (x || open_below old n other)
from_slot new old other slot x zero same here was above = absurd (omega (arith, above))
from_slot new old other slot x (suc n) same here was above = elim (eqb_tells n slot) [
  | inl at ↦
      let lower = below_slot new old other n (λ s less. same s (omega (arith, less)) (omega (arith, less, at.1))) in
      let own_one : is_open_slot new other n ≡ x = ap (is_open_slot new other) at.1 ∙ here in
      let was_shut : is_open_slot old other n ≡ false = ap (is_open_slot old other) at.1 ∙ was in
      (λ i. own_one i || lower i) ∙ ap (λ (b : Bool). x || (b || open_below old n other)) (sym was_shut)
  | inr apart ↦
      let lower = from_slot new old other slot x n (λ s less ne. same s (omega (arith, less)) ne) here was (omega (arith, above, apart.1)) in
      (λ i. same n (omega arith) apart.1 i || lower i) ∙ swap (is_open_slot old other n) x (open_below old n other)
]

pub opened_is_open : (slot id page : ℕ) (old new : MtrState) → Opens slot id page old new → IsTrue new.told → IsNewLog page old.seen → id ≢ 0 → id < 2 ^ 64
    → page < 2 ^ 32 → page ≢ 1 → (other : ℕ) → open_on new.seen other ≡ (other == id || open_on old.seen other)
opened_is_open slot id page old new opens told fresh some id_fits page_fits apart other =
    let seen = opens.seen told in
    let was : is_open_slot old.seen other slot ≡ false =
    ap (λ (n : ℕ). not (other == 0) && n == other && slice_index (old.seen (first_in old.seen slot)) 50 == 1) seen.was_free
    ∙ shut other (slice_index (old.seen (first_in old.seen slot)) 50 == 1) in
    from_slot new.seen old.seen other slot (other == id) 68 (beside slot id page old new seen fresh opens.below other)
    (opened_slot slot id page old new seen fresh opens.below some id_fits page_fits other) was opens.below

-- ---- a slot that was freed

none_below : (pages : ℕ → List ℕ) (other n : ℕ) → ((s : ℕ) → s < n → is_open_slot pages other s ≡ false) → open_below pages n other ≡ false
none_below pages other zero none = refl
none_below pages other (suc n) none = λ i. none n (omega arith) i || none_below pages other n (λ s less. none s (omega (arith, less))) i

freed_slot : (slot : ℕ) (old new : MtrState) → SeesClosed slot old new → slot < 68 → (other : ℕ) → is_open_slot new.seen other slot ≡ false
freed_slot slot old new seen below other =
    ap (λ (n : ℕ). not (other == 0) && n == other && slice_index (new.seen (first_in new.seen slot)) 50 == 1) (no_id slot old new seen below)
    ∙ shut other (slice_index (new.seen (first_in new.seen slot)) 50 == 1)

kept_slot : (slot : ℕ) (old new : MtrState) → SeesClosed slot old new → slot < 68 → IsOnlySlot slot old.seen → (other s : ℕ) → s < 68 → s ≢ slot
    → is_open_slot new.seen other s ≡ is_open_slot old.seen other s
kept_slot slot old new seen below only other s within apart =
    ap (λ (n : ℕ). not (other == 0) && n == other && slice_index (new.seen (first_in new.seen s)) 50 == 1) (kept_id slot old new seen below s apart)
    ∙ and_same (not (other == 0)) (id_in old.seen s == other) (slice_index (new.seen (first_in new.seen s)) 50 == 1)
    (slice_index (old.seen (first_in old.seen s)) 50 == 1)
    (λ some is.
    let log = only s within apart (λ none. not_zero other some (sym (eqb-true (id_in old.seen s) other is) ∙ none)) in
    ap (λ (f : ℕ). slice_index (new.seen f) 50 == 1) (kept_first slot old new seen below s apart)
    ∙ ap (λ (l : List ℕ). slice_index l 50 == 1) (seen.elsewhere (first_in old.seen s) log.1))

-- a slot of another transaction is none of this one's
not_its : (slot : ℕ) (pages : ℕ → List ℕ) → IsOnlySlot slot pages → (s : ℕ) → s < 68 → s ≢ slot → is_open_slot pages (id_in pages slot) s ≡ false
not_its slot pages only s within apart =
    let id = id_in pages slot in
    let c = slice_index (pages (first_in pages s)) 50 == 1 in
    elim (eqb_tells (id_in pages s) id) [
      | inl same ↦ elim (eqb_tells (id_in pages s) 0) [
        | inl none ↦
            let zero_id : (id == 0) ≡ true = eq-eqb id 0 (sym same.1 ∙ none.1) in
            ap (λ (b : Bool). not b && id_in pages s == id && c) zero_id
        | inr some ↦ absurd ((only s within apart some.1).0 same.1)
      ]
      | inr other ↦ ap (λ (b : Bool). not (id == 0) && b && c) other.0 ∙ and_false (not (id == 0)) c
    ]

was_other : (slot : ℕ) (pages : ℕ → List ℕ) (other : ℕ) → other ≢ id_in pages slot → is_open_slot pages other slot ≡ false
was_other slot pages other apart =
    let c = slice_index (pages (first_in pages slot)) 50 == 1 in
    ap (λ (b : Bool). not (other == 0) && b && c) (differ (id_in pages slot) other (λ is. apart (sym is))) ∙ and_false (not (other == 0)) c

pub closed_is_shut : (slot : ℕ) (old new : MtrState) → Closes slot old new → IsTrue new.told → slot < 68 → IsOnlySlot slot old.seen
    → (other : ℕ) → open_on new.seen other ≡ (not (other == id_in old.seen slot) && open_on old.seen other)
closed_is_shut slot old new closes told below only other =
    let seen = closes.seen told in
    let id = id_in old.seen slot in
    elim (eqb_tells other id) [
      | inl same ↦
          let shut_all : (s : ℕ) → s < 68 → is_open_slot new.seen other s ≡ false =
          λ s within. elim (eqb_tells s slot) [
            | inl at ↦ ap (is_open_slot new.seen other) at.1 ∙ freed_slot slot old new seen below other
            | inr apart ↦
                kept_slot slot old new seen below only other s within apart.1
                ∙ ap (λ (n : ℕ). is_open_slot old.seen n s) same.1
                ∙ not_its slot old.seen only s within apart.1
          ] in
          none_below new.seen other 68 shut_all ∙ sym (ap (λ (b : Bool). not b && open_on old.seen other) same.0)
      | inr ne ↦
          let same_all : (s : ℕ) → s < 68 → is_open_slot new.seen other s ≡ is_open_slot old.seen other s =
          λ s within. elim (eqb_tells s slot) [
            | inl at ↦
                ap (is_open_slot new.seen other) at.1 ∙ freed_slot slot old new seen below other
                ∙ sym (ap (is_open_slot old.seen other) at.1 ∙ was_other slot old.seen other ne.1)
            | inr apart ↦ kept_slot slot old new seen below only other s within apart.1
          ] in
          below_slot new.seen old.seen other 68 same_all ∙ sym (ap (λ (b : Bool). not b && open_on old.seen other) ne.0)
    ]
