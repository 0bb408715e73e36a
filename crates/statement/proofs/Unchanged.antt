-- An item of a legal history whose statement makes no changes has made none, up to its point.
use Rattle.std.proofs.Common.{◌≡◌, ◌⊎◌, ℕ, Bool, true, false, eqb, ◌||◌, List, [], ◌∷◌, refl, sym, ap, subst, ◌∙◌, inl, inr, arith}
use Rattle.std.proofs.lemmas.Bool.Decides.{nat_tests, eqb_tells}
use Rattle.std.proofs.lemmas.Bool.{false≢true}
use Rattle.std.specs.List.{list_any}
use Rattle.inno_types.specs.declared.lock.Level.{Level}
use Rattle.inno_types.specs.declared.stmt.Stmt.{Stmt}
use Rattle.inno_types.specs.declared.stmt.Stmt.TheVariants as stmt
use Rattle.inno_model.specs.declared.event.Event.{Event}
use Rattle.inno_model.specs.declared.event.Event.TheVariants as events
use Rattle.inno_model.specs.Past.{is_of, of_item, did, begins_txn, closes, own}
use Rattle.inno_model.proofs.Untouched.{untouched}
use Rattle.sql_grammar.specs.Grammar.{Spells}
use Rattle.sql_history.specs.Items.{Asks, of_turn, is_over, point, before_turn, own_before}
use Rattle.sql_history.specs.Legal.{IsLegal, ChangesBy, MayChange}
use Rattle.sql_lists.specs.Steps.{changes_rows}
use Rattle.sql_lists.proofs.Staying.{at_work, is_within, item_within, within_of_other, point_now, point_stays, point_before}
use Rattle.giving_up.specs.Ends.{HasMadeNone}
use Rattle.giving_up.proofs.Nothing.{own_nothing, turn_nothing}
use Rattle.read_statement.proofs.Items.{turn_goes_on}
use Rattle.statement.proofs.Same.{changes_same}

-- until it is over that is now
pub none_there : (s : ℕ) (h : List Event) → is_over s h ≡ false → own s h ≡ own_before s h → HasMadeNone s h
none_there s h goes none = subst (λ p. own s p ≡ own_before s p) (sym (point_now h s goes)) none

none_now : (s : ℕ) (h : List Event) → is_over s h ≡ false → HasMadeNone s h → own s h ≡ own_before s h
none_now s h goes none = subst (λ p. own s p ≡ own_before s p) (point_now h s goes) none

-- an item that has done nothing
pub none_yet : (s : ℕ) (h : List Event) → of_item s h ≡ [] → HasMadeNone s h
none_yet s h nothing =
    none_there s h (turn_goes_on s h (ap (list_any closes) nothing)) (own_nothing s h nothing ∙ ap (own s) (sym (turn_nothing s h nothing).1))

-- ---- one entry more

tells : (b : Bool) → (b ≡ true) ⊎ (b ≡ false)
tells true = inl refl
tells false = inr refl

-- by which the item is over, or before which it was
module _ (s : ℕ) (e : Event) (h : List Event) (over : is_over s (e ∷ h) ≡ true) where
  same_point : point s (e ∷ h) ≡ point s h
  same_point = elim (tells (is_over s h)) [ inl was ↦ point_stays e h s was over | inr goes ↦ point_before e h s goes over ∙ sym (point_now h s goes) ]

  none_over : HasMadeNone s h → HasMadeNone s (e ∷ h)
  none_over none = subst (λ p. own s p ≡ own_before s p) (sym same_point) none

-- that leaves the changes
module _ (s : ℕ) (e : Event) (h : List Event) (same-over : is_over s (e ∷ h) ≡ is_over s h) (same-own : own s (e ∷ h) ≡ own s h)
    (same-turn : before_turn s (e ∷ h) ≡ before_turn s h) where
  none_on : HasMadeNone s h → HasMadeNone s (e ∷ h)
  none_on none = elim (tells (is_over s h)) [
    | inl was ↦ none_over s e h (same-over ∙ was) none
    | inr goes ↦ none_there s (e ∷ h) (same-over ∙ goes) (same-own ∙ (none_now s h goes none ∙ ap (own s) (sym same-turn)))
  ]

none_beside : (s : ℕ) (e : Event) (h : List Event) → is_of s e ≡ false → HasMadeNone s h → HasMadeNone s (e ∷ h)
none_beside s e h other none = let work = at_work e h s other in none_on s e h work.over (untouched e h s other).own_is work.before none

own_stays : (s : ℕ) (e : Event) (h : List Event) → begins_txn e ≡ false → changes_rows e ≡ false → closes e ≡ false → own s (e ∷ h) ≡ own s h
own_stays s (events.Begin t n l) h goes spares on = absurd (false≢true (sym goes))
own_stays s (events.Changed t change) h goes spares on = absurd (false≢true (sym spares))
own_stays s (events.Undone t keep) h goes spares on = absurd (false≢true (sym on))
own_stays s (events.Committed t) h goes spares on = absurd (false≢true (sym on))
own_stays s (events.RolledBack t) h goes spares on = absurd (false≢true (sym on))
own_stays s e h goes spares on = refl

-- a transaction begins without changes
none_begun : (s t n : ℕ) (l : Level) (h : List Event) → (eqb t s ≡ true) → HasMadeNone s (events.Begin t n l ∷ h)
none_begun s t n l h is = none_there s (events.Begin t n l ∷ h) (rw is refl) (new ∙ sym (ap (own s) turn ∙ new)) where
  new : own s (events.Begin t n l ∷ h) ≡ []
  new = rw is refl

  turn : before_turn s (events.Begin t n l ∷ h) ≡ events.Begin t n l ∷ h
  turn = rw is refl

-- of the session itself, which neither starts nor ends the item, begins no transaction and is no change
module _ (s : ℕ) (e : Event) (h : List Event) (mine : is_of s e ≡ true) (within : is_within s e ≡ true) (goes : begins_txn e ≡ false)
    (spares : changes_rows e ≡ false) where
  turn_is : of_turn s (e ∷ h) ≡ e ∷ of_turn s h
  turn_is = grind (arith, nat_tests, mine, within, goes)

  turn_stays : before_turn s (e ∷ h) ≡ before_turn s h
  turn_stays = grind (arith, nat_tests, mine, within, goes)

  none_after : HasMadeNone s h → HasMadeNone s (e ∷ h)
  none_after none = elim (tells (closes e)) [
    | inl is ↦ none_over s e h (ap (list_any closes) turn_is ∙ rw is refl) none
    | inr on ↦ none_on s e h (ap (list_any closes) turn_is ∙ rw on refl) (own_stays s e h goes spares on) turn_stays none
  ]

-- ---- a whole history

-- the item asks for no changes
abbrev pub AsksForNone : ℕ → List Event → Type 0
AsksForNone s past = (statement : Stmt) → Asks Spells s statement past → ChangesBy s statement past → ⊥

either_true : (b c : Bool) → c ≡ true → (b || c) ≡ true
either_true true c is = refl
either_true false c is = is

entries_are : (s : ℕ) (e : Event) (h : List Event) → is_of s e ≡ true → is_within s e ≡ true → of_item s (e ∷ h) ≡ e ∷ of_item s h
entries_are s e h mine within = grind (arith, nat_tests, mine, within)

begun_on : (s : ℕ) (e : Event) (h : List Event) → is_within s e ≡ true → did begins_txn s h ≡ true → did begins_txn s (e ∷ h) ≡ true
begun_on s e h within begun =
    elim (tells (is_of s e)) [
      | inl mine ↦ ap (list_any begins_txn) (entries_are s e h mine within) ∙ either_true (begins_txn e) (did begins_txn s h) begun
      | inr other ↦ ap (list_any begins_txn) (untouched e h s other).entries ∙ begun
    ]

changes_on : (s : ℕ) (e : Event) (h : List Event) → is_within s e ≡ true → (statement : Stmt) → ChangesBy s statement h → ChangesBy s statement (e ∷ h)
changes_on s e h within (stmt.CreateTable table if_not_exists definitions) changes = begun_on s e h within changes
changes_on s e h within other changes = changes

module _ (s : ℕ) (e : Event) (h : List Event) (within : is_within s e ≡ true) where
  asks_before : (statement : Stmt) → Asks Spells s statement (e ∷ h) → Asks Spells s statement h
  asks_before statement asks = (asks.0, sym (item_within e h s within) ∙ asks.1, asks.2)

  none_before : AsksForNone s (e ∷ h) → AsksForNone s h
  none_before none statement asks changes =
      none statement (asks.0, item_within e h s within ∙ asks.1, asks.2) (changes_on s e h within statement changes)

made_none : (s : ℕ) (past : List Event) (statement : Stmt) → IsLegal Spells past → Asks Spells s statement past → AsksForNone s past → HasMadeNone s past
made_none s [] statement legal asks none = refl
made_none s (events.Started t j item ∷ h) statement legal asks none =
    elim (eqb_tells t s) [
      | inl same ↦ none_there s (events.Started t j item ∷ h) (rw same.0 refl) (rw same.0 refl)
      | inr apart ↦
          let within = within_of_other (events.Started t j item) s apart.0 in
          none_beside s (events.Started t j item) h apart.0
          (made_none s h statement legal.1 (asks_before s (events.Started t j item) h within statement asks)
          (none_before s (events.Started t j item) h within none))
    ]
made_none s (events.Ended t j reply ∷ h) statement legal asks none =
    elim (eqb_tells t s) [
      | inl same ↦ absurd (let is = rw same.0 at asks.1 in cc)
      | inr apart ↦
          let within = within_of_other (events.Ended t j reply) s apart.0 in
          none_beside s (events.Ended t j reply) h apart.0
          (made_none s h statement legal.1 (asks_before s (events.Ended t j reply) h within statement asks)
          (none_before s (events.Ended t j reply) h within none))
    ]
made_none s (events.Begin t n l ∷ h) statement legal asks none =
    elim (eqb_tells t s) [
      | inl same ↦ none_begun s t n l h same.0
      | inr apart ↦
          none_beside s (events.Begin t n l) h apart.0
          (made_none s h statement legal.1 (asks_before s (events.Begin t n l) h refl statement asks) (none_before s (events.Begin t n l) h refl none))
    ]
made_none s (events.Changed t change ∷ h) statement legal asks none =
    elim (eqb_tells t s) [
      | inl same ↦
          let may = subst (λ (u : ℕ). MayChange Spells u change h) same.1 legal.0.2 in
          absurd (none_before s (events.Changed t change) h refl none may.statement may.takes.asks may.by)
      | inr apart ↦
          none_beside s (events.Changed t change) h apart.0
          (made_none s h statement legal.1 (asks_before s (events.Changed t change) h refl statement asks)
          (none_before s (events.Changed t change) h refl none))
    ]
made_none s (e ∷ h) statement legal asks none =
    let was = made_none s h statement legal.1 (asks_before s e h refl statement asks) (none_before s e h refl none) in
    elim (tells (is_of s e)) [
      | inl mine ↦ none_after s e h mine refl refl refl was
      | inr other ↦ none_beside s e h other was
    ]

-- where one reading of its text makes no changes
pub none_made : (s : ℕ) (past : List Event) (statement : Stmt) → IsLegal Spells past → Asks Spells s statement past → (ChangesBy s statement past → ⊥)
    → HasMadeNone s past
none_made s past statement legal asks none =
    made_none s past statement legal asks (λ other reads changes. none (changes_same s past statement other asks reads changes))
