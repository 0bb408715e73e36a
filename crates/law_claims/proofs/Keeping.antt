-- What a session keeps stays kept, and others' steps leave it.
use Rattle.std.proofs.Common.{◌≡◌, ◌≢◌, ◌∙◌, ap, sym, refl, subst, ℕ, ◌+◌, ◌⊎◌, Bool, true, false, List, [], ◌∷◌, ◌++◌, Option, Some, inl, inr}
use Rattle.std.proofs.Common.{arith}
use Rattle.std.proofs.lemmas.Bool.Decides.{nat_tests, eqb_tells}
use Rattle.std.proofs.lemmas.Bool.{false≢true}
use Rattle.inno_types.specs.declared.value.Schema.{Schema}
use Rattle.inno_db.specs.declared.change.Change.{Change}
use Rattle.inno_db.specs.Database.{Database, Place}
use Rattle.inno_db.specs.Changes.{Spares}
use Rattle.inno_model.specs.declared.event.Event.{Event}
use Rattle.inno_model.specs.declared.event.Event.TheVariants as events
use Rattle.inno_model.specs.Past.{is_of, own, commits, committed, opening, changed}
use Rattle.sql_history.specs.Items.{own_before, base}
use Rattle.law_past_agreement.specs.Order.{IsNoOthers}
use Rattle.law_db.specs.Beside.{touches, AreApart, AreOfRows}
use Rattle.law_db.proofs.Apart.{schemas_stay, beside_commutes}
use Rattle.shared_lists.specs.State.{State}
use Rattle.sql_lists.specs.Steps.{changes_rows, MayWriteAlone}
use Rattle.sql_lists.proofs.Moving.{AddingOne}
use Rattle.sql_lists.proofs.Staying.{other_of, opening_stays, at_work, committed_more}
use Rattle.law_claims.specs.Claims.{Claim, Tables, Row, Leaves, Keeps, Basis, KeepsBasis, LeavesBasis, GoesBeside}
use Rattle.law_claims.proofs.Standing.{changed_append, leaves_none, of_rows}

-- ---- under the plain lock

-- who keeps one thing keeps all
pub all_kept : (s : ℕ) (claim other : Claim) (past : List Event) (writer : Option ℕ) → Keeps s claim past writer → Keeps s other past writer
all_kept s claim other past writer kept = record { locked = kept.locked; alone = kept.alone }

-- who keeps something may write
pub keeper_writes : (s : ℕ) (claim : Claim) (past : List Event) (writer : Option ℕ) → Keeps s claim past writer → writer ≡ Some s
keeper_writes s claim past writer kept = kept.locked

-- and no other session has changes
pub keeper_alone : (s : ℕ) (claim : Claim) (past : List Event) (writer : Option ℕ) → Keeps s claim past writer → (other : ℕ) → other ≢ s → own other past ≡ []
keeper_alone s claim past writer kept = kept.alone

none_spare : (db : Database) (place : Place) (changes : List Change) → changes ≡ [] → Spares db place changes
none_spare db place changes none = rw none tt

-- no other session has a change at a place that is kept
pub kept_is_free : (s : ℕ) (place : Place) (past : List Event) (writer : Option ℕ) → Keeps s (Row place) past writer → (db : Database) (other : ℕ)
    → other ≢ s → Spares db place (own other past)
kept_is_free s place past writer kept db other differ = none_spare db place (own other past) (kept.alone other differ)

-- and what another has changed leaves what is kept
pub kept_is_left : (s : ℕ) (claim : Claim) (past : List Event) (writer : Option ℕ) → Keeps s claim past writer → (db : Database) (other : ℕ)
    → other ≢ s → Leaves claim db (own other past)
kept_is_left s claim past writer kept db other differ = rw (kept.alone other differ) (leaves_none claim db)

-- ---- one's own entries

others_none : (e : Event) (h : List Event) (s other : ℕ) → is_of s e ≡ true → other ≢ s → own other h ≡ [] → own other (e ∷ h) ≡ []
others_none e h s other mine differ none = grind (arith, nat_tests, mine, differ, none)

pub kept_by_own : (e : Event) (s : ℕ) (claim : Claim) (past : List Event) (writer : Option ℕ) → is_of s e ≡ true → Keeps s claim past writer
    → Keeps s claim (e ∷ past) writer
kept_by_own e s claim past writer mine kept =
    record { locked = kept.locked; alone = λ other differ. others_none e past s other mine differ (kept.alone other differ) }

-- ---- entries of others

-- without a change of rows nobody has changes who had none
none_more : (e : Event) (h : List Event) (u : ℕ) → changes_rows e ≡ false → own u h ≡ [] → own u (e ∷ h) ≡ []
none_more (events.Changed t change) h u spares none = cc
none_more (events.Undone t keep) h u spares none = grind (arith, nat_tests, none)
none_more e h u spares none = grind (arith, nat_tests, none)

not_true : (b : Bool) → (b ≡ true → ⊥) → b ≡ false
not_true true refuted = absurd (refuted refl)
not_true false refuted = refl

-- the changes that an entry commits
abbrev committed_by : Event → List Event → List Change
committed_by (events.Committed t) h = own t h
committed_by other h = []

committed_then : (e : Event) (h : List Event) → committed (commits (e ∷ h)) (e ∷ h) ≡ committed_by e h ++ committed (commits h) h
committed_then (events.Committed t) h = grind (arith, nat_tests, committed_more (commits h + 1) h (omega arith))
committed_then e h = refl

committed_is : (e : Event) (h : List Event) (t : ℕ) (P : List Change → Type 0) → IsNoOthers t e → P [] → P (own t h) → P (committed_by e h)
committed_is (events.Committed u) h t P mine none own-holds = elim (eqb_tells u t) [
  | inl same ↦ subst (λ x. P (own x h)) (sym same.1) own-holds
  | inr differ ↦ absurd (false≢true (sym differ.0 ∙ mine))
]
committed_is e h t P mine none own-holds = none

-- no other changes rows while something is kept
pub spares_rows : (old new : State) (t s : ℕ) → t ≢ s → (old.writer ≡ Some s → new.writer ≡ Some s) → (claim : Claim)
    → Keeps s claim old.past old.writer → (e : Event) → (changes_rows e ≡ true → MayWriteAlone t new.writer) → changes_rows e ≡ false
spares_rows old new t s differ keeps claim kept e writes =
    not_true (changes_rows e) (λ is. writes is s (λ same. differ (sym same)) (keeps kept.locked))

module _ (old new : State) (t s : ℕ) (differ : t ≢ s) (adding : AddingOne t old new) (keeps : old.writer ≡ Some s → new.writer ≡ Some s) where
  pub kept_on : (claim : Claim) → Keeps s claim old.past old.writer → Keeps s claim new.past new.writer
  kept_on claim kept =
      record {
        locked = keeps kept.locked;
        alone = λ other ne. elim adding [
          | inl same ↦ ap (own other) same ∙ kept.alone other ne
          | inr adds ↦
              let spares = spares_rows old new t s differ keeps claim kept adds.0 adds.3 in
              ap (own other) adds.2 ∙ none_more adds.0 old.past other spares (kept.alone other ne)
        ];
      }

  module _ (basis : Basis) (basis-kept : KeepsBasis s (base s old.past).schemas basis old.past old.writer) (own-rows : AreOfRows (own_before s old.past))
      (among : (place : Place) → touches (base s old.past).schemas (own_before s old.past) place ≡ true
      → touches (base s old.past).schemas basis.changes place ≡ true) where
    abbrev h : List Event
    h = old.past

    basis_left : (others : List Change) → (others ≡ []) ⊎ (others ≡ own t h) → LeavesBasis basis (base s h) others
    basis_left others (inl none) claim rests = subst (Leaves claim (base s h)) (sym none) (leaves_none claim (base s h))
    basis_left others (inr own-is) claim rests =
        subst (Leaves claim (base s h)) (sym own-is) (kept_is_left s claim h old.writer (basis-kept claim rests) (base s h) t differ)

    -- what was committed below, and the session's own changes above it
    abbrev below : Database
    below = changed (opening h) (committed (commits h) h)

    base_below : base s h ≡ changed below (own_before s h)
    base_below = changed_append (opening h) (own_before s h) (committed (commits h) h)

    same_tables : below.schemas ≡ (base s h).schemas
    same_tables = sym (ap (λ (d : Database). d.schemas) base_below ∙ schemas_stay below (own_before s h) own-rows)

    apart : (others : List Change) → LeavesBasis basis (base s h) others → AreApart below.schemas (own_before s h) others
    apart others leaves place mine =
        let mine-there = ap (λ (ss : List Schema). touches ss (own_before s h) place) (sym same_tables) ∙ mine in
        ap (λ (ss : List Schema). touches ss others place) same_tables ∙ leaves (Row place) (inl (among place mine-there))

    -- the others' changes may be made last
    made_last : (others : List Change) → LeavesBasis basis (base s h) others
        → changed (opening h) (own_before s h ++ (others ++ committed (commits h) h)) ≡ changed (base s h) others
    made_last others leaves =
        changed_append (opening h) (own_before s h) (others ++ committed (commits h) h)
        ∙ (ap (λ (d : Database). changed d (own_before s h)) (changed_append (opening h) others (committed (commits h) h))
        ∙ (sym (beside_commutes below (own_before s h) others own-rows (of_rows (base s h).schemas others (leaves Tables tt)) (apart others leaves))
        ∙ ap (λ (d : Database). changed d others) (sym base_below)))

    base_then : (e : Event) → IsNoOthers t e → LeavesBasis basis (base s h) (committed_by e h)
        → base s (e ∷ h) ≡ changed (base s h) (committed_by e h)
    base_then e mine leaves =
        let other : is_of s e ≡ false = other_of e t s mine (λ is. differ (sym is)) in
        ap (λ db. changed db (own_before s (e ∷ h) ++ committed (commits (e ∷ h)) (e ∷ h))) (opening_stays e h t mine)
        ∙ (ap (λ changes. changed (opening h) (changes ++ committed (commits (e ∷ h)) (e ∷ h))) (at_work e h s other).own_is
        ∙ (ap (λ changes. changed (opening h) (own_before s h ++ changes)) (committed_then e h) ∙ made_last (committed_by e h) leaves))

    pub goes_beside : GoesBeside basis s old.past new.past
    goes_beside = elim adding [
      | inl same ↦ record { others = []; base_is = ap (base s) same; leaves = basis_left [] (inl refl) }
      | inr adds ↦
          let e = adds.0 in
          let leaves = basis_left (committed_by e h)
          (committed_is e h t (λ changes. (changes ≡ []) ⊎ (changes ≡ own t h)) adds.1 (inl refl) (inr refl)) in
          record {
            others = committed_by e h;
            base_is = ap (base s) adds.2 ∙ base_then e adds.1 leaves;
            leaves = leaves;
          }
    ]
