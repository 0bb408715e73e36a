-- The changes that a session sees of the latest rows are each of a table that an earlier one made, as entries come.
use Rattle.std.proofs.Common.{◌≡◌, ◌≢◌, ℕ, ◌+◌, ◌≤◌, true, false, cond, eqb, List, [], ◌∷◌, ◌++◌, length, sym, subst, ◌⊎◌, inl, inr, arith}
use Rattle.std.proofs.lemmas.Bool.Decides.{eqb_tells}
use Rattle.std.proofs.lemmas.List.{length-append}
use Rattle.inno_types.specs.declared.value.Schema.{Schema}
use Rattle.inno_db.specs.declared.change.Change.{Change}
use Rattle.inno_db.specs.declared.change.Change.TheVariants.{Create, Put, Remove}
use Rattle.inno_model.specs.declared.event.Event.{Event}
use Rattle.inno_model.specs.declared.event.Event.TheVariants as events
use Rattle.inno_model.specs.Past.{own, oldest, commits, committed, opening}
use Rattle.law_past_agreement.specs.Order.{IsTabled, IsUndoable}
use Rattle.sql_lists.specs.Kept.{made, AreInOrder, IsInOrder}
use Rattle.sql_lists.proofs.Standing.{oldest_one}

tabled_more : (m n : ℕ) → m ≤ n → (change : Change) → IsTabled m change → IsTabled n change
tabled_more m n le (Create schema) is = tt
tabled_more m n le (Put table row) is = omega (arith, le, is)
tabled_more m n le (Remove table key) is = omega (arith, le, is)

-- changes that come between make more tables
made_more : (xs ys zs : List Change) → length (made (xs ++ zs)) ≤ length (made (xs ++ (ys ++ zs)))
made_more [] [] zs = omega arith
made_more [] (Create schema ∷ ys) zs = omega (arith, made_more [] ys zs, length-append (made (ys ++ zs)) (schema ∷ []))
made_more [] (Put table row ∷ ys) zs = made_more [] ys zs
made_more [] (Remove table key ∷ ys) zs = made_more [] ys zs
made_more (Create schema ∷ xs) ys zs =
    omega (arith, made_more xs ys zs, length-append (made (xs ++ zs)) (schema ∷ []), length-append (made (xs ++ (ys ++ zs))) (schema ∷ []))
made_more (Put table row ∷ xs) ys zs = made_more xs ys zs
made_more (Remove table key ∷ xs) ys zs = made_more xs ys zs

-- a session's changes stay in order where others are committed before them
ordered_over : (tables : List Schema) (xs ys zs : List Change) → AreInOrder tables (xs ++ zs) → AreInOrder tables (ys ++ zs)
    → AreInOrder tables (xs ++ (ys ++ zs))
ordered_over tables [] ys zs mine other = other
ordered_over tables (x ∷ xs) ys zs mine other = (
  tabled_more (length (tables ++ made (xs ++ zs))) (length (tables ++ made (xs ++ (ys ++ zs))))
      (omega (arith, made_more xs ys zs, length-append tables (made (xs ++ zs)), length-append tables (made (xs ++ (ys ++ zs))))) x mine.0,
  ordered_over tables xs ys zs mine.1 other,
)

pub same_seen : (e : Event) (h : List Event) → ((s : ℕ) → own s (e ∷ h) ≡ own s h) → committed (commits (e ∷ h)) (e ∷ h) ≡ committed (commits h) h
    → opening (e ∷ h) ≡ opening h → IsInOrder h → IsInOrder (e ∷ h)
same_seen e h owns commit same is s = rw (same, owns s, commit) (is s)

-- a change more, of a table that stands
pub ordered_changed : (t : ℕ) (change : Change) (h : List Event)
    → IsTabled (length ((opening h).schemas ++ made (own t h ++ committed (commits h) h))) change → IsInOrder h → IsInOrder (events.Changed t change ∷ h)
ordered_changed t change h tabled is s = elim (eqb_tells t s) [
  | inl same ↦ rw same.0 (subst (λ u. IsTabled (length ((opening h).schemas ++ made (own u h ++ committed (commits h) h))) change) same.1 tabled, is s)
  | inr differ ↦ rw differ.0 (is s)
]

-- the newest change is taken back
pub ordered_undone : (t keep : ℕ) (h : List Event) → IsUndoable keep (own t h) → IsInOrder h → IsInOrder (events.Undone t keep ∷ h)
ordered_undone t keep h undoable is s = elim (eqb_tells t s) [
  | inl same ↦ rw same.0 (go (own s h) (subst (λ u. IsUndoable keep (own u h)) same.1 undoable) (is s))
  | inr differ ↦ rw differ.0 (is s)
] where
  go : (changes : List Change) → IsUndoable keep changes → AreInOrder (opening h).schemas (changes ++ committed (commits h) h)
      → AreInOrder (opening h).schemas (oldest keep changes ++ committed (commits h) h)
  go [] undo ordered = absurd undo
  go (change ∷ before) undo ordered =
      subst (λ (changes : List Change). AreInOrder (opening h).schemas (changes ++ committed (commits h) h)) (sym (oldest_one change before keep undo.1))
      ordered.1

-- a transaction is committed; committed_is of this file says what is committed then
pub ordered_committed : (t : ℕ) (h : List Event) → committed (commits h + 1) (events.Committed t ∷ h) ≡ own t h ++ committed (commits h) h → IsInOrder h
    → IsInOrder (events.Committed t ∷ h)
ordered_committed t h commit is s = rw commit (go (eqb_tells t s)) where
  go : ((eqb t s ≡ true) × (t ≡ s)) ⊎ ((eqb t s ≡ false) × (t ≢ s))
      → AreInOrder (opening h).schemas (cond (eqb t s) [] (own s h) ++ (own t h ++ committed (commits h) h))
  go (inl same) = rw same.0 (is t)
  go (inr differ) = rw differ.0 (ordered_over (opening h).schemas (own s h) (own t h) (committed (commits h) h) (is s) (is t))
