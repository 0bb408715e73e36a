-- The newest rows of all, while one session alone has changes: they are those that it sees.
use Rattle.std.proofs.Common.{◌≡◌, ◌≢◌, ℕ, Bool, true, false, cond, None, List, [], ◌∷◌, ◌++◌, refl, sym, ap, subst, ◌∙◌, inl, inr, arith}
use Rattle.std.proofs.lemmas.Bool.Decides.{nat_tests, eqb_tells}
use Rattle.std.proofs.lemmas.Bool.{false≢true}
use Rattle.std.proofs.lemmas.List.{append-nil}
use Rattle.std.specs.Prelude.{is_some, ◌==◌, ◌||◌}
use Rattle.std.specs.List.{list_any, flat_map}
use Rattle.inno_db.specs.declared.change.Change.{Change}
use Rattle.inno_model.specs.declared.event.Event.{Event}
use Rattle.inno_model.specs.declared.event.Event.TheVariants as events
use Rattle.inno_model.specs.Past.{own, level, commits, committed, opening, changed}
use Rattle.sql_history.specs.LooseReading.{beginners, uncommitted, newest}
use Rattle.law_past_agreement.specs.Order.{IsOrdered}
use Rattle.law_past_agreement.specs.Rows.{seen}

-- ---- who has begun

-- it stands in the list once at most
abbrev IsOnce : ℕ → List ℕ → Type 0
IsOnce w [] = Unit {0}
IsOnce w (x ∷ xs) = (x ≡ w → list_any (λ t. t == w) xs ≡ false) × IsOnce w xs

once_more : (w s : ℕ) (xs : List ℕ) → IsOnce w xs → IsOnce w (cond (list_any (λ t. t == s) xs) xs (s ∷ xs))
once_more w s xs before = go (list_any (λ t. t == s) xs) refl where
  go : (b : Bool) → list_any (λ t. t == s) xs ≡ b → IsOnce w (cond b xs (s ∷ xs))
  go true is = before
  go false is = (λ same. subst (λ u. list_any (λ t. t == u) xs ≡ false) same is, before)

once : (w : ℕ) (h : List Event) → IsOnce w (beginners h)
once w [] = tt
once w (events.Begin s n l ∷ h) = once_more w s (beginners h) (once w h)
once w (e ∷ h) = once w h

-- who has not begun has no transaction open, and no changes
never_open : (w : ℕ) (h : List Event) → list_any (λ t. t == w) (beginners h) ≡ false → level w h ≡ None
never_open w [] none = refl
never_open w (events.Begin s n l ∷ h) none = grind (arith, nat_tests, never_open w h, none)
never_open w (events.Committed s ∷ h) none = grind (arith, nat_tests, never_open w h, none)
never_open w (events.RolledBack s ∷ h) none = grind (arith, nat_tests, never_open w h, none)
never_open w (e ∷ h) none = never_open w h none

never_changed : (w : ℕ) (h : List Event) → IsOrdered h → list_any (λ t. t == w) (beginners h) ≡ false → own w h ≡ []
never_changed w [] ordered none = refl
never_changed w (events.Begin s n l ∷ h) ordered none = grind (arith, nat_tests, never_changed w h ordered.1, none)
never_changed w (events.Changed s change ∷ h) ordered none =
    elim (eqb_tells s w) [
      | inl same ↦ absurd (false≢true (sym (ap is_some (never_open w h none)) ∙ subst (λ u. is_some (level u h) ≡ true) same.1 ordered.0.0))
      | inr differ ↦ rw differ.0 (never_changed w h ordered.1 none)
    ]
never_changed w (events.Undone s keep ∷ h) ordered none = grind (arith, nat_tests, never_changed w h ordered.1, none)
never_changed w (events.Committed s ∷ h) ordered none = grind (arith, nat_tests, never_changed w h ordered.1, none)
never_changed w (events.RolledBack s ∷ h) ordered none = grind (arith, nat_tests, never_changed w h ordered.1, none)
never_changed w (e ∷ h) ordered none = never_changed w h ordered.1 none

module _ (f : ℕ → List Change) (w : ℕ) (others : (u : ℕ) → u ≢ w → f u ≡ []) where
  flat_none : (xs : List ℕ) → list_any (λ t. t == w) xs ≡ false → flat_map f xs ≡ []
  flat_none [] none = refl
  flat_none (x ∷ xs) none =
      elim (eqb_tells x w) [
        | inl same ↦ absurd (false≢true (sym none ∙ ap (λ b. b || list_any (λ t. t == w) xs) same.0))
        | inr differ ↦ ap (λ (cs : List Change). cs ++ flat_map f xs) (others x differ.1) ∙ flat_none xs
            (sym (ap (λ b. b || list_any (λ t. t == w) xs) differ.0) ∙ none)
      ]

  flat_once : (xs : List ℕ) → IsOnce w xs → list_any (λ t. t == w) xs ≡ true → flat_map f xs ≡ f w
  flat_once [] once-there some = absurd (false≢true some)
  flat_once (x ∷ xs) once-there some =
      elim (eqb_tells x w) [
        | inl same ↦ ap (λ (cs : List Change). f x ++ cs) (flat_none xs (once-there.0 same.1)) ∙ (append-nil (f x) ∙ ap f same.1)
        | inr differ ↦ ap (λ (cs : List Change). cs ++ flat_map f xs) (others x differ.1) ∙ flat_once xs once-there.1
            (sym (ap (λ b. b || list_any (λ t. t == w) xs) differ.0) ∙ some)
      ]

module _ (h : List Event) (w : ℕ) (ordered : IsOrdered h) (alone : (u : ℕ) → u ≢ w → own u h ≡ []) where
  uncommitted_is : uncommitted h ≡ own w h
  uncommitted_is = go (list_any (λ t. t == w) (beginners h)) refl where
    go : (b : Bool) → list_any (λ t. t == w) (beginners h) ≡ b → uncommitted h ≡ own w h
    go true is = flat_once (λ s. own s h) w alone (beginners h) (once w h) is
    go false is = flat_none (λ s. own s h) w alone (beginners h) is ∙ sym (never_changed w h ordered is)

  pub newest_is : newest h ≡ changed (opening h) (seen h w (commits h))
  newest_is = ap (λ (cs : List Change). changed (opening h) (cs ++ committed (commits h) h)) uncommitted_is
