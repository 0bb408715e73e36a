-- What one more entry does to ids, views and what is owed.
use Rattle.std.proofs.Common.{◌≡◌, ℕ, ◌<◌, ◌≤◌, true, false, Option, Some, None, List, [], ◌∷◌, refl, sym, ◌∙◌, ◌⊎◌, inl, inr, arith}
use Rattle.std.proofs.lemmas.Bool.Decides.{nat_tests}
use Rattle.inno_model.specs.declared.event.Event.{Event}
use Rattle.inno_model.specs.Past.{is_of, view_of, commits}
use Rattle.inno_model.proofs.{Untouched.untouched, Commits.commits_rise}
use Rattle.read_view.specs.Sight.{Sight}
use Rattle.law_past_agreement.specs.{Ids.given, Ids.id_of, Ids.is_among, Order.MayCome, Rows.IsNeeded}
use Rattle.law_past_agreement.specs.Agreement.{IsSettled, IsStanding, ViewAgrees, owed_by}
use Rattle.law_past_agreement.proofs.Ids.{AreIds, among_positive, later_not_among}

-- what is settled stays so
pub settled_more : (e : Event) (h : List Event) (id : ℕ) → IsSettled h id → IsSettled (e ∷ h) id
settled_more e h id settled = grind (arith, nat_tests, settled)

-- who may read the first n commits after the entry could before
pub needed_before : (e : Event) (h : List Event) (n : ℕ) → IsNeeded (e ∷ h) n → IsNeeded h n
needed_before e h n needed = grind (arith, nat_tests, needed, commits_rise e h)

among_from : (h : List Event) (n m id : ℕ) → commits h ≤ m → is_among h n id ≡ true → is_among h m id ≡ true
among_from [] n m id le is = is
among_from (e ∷ h) n m id le is = grind (arith, nat_tests, among_from h n m id, le, is)

-- What is among any number of commits is among all.
pub is_among_all : (h : List Event) (n id : ℕ) → is_among h n id ≡ true → is_among h (commits h) id ≡ true
is_among_all h n id = among_from h n (commits h) id (omega arith)

given_rise : (e : Event) (h : List Event) → given h ≤ given (e ∷ h)
given_rise e h = grind (arith, nat_tests)

-- no id is 0
pub standing_some : (h : List Event) (id : ℕ) → IsStanding h id → 0 < id
standing_some h id standing = grind (arith, standing, among_positive h)

-- an id that stands stood before, or has just been given
stood : (e : Event) (h : List Event) (id : ℕ) → MayCome h e → IsStanding (e ∷ h) id → IsStanding h id ⊎ (given h < id)
stood e h id may standing = grind (arith, nat_tests, among_positive (e ∷ h), standing)

-- A view stays what it is while the session's view does, and its id once it has one, at an own entry too.
pub view_agrees : (e : Event) (h : List Event) (s : ℕ) → MayCome h e → AreIds h → ((id : ℕ) → 0 < id → id ≡ id_of h s → id ≡ id_of (e ∷ h) s)
    → view_of s (e ∷ h) ≡ view_of s h → (o : Option Sight) → ViewAgrees h s o → ViewAgrees (e ∷ h) s o
view_agrees e h s may ids keeps-id same-view None v = same-view ∙ v
view_agrees e h s may ids keeps-id same-view (Some sight) agrees = (
  agrees.0,
  let n = agrees.0 in
      let v = agrees.1 in
      record {
        is-view = same-view ∙ v.is-view;
        within = omega (arith, commits_rise e h, v.within);
        earlier = v.earlier;
        alike = λ id standing differ.
            let among : is_among (e ∷ h) n id ≡ is_among h n id = grind (arith, nat_tests, v.within) in
            elim (stood e h id may standing) [
              | inl before ↦ v.alike id before (λ same. differ (keeps-id id (standing_some h id before) same)) ∙ sym among
              | inr new ↦ v.later id new ∙ sym (among ∙ later_not_among h ids n id new)
            ];
        later = λ id lt. v.later id (omega (arith, given_rise e h, lt));
      },
)

-- an entry of another session gives this one no id
pub other_id : (e : Event) (h : List Event) (s : ℕ) → is_of s e ≡ false → id_of (e ∷ h) s ≡ id_of h s
other_id e h s other = grind (arith, nat_tests)

-- and owes it nothing more
pub other_owed : (e : Event) (h : List Event) (s : ℕ) → is_of s e ≡ false → owed_by (e ∷ h) s ≡ owed_by h s
other_owed e h s other = let same = untouched e h s other in rw (same.level_is, same.own_is, same.entries, same.item) refl
