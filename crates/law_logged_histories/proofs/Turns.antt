-- What a session's transaction has made since the point of its item.
use Rattle.std.proofs.Common.{◌≡◌, ◌∙◌, refl, sym, subst, ℕ, ◌-◌, true, false, List, [], ◌∷◌, length}
use Rattle.inno_types.specs.declared.value.Schema.{Schema}
use Rattle.inno_model.specs.declared.event.Event.{Event}
use Rattle.inno_model.specs.declared.event.Event.TheVariants.{Begin, Started, Changed, Undone, Committed, RolledBack}
use Rattle.inno_model.specs.Past.{own}
use Rattle.sql_history.specs.Items.{Language, is_over, point, before_turn}
use Rattle.sql_history.specs.Legal.{IsLegal}
use Rattle.sql_history.proofs.Pasts.{point_now, point_closing, point_stays}
use Rattle.law_histories.proofs.Entries.{by_session, true_false}
use Rattle.law_logged_histories.proofs.Outcomes.{MakeOnly, make_drop}

-- what ends the item's changes begins no turn
turn_stays : (s : ℕ) (e : Event) (past : List Event) → is_over s (e ∷ past) ≡ true → before_turn s (e ∷ past) ≡ before_turn s past
turn_stays s (Started t j item) past over = by_session t s (λ is same. (let x = rw is at over in cc)) (λ is. rw is refl)
turn_stays s (Begin t n l) past over = by_session t s (λ is same. (let x = rw is at over in cc)) (λ is. rw is refl)
turn_stays s e past over = refl

module _ (says : Language) (P : Schema → Type 0) where
  -- once its changes have ended an item adds none
  adds_none : (s : ℕ) (e : Event) (past : List Event) → IsLegal says (e ∷ past) → is_over s (e ∷ past) ≡ true → MakeOnly P (own s past)
      → MakeOnly P (own s (e ∷ past))
  adds_none s (Begin t n l) past legal over made = by_session t s (λ is same. rw is tt) (λ is. rw is made)
  adds_none s (Changed t change) past legal over made =
      by_session t s (λ is same. true_false (rw is at over) (subst (λ u. is_over u past ≡ false) same legal.0.2.not_over)) (λ is. rw is made)
  adds_none s (Undone t keep) past legal over made =
      by_session t s (λ is same. rw is (make_drop P (length (own s past) - keep) (own s past) made)) (λ is. rw is made)
  adds_none s (Committed t) past legal over made = by_session t s (λ is same. rw is tt) (λ is. rw is made)
  adds_none s (RolledBack t) past legal over made = by_session t s (λ is same. rw is tt) (λ is. rw is made)
  adds_none s e past legal over made = made

  -- this earlier past has the item's turn, and the tables that were made by then are all
  pub record Reaches (s : ℕ) (point past : List Event) : Type 0 where
    pub turn : before_turn s point ≡ before_turn s past
    pub legal : IsLegal says point
    pub made : MakeOnly P (own s point) → MakeOnly P (own s past)

  pub from_point : (s : ℕ) (past : List Event) → IsLegal says past → Reaches s (point s past) past
  from_point s [] legal = record { turn = refl; legal = legal; made = λ made. made }
  from_point s (e ∷ past) legal =
      elim (is_over s (e ∷ past)) as (λ b. is_over s (e ∷ past) ≡ b → Reaches s (point s (e ∷ past)) (e ∷ past)) [
        | false ↦ λ on. subst (λ (h : List Event). Reaches s h (e ∷ past)) (sym (point_now s (e ∷ past) on))
            (record { turn = refl; legal = legal; made = λ made. made })
        | true ↦ λ over. elim (is_over s past) as (λ b. is_over s past ≡ b → Reaches s (point s (e ∷ past)) (e ∷ past)) [
          | false ↦ λ on. subst (λ (h : List Event). Reaches s h (e ∷ past)) (sym (point_closing s e past on over))
              (record { turn = sym (turn_stays s e past over); legal = legal.1; made = adds_none s e past legal over })
          | true ↦ λ was.
              let before = from_point s past legal.1 in
              subst (λ (h : List Event). Reaches s h (e ∷ past)) (sym (point_stays s e past was over))
              (record {
                turn = before.turn ∙ sym (turn_stays s e past over);
                legal = before.legal;
                made = λ made. adds_none s e past legal over (before.made made);
              })
        ] refl
      ] refl
