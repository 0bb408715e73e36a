-- In a legal history each item that isn't under way has its answer.
use Rattle.std.proofs.Common.{◌≡◌, ◌∙◌, sym, ap, refl, ℕ, ◌+◌, List, [], ◌∷◌, ◌++◌, length, cond, Option, None, Some, inl, inr, arith}
use Rattle.std.proofs.lemmas.Bool.Decides.{eqb_tells}
use Rattle.std.proofs.lemmas.List.{length-append}
use Rattle.inno_types.specs.declared.reply.Item.{Item}
use Rattle.inno_model.specs.declared.event.Event.{Event}
use Rattle.inno_model.specs.declared.event.Event.TheVariants.{Started, Ended}
use Rattle.inno_model.specs.Past.{under_way}
use Rattle.inno_model.specs.Text.{items, answers}
use Rattle.sql_grammar.specs.Grammar.{Spells}
use Rattle.sql_history.specs.Legal.{IsLegal}

-- the items that wait for an answer
abbrev waiting : Option Item → ℕ
waiting None = 0
waiting (Some item) = 1

none≢push : {X : Type 0} (xs : List X) (x : X) → xs ++ x ∷ [] ≡ [] → ⊥
none≢push [] x is = cc
none≢push (y ∷ xs) x is = cc

-- a session without items has none under way
pub rests : (s : ℕ) (past : List Event) → items s past ≡ [] → under_way s past ≡ None
rests s [] none = refl
rests s (Started t j item ∷ past) none =
    elim (eqb_tells t s) [
      | inl same ↦ absurd (none≢push (items s past) item (ap (λ b. cond b (items s past ++ item ∷ []) (items s past)) (sym same.0) ∙ none))
      | inr other ↦ rw other.0 (rests s past (ap (λ b. cond b (items s past ++ item ∷ []) (items s past)) (sym other.0) ∙ none))
    ]
rests s (Ended t j reply ∷ past) none =
    elim (eqb_tells t s) [
      | inl same ↦ rw same.0 refl
      | inr other ↦ rw other.0 (rests s past none)
    ]
rests s (e ∷ past) none = rests s past none

counted : (s : ℕ) (past : List Event) → IsLegal Spells past → length (items s past) ≡ length (answers s past) + waiting (under_way s past)
counted s [] legal = refl
counted s (Started t j item ∷ past) legal =
    let before = counted s past legal.1 in
    elim (eqb_tells t s) [
      | inl same ↦ rw same.0 (length-append (items s past) (item ∷ []) ∙ ap (λ n. n + 1)
          (before ∙ ap (λ u. length (answers s past) + waiting (under_way u past)) (sym same.1) ∙ ap (λ u. length (answers s past) + waiting u)
          legal.0.1.idle ∙ omega arith))
      | inr other ↦ rw other.0 before
    ]
counted s (Ended t j reply ∷ past) legal =
    let before = counted s past legal.1 in
    elim (eqb_tells t s) [
      | inl same ↦ rw same.0 (before ∙ ap (λ u. length (answers s past) + waiting (under_way u past)) (sym same.1) ∙ ap
          (λ u. length (answers s past) + waiting u) legal.0.1.asked ∙ sym (length-append (answers s past) ((j, reply) ∷ []) ∙ omega arith) ∙ omega arith)
      | inr other ↦ rw other.0 before
    ]
counted s (e ∷ past) legal = counted s past legal.1

-- an answer for each item
pub all_answered : (s : ℕ) (past : List Event) → IsLegal Spells past → under_way s past ≡ None → length (answers s past) ≡ length (items s past)
all_answered s past legal none = omega (arith, counted s past legal, ap waiting none)
