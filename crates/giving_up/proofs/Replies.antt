-- A reply that may come stays so where the item's point does, or the rows that were latest there.
use Rattle.std.proofs.Common.{◌≡◌, ℕ, ◌+◌, inl, inr, false, List, ◌++◌, length, reverse, sym, ap, subst, ◌∙◌}
use Rattle.std.proofs.lemmas.Bool.{false≢true}
use Rattle.std.specs.Prelude.{is_some, not}
use Rattle.inno_types.specs.declared.stmt.Stmt.{Stmt}
use Rattle.inno_types.specs.declared.reply.Reply.{Reply}
use Rattle.inno_types.specs.declared.reply.Reply.TheVariants as replies
use Rattle.inno_db.specs.Outcome.{outcome}
use Rattle.inno_model.specs.declared.event.Event.{Event}
use Rattle.inno_model.specs.Moments.{Sometime}
use Rattle.inno_model.specs.Past.{level, IsOpen}
use Rattle.sql_history.specs.Items.{own_before, base, point, HasMade}
use Rattle.sql_history.specs.Counts.{rows_kept}
use Rattle.giving_up.specs.Replies.{is_count}
use Rattle.giving_up.specs.Replies.{MayAnswer, AnswersAlike, HasReply}

module _ (s : ℕ) (old new : List Event) (some : (P : List Event → Type 0) → Sometime P s old → Sometime P s new) where
  pub answers_on : base s (point s new) ≡ base s (point s old) → (statement : Stmt) (count : ℕ) (kept : Reply) → MayAnswer s statement count kept old
      → MayAnswer s statement count kept new
  answers_on same statement count (replies.Count n) may =
      (may.0 ∙ ap (λ db. (outcome statement db).reply) (sym same), may.1 ∙ ap (λ db. length (outcome statement db).changes) (sym same))
  answers_on same statement count (replies.Fail error) may = elim may [
    | inl refused ↦ inl (refused.0, refused.1 ∙ ap (λ db. (outcome statement db).reply) (sym same))
    | inr lacks ↦ inr lacks
  ]
  answers_on same statement count replies.NoMemory may = tt
  answers_on same statement count (replies.RunLimit rows) may = (may.0, may.1, some (λ h. rows ≡ rows_kept h + 1) may.2)
  answers_on same statement count other may = absurd may

  -- the point stays where it is
  pub reply_stays : point s new ≡ point s old → (statement : Stmt) (kept : Reply) → HasReply s statement kept old → HasReply s statement kept new
  reply_stays same statement kept reply =
      record {
        was_open = ap (λ p. is_some (level s p)) same ∙ reply.was_open;
        count = reply.count;
        made = subst (λ p. HasMade reply.count s (outcome statement (base s p)).changes p) (sym same) reply.made;
        answers = answers_on (ap (base s) same) statement reply.count kept reply.answers;
      }

  -- the point goes on with the past, where the statement comes to the same so far
  pub answers_alike : (statement : Stmt) (count : ℕ) (kept : Reply) → is_count kept ≡ false
      → AnswersAlike count kept statement (base s (point s new)) (base s (point s old)) → MayAnswer s statement count kept old
      → MayAnswer s statement count kept new
  answers_alike statement count (replies.Count n) no-count alike may = absurd (false≢true (sym no-count))
  answers_alike statement count (replies.Fail error) no-count alike may = elim may [
    | inl refused ↦ inl (refused.0, refused.1 ∙ sym (alike.reply (ap not refused.0)))
    | inr lacks ↦ inr lacks
  ]
  answers_alike statement count replies.NoMemory no-count alike may = tt
  answers_alike statement count (replies.RunLimit rows) no-count alike may = (may.0, may.1, some (λ h. rows ≡ rows_kept h + 1) may.2)
  answers_alike statement count other no-count alike may = absurd may

  abbrev pub reply_goes_on : (old-now : point s old ≡ old) (new-now : point s new ≡ new) → IsOpen s new → (statement : Stmt) (kept : Reply)
      → is_count kept ≡ false → (reply : HasReply s statement kept old) → AnswersAlike reply.count kept statement (base s new) (base s old)
      → HasMade reply.count s (outcome statement (base s old)).changes new → HasReply s statement kept new
  reply_goes_on old-now new-now is-open statement kept no-count reply alike made =
      record {
        was_open = ap (λ p. is_some (level s p)) new-now ∙ is-open;
        count = reply.count;
        made =
            subst (λ p. HasMade reply.count s (outcome statement (base s p)).changes p) (sym new-now)
            (made ∙ ap (λ changes. reverse changes ++ own_before s new) (sym alike.changes));
        answers =
            answers_alike statement reply.count kept no-count
            (subst (λ p. AnswersAlike reply.count kept statement (base s p) (base s (point s old))) (sym new-now)
            (subst (λ p. AnswersAlike reply.count kept statement (base s new) (base s p)) (sym old-now) alike)) reply.answers;
      }
