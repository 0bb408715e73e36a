use Rattle.std.proofs.Common.{◌≡◌, true, false, sym, ap, ◌∙◌}
use Rattle.std.proofs.lemmas.Bool.{false≢true}
use Rattle.std.specs.Prelude.{not}
use Rattle.inno_types.specs.declared.reply.Reply.{Reply}
use Rattle.inno_types.specs.declared.reply.Reply.TheVariants as replies
use Rattle.inno_db.specs.declared.outcome.Outcome.{Outcome}
use Rattle.law_histories.specs.Space.{says_of_pages}
use Rattle.law_histories.proofs.Answered.{outcome_spares}
use Rattle.giving_up.specs.Replies.{is_refusal}
use Rattle.write_statement.specs.Settling.{is_fail}
use Rattle.write_statement.proofs.settling.settle.Goals as goal

-- no outcome is an error of pages
refuses : (reply : Reply) → is_fail reply ≡ true → says_of_pages reply ≡ false → is_refusal reply ≡ true
refuses (replies.Fail error) fails other = ap not other
refuses other fails spared = absurd (false≢true fails)

pub returns : goal.returns
returns c db read =
    let same = c.in_ok-reply.ensures db read in
    let reply = c.in_ok-reply.field-0.reply in
    let answer = ap (λ (o : Outcome). o.reply) same in (
      c.in_ok-given.ensures.same,
      refuses reply (ap is_fail (sym c.in_ok-given.ensures.same) ∙ c.in_ok-given.ensures.failed)
          (ap says_of_pages answer ∙ outcome_spares c.args.stmt.now db),
      answer,
    )
