use Rattle.std.proofs.Common.{◌≡◌, ◌<◌, true, ◌⊎◌, inl, inr, List, sym, subst, ◌∙◌}
use Rattle.std.specs.Prelude.{is_some, IsTrue}
use Rattle.stored_pages.specs.Words.{u32_at}
use Rattle.log_format.specs.declared.group.Record.{Record}
use Rattle.buffer_pool.specs.Frames.{is_pooled, next_idle}
use Rattle.mtr.specs.Seen.{is_in}
use Rattle.mtr.specs.Calls.{Makes}
use Rattle.mini_txn.specs.Dealt.{pages_of}
use Rattle.mini_txn.specs.View.{MiniView, seen_in, state_of, IsMini}
use Rattle.mini_txn.proofs.Meeting.{mini, made_mini, made_makes}
use Rattle.mini_txn.proofs.work.Work.make.Goals as goal
use Rattle.mini_txn.proofs.work.Work.make.Goals.{else-not-contains-via-then-not-contains+then-not-is_pooled+else-not-has_idle}
use Rattle.mini_txn.proofs.work.Work.make.Goals.{else-not-contains-via-then-not-contains+else-not-is_pooled, else-not-contains-via-else-not-contains}

pub invariant_of-self : goal.invariant_of-self
invariant_of-self c =
    let i = c.self.inside in
    let free : (is_in c.args.page (pages_of i.dealt) ≡ true) ⊎ ((is_pooled i.pool c.args.page ≡ true)
    ⊎ (is_some (next_idle i.pool) ≡ true)) = elim c.else-not-contains.branch [
      | else-not-contains-via-then-not-contains+then-not-is_pooled+else-not-has_idle w ↦ inr (inr (sym w.has_idle.ensures ∙ w.if-not-has_idle.false))
      | else-not-contains-via-then-not-contains+else-not-is_pooled w ↦ inr (inl (sym w.is_pooled.ensures ∙ w.if-not-is_pooled.false))
      | else-not-contains-via-else-not-contains w ↦ inl (sym c.contains.ensures ∙ w.if-not-contains.false)
    ] in
    let within = subst (λ (m : MiniView). IsTrue m.told → c.args.page < u32_at 44 (seen_in m.pool m.dealt 0)) (sym c.self.view_is) c.requires.within in
    subst (λ (rs : List Record). IsMini c.blank_in.new.pool c.blank_in.new.dealt rs i.told) (sym c.add_fresh.ensures)
    (made_mini i.pool c.blank_in.new.pool i.log i.dealt c.blank_in.new.dealt i.edits i.told c.args.page c.self.invariant c.blank_in.ensures within free)

pub returns-clause-made : goal.returns-clause-made
returns-clause-made c =
    let i = c.self.inside in
    let free : (is_in c.args.page (pages_of i.dealt) ≡ true) ⊎ ((is_pooled i.pool c.args.page ≡ true)
    ⊎ (is_some (next_idle i.pool) ≡ true)) = elim c.else-not-contains.branch [
      | else-not-contains-via-then-not-contains+then-not-is_pooled+else-not-has_idle w ↦ inr (inr (sym w.has_idle.ensures ∙ w.if-not-has_idle.false))
      | else-not-contains-via-then-not-contains+else-not-is_pooled w ↦ inr (inl (sym w.is_pooled.ensures ∙ w.if-not-is_pooled.false))
      | else-not-contains-via-else-not-contains w ↦ inl (sym c.contains.ensures ∙ w.if-not-contains.false)
    ] in
    let within = subst (λ (m : MiniView). IsTrue m.told → c.args.page < u32_at 44 (seen_in m.pool m.dealt 0)) (sym c.self.view_is) c.requires.within in
    let makes = made_makes i.pool c.blank_in.new.pool i.log i.dealt c.blank_in.new.dealt i.edits i.told c.args.page c.self.invariant
    c.blank_in.ensures within free in
    subst (λ (m : MiniView). Makes c.args.page (state_of m) (state_of
    (mini c.blank_in.new.pool i.log c.blank_in.new.dealt c.add_fresh.new.self i.told))) c.self.view_is
    (subst (λ (rs : List Record). Makes c.args.page (state_of (mini i.pool i.log i.dealt i.edits i.told))
    (state_of (mini c.blank_in.new.pool i.log c.blank_in.new.dealt rs i.told))) (sym c.add_fresh.ensures) makes)
