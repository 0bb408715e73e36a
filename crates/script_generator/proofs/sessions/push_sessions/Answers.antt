use Rattle.std.proofs.Common.{◌∙◌, sym, ap, ℕ, ◌+◌, List, ◌++◌}
use Rattle.std.proofs.lemmas.List.{append-nil}
use Rattle.script.specs.declared.script.ScriptItem.{ScriptItem}
use Rattle.script_generator.specs.Generated.{session_items, after_transfers, all_sessions, after_sessions}
use Rattle.script_generator.proofs.Appended.{two}
use Rattle.script_generator.proofs.Steps.{all_none, all_next, after_all_none, after_all_next}
use Rattle.script_generator.proofs.sessions.push_sessions.Goals as goal

pub loop-s-init : goal.loop-s-init
loop-s-init c = record {
  written = rw (all_none c.args.transfers c.args.number) (sym (append-nil c.args.items.now));
  drawn = c.seed_from_u64-words.ensures.same ∙ sym (after_all_none c.args.transfers c.args.number);
}

pub loop-s-preserved : goal.loop-s-preserved
loop-s-preserved c =
    let old = c.args.items.now in
    let s = c.loop-s.s in
    let many = c.args.transfers in
    let number = c.args.number in
    let items = c.loop-s.items in
    let inv = c.loop-s.invariant in
    record {
      written =
          two old (all_sessions many s number) (session_items (s + 1) many (after_sessions many s number)) items c.push_session.new.items inv.written
          (c.in_ok-push_session.ensures.items ∙ ap (λ (state : ℕ). items ++ session_items (s + 1) many state) inv.drawn)
          ∙ ap (λ (more : List ScriptItem). old ++ more) (sym (all_next many s number));
      drawn = c.in_ok-push_session.ensures.words ∙ ap (λ (state : ℕ). after_transfers many state) inv.drawn ∙ sym (after_all_next many s number);
    }
