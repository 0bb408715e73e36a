use Rattle.std.proofs.Common.{◌∙◌, sym, ap, List, ◌++◌}
use Rattle.std.proofs.lemmas.List.{append-nil}
use Rattle.script.specs.declared.script.ScriptItem.{ScriptItem}
use Rattle.script_generator.specs.declared.transfer.Transfer.{Transfer}
use Rattle.script_generator.specs.Generated.{session_items, after_transfers}
use Rattle.script_generator.specs.Transfers.{after_transfer, drawn, transaction}
use Rattle.script_generator.proofs.Appended.{two}
use Rattle.script_generator.proofs.Steps.{items_none, items_next, after_none, after_next}
use Rattle.script_generator.proofs.sessions.push_session.Goals as goal

pub loop-turn-init : goal.loop-turn-init
loop-turn-init c = record {
  written = rw (items_none c.args.s c.args.words.now) (sym (append-nil c.args.items.now));
  drawn = sym (after_none c.args.words.now);
}

pub loop-turn-preserved : goal.loop-turn-preserved
loop-turn-preserved c =
    let old = c.args.items.now in
    let n = c.loop-turn._turn in
    let state = c.args.words.now in
    let items = c.loop-turn.items in
    let inv = c.loop-turn.invariant in
    record {
      written =
          two old (session_items c.args.s n state) (transaction c.args.s (drawn (after_transfers n state))) items c.push_transaction.new.items inv.written
          (c.in_ok-push_transaction.ensures ∙ ap (λ (t : Transfer). items ++ transaction c.args.s t) (c.draw-transfer.ensures.value ∙ ap drawn inv.drawn))
          ∙ ap (λ (more : List ScriptItem). old ++ more) (sym (items_next c.args.s n state));
      drawn = c.draw-transfer.ensures.after ∙ ap after_transfer inv.drawn ∙ sym (after_next n state);
    }
