use Rattle.std.proofs.Common.{rules, ◌≡◌, ◌∙◌, sym, subst}
use Rattle.std.proofs.lemmas.Fn.{filter_same}
use Rattle.std.specs.Prelude.{filter}
use Rattle.lock_table.specs.Empty.{HoldKeys, is_ready}
use Rattle.lock_table.proofs.Rooms.{keys_hold, keys_stay}
use Rattle.lock_table.proofs.room.keep_ready.Goals as goal

pub returns-clause-hold : goal.returns-clause-hold
returns-clause-hold c =
    let kept : c.retain.new.self.items ≡ filter is_ready c.args.keys.now.items = filter_same _ _ _ (λ x b f' k. search rules) _ _ c.retain.ensures.filtered in
    subst HoldKeys (sym kept) (keys_hold c.args.keys.now.items)

pub returns-clause-stay : goal.returns-clause-stay
returns-clause-stay c hold =
    let kept : c.retain.new.self.items ≡ filter is_ready c.args.keys.now.items = filter_same _ _ _ (λ x b f' k. search rules) _ _ c.retain.ensures.filtered in
    kept ∙ keys_stay c.args.keys.now.items hold
