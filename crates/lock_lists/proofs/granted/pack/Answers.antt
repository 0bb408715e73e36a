use Rattle.std.proofs.Common.{◌≡◌, ◌∙◌, rules, arith, ap, length}
use Rattle.std.specs.Prelude.{filter, is_some}
use Rattle.std.proofs.lemmas.Fn.{filter_same}
use Rattle.lock_lists.specs.Places.{locks_of}
use Rattle.lock_lists.proofs.Locks.{packed, long_packed, few_locks}
use Rattle.lock_lists.proofs.granted.pack.Goals as goal

pub returns-clause-items : goal.returns-clause-items
returns-clause-items c =
    let places = c.args.places.now.items in
    let left : c.retain.new.self.items ≡ filter (λ p. is_some p) places = filter_same _ _ _ (λ x b f' k. search rules) _ _ c.retain.ensures.filtered in
    left ∙ packed places

pub returns-clause-fewer : goal.returns-clause-fewer
returns-clause-fewer c =
    let places = c.args.places.now.items in
    let left : c.retain.new.self.items ≡ filter (λ p. is_some p) places = filter_same _ _ _ (λ x b f' k. search rules) _ _ c.retain.ensures.filtered in
    omega (arith, ap length (left ∙ packed places), long_packed (locks_of places), few_locks places)
