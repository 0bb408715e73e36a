use Rattle.std.proofs.Common.{◌≡◌, ◌+◌, ◌++◌, ◌∷◌, [], arith, subst, sym}
use Rattle.std.specs.Prelude.{IfOk}
use Rattle.entries.specs.Lists.{shown, empty_index}
use Rattle.entries.specs.declared.list_index.ListIndex.{ListIndex}
use Rattle.list_store.specs.Parts.{AreAdded}
use Rattle.list_store.proofs.Tables.{added_one}
use Rattle.list_store.proofs.store_calls.add_indexes.Goals as goal

pub loop-added-preserved : goal.loop-added-preserved
loop-added-preserved c =
    let items : c.push.new.self.items ≡ c.loop-added.indexes.items ++ c.unwrap.result ∷ []
    = grind (arith, c.push.ensures.items, c.unwrap-in-loop-added.ensures) in
    let empty : shown c.unwrap.result ≡ empty_index
    = subst (λ r. IfOk r (λ (list : ListIndex). shown list ≡ empty_index)) c.unwrap.ensures c.new.ensures.empty in (
      subst (AreAdded (c.loop-added._added + 1) c.args.indexes.now.items) (sym items)
          (added_one c.loop-added._added c.args.indexes.now.items c.loop-added.indexes.items c.unwrap.result c.loop-added.invariant.0 empty),
      grind (arith, c.loop-added.invariant.1, c.loop-added-test.true, c.push.ensures.len, c.push.ensures.capacity, c.unwrap-in-loop-added.ensures),
    )
