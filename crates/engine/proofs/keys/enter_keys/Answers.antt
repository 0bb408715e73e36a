use Rattle.std.proofs.Common.{ap, Some, None, List}
use Rattle.inno_types.specs.declared.value.Value.{Value}
use Rattle.std.proofs.lemmas.Result.{on_ok_weaker}
use Rattle.engine.proofs.keys.enter_keys.Goals as goal

pub returns : goal.returns
returns c =
    on_ok_weaker c.take_over.result
    (λ over. over c.args.table c.args.key c.args.row.now
    (ap (λ (row : List Value). record { table = c.args.table; key = c.args.key; before = None; after = Some row; which = 0; put = None })
    c.in_ok-copied.ensures))
    c.take_over.ensures
