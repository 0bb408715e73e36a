use Rattle.std.proofs.Common.{◌≡◌, ◌++◌, ℕ, List, length, sym, ◌∙◌, ap, arith}
use Rattle.std.proofs.lemmas.Bool.Decides.{nat_tests}
use Rattle.std.proofs.lemmas.List.{append-nil, nil_from_length}
use Rattle.log_format.specs.Block.{payload_of}
use Rattle.log_format.proofs.Open.{payload_none}
use Rattle.log_format.proofs.pieces.put_payload.Goals as goal

pub returns-else-not-is_empty-clause-items : goal.returns-else-not-is_empty-clause-items
returns-else-not-is_empty-clause-items c =
    let none : length c.args.block.now ≡ 0 = grind (arith, nat_tests, c.is_empty.ensures, c.if-not-is_empty.false) in
    sym
    (ap (λ (l : List ℕ). c.args.out.now.items ++ l) (ap payload_of (nil_from_length c.args.block.now none) ∙ payload_none)
    ∙ append-nil c.args.out.now.items)
