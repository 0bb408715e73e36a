use Rattle.std.proofs.Common.{refl}
use Rattle.std.proofs.lemmas.List.Elements.{All-nil}
use Rattle.engine.specs.Fit.{CanBeMade}
use Rattle.engine.proofs.Each.{one_more, all_of_them, item_of}
use Rattle.engine.proofs.tables.all_can_be_made.Goals as goal

pub loop-schema-init : goal.loop-schema-init
loop-schema-init c = All-nil CanBeMade

pub loop-schema-preserved : goal.loop-schema-preserved
loop-schema-preserved c =
    one_more CanBeMade c.args.schemas.now c.loop-schema.schema-index c.schema-item.result c.loop-schema.invariant c.loop-schema-test.true
    c.schema-item.is (c.can_be_made.ensures.0 c.if-not-can_be_made.false)

pub returns-then-not-can_be_made : goal.returns-then-not-can_be_made
returns-then-not-can_be_made c = (
  λ yes. absurd (cc),
  λ all. c.if-not-can_be_made.ensures.1
      (item_of CanBeMade c.args.schemas.now c.loop-schema.schema-index c.schema-item.result c.loop-schema-test.true c.schema-item.is all),
)

pub returns : goal.returns
returns c = (
  λ yes. all_of_them CanBeMade c.args.schemas.now c.loop-schema.schema-index c.loop-schema.invariant c.loop-schema-test.false,
  λ all. refl,
)
