use Rattle.std.proofs.Common.{refl}
use Rattle.std.proofs.lemmas.List.Elements.{All-nil}
use Rattle.law_stored_rows.specs.Storable.{IsKeyOn}
use Rattle.engine.proofs.Each.{one_more, all_of_them, item_of}
use Rattle.engine.proofs.tables.are_keys_on.Goals as goal

pub loop-key-init : goal.loop-key-init
loop-key-init c = All-nil (IsKeyOn c.args.columns.now c.args.primary)

pub loop-key-preserved : goal.loop-key-preserved
loop-key-preserved c =
    one_more (IsKeyOn c.args.columns.now c.args.primary) c.args.keys.now c.loop-key.key-index c.key-item.result c.loop-key.invariant c.loop-key-test.true
    c.key-item.is (c.is_key_on.ensures.0 c.if-not-is_key_on.false)

pub returns-then-not-is_key_on : goal.returns-then-not-is_key_on
returns-then-not-is_key_on c = (
  λ yes. absurd (cc),
  λ all. c.if-not-is_key_on.ensures.1
      (item_of (IsKeyOn c.args.columns.now c.args.primary) c.args.keys.now c.loop-key.key-index c.key-item.result c.loop-key-test.true c.key-item.is all),
)

pub returns : goal.returns
returns c = (
  λ yes. all_of_them (IsKeyOn c.args.columns.now c.args.primary) c.args.keys.now c.loop-key.key-index c.loop-key.invariant c.loop-key-test.false,
  λ all. refl,
)
