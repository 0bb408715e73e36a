use Rattle.std.proofs.Common.{arith, false}
use Rattle.world.proofs.Widths.{record_key_len, record_value_len, has_key_len, has_value_len}
use Rattle.list_world.specs.Parts.{world_of}
use Rattle.list_world.specs.Memory.{no_page_of_index}
use Rattle.engine.proofs.Taking.{key_short, value_short, new_record, put_at_once}
use Rattle.engine.proofs.keys.put_record.Goals as goal

pub insert-requires-clause-key : goal.insert-requires-clause-key
insert-requires-clause-key c = key_short c.args.schema.now c.args.row.now c.in-Ok.key c.requires.storable c.in-Ok.ensures.key

pub insert-requires-clause-value : goal.insert-requires-clause-value
insert-requires-clause-value c =
    value_short c.args.schema.now c.args.row.now c.in-Ok.key c.in-Ok.value c.requires.storable c.in-Ok.ensures.key c.in-Ok.ensures.value

pub insert-requires-clause-key_len : goal.insert-requires-clause-key_len
insert-requires-clause-key_len c =
    let index = c.index_number.ensures in
    has_key_len c.args.table 0 c.args.schema.now (omega (arith, index)) (omega arith) c.requires.there c.in-Ok.key
    (record_key_len c.args.schema.now c.args.row.now c.in-Ok.key c.in-Ok.ensures.key.key_is)

pub insert-requires-clause-value_len : goal.insert-requires-clause-value_len
insert-requires-clause-value_len c =
    let index = c.index_number.ensures in
    has_value_len c.args.table 0 c.args.schema.now (omega (arith, index)) (omega arith) c.requires.there c.in-Ok.value
    (record_value_len c.args.schema.now (record { row = c.args.row.now; writer = 0; pointer = 0; marked = false }) c.in-Ok.value
    c.in-Ok.ensures.key.fits.columns c.in-Ok.ensures.value)

pub returns-in-Done-clause-ok : goal.returns-in-Done-clause-ok
returns-in-Done-clause-ok c =
    let index = c.index_number.ensures in
    new_record c.args.table c.args.schema.now c.args.row.now (world_of c.args.world.now) (world_of c.insert.new.self) c.in-Ok.key c.in-Ok.value
    c.index_number.result c.in-Ok.ensures.key c.in-Ok.ensures.value (omega (arith, index)) c.in-Done.ensures

pub unreachable-requires : goal.unreachable-requires
unreachable-requires c =
    put_at_once _ _ _ _ (no_page_of_index c.args.world.now c.index_number.result) (c.requires.nobody c.index_number.result) c.insert.result
    c.insert.ensures.index_is.here c.in_default-insert.not-Done c.in_default-insert.not-At c.in_default-insert.not-NoMemory
