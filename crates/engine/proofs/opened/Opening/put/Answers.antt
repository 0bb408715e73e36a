use Rattle.std.proofs.Common.{◌≡◌, ◌∙◌, ap, arith, slice_get}
use Rattle.std.proofs.lemmas.Option.{slice_get_within}
use Rattle.std.specs.declared.result.Result.TheVariants.{Err}
use Rattle.law_stored_rows.specs.Fitting.{FitsTable}
use Rattle.list_world.specs.Parts.{world_of}
use Rattle.list_world.specs.Memory.{at_hand}
use Rattle.engine.specs.declared.opened.PutBad.TheVariants.{RowThere}
use Rattle.engine.proofs.Laying.{its_table, its_keys, keys_changing, laid_row, nobody_mid, row_there}
use Rattle.engine.proofs.opened.Opening.put.Goals as goal

pub put_record-requires-clause-storable : goal.put_record-requires-clause-storable
put_record-requires-clause-storable c =
    let there = c.table_of-schema.ensures in
    c.self.invariant.fits.fitting.tables c.args.table c.table_of-schema.result.now there

pub put_record-requires-clause-fits : goal.put_record-requires-clause-fits
put_record-requires-clause-fits c =
    let there = c.table_of-schema.ensures in
    its_table (slice_get c.self.inside.db.schemas c.args.table) c.table_of-schema.result.now (λ schema. FitsTable schema c.args.row) there
    (rw (c.self.view_is) c.requires.fits.0)

pub put_record-requires-clause-nobody : goal.put_record-requires-clause-nobody
put_record-requires-clause-nobody c = c.self.invariant.nobody

pub returns-in-Err-clause-there : goal.returns-in-Err-clause-there
returns-in-Err-clause-there c same =
    let there = c.table_of-schema.ensures in
    let reason : c.in-Err.reason ≡ RowThere = cc in
    let found = c.put_record.ensures.there (c.in-Err.is ∙ ap Err reason) in
    rw (← c.self.view_is)
    (row_there c.self.inside.db c.args.table c.args.row c.table_of-schema.result.now (world_of c.self.inside.world) c.self.invariant
    (at_hand c.self.inside.world).told (ap (λ tables. slice_get tables c.args.table) c.self.invariant.schemas ∙ there) found)

pub enter_keys-requires-clause-keys : goal.enter_keys-requires-clause-keys
enter_keys-requires-clause-keys c =
    let there = c.table_of-schema.ensures in (
      _,
      keys_changing c.self.inside.db c.args.table c.args.row c.table_of-schema.result.now (world_of c.self.inside.world) (world_of c.put_record.new.world)
          c.in-Ok.key c.self.invariant
          (ap (λ tables. slice_get tables c.args.table) c.self.invariant.schemas ∙ there)
          (c.self.invariant.fits.fitting.tables c.args.table c.table_of-schema.result.now there) c.in-Ok.ensures.ok (at_hand c.put_record.new.world).told,
    )

pub enter_keys-requires-clause-nobody : goal.enter_keys-requires-clause-nobody
enter_keys-requires-clause-nobody c =
    let there = c.table_of-schema.ensures in
    nobody_mid c.self.inside.db c.args.table c.args.row c.table_of-schema.result.now (world_of c.self.inside.world) (world_of c.put_record.new.world)
    c.in-Ok.key c.self.invariant (ap (λ tables. slice_get tables c.args.table) c.self.invariant.schemas ∙ there)
    (c.self.invariant.fits.fitting.tables c.args.table c.table_of-schema.result.now there) c.in-Ok.ensures.ok (at_hand c.put_record.new.world).told

pub add_change-requires : goal.add_change-requires
add_change-requires c =
    let there = c.table_of-schema.ensures in
    slice_get_within c.self.inside.db.schemas c.args.table c.table_of-schema.result.now there

pub invariant_of-result : goal.invariant_of-result
invariant_of-result c =
    let there = c.table_of-schema.ensures in
    rw (c.in-Ok-add_change.ensures)
    (laid_row c.self.inside.db c.args.table c.args.row c.table_of-schema.result.now (world_of c.self.inside.world) (world_of c.put_record.new.world)
    c.in-Ok.key c.self.invariant
    (ap (λ tables. slice_get tables c.args.table) c.self.invariant.schemas ∙ there)
    (c.self.invariant.fits.fitting.tables c.args.table c.table_of-schema.result.now there) c.in-Ok.ensures.ok (at_hand c.put_record.new.world).told
    (world_of c.enter_keys.new.world) (world_of c.leave_table.new.world) c.in-Ok-enter_keys.ensures c.leave_table.ensures.leaves
    c.leave_table.ensures.gone (rw (c.self.view_is) c.requires.fits))

pub leave_table-requires : goal.leave_table-requires
leave_table-requires c =
    let there = c.table_of-schema.ensures in
    let its =
    its_keys c.args.table c.table_of-schema.result.now c.args.row (world_of c.self.inside.world) (world_of c.put_record.new.world)
    (world_of c.enter_keys.new.world) c.in-Ok.key (ap (λ tables. slice_get tables c.args.table) c.self.invariant.schemas ∙ there)
    (c.self.invariant.fits.fitting.tables c.args.table c.table_of-schema.result.now there) c.in-Ok.ensures.ok c.in-Ok-enter_keys.ensures in
    let long = c.len-keys.ensures in
    let few = its.1 in
    (c.table_of-schema.result.now, its.0, long, omega (arith, long, few))
