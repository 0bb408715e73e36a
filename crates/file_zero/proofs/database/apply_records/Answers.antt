use Rattle.std.proofs.Common.{◌+◌, ◌∙◌, drop, ap}
use Rattle.inno_db.specs.Database.{Database}
use Rattle.inno_model.specs.Past.{changed}
use Rattle.law_crashes.specs.Records.{changes_of}
use Rattle.file_zero.proofs.Applied.{next_record}
use Rattle.file_zero.proofs.database.apply_records.Goals as goal

pub loop-told-preserved : goal.loop-told-preserved
loop-told-preserved c = record {
  made =
      ap (λ (db : Database). changed db (changes_of (drop (c.loop-told.told-index + 1) c.args.records.now))) c.in_ok-apply_record.ensures.made
      ∙ next_record c.loop-told.db c.args.records.now c.loop-told.told-index c.told-item.result c.loop-told-test.true c.told-item.is
      ∙ c.loop-told.invariant.made;
  keyed = λ keyed. c.in_ok-apply_record.ensures.keyed (c.loop-told.invariant.keyed keyed);
}
