use Rattle.std.proofs.Common.{◌+◌, ◌∙◌, List, drop, ap, sym, subst}
use Rattle.inno_db.specs.Database.{Database}
use Rattle.inno_db.specs.Keyed.{IsKeyed}
use Rattle.inno_model.specs.Past.{changed}
use Rattle.log_format.specs.declared.group.Record.{Record}
use Rattle.law_crashes.specs.Records.{changes_of, changes_in}
use Rattle.file_zero.proofs.Applied.{next_group, empty_db, empty_keyed}
use Rattle.file_zero.proofs.database.database_of.Goals as goal

pub loop-group-init : goal.loop-group-init
loop-group-init c =
    let none = empty_db c.new.result c.new-2.result c.new-db.result c.new.ensures c.new-2.ensures c.new-db.ensures in
    record {
      made = ap (λ (db : Database). changed db (changes_in c.args.groups.now)) none;
      keyed = subst IsKeyed (sym none) empty_keyed;
    }

pub loop-group-preserved : goal.loop-group-preserved
loop-group-preserved c = record {
  made =
      ap (λ (db : Database). changed db (changes_in (drop (c.loop-group.group-index + 1) c.args.groups.now)))
      (c.in_ok-apply_records.ensures.made ∙ ap (λ (rs : List Record). changed c.loop-group.db (changes_of rs)) c.as_slice.ensures)
      ∙ next_group c.loop-group.db c.args.groups.now c.loop-group.group-index c.group-item.result c.loop-group-test.true c.group-item.is
      ∙ c.loop-group.invariant.made;
  keyed = c.in_ok-apply_records.ensures.keyed c.loop-group.invariant.keyed;
}
