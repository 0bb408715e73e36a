use Rattle.std.specs.Prelude.{◌≡◌, drop}
use Rattle.inno_db.specs.Keyed.{IsKeyed}
use Rattle.inno_model.specs.Past.{changed}
use Rattle.law_crashes.specs.Records.{changes_of}
use Rattle.file_zero.proofs.database.apply_records.Given as goal

-- with the records that are left it becomes what all of them make
abbrev pub invariant-loop-told : goal.invariant-loop-told
invariant-loop-told l = record {
  made : changed l.db (changes_of (drop l.told-index l.records)) ≡ changed l.fn.db (changes_of l.records);
  keyed : IsKeyed l.fn.db → IsKeyed l.db;
}
