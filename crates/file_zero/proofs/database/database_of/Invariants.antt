use Rattle.std.specs.Prelude.{◌≡◌, drop}
use Rattle.inno_db.specs.Keyed.{IsKeyed}
use Rattle.inno_model.specs.Past.{changed}
use Rattle.law_crashes.specs.Records.{no_db, changes_in}
use Rattle.file_zero.proofs.database.database_of.Given as goal

-- with the groups that are left it becomes what all of them make
abbrev pub invariant-loop-group : goal.invariant-loop-group
invariant-loop-group l = record {
  made : changed l.db (changes_in (drop l.group-index l.groups)) ≡ changed no_db (changes_in l.groups);
  keyed : IsKeyed l.db;
}
