use Rattle.std.proofs.Common.{◌≡◌, ◌≤◌, ◌*◌, take}
use Rattle.std.specs.Prelude.{remove, sum_by}
use Rattle.secondary.specs.Entries.{field_width}
use Rattle.secondary.proofs.fields.others_len.Given as goal

-- the fields so far
abbrev pub invariant-loop-place : goal.invariant-loop-place
invariant-loop-place l = record {
  len : l.len ≡ sum_by field_width (remove (take l.place l.columns) l.skipped);
  small : l.len ≤ 257 * l.place;
}
