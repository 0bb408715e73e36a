use Rattle.std.proofs.Common.{refl, ◌≡◌, Err, rules}
use Rattle.row_codec.specs.{declared.refused.RowBad.TheVariants.Shape}
use Rattle.row_search.proofs.AtPair.{may_walk, walk_goes, walk_reads, walk_ends}
use Rattle.row_search.proofs.scan.Scan.walk.Goals as goal

pub value-read-requires-clause-pointer : goal.value-read-requires-clause-pointer
value-read-requires-clause-pointer g c = may_walk c.requires

pub returns-in-Ok-found : goal.returns-in-Ok-found
returns-in-Ok-found g c =
    let shows = rw c.in-Ok-true.field-0-test at c.in-Ok-true.ensures.answer in
    rw (c.after.ensures.same, c.after.ensures.next)
    (walk_goes c.requires c.in-Ok-true.ensures.rest c.value-read.new.into.items shows.0 shows.1 c.in-Ok-found.glance
    (rw (c.primary_of-key.ensures, c.as_slice.ensures, c.as_slice-in-Ok-true.ensures, c.from_vec-bytes.ensures) at c.in-Ok-found.ensures))

pub returns-in-Err-Shape : goal.returns-in-Err-Shape
returns-in-Err-Shape g c =
    let shows = rw c.in-Ok-true.field-0-test at c.in-Ok-true.ensures.answer in
    let refused : c.glance-found.result ≡ Err Shape = search rules in (
      refl,
      c.in-Ok-true.ensures.rest,
      walk_reads c.requires c.in-Ok-true.ensures.rest c.value-read.new.into.items shows.0 shows.1
          (rw (refused, c.primary_of-key.ensures, c.as_slice.ensures, c.as_slice-in-Ok-true.ensures, c.from_vec-bytes.ensures) at c.glance-found.ensures),
    )

pub returns-in-Ok-false : goal.returns-in-Ok-false
returns-in-Ok-false g c =
    walk_ends c.requires c.in-Ok-false.ensures.rest (rw c.in-Ok-false.field-0-test at c.in-Ok-false.ensures.answer).0
