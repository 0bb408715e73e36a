use Rattle.row_changes.proofs.Changing.{version_made}
use Rattle.row_changes.proofs.record_change.RecordChange.value.Goals as goal

abbrev pub coded-requires : goal.coded-requires
coded-requires g c =
    let p = c.requires.changing in
    (p.schema, p.table.there, (version_made _ _ _ _ _ _ p.fits p.stage c.requires.makes _ _ _ c.in_ok-version.ensures).0)
