use Rattle.row_changes.proofs.{Changing.same_rows, Keying.nothing_marked}
use Rattle.row_changes.proofs.keys_change.KeysChange.take_over.Goals as goal

abbrev pub returns-in-None-clause-changes : goal.returns-in-None-clause-changes
returns-in-None-clause-changes g c = λ chains beside p.
    rw (c.next.ensures, c.index_of_key-index.ensures)
    (nothing_marked chains beside _ _ c.args.self.now p c.args.entries c.requires.none (c.requires.entries p.schema p.table.there) c.in-None.is (same_rows _))
