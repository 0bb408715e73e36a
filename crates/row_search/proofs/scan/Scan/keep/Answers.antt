use Rattle.row_search.proofs.AtPair.{other_goes, own_goes}
use Rattle.row_search.proofs.scan.Scan.keep.Goals as goal

pub returns-then-not-is_entry_of : goal.returns-then-not-is_entry_of
returns-then-not-is_entry_of g c =
    other_goes c.requires (rw (c.primary_of-primary.ensures, c.as_slice.ensures, c.as_slice-2.ensures, c.if-not-is_entry_of.true) at c.is_entry_of.ensures)

pub returns-in-Ok-push : goal.returns-in-Ok-push
returns-in-Ok-push g c =
    own_goes c.requires c.push.new.self (rw (c.in-Ok.ensures, c.primary_of-primary.ensures, c.as_slice.ensures) at c.in-Ok-push.ensures.items)
    (rw (c.primary_of-primary.ensures, c.as_slice.ensures, c.as_slice-2.ensures, c.if-not-is_entry_of.false) at c.is_entry_of.ensures)
