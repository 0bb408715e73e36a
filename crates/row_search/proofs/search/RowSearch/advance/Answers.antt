use Rattle.row_search.proofs.search.RowSearch.advance.Goals as goal

pub returns : goal.returns
returns g c = rw c.replace-phase.ensures.value at c.comes-next.ensures
