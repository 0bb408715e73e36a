use Rattle.row_search.specs.Sights.{sees_by, rows_seen}
use Rattle.row_search.proofs.{Keys.home, Matching.matches_found}
use Rattle.row_search.proofs.laws.a_search_finds_all_that_match.Goals as goal

pub returns : goal.returns
returns c = λ table schema kept pairs versions_at sight filter_by plan found all is covers part rise whole up.
    matches_found schema (rows_seen sight versions_at) (λ value row seen. home table schema kept pairs versions_at (sees_by sight) value row is seen) filter_by
    plan 0 found all covers part rise whole up
