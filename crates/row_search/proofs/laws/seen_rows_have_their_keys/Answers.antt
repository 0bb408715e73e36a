use Rattle.row_search.proofs.Others.{in_clustered, in_keyed, seen_among}
use Rattle.row_search.proofs.laws.seen_rows_have_their_keys.Goals as goal

pub returns-clause-clustered : goal.returns-clause-clustered
returns-clause-clustered c = in_clustered

pub returns-clause-keyed : goal.returns-clause-keyed
returns-clause-keyed c = λ table schema kept pairs entries versions_at sight at key is there e.
    in_keyed table schema kept pairs entries versions_at versions_at sight at key is there e
    (λ value row seen. seen_among key.column sight (versions_at value) row seen)

pub returns-clause-lagging : goal.returns-clause-lagging
returns-clause-lagging c = in_keyed
