use Rattle.std.proofs.Common.{rules}
use Rattle.std.specs.{Ordering.is_lt, Ordering.nat_cmp, Cmp.Lexicographic.slice_cmp}
use Rattle.std.proofs.lemmas.{Cmp.nat_list_cmp_total, Fn.always_returns_same, List.Sorted.ranks_by, Result.on_ok_weaker}
use Rattle.entries.specs.Pairs.{key_cmp}
use Rattle.row_locking.proofs.visit.sort_by_key.Goals as goal

pub returns-clause-ok : goal.returns-clause-ok
unfolding key_cmp
returns-clause-ok c =
    on_ok_weaker c.sort_by.result
    (λ up. up (λ a b. is_lt (slice_cmp nat_cmp a.key b.key)) (ranks_by nat_list_cmp_total (λ f. f.key))
    (always_returns_same _ _ _ (λ a r q k. search rules))) c.sort_by.ensures.sorted
