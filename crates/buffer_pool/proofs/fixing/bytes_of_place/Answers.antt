use Rattle.std.proofs.Common.{rules, ◌≡◌, ℕ, ◌*◌, ◌++◌, length, drop, replicate, ap, ◌∙◌, arith}
use Rattle.std.proofs.lemmas.List.{length-replicate}
use Rattle.buffer_pool.proofs.Places.{read_with_zeros}
use Rattle.buffer_pool.proofs.fixing.bytes_of_place.Goals as goal

pub returns-clause-bytes : goal.returns-clause-bytes
returns-clause-bytes g c = λ s t told.
    let whole : length c.read.new.into ≡ 4096 = omega (arith, length-replicate {A = ℕ}) in
    let place : c.from.result ≡ c.args.page = search rules in
    c.write_front.ensures
    ∙ (ap (λ front. front ++ drop (length front) (replicate 4096 0)) (c.in_ok-count.ensures.bytes s t told)
    ∙ read_with_zeros (length c.read.new.into) 4096 (4096 * c.from.result) c.args.page s.pages.seen whole (ap (λ n. 4096 * n) place))
