use Rattle.std.proofs.Common.{◌≡◌, ℕ, List, ◌++◌, drop, ◌∙◌, ap}
use Rattle.std.specs.Int.{w64, to_be_bytes}
use Rattle.sum64.specs.Fnv.{fnv_of}
use Rattle.stored_pages.proofs.Sealed.{sealed}
use Rattle.flusher.proofs.gathering.with_sum.Goals as goal

pub returns-clause-sum : goal.returns-clause-sum
returns-clause-sum c =
    let old = c.args.bytes.now in
    let front : c.copy_from_slice.new.self ≡ to_be_bytes w64 c.fnv-sum.result = c.copy_from_slice.ensures.after ∙ c.u64_bytes.ensures in
    let sum : c.fnv-sum.result ≡ fnv_of (drop 8 old) = c.fnv-sum.ensures ∙ ap fnv_of c.split_at.ensures.back in
    (sealed old (c.copy_from_slice.new.self ++ drop 8 old) c.fnv-sum.result sum (ap (λ (l : List ℕ). l ++ drop 8 old) front)).0
