use Rattle.std.proofs.Common.{◌≡◌, ◌≢◌, ℕ, ◌+◌, ◌<◌, List, ◌++◌, sym, ◌∙◌, ap, subst, arith}
use Rattle.store_api.specs.Areas.{piece}
use Rattle.stored_pages.specs.Words.{number_of}
use Rattle.doublewrite.specs.Batches.{BatchView, IsBatch, number_at, page_at}
use Rattle.doublewrite.proofs.Batched.{added, page_before, page_last}
use Rattle.doublewrite.proofs.batch.Batch.add_bytes.Goals as goal

pub invariant_of-self : goal.invariant_of-self
invariant_of-self c =
    let old : BatchView = record { count = c.self.inside.count; bytes = c.self.inside.bytes.items } in
    let page = c.args.page.now in
    let bytes : c.put_within.new.out.items ≡ old.bytes ++ page = c.put_within.ensures.items in
    let room : old.count < 64 = omega (arith, c.requires.room, ap (λ (b : BatchView). b.count) c.self.view_is) in
    let apart = subst (λ (b : BatchView). (k : ℕ) → k < b.count → number_at b k ≢ number_of page) (sym c.self.view_is) c.requires.distinct in
    record {
      is_batch = subst (λ (l : List ℕ). IsBatch (record { count = old.count + 1; bytes = l })) (sym bytes) (added old c.self.invariant.is_batch page c.requires.size room c.requires.sealed apart);
      room = omega (arith, c.self.invariant.room, c.put_within.ensures.grows);
    }

pub returns-clause-earlier : goal.returns-clause-earlier
returns-clause-earlier c = λ k below.
    let old : BatchView = record { count = c.self.inside.count; bytes = c.self.inside.bytes.items } in
    let within : k < old.count = omega (arith, below, ap (λ (b : BatchView). b.count) c.self.view_is) in
    ap (λ (l : List ℕ). piece 4096 k l) c.put_within.ensures.items
    ∙ (page_before old c.self.invariant.is_batch c.args.page.now c.requires.size k within ∙ ap (λ (b : BatchView). page_at b k) c.self.view_is)

pub returns-clause-last : goal.returns-clause-last
returns-clause-last c =
    let old : BatchView = record { count = c.self.inside.count; bytes = c.self.inside.bytes.items } in
    ap (λ (n : ℕ). piece 4096 n c.put_within.new.out.items) (sym (ap (λ (b : BatchView). b.count) c.self.view_is))
    ∙ (ap (λ (l : List ℕ). piece 4096 old.count l) c.put_within.ensures.items ∙ page_last old c.self.invariant.is_batch c.args.page.now c.requires.size)
