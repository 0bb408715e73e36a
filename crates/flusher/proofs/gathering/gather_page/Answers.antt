use Rattle.std.proofs.Common.{ℕ, List, sym, ◌∙◌, ap, subst}
use Rattle.doublewrite.specs.Batches.{BatchView}
use Rattle.flusher.specs.Gathering.{IsSealed}
use Rattle.flusher.proofs.Gathered.{gathers_more}
use Rattle.flusher.proofs.gathering.gather_page.Goals as goal

pub returns-then-is_dirty : goal.returns-then-is_dirty
returns-then-is_dirty c =
    let page = c.args.page in
    let sealed = subst (λ (l : List ℕ). IsSealed page l c.sealed.result) c.bytes.ensures.value c.sealed.ensures in
    gathers_more page c.args.pool.now c.args.batch.now c.add_bytes.new.self c.sealed.result c.requires.gathered
    (ap (λ (b : BatchView). b.count) c.add_bytes.ensures.batch)
    c.add_bytes.ensures.earlier c.add_bytes.ensures.last sealed (sym c.is_dirty.ensures ∙ c.if-is_dirty.true)
