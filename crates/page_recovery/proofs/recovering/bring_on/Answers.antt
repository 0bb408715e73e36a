use Rattle.std.proofs.Common.{ℕ, Option, ◌∙◌, refl, subst}
use Rattle.std.proofs.lemmas.Result.{err_from_is_err_and}
use Rattle.page_recovery.specs.declared.bad.RecoverBad.TheVariants.{Failed}
use Rattle.page_recovery.specs.Reading.{IsFollowed}
use Rattle.page_recovery.specs.Recovering.{IsRead}
use Rattle.page_recovery.proofs.Looking.{Since-looks}
use Rattle.store_api.proofs.Looks.{looks_none, looks_join}
use Rattle.page_recovery.proofs.Read.{Cause, past_the_end, brought}
use Rattle.page_recovery.proofs.recovering.bring_on.Goals as goal

pub returns-in_err-reader-clause-looks : goal.returns-in_err-reader-clause-looks
returns-in_err-reader-clause-looks g c = looks_none (g.D.Disk.past c.args.disk.now)

pub returns-in-Some-clause-refused : goal.returns-in-Some-clause-refused
returns-in-Some-clause-refused g c = λ s ticks is.
    let header = c.args.header in
    let after = c.apply_all.new.pages in
    let r = c.apply_all.new.reader in
    let count = c.in_ok-count.count in
    let at0 = c.in_ok-count.ensures.same s ticks is in
    let followed = c.in_ok-count.ensures.followed header.first c.in_ok-reader.ensures.begins s ticks is in (
      s,
      at0.1,
      λ read. past_the_end s.pages.seen s.log.seen header c.args.pages after r count c.in-Some.page read c.requires.capacity
          (c.in_ok-count.ensures.run ∙ c.in_ok-reader.ensures.run)
          (subst (λ (past : Option ℕ). IsFollowed header.first s.log.seen c.args.pages after r count past) c.in-Some.is followed),
    )

pub returns-in_err-block-clause-refused : goal.returns-in_err-block-clause-refused
returns-in_err-block-clause-refused g c =
    let past = g.D.Disk.past in
    let p0 = past c.args.disk.now in
    let p1 = past c.apply_all.new.disk in
    let p2 = past c.block_behind.new.disk in
    let p = err_from_is_err_and c.from_residual-in_err-block.result c.from_residual-in_err-block.ensures.1 in
    rw (p.1, p.2)
    (Since-looks (λ s. IsRead s.pages.seen c.args.header c.args.pages → Cause Failed s) p0 p2
    (looks_join p0 p1 p2 c.in_ok-count.ensures.looks c.in_err-block.ensures.looks) (λ s ticks is read. tt))

pub returns-clause-read : goal.returns-clause-read
returns-clause-read g c = λ s ticks is read.
    let header = c.args.header in
    let after = c.apply_all.new.pages in
    let r = c.apply_all.new.reader in
    let count = c.in_ok-count.count in
    let at1 = c.in_ok-block.ensures.same s ticks is in
    let followed = c.in_ok-count.ensures.followed header.first c.in_ok-reader.ensures.begins s at1.0 at1.1 in
    brought s.pages.seen s.log.seen header c.args.pages r _ read c.requires.capacity (c.in_ok-count.ensures.run ∙ c.in_ok-reader.ensures.run)
    (subst (λ (past : Option ℕ). IsFollowed header.first s.log.seen c.args.pages after r count past) c.in_default.is followed)
    (λ groups given. c.in_ok-block.ensures.behind header.first groups s ticks is given) refl refl c.next_lsn.ensures
