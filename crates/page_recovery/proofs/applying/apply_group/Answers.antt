use Rattle.std.proofs.Common.{List, subst}
use Rattle.std.proofs.lemmas.Result.{on_ok_weaker}
use Rattle.log_format.specs.declared.group.Record.{Record}
use Rattle.page_recovery.specs.Pages.{BecomeBy}
use Rattle.page_recovery.specs.Applying.{edited_so_far, stamped_so_far}
use Rattle.page_recovery.proofs.Becoming.{edited_pages, group_becomes, grouped_pages}
use Rattle.page_recovery.proofs.applying.apply_group.Goals as goal

pub stamp_all-requires-clause-whole : goal.stamp_all-requires-clause-whole
stamp_all-requires-clause-whole c =
    let g = c.args.group.now in
    edited_pages g.lsn g.records c.args.pages.now c.edit_all.new.pages c.requires.whole c.requires.is.each
    (subst (λ (rs : List Record). BecomeBy (edited_so_far g.lsn rs) c.args.pages.now c.edit_all.new.pages) c.as_slice.ensures c.in_ok-edit_all.ensures)

pub returns-clause-became : goal.returns-clause-became
returns-clause-became c =
    let g = c.args.group.now in
    let edits =
    subst (λ (rs : List Record). BecomeBy (edited_so_far g.lsn rs) c.args.pages.now c.edit_all.new.pages) c.as_slice.ensures c.in_ok-edit_all.ensures in
    on_ok_weaker c.stamp_all.result
    (λ stamps. group_becomes g c.args.pages.now c.edit_all.new.pages c.stamp_all.new.pages c.requires.whole c.requires.is edits
    (subst (λ (rs : List Record). BecomeBy (stamped_so_far g.lsn rs) c.edit_all.new.pages c.stamp_all.new.pages) c.as_slice-2.ensures stamps))
    c.stamp_all.ensures

pub returns-clause-whole : goal.returns-clause-whole
returns-clause-whole c =
    let g = c.args.group.now in
    on_ok_weaker c.stamp_all.result (λ became. grouped_pages g c.args.pages.now c.stamp_all.new.pages c.requires.whole c.requires.is became)
    (returns-clause-became c)
