use Rattle.std.proofs.Common.{refl}
use Rattle.mtr.proofs.Consulting.{consults_asked}
use Rattle.catalog.specs.Loading.{catalog_pages}
use Rattle.catalog.proofs.Shown.{catalog_page_known, shows_behind, fields_behind}
use Rattle.catalog.proofs.pages.table_on.Goals as goal

pub returns-in-Ok-clause-consults : goal.returns-in-Ok-clause-consults
returns-in-Ok-clause-consults g c = consults_asked catalog_pages c.args.page _ _ _ (catalog_page_known c.args.page c.requires.from c.requires.to) c.bytes.follows.holds-at-none

pub returns-in-Ok-clause-shown : goal.returns-in-Ok-clause-shown
returns-in-Ok-clause-shown g c = λ told.
    let looked = consults_asked catalog_pages c.args.page _ _ _ (catalog_page_known c.args.page c.requires.from c.requires.to) c.bytes.follows.holds-at-none in
    let shown = c.in_ok-bytes.ensures.shown (looked.goes.told told) in
    shows_behind c.args.count c.in_ok-bytes.bytes.now ((g.M.Mtr.state c.args.m.now).seen c.args.page) c.in-Ok.shown shown.same c.in-Ok.ensures.shown

pub returns-in-Err-Shape-clause-consults : goal.returns-in-Err-Shape-clause-consults
returns-in-Err-Shape-clause-consults g c = consults_asked catalog_pages c.args.page _ _ _ (catalog_page_known c.args.page c.requires.from c.requires.to) c.bytes.follows.holds-at-none

pub returns-in-Err-Shape-clause-reason : goal.returns-in-Err-Shape-clause-reason
returns-in-Err-Shape-clause-reason g c = (
  refl,
  refl,
  λ told.
      let looked = consults_asked catalog_pages c.args.page _ _ _ (catalog_page_known c.args.page c.requires.from c.requires.to) c.bytes.follows.holds-at-none in
      let shown = c.in_ok-bytes.ensures.shown (looked.goes.told told) in
      fields_behind c.args.count c.in_ok-bytes.bytes.now ((g.M.Mtr.state c.args.m.now).seen c.args.page) shown.same (rw c.in-Err-Shape.field-0-is at c.in-Err-Shape.ensures.refused),
)

pub returns-in-Err-NoMemory-clause-consults : goal.returns-in-Err-NoMemory-clause-consults
returns-in-Err-NoMemory-clause-consults g c = consults_asked catalog_pages c.args.page _ _ _ (catalog_page_known c.args.page c.requires.from c.requires.to) c.bytes.follows.holds-at-none
