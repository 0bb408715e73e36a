-- The rules of a mount: 1 of fields and page numbers, 2 of the order of records, 3 of a child and its parent, 4 of neighbours, 5 of
-- pages in use. 0 stands for none of them: the bytes can't be read as the page.
use Rattle.std.specs.Prelude.{ℕ}
use Rattle.page_format.specs.declared.read.PageBad.{PageBad}
use Rattle.page_format.specs.declared.read.PageBad.TheVariants.{Sum, Number, Shape}
use Rattle.tree_check.specs.declared.node.NodeBad.{NodeBad}
use Rattle.tree_check.specs.declared.node.NodeBad.TheVariants.{Field, Order, Place, First}
use Rattle.tree_check.specs.declared.pages.PageFault.{PageFault}
use Rattle.tree_check.specs.declared.pages.PageFault.TheVariants.{Missing, Free, Unread, Wrong}
use Rattle.tree_check.specs.declared.rows.RowFault.{RowFault}
use Rattle.tree_check.specs.declared.rows.RowFault.TheVariants.{Page, Child, Neighbour}

abbrev pub rule_in_page : PageBad → ℕ
rule_in_page (Sum stored computed) = 0
rule_in_page (Number found) = 0
rule_in_page (Shape rule) = rule

abbrev pub rule_on_level : NodeBad → ℕ
rule_on_level Field = 1
rule_on_level Order = 2
rule_on_level First = 2
rule_on_level Place = 3

abbrev pub rule_at_page : PageFault → ℕ
rule_at_page Missing = 1
rule_at_page Free = 5
rule_at_page (Unread bad) = rule_in_page bad
rule_at_page (Wrong bad) = rule_on_level bad

abbrev pub rule_broken : RowFault → ℕ
rule_broken (Page page fault) = rule_at_page fault
rule_broken (Child page) = 3
rule_broken (Neighbour page) = 4
