use Rattle.std.proofs.Common.{ℕ, List, Bool}
use Rattle.law_read_pages.specs.Undo.{bare_pages, open_on}
use Rattle.law_read_pages.proofs.Alone.{reads_alone_one_way}
use Rattle.law_read_pages.proofs.Once.{same_schemas, same_rows}
use Rattle.law_read_pages.proofs.undo.pages_alone_stand_for_one_database.Goals as goal

pub returns : goal.returns
returns c = λ pages db other one two.
    let bare : ℕ → List ℕ = bare_pages pages in
    let is_open : ℕ → Bool = open_on bare in (
      same_schemas bare one.kept two.kept is_open
          (λ schema key. reads_alone_one_way bare schema key one.kept two.kept one.shadow two.shadow is_open) db other one.stands two.stands,
      same_rows bare one.kept two.kept is_open
          (λ schema key. reads_alone_one_way bare schema key one.kept two.kept one.shadow two.shadow is_open) db other one.stands two.stands,
    )
