use Rattle.std.proofs.Common.{◌≡◌, Option, None, List, ℕ, sym, ap, ◌∙◌}
use Rattle.stored_pages.specs.Words.{lsn_of}
use Rattle.law_logged_pages.specs.Stages.{or_zeros}
use Rattle.std.specs.Prelude.{slice_index_or}
use Rattle.page_recovery.proofs.Instead.{lsn-blank}
use Rattle.page_recovery.proofs.pages.Pages.lsn.Goals as goal

pub returns-in-None : goal.returns-in-None
returns-in-None c =
    let none : slice_index_or c.args.self.now c.args.page None ≡ None =
    ap (λ (l : List (Option (List ℕ))). slice_index_or l c.args.page None) (sym c.self.view_is ∙ sym c.deref.ensures.value) ∙ sym c.in-None.ensures in
    sym (ap (λ (s : Option (List ℕ)). lsn_of (or_zeros s)) none ∙ lsn-blank)
