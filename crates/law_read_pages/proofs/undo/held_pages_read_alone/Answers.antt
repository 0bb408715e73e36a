use Rattle.std.proofs.Common.{◌≡◌, ℕ, Bool, sym, subst}
use Rattle.law_past_agreement.specs.Ids.{opens}
use Rattle.law_read_pages.specs.Rows.{has_id}
use Rattle.law_read_pages.specs.Undo.{bare_pages, open_on}
use Rattle.law_read_pages.specs.Pages.{latest, StandForDb}
use Rattle.law_read_pages.proofs.Reading.{read}
use Rattle.law_read_pages.proofs.undo.held_pages_read_alone.Goals as goal

pub returns : goal.returns
returns c = λ past pages tables indexes kept chains ordered versions coded show schemas shadow slots.
    let stands : StandForDb (bare_pages pages) kept (has_id (opens past)) (latest past) = record {
      tables = tables;
      indexes = indexes;
      show = show;
      schemas = schemas;
      rows = read past ordered indexes kept chains versions coded;
    } in
    let same : has_id (opens past) ≡ open_on (bare_pages pages) = λ i id. sym (slots id) i in
    record {
      kept = kept;
      shadow = shadow;
      stands = subst (λ (f : ℕ → Bool). StandForDb (bare_pages pages) kept f (latest past)) same stands;
    }
