use Rattle.law_locked_rows.proofs.Making.{row_made}
use Rattle.law_locked_rows.proofs.changes.a_step_of_a_change_keeps_all.Goals as goal

pub returns : goal.returns
returns c t store new granted now change reached held was told few apart keeps doing made may mine =
    row_made t store new granted now held was told few apart keeps change doing reached made may mine
