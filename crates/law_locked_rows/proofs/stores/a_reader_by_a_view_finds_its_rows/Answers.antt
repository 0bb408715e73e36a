use Rattle.law_locked_rows.proofs.Readers.{shows_all}
use Rattle.law_locked_rows.proofs.stores.a_reader_by_a_view_finds_its_rows.Goals as goal

pub returns : goal.returns
returns c store granted s schema scan view reader held told searching sight there le mine = shows_all held told s searching scan view reader sight there le mine
