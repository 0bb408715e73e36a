use Rattle.law_read_pages.proofs.Reading.{read}
use Rattle.law_read_pages.proofs.rows.held_rows_read.Goals as goal

pub returns : goal.returns
returns c = λ past indexes kept chains ordered versions coded. read past ordered indexes kept chains versions coded
