use Rattle.law_read_pages.proofs.Reading.{read}
use Rattle.law_read_pages.proofs.pages.held_pages_read.Goals as goal

pub returns : goal.returns
returns c = λ past pages tables indexes kept chains ordered versions coded show schemas. record {
  tables = tables;
  indexes = indexes;
  show = show;
  schemas = schemas;
  rows = read past ordered indexes kept chains versions coded;
}
