use Rattle.law_locked_work.proofs.Telling.{refused}
use Rattle.law_locked_work.proofs.insert_told.values_refuse.Goals as goal

pub returns : goal.returns
returns c = λ statement name names n schema s made tuple tuples past error r keyed is.
    refused statement name names n schema s made tuple tuples past r keyed error is
