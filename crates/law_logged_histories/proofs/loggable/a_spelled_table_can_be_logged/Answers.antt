use Rattle.law_logged_histories.proofs.Declared.{declared_loggable}
use Rattle.law_logged_histories.proofs.Names.{spelled_short}
use Rattle.law_logged_histories.proofs.loggable.a_spelled_table_can_be_logged.Goals as goal

pub returns : goal.returns
returns c = λ text table said definitions schema spells is.
    let short = spelled_short text table said definitions spells in
    declared_loggable table definitions schema short.0 short.1 is
