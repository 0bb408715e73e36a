use Rattle.law_locked_rows.proofs.Plans.{kept_by_others, kept_by_own}
use Rattle.law_locked_rows.proofs.searched.what_is_kept_stays_kept.Goals as goal

pub returns-clause-others : goal.returns-clause-others
returns-clause-others c schema table which range s txn made log passes old new granted now guards records stay keeps =
    kept_by_others schema table which range s txn made log passes old new granted now guards records stay keeps

pub returns-clause-own : goal.returns-clause-own
returns-clause-own c schema table which range s txn made log later passes old new granted now guards each keeps =
    kept_by_own schema table which range s txn made log later passes old new granted now guards each keeps
