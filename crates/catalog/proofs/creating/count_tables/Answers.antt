use Rattle.mtr.proofs.Consulting.{consults_then}
use Rattle.catalog.specs.Creating.{asked_pages}
use Rattle.catalog.proofs.creating.count_tables.Goals as goal

pub returns-in_err-table-2-clause-consults : goal.returns-in_err-table-2-clause-consults
returns-in_err-table-2-clause-consults g c = consults_then asked_pages _ _ _ c.pass.ensures.consults c.pass-2.ensures.consults

pub returns-in_err-table-3-clause-consults : goal.returns-in_err-table-3-clause-consults
returns-in_err-table-3-clause-consults g c = consults_then asked_pages _ _ _ (consults_then asked_pages _ _ _ c.pass.ensures.consults c.pass-2.ensures.consults) c.pass-3.ensures.consults

pub returns-clause-consults : goal.returns-clause-consults
returns-clause-consults g c =
    consults_then asked_pages _ _ _ (consults_then asked_pages _ _ _ (consults_then asked_pages _ _ _ c.pass.ensures.consults c.pass-2.ensures.consults) c.pass-3.ensures.consults) c.pass-4.ensures.consults
