use Rattle.tests_locks.proofs.requests.insert.Goals as goal

-- the case that the test hands in is the one
pub grant_new-requires-clause-fits : goal.grant_new-requires-clause-fits
grant_new-requires-clause-fits g c = (c.args.arg3.1, c.assert_fits.ensures)
