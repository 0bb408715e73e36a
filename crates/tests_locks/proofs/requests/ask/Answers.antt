use Rattle.tests_locks.proofs.requests.ask.Goals as goal

-- the case that the test hands in is the one
pub request-requires-clause-fits : goal.request-requires-clause-fits
request-requires-clause-fits g c = (c.args.arg3.1, c.assert_fits.ensures)
