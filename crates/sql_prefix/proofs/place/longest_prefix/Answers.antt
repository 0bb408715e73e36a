use Rattle.sql_prefix.proofs.Finished.{end_search}
use Rattle.sql_prefix.proofs.place.longest_prefix.Goals as goal

pub returns : goal.returns
returns c = end_search c.args.bytes.now c.searching.low c.searching.high c.searching-test.false c.searching.invariant.0
