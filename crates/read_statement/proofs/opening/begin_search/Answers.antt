use Rattle.std.proofs.Common.{ap}
use Rattle.std.specs.Prelude.{is_some}
use Rattle.read_statement.proofs.Entries.{rests}
use Rattle.read_statement.proofs.Ending.{fails}
use Rattle.read_statement.proofs.Settling.{search_begins}
use Rattle.read_statement.proofs.opening.begin_search.Goals as goal

pub begin_search-requires-clause-there : goal.begin_search-requires-clause-there
begin_search-requires-clause-there g c = let p = c.requires.planned in (p.schema, p.there, p.has_index)

pub begin_search-requires-clause-view : goal.begin_search-requires-clause-view
begin_search-requires-clause-view g c = λ by-view. ap is_some c.requires.running.2.view_is

pub returns-in-Ok-clause-steps : goal.returns-in-Ok-clause-steps
returns-in-Ok-clause-steps g c =
    let r = c.requires.running in
    search_begins c.args.session c.args.planned.plan c.args.lists.now c.begin_search.new.self _ r.0 r.1 r.2 c.requires.planned
    c.in-Ok.ensures.ok

pub returns-in-Err-clause-steps : goal.returns-in-Err-clause-steps
returns-in-Err-clause-steps g c =
    let r = c.requires.running in
    fails c.args.session c.args.lists.now c.begin_search.new.self c.args.stmt c.args.alone
    (rests c.args.session c.args.lists.now c.begin_search.new.self r.3 c.in-Err.ensures.err) r.0 r.1
