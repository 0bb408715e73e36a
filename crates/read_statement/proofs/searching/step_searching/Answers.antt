use Rattle.std.proofs.Common.{refl, subst}
use Rattle.shared_lists.specs.declared.answers.Reading.TheVariants.{View}
use Rattle.sql_lists.proofs.Moving.{search_nears}
use Rattle.read_statement.specs.declared.machine.ReadStatement.{ReadStatement}
use Rattle.read_statement.specs.Running.{IsRunning}
use Rattle.read_statement.proofs.Ending.{fails}
use Rattle.read_statement.proofs.Settling.{search_goes_on, search_finds}
use Rattle.read_statement.proofs.searching.step_searching.Goals as goal

pub search-requires-clause-searching : goal.search-requires-clause-searching
search-requires-clause-searching g c =
    let is = subst (λ (m : ReadStatement). IsRunning c.args.lists.now c.args.session m) c.requires.searching.1 c.requires.running in
    (c.requires.searching.0.table, is.plan, View, is.task_is)

pub returns-in-Went-clause-steps : goal.returns-in-Went-clause-steps
returns-in-Went-clause-steps g c =
    let read = c.requires.searching.0 in
    let is = subst (λ (m : ReadStatement). IsRunning c.args.lists.now c.args.session m) c.requires.searching.1 c.requires.running in
    rw (c.requires.searching.1)
    (search_goes_on c.args.session c.args.lists.now c.search.new.self read is (c.in-Went.ensures.searches read.table is.plan View is.task_is))

pub returns-in-Went-clause-nears : goal.returns-in-Went-clause-nears
returns-in-Went-clause-nears g c =
    rw (c.requires.searching.1) (search_nears 6 c.args.session c.args.lists.now c.search.new.self (c.in-Went.ensures.nears refl))

pub returns-in-Done-clause-steps : goal.returns-in-Done-clause-steps
returns-in-Done-clause-steps g c =
    rw (c.replace.ensures.after) (
    let read = c.read-stmt.result in
    let is = subst (λ (m : ReadStatement). IsRunning c.args.lists.now c.args.session m) c.read-stmt.ensures c.requires.running in
    let found = c.in-Done.ensures.searches read.table is.plan View is.task_is in
    search_finds c.args.session c.args.lists.now c.search.new.self read _ refl refl refl c.history.ensures.sound is found.0 found.1
    )

pub returns-in-Hindered-clause-steps : goal.returns-in-Hindered-clause-steps
returns-in-Hindered-clause-steps g c =
    rw (c.replace-in-Hindered.ensures.after) (
    let read = c.read-read.result in
    let is = subst (λ (m : ReadStatement). IsRunning c.args.lists.now c.args.session m) c.read-read.ensures c.requires.running in
    fails c.args.session c.args.lists.now c.search.new.self read.stmt read.alone
    (c.in-Hindered.ensures.searches read.table is.plan View is.task_is).1 is.early is.is_open
    )
