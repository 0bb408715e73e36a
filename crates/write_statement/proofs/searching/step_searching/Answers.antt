use Rattle.std.proofs.Common.{[], ap, sym, subst, ◌∙◌, inl, refl}
use Rattle.shared_lists.specs.Tasks.{Idle, asked}
use Rattle.shared_lists.specs.declared.answers.Reading.TheVariants.{Newest}
use Rattle.store_api.specs.declared.stepped.Stepped.TheVariants.{Went, Done, Hindered}
use Rattle.sql_lists.proofs.Moving.{moves_turns, search_nears}
use Rattle.law_claims.specs.Claims.{Tables}
use Rattle.law_claims.proofs.Keeping.{keeper_writes}
use Rattle.write_statement.specs.declared.machine.WriteStatement.{WriteStatement}
use Rattle.write_statement.specs.declared.machine.WriteStatement.TheVariants.{Searching}
use Rattle.sql_lists.specs.Going.{Nears}
use Rattle.write_statement.specs.Going.{to_go}
use Rattle.write_statement.specs.Parts.{of_part}
use Rattle.write_statement.specs.Running.{IsRunning}
use Rattle.write_statement.proofs.Moving.{nears_of}
use Rattle.write_statement.proofs.Resting.{steps_on, idle_asks_no_more}
use Rattle.write_statement.proofs.Turning.{changing_given_up, search_went, search_found, searches_as}
use Rattle.write_statement.proofs.searching.step_searching.Goals as goal

pub search-requires-clause-searching : goal.search-requires-clause-searching
search-requires-clause-searching g c =
    let r = subst (λ (m : WriteStatement). IsRunning c.args.lists.now c.args.session m) c.requires.searching.1 c.requires.running in
    (c.requires.searching.0.table, r.reading.plan, Newest, r.task_is)

pub returns-in-Went-clause-steps : goal.returns-in-Went-clause-steps
returns-in-Went-clause-steps g c =
    let part = c.requires.searching.0 in
    let r = subst (λ (m : WriteStatement). IsRunning c.args.lists.now c.args.session m) c.requires.searching.1 c.requires.running in
    rw (c.requires.searching.1)
    (search_went c.args.session c.args.lists.now c.search.new.self part r
    (searches_as c.args.session c.args.lists.now c.search.new.self part c.search.result Went r c.in-Went.is
    (c.search.ensures.searches part.table r.reading.plan Newest r.task_is)))

pub returns-in-Went-clause-nears : goal.returns-in-Went-clause-nears
returns-in-Went-clause-nears g c =
    rw (c.requires.searching.1) (search_nears _ c.args.session c.args.lists.now c.search.new.self (c.search.ensures.nears c.in-Went.is))

pub answer_found-next-requires : goal.answer_found-next-requires
answer_found-next-requires g c =
    let r = subst (λ (m : WriteStatement). IsRunning c.args.lists.now c.args.session m) c.part-part.ensures c.requires.running in
    record {
      found = search_found c.args.session c.args.lists.now c.search.new.self c.part-part.result c.in-Done.rows r
          (searches_as c.args.session c.args.lists.now c.search.new.self c.part-part.result c.search.result (Done c.in-Done.rows) r c.in-Done.is
          (c.search.ensures.searches c.part-part.result.table r.reading.plan Newest r.task_is));
    }

pub returns-in-Done-clause-nears : goal.returns-in-Done-clause-nears
returns-in-Done-clause-nears g c =
    rw (c.replace.ensures.after) (
    subst (λ (m : WriteStatement). Nears to_go c.args.session c.args.lists.now m c.answer_found-next.new.lists c.answer_found-next.result.0
    c.answer_found-next.result.1) (sym c.part-part.ensures)
    (nears_of c.args.session c.args.lists.now (Searching c.part-part.result) c.answer_found-next.new.lists c.answer_found-next.result.0
    c.answer_found-next.result.1 (c.answer_found-next.ensures.nears _ _ _))
    )

pub returns-in-Done-clause-steps : goal.returns-in-Done-clause-steps
returns-in-Done-clause-steps g c =
    rw (c.replace.ensures.after) (
    let part = c.part-part.result in
    let r = subst (λ (m : WriteStatement). IsRunning c.args.lists.now c.args.session m) c.part-part.ensures c.requires.running in
    let turns =
    (searches_as c.args.session c.args.lists.now c.search.new.self part c.search.result (Done c.in-Done.rows) r c.in-Done.is
    (c.search.ensures.searches part.table r.reading.plan Newest r.task_is)).0 in
    steps_on IsRunning c.args.session c.args.lists.now c.search.new.self c.answer_found-next.new.lists c.answer_found-next.result.0
    c.answer_found-next.result.1
    (moves_turns c.args.session Idle c.args.lists.now c.search.new.self turns) turns.past_is
    (idle_asks_no_more c.args.session c.args.lists.now c.search.new.self (ap asked turns.task_is)) (turns.writer_is ∙
    keeper_writes c.args.session Tables c.args.lists.now.past c.args.lists.now.writer (r.reading.changing.keeps Tables tt))
    c.answer_found-next.ensures.steps
    )

pub returns-in-Hindered-clause-steps : goal.returns-in-Hindered-clause-steps
returns-in-Hindered-clause-steps g c =
    rw (c.replace-in-Hindered.ensures.after) (
    let part = c.part.result in
    let r = subst (λ (m : WriteStatement). IsRunning c.args.lists.now c.args.session m) c.part.ensures c.requires.running in
    let turns =
    (searches_as c.args.session c.args.lists.now c.search.new.self part c.search.result (Hindered c.in-Hindered.field-0) r c.in-Hindered.is
    (c.search.ensures.searches part.table r.reading.plan Newest r.task_is)).1 in
    changing_given_up c.args.session c.args.lists.now c.search.new.self Idle part (of_part part) [] c.give_up-next.result.0 c.give_up-next.result.1
    r.reading.changing turns (inl refl) c.give_up-next.ensures.state c.give_up-next.ensures.answer
    )
