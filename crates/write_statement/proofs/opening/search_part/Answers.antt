use Rattle.std.proofs.Common.{[], subst, sym, inl, refl}
use Rattle.law_stored_rows.specs.Storable.{AreStorable}
use Rattle.law_found_rows.proofs.FittingChanges.{tables_storable}
use Rattle.shared_lists.specs.Tasks.{Idle}
use Rattle.law_claims.specs.Claims.{Tables}
use Rattle.law_claims.proofs.Keeping.{keeper_writes}
use Rattle.write_statement.specs.Parts.{of_part}
use Rattle.write_statement.proofs.Turning.{turns_none, turns_stayed, changing_given_up, begins_search}
use Rattle.write_statement.proofs.opening.search_part.Goals as goal

pub begin_search-requires-clause-newest : goal.begin_search-requires-clause-newest
begin_search-requires-clause-newest g c = λ newest.
    keeper_writes c.args.session Tables c.args.lists.now.past c.args.lists.now.writer (c.requires.changing.keeps Tables tt)

pub plan_in-requires : goal.plan_in-requires
plan_in-requires g c =
    record { storable = subst AreStorable (sym c.schemas.ensures.are) (tables_storable c.args.lists.now.past c.schemas.ensures.fits) }

pub returns-in_default-clause-steps : goal.returns-in_default-clause-steps
returns-in_default-clause-steps g c =
    changing_given_up c.args.session c.args.lists.now c.args.lists.now Idle c.args.part (of_part c.args.part) [] c.give_up.result.0 c.give_up.result.1
    c.requires.changing (turns_none c.args.session c.args.lists.now c.requires.idle) (inl refl) c.give_up.ensures.state c.give_up.ensures.answer

pub returns-in-Ok-begin_search-clause-steps : goal.returns-in-Ok-begin_search-clause-steps
returns-in-Ok-begin_search-clause-steps g c =
    begins_search c.args.session c.args.lists.now c.begin_search.new.self c.args.part c.in-Ok.plan c.schemas.result.now c.requires.changing
    c.schemas.ensures.are (rw c.get.ensures at c.in-Ok.ensures)
    c.in-Ok-begin_search.ensures.ok

pub returns-in-Err-clause-steps : goal.returns-in-Err-clause-steps
returns-in-Err-clause-steps g c =
    changing_given_up c.args.session c.args.lists.now c.begin_search.new.self Idle c.args.part (of_part c.args.part) [] c.give_up-in-Err.result.0
    c.give_up-in-Err.result.1 c.requires.changing
    (turns_stayed c.args.session c.args.lists.now c.begin_search.new.self c.in-Err.ensures.err c.requires.idle) (inl refl) c.give_up-in-Err.ensures.state
    c.give_up-in-Err.ensures.answer
