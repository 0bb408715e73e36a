use Rattle.turn_engine.proofs.Going.{where_ok}
use Rattle.turn_engine.proofs.Joining.{first_rests, first_own, first_uncalled}
use Rattle.turn_engine.proofs.hall.share.Goals as goal

pub of_pass-requires-clause-rests : goal.of_pass-requires-clause-rests
of_pass-requires-clause-rests g c =
    first_rests _ (g.E.Recorded.board c.join_first.new.engine) (where_ok c.join_first.result c.if-is_err.ensures.negation c.join_first.ensures.ok)
    c.join_first.ensures.no_calls c.in-Ok.ensures.ok.1

pub returns-in-Ok-clause-ok : goal.returns-in-Ok-clause-ok
returns-in-Ok-clause-ok g c =
    first_own _ _ _ _ (g.E.Recorded.board c.join_first.new.engine) (where_ok c.join_first.result c.if-is_err.ensures.negation c.join_first.ensures.ok)
    c.join_first.ensures.no_calls c.in-Ok.ensures.ok.1 c.in-Ok.ensures.ok.0 c.of_pass.ensures

pub returns-in-Err-clause-err : goal.returns-in-Err-clause-err
returns-in-Err-clause-err g c =
    first_uncalled g.E.Recorded.board _ _ c.in-Err.ensures.err (where_ok c.join_first.result c.if-is_err.ensures.negation c.join_first.ensures.ok)
    c.join_first.ensures.no_calls
