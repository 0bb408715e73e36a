use Rattle.sql_text.proofs.Fronts.{whole_front, by_left}
use Rattle.sql_text.proofs.parser.tokens_left.Goals as goal

pub returns-in-Ok : goal.returns-in-Ok
returns-in-Ok c =
    let spelled = rw c.in-Ok.stmt-is at c.in-Ok.ensures.spelled in
    whole_front c.args.tokens.now c.in-Ok.stmt spelled

pub returns-in-Err-Unexpected : goal.returns-in-Err-Unexpected
returns-in-Err-Unexpected c =
    let exact = rw c.in-Err-Unexpected.field-0-is at c.in-Err-Unexpected.ensures.exact in
    by_left c.args.tokens.now exact.0 c.in-Err-Unexpected.left exact.1 exact.2
