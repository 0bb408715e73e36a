use Rattle.sql_text.proofs.Parsing.{some_unread, not_read}
use Rattle.sql_text.proofs.parser.parse.Goals as goal

pub returns-in-Ok-clause-refused : goal.returns-in-Ok-clause-refused
returns-in-Ok-clause-refused c =
    some_unread c.args.bytes.now c.in_ok-lexed.lexed.tokens.items c.in_ok-lexed.lexed.unread c.in_ok-lexed.ensures.only c.if-lexed-eq0.false

pub returns-in-Err-Unexpected-clause-refused : goal.returns-in-Err-Unexpected-clause-refused
returns-in-Err-Unexpected-clause-refused c =
    let exact = rw (c.in-Err-Unexpected.field-0-is, c.as_slice.ensures.value) at c.in-Err-Unexpected.ensures.exact in
    not_read c.args.bytes.now c.in_ok-lexed.lexed.tokens.items exact.0 c.in_ok-lexed.lexed.unread c.in_ok-lexed.ensures.only exact.1
